pub mod Keys
pub mod Names
pub mod Finding
pub mod Least
pub mod Firsts
pub mod Clashing
pub mod Verdicts
pub mod OneVerdict
