pub mod Decimals
pub mod Names
pub mod Prefixes
pub mod Runs
pub mod Words
