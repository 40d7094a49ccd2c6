pub mod Uses
pub mod Roots
pub mod Notes
pub mod Verdict
pub mod Finding
pub mod WellFormed
