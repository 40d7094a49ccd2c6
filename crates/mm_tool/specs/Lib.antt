pub mod Observed
pub mod Refusals
pub mod Formatting
pub mod Report
pub mod WordReading
pub mod Words
