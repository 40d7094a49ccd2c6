pub mod Forgetting
pub mod Twins
pub mod Full
pub mod Placing
pub mod Steady
pub mod Levels
pub mod Codes
pub mod Writing
