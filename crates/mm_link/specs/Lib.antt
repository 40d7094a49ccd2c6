pub mod Index
pub mod Linking
pub mod Clashes
