pub mod Asking
pub mod Meaning
pub mod Names
pub mod Rules
pub mod Seen
pub mod WrittenItem
pub mod WrittenPlace
