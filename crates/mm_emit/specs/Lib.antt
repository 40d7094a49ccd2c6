pub mod Numbers
pub mod Complete
pub mod Faithful
