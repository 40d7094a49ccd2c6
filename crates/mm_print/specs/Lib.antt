pub mod Canonical
pub mod Neighbours
pub mod Printed
pub mod Printing
pub mod ItemTokens
