pub mod Doubles
pub mod Resolving
pub mod Scopes
