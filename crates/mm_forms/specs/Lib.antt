pub mod Language
pub mod Forms
pub mod Nesting
pub mod Verdict
pub mod Given
