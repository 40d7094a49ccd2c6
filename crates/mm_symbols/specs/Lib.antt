pub mod SymTree
pub mod SymbolText
pub mod SymbolForms
pub mod ItemForms
pub mod Reading
pub mod TypeText
pub mod Listing
