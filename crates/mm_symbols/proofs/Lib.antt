pub mod Loops
pub mod Levels
pub mod TextLemmas
pub mod Readers
pub mod NameReads
pub mod TypeReads
pub mod SymbolReads
pub mod ItemLaws
pub mod PathLemmas
pub mod ItemLemmas
pub mod InstanceItems
mod TypeTextLemmas
pub mod SortedLines
