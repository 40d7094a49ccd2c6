pub mod NameLemmas
pub mod Numerals
pub mod Prefixes
pub mod RunLemmas
pub mod WordSpellings
