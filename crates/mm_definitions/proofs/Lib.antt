pub mod DefinitionLemmas
pub mod NumberLemmas
pub mod TreeLemmas
