pub mod ItemLemmas
pub mod ListLemmas
pub mod TermLemmas
pub mod TypeLemmas
