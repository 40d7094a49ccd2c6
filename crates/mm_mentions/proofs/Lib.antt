pub mod Followed
pub mod HeadLemmas
pub mod ItemLemmas
pub mod ScopeLemmas
pub mod TermLemmas
pub mod TypeLemmas
