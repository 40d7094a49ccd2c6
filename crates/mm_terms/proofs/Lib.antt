pub mod ListLemmas
pub mod ClosureLemmas
mod HashedLemmas
mod HeadLemmas
mod OrderLemmas
mod PutLemmas
mod SameLemmas
mod TypeLemmas
