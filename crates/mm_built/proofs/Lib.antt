pub mod BuiltLemmas
