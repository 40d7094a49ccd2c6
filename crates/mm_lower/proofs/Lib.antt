pub mod ParamLemmas
pub mod TermLemmas
pub mod TypeLemmas
