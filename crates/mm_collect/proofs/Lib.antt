mod RootLemmas
mod UseLemmas
mod NoteLemmas
mod GrowthLemmas
mod ClosingLemmas
pub mod VerdictLemmas
mod FindingLemmas
pub mod InstanceLemmas
