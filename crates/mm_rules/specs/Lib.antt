pub mod DropTargets
pub mod Faults
pub mod MainRule
pub mod MentionRules
pub mod TreeFaults
