pub mod Definitions
pub mod DynCompatible
pub mod Kinds
pub mod Numbering
pub mod Paths
pub mod Placed
pub mod Trees
