pub mod Bodies
pub mod Counted
pub mod Drops
pub mod Leads
pub mod Located
pub mod Meaning
pub mod Modules
