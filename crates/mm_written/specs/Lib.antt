pub mod Bodies
pub mod Items
pub mod Lists
pub mod Names
pub mod Terms
pub mod Types
pub mod Written
