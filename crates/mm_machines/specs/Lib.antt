pub mod Values
pub mod Memory
pub mod Forms
pub mod Runs
pub mod Demand
pub mod Image
pub mod Answers
pub mod Agreement
