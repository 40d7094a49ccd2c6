pub mod SetUp
pub mod Runs
