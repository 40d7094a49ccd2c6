pub mod Listed
pub mod TypeTokens
