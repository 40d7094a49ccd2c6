pub mod BodyTokens
pub mod TermTokens
