pub mod FirstPieces
pub mod Lexemes
pub mod Pieces
pub mod Positions
pub mod Puncts
pub mod Tokens
