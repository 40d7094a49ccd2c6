pub mod Spellings
pub mod Shapes
