pub mod Fronts
pub mod KindLemmas
pub mod PunctLemmas
pub mod PieceLaws
pub mod PositionLaws
pub mod Scanning
pub mod TextLaws
