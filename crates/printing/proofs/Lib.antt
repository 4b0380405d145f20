-- Laws that the proofs use: texts and their lengths.
pub mod Sequences
pub mod DecimalLaws
pub mod NodeFields
pub mod MarkLaws
pub mod SizeLaws
pub mod NodeTexts
pub mod Sizing
pub mod PrintWalk
