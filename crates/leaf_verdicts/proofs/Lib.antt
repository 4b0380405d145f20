-- Laws that the proofs of several functions cite.
pub mod LaidLaws
pub mod ColumnLaws
pub mod OptionLaws
pub mod ArgumentLaws
pub mod SmallLaws
pub mod StageLaws
