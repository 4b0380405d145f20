-- Laws that the proofs use: fields, heads and expressions that were read.
pub mod Reading
pub mod Numbers
pub mod FieldBytes
pub mod CallLaws
pub mod CutHeads
pub mod Repeats
pub mod NameBytes
pub mod Children
pub mod Walks
pub mod Standing
pub mod Visiting
pub mod VisitLaws
pub mod RowStores
