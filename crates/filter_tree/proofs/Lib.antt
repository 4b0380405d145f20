-- Laws that the proofs use.
pub mod Scans
pub mod Children
pub mod Halving
pub mod Fields
pub mod Parents
pub mod Spining
pub mod Onwards
pub mod LeavesLeft
pub mod Changing
pub mod Indexes
pub mod Rows
pub mod NodeLaws
pub mod NodeBytes
pub mod ColumnPlaces
pub mod Depths
