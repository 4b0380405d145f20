-- Laws that the proofs use: the extract of a frame and by a table.
pub mod Tables
pub mod Settling
