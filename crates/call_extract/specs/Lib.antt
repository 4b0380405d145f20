-- What the contracts cite: the extract of a frame and by a table.
pub mod Extractions
pub mod FrameNodes
pub mod ExtractByTable
pub mod Settled
