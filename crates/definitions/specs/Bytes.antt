-- Frames, extractions and plans as bytes, how bytes are read, which plans are good, the table of nodes, and a filter as text.
pub mod Encode
pub mod Readers
pub mod Decode
pub mod Plans
pub mod Good
pub mod NodeTable
pub mod Printed
