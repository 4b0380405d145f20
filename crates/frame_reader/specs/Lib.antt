-- What the contracts cite: arity and frames that were read.
pub mod Arities
pub mod Frames
