-- What the contracts cite: extractions and held plans that were read.
pub mod Flags
pub mod Predicates
pub mod Plans
