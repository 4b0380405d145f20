-- What the contracts cite: arguments, heads and predicates that were written.
pub mod Arguments
pub mod Copies
pub mod Tables
pub mod Predicates
