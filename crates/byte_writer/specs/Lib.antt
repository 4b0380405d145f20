-- What the contracts cite, in the order to read them.
pub mod Numerals
pub mod Written
pub mod Writing
