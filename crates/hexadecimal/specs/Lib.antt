-- What the contracts cite: digits and lines of them.
pub mod Hex
