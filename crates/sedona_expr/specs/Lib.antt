-- What the contracts cite.
pub mod Parsed
