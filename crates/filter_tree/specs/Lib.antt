-- What the contracts cite.
pub mod Trees
pub mod Columns
pub mod Spines
pub mod Levels
