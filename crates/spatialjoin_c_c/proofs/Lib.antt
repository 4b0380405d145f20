-- The exports promise what the library's calls promise.
pub mod Exported
