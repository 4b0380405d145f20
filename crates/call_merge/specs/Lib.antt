-- What the contracts cite: merged frames.
pub mod Merging
pub mod Together
pub mod Given
pub mod Merges
pub mod MergedNodes
