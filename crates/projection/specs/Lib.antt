-- What the contracts cite: places in lists, and where child indexes stand.
pub mod Chains
pub mod Spots
pub mod Rows
pub mod Placing
pub mod Seeking
pub mod PlanSpots
pub mod Arguments
pub mod Extractions
pub mod Patches
pub mod Projected
