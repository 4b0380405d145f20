-- What the contracts cite: what the call leaves.
pub mod Holding
