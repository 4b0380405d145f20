-- What the contracts cite: expressions that stand in bytes, names and literals.
pub mod Places
pub mod Nodes
pub mod Filling
pub mod Heads
pub mod Leaves
pub mod Cuts
