-- What the contracts cite: fields, heads and expressions that were read.
pub mod Fields
pub mod Heads
pub mod Nodes
pub mod Places
pub mod Visits
pub mod Visitors
