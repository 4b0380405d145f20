-- The rows that stand here, since no edit of a definition computes them again: each file has the name of its rows in specs/.
pub mod Ten
pub mod Refusals
pub mod Merge
pub mod Project
pub mod Queues
