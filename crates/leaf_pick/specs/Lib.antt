-- What the contracts cite: the first match, the pick, the walk and what it remembers.
pub mod Picks
pub mod Walks
pub mod Engines
