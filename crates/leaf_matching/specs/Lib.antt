-- What the contracts cite: sides, literal arguments and matches.
pub mod Literals
pub mod Frames
pub mod Sides
pub mod Matches
pub mod KnnOptions
pub mod Distances
