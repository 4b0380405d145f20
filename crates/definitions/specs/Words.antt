-- What all the others speak of: tools, limits, what frames, filters and plans are, AND-leaves, and the columns of a filter.
pub mod Basics
pub mod Limits
pub mod Expression
pub mod Literals
pub mod Leaves
pub mod References
