-- What the contracts cite.
pub mod Cases
pub mod Stages
pub mod Columns
pub mod Options
pub mod Laid
pub mod Walks
pub mod Taken
