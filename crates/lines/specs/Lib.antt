-- What the contracts cite: lines, answers and states.
pub mod Answers
pub mod Scratch
pub mod Calling
pub mod Pieces
pub mod Collecting
pub mod Sessions
pub mod Runs
