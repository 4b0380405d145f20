-- Single inputs with their answers, which hold by computation; each file's proofs have its name.

-- Of document 01.
pub mod Ten
pub mod Further
pub mod Refusals
pub mod Names
pub mod Guard
-- Of the requests of document 02, in their order: 1, 2, 4, 5, 6, 7, 8, 9 with 10, 12, 13 and 14.
pub mod Print
pub mod Merge
pub mod Position
pub mod Nearest
pub mod Table
pub mod Project
pub mod Bound
pub mod Walk
pub mod Queues
pub mod Settings
pub mod All
-- Of the verdicts, which are ours.
pub mod Verdicts
