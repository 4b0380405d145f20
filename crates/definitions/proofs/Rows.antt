-- The rows that refuse edits of the definitions hold by computation: each file has the name of its rows in specs/.
pub mod Ten
pub mod Further
pub mod Names
pub mod Guard
pub mod Print
pub mod Merge
pub mod Position
pub mod Nearest
pub mod Table
pub mod Project
pub mod Bound
pub mod Walk
pub mod Queues
pub mod Settings
pub mod All
pub mod Verdicts
