-- The calls on lent buffers, each with its refusals in their order.

-- Of document 01: load, extract and exchange, and the logical call.
pub mod Base
pub mod Logical
-- Of the requests of document 02: 1, 2, 7, 12, 14, and 13, which settles the calls of 01 and of 14.
pub mod Print
pub mod Merge
pub mod Project
pub mod Queues
pub mod QueueBytes
pub mod ExtractAll
pub mod Settings
-- Ours.
pub mod Explain
