-- What the contracts cite: what stood in a plan, and its exchange that stands there now.
pub mod ExchangedBytes
pub mod Turned
pub mod Exchanged
