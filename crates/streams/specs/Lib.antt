-- What the contracts cite: reads and writes.
pub mod Turns
pub mod Handing
