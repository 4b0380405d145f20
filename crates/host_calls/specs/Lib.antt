-- What the contracts cite: answers as numbers.
pub mod Hosts
pub mod HostRows
pub mod Short
pub mod Hosted
pub mod Cores
