-- Laws that the proofs use: answers as numbers.
pub mod HostRows
pub mod Numbers
pub mod Hosting
pub mod Lengths
pub mod AllSmall
pub mod CoreLaws
pub mod QueueHosting
