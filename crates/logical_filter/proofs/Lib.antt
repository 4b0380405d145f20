-- Laws that the proofs use: names, query side and the answer of the call logical.
pub mod QueryWalk
pub mod AtIndex
pub mod NameMasks
pub mod NameEnds
pub mod NameWalk
pub mod LeafLoop
