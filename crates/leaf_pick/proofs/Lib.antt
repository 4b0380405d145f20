-- Laws that the proofs use: the first match, the pick and the walk.
pub mod FirstLaws
pub mod LeafLaws
pub mod Nodes
pub mod PickLaws
pub mod Ahead
pub mod OneWalkLeafLaws
pub mod Engines
