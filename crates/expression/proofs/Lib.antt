-- Laws that the proofs use: expressions that stand in bytes, names and literals.
pub mod Signed
pub mod Placed
pub mod Puts
pub mod OfKind
pub mod Records
pub mod Standing
pub mod OneTree
pub mod InOrder
pub mod HeadLaws
pub mod LeafLaws
pub mod AndLeaves
pub mod EndWalk
pub mod NameLaws
