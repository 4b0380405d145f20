-- Laws that the proofs use: sides, literal arguments and matches.
pub mod LiteralLaws
pub mod Framing
pub mod SideLaws
pub mod SideWalk
pub mod Asked
pub mod AllowLaws
pub mod MatchLaws
pub mod KnnOptionLaws
pub mod Missing
