-- Laws that the proofs use: places in lists, and where child indexes stand.
pub mod PlaceLaws
pub mod ChainLaws
pub mod SpotLaws
pub mod SpotWalk
pub mod RecordLoop
pub mod PlacingLaws
pub mod BothLaws
pub mod FewSpots
pub mod SoundSpots
pub mod PlacedSpots
pub mod PatchLaws
pub mod ProjectionLaws
pub mod ProjectedBytes
