-- Laws that the proofs use: remainders and the records that stay.
pub mod KeyLaws
pub mod RecordLaws
pub mod ReferenceLaws
pub mod RestLaws
pub mod FlagLaws
pub mod CutLaws
pub mod LeftColumns
pub mod LeftCopies
pub mod RemainderLaws
pub mod LastLaws
