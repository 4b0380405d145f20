-- Laws that the proofs use: lines, answers and states.
pub mod LineLaws
pub mod CallLaws
pub mod CollectLaws
pub mod Whole
pub mod SessionLaws
pub mod Runs
