-- Laws that the proofs use: merged frames.
pub mod MergeViews
pub mod MoveLaws
pub mod JoinLaws
