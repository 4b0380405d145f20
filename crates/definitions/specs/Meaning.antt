-- Truth values of frames, extractions and plans, fair meanings, and the laws of a matcher.
pub mod Values
pub mod Matchers
pub mod Conjuncts
