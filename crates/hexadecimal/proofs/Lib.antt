-- Laws that the proofs use: digits and lines of them.
pub mod DigitLaws
pub mod DecodeLaws
pub mod EncodeLaws
