-- What the contracts cite.
pub mod Listings
pub mod Conjuncts
pub mod AllAnswers
