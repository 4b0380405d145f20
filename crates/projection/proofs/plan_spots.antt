-- Laws of the proofs of `plan_spots` alone.
mod ExtractionLaws
mod PredicateLaws
