-- Laws that the proofs use: bytes that became others where they stood.
pub mod TurnedLaws
pub mod RecordLaws
pub mod PredicateLaws
pub mod PlanLaws
