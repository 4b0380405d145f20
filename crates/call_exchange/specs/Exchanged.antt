-- What an exchange makes of what stands in a plan.
use Rattle.std.specs.Prelude.{ℕ, ◌+◌, ◌*◌, ◌≤◌, ◌≡◌, List, length, Option, Some, None}
use Rattle.definitions.specs.Words.Expression as tree
use Rattle.definitions.specs.Words.Expression.{Record, Predicate, Plan, held, extracted}
use Rattle.definitions.specs.Bytes.Encode.{records_bytes, plan_bytes}
use Rattle.definitions.specs.Filter.Exchange.{exchange_predicate, exchange_plan}
use Rattle.frame_reader.specs.Frames.{FrameAt}
use Rattle.frame_reader.specs.declared.frame_bodies.Frame.{Frame}
use Rattle.plan_reader.specs.Plans.{ExtractionAt}
use Rattle.plan_reader.specs.declared.extraction_bodies.Held.{Held}
use Rattle.plan_reader.specs.declared.extraction_bodies.Held.TheVariants as there
use Rattle.plan_writer.specs.Predicates.{predicate_bytes}
use Rattle.call_exchange.specs.ExchangedBytes.{records_exchanged}
use Rattle.call_exchange.specs.Turned.{Turned, TurnedAt}

-- ---- records

-- Where so many records stood, they stand with their sides negated.
abbrev pub SidesNegated : (at count : ℕ) (before after : List ℕ) → Type 0
SidesNegated at count before after =
    (records : List Record) → count ≡ length records → TurnedAt at (records_bytes records) (records_exchanged records) before after

-- A remainder's records, if there is one, end within a buffer.
abbrev pub WithinBuffer : Option Frame → (buffer : List ℕ) → Type 0
WithinBuffer (Some f) buffer = f.records + 5 * f.columns ≤ length buffer
WithinBuffer None buffer = Unit {0}

-- Their sides were negated; where there is none, nothing changed.
abbrev pub RemainderNegated : Option Frame → (before after : List ℕ) → Type 0
RemainderNegated (Some f) before after = SidesNegated f.records f.columns before after
RemainderNegated None before after = after ≡ before

-- ---- a predicate

-- Where P stood, with any position, its exchange stands with that position.
abbrev pub PredicateTurned : Predicate → (before after : List ℕ) → Type 0
PredicateTurned P before after =
    (position : ℕ) → Turned (predicate_bytes position P) (predicate_bytes position (exchange_predicate P)) before after

-- That of each P whose exchange stands there did.
abbrev pub PredicateExchanged : (At : Predicate → Type 0) (before after : List ℕ) → Type 0
PredicateExchanged At before after = (P : Predicate) → At (exchange_predicate P) → PredicateTurned P before after

-- ---- a plan

-- The plan p, a frame or an extraction, stands in s up to its end.
abbrev pub PlanAt : List ℕ → Held → Plan → Type 0
PlanAt s (there.Frame f) p = (F : tree.Frame) × (p ≡ held F) × FrameAt s f (length s) F
PlanAt s (there.Extraction x) p = (X : tree.Extraction) × (p ≡ extracted X) × ExtractionAt s x (length s) X

-- A plan is all that s holds, and a buffer is at least as long.
pub record HeldPlan (s : List ℕ) (h : Held) (buffer : List ℕ) : Type 0 where
  pub it : Plan
  pub stands : PlanAt s h it
  pub size : length s ≡ length (plan_bytes it)
  pub room : length s ≤ length buffer

-- Of each plan that stands there and is all, the exchange stands where it stood.
abbrev pub ExchangedPlan : List ℕ → Held → (before after : List ℕ) → Type 0
ExchangedPlan s h before after =
    (p : Plan) → PlanAt s h p → length s ≡ length (plan_bytes p) → Turned (plan_bytes p) (plan_bytes (exchange_plan p)) before after
