-- What the answers about held plans say.
use Rattle.std.specs.Prelude.{ℕ, ◌+◌, ◌≤◌, ◌≡◌, ◌⊎◌, false, List, length, take, drop, Option, Some, None, Result, Ok, Err}
use Rattle.std.proofs.Math.Option as optional
use Rattle.definitions.specs.Words.Basics as basics
use Rattle.definitions.specs.Words.Basics.{ok, refused}
use Rattle.definitions.specs.Words.Expression as tree
use Rattle.definitions.specs.Bytes.Readers.{read, stopped, Reader}
use Rattle.definitions.specs.Bytes.Encode.{predicate_fields}
use Rattle.definitions.specs.Bytes.Plans.{plan_of}
use Rattle.definitions.specs.Calls.Base.{table_fits}
use Rattle.node_table.specs.declared.NodeRecord.{NodeRecord as Lent}
use Rattle.node_table.specs.Records.{nodes_of}
use Rattle.filter_tree.specs.Trees.{Recorded}
use Rattle.terms.specs.Refusals.{number_of}
use Rattle.terms.specs.declared.refusals.Refusal.{Refusal}
use Rattle.terms.specs.declared.refusals.Refusal.TheVariants.{NoGoodPlan, PlanEmpty}
use Rattle.frame_reader.specs.Frames.{FrameAt}
use Rattle.sedona_query_planner.specs.Predicates.{unchanged, PredicateAt}
use Rattle.frame_reader.specs.declared.frame_bodies.Frame.{Frame}
use Rattle.plan_reader.specs.declared.extraction_bodies.Extraction.{Extraction}
use Rattle.plan_reader.specs.declared.extraction_bodies.Held.{Held}
use Rattle.plan_reader.specs.declared.extraction_bodies.Held.TheVariants as held
use Rattle.plan_reader.specs.Predicates.{InRow}

-- The remainder R stands in s up to `end`.
abbrev pub RemainderAt : List ℕ → Option Frame → (end : ℕ) → optional.Option tree.Frame → Type 0
RemainderAt s None end R = R ≡ optional.none
RemainderAt s (Some f) end R = (F : tree.Frame) × (R ≡ optional.some F) × FrameAt s f end F

-- A remainder was read, `before` nodes counted up to its place, and the place after it.
abbrev pub RemainderIs : List ℕ → (at before : ℕ) → Result (Option Frame × ℕ) Refusal → Reader (optional.Option tree.Frame) → Type 0
RemainderIs s at before (Ok r) reader =
    (r.1 ≤ length s) × (R : optional.Option tree.Frame) × RemainderAt s r.0 r.1 R × (count : ℕ)
    × (reader before (drop at s) ≡ read R count (drop r.1 s))
RemainderIs s at before (Err why) reader = reader before (drop at s) ≡ stopped (number_of why)

-- The extraction X stands in s up to `end`.
pub record ExtractionAt (s : List ℕ) (x : Extraction) (end : ℕ) (X : tree.Extraction) : Type 0 where
  pub position : x.position ≡ X.position
  pub predicate : PredicateAt unchanged s x.predicate X.predicate
  pub remainder : RemainderAt s x.remainder end X.remainder

-- An extraction after its first byte was read, and the place after it. The fields of its predicate stand after the two bytes of its
-- position, the arguments in a row at their end.
abbrev pub ExtractionIs : List ℕ → (at : ℕ) → Result (Extraction × ℕ) Refusal → Reader tree.Extraction → Type 0
ExtractionIs s at (Ok x) reader =
    (x.1 ≤ length s) × (X : tree.Extraction) × ExtractionAt s x.0 x.1 X × (count : ℕ)
    × (reader 0 (drop at s) ≡ read X count (drop x.1 s))
    × InRow x.0.predicate (at + 2 + length (predicate_fields X.predicate))
ExtractionIs s at (Err why) reader = reader 0 (drop at s) ≡ stopped (number_of why)

-- A whole extraction.
abbrev pub WholeIs : List ℕ → Result Extraction Refusal → basics.Result tree.Extraction → Type 0
WholeIs s (Ok x) result =
    (X : tree.Extraction) × ExtractionAt s x (length s) X × (result ≡ ok X)
    × InRow x.predicate (3 + length (predicate_fields X.predicate))
WholeIs s (Err why) result = result ≡ refused (number_of why)

-- Why bytes hold neither a frame nor an extraction: there are none, or they are no good plan.
pub data NotHeld (result : basics.Result tree.Plan) : Refusal → Type 0 where
  no_bytes : result ≡ ok tree.empty → NotHeld result PlanEmpty
  no_good : (number : ℕ) → result ≡ refused number → NotHeld result NoGoodPlan

-- A held plan: what stands there is what the bytes are; and what is claimed of a row that may hold a frame's nodes.
abbrev pub HeldIs : List ℕ → Result Held Refusal → basics.Result tree.Plan → (claim : (at i : ℕ) → tree.Expr → Type 0) → Type 0
HeldIs s (Ok (held.Frame f)) result claim =
    (F : tree.Frame) × FrameAt s f (length s) F × (result ≡ ok (tree.held F)) × claim f.root 0 F.expr
HeldIs s (Ok (held.Extraction x)) result claim =
    (X : tree.Extraction) × ExtractionAt s x (length s) X × (result ≡ ok (tree.extracted X))
    × InRow x.predicate (3 + length (predicate_fields X.predicate))
HeldIs s (Err why) result claim = NotHeld result why

-- A held plan where a frame's records are a table's first; one with whose records the table does not begin is no good plan.
abbrev pub HeldByTable : List ℕ → List Lent → Result Held Refusal → basics.Result tree.Plan → Type 0
HeldByTable s table (Ok held) result = HeldIs s (Ok held) result (Recorded table)
HeldByTable s table (Err why) result = NotHeld result why ⊎ ((why ≡ NoGoodPlan) × (table_fits (nodes_of table) result ≡ false))

-- The plan's first n bytes are a good frame, which stands there.
pub record HoldsFrame (n : ℕ) (plan : List ℕ) (f : Frame) : Type 0 where
  pub frame : tree.Frame
  pub fits : n ≤ length plan
  pub stands : FrameAt (take n plan) f (length (take n plan)) frame
  pub is : plan_of (take n plan) ≡ ok (tree.held frame)
