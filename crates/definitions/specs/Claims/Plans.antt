-- What is claimed of plans, demand 2: exchanged, read back from their bytes, good, and how long.
use Rattle.std.specs.Prelude.{ℕ, ◌+◌, ◌≤◌, ◌≡◌, List, ◌++◌, length}
use Rattle.std.proofs.Math.Option
use Rattle.std.proofs.Math.Option.{some}
use Rattle.definitions.specs.Words.Basics.{ok}
use Rattle.definitions.specs.Words.Limits.{most_nodes}
use Rattle.definitions.specs.Words.Expression.{Expr, Frame, Extraction, Plan, held, extracted}
use Rattle.definitions.specs.Bytes.Encode.{expr_bytes, frame_bytes, extraction_bytes, plan_bytes}
use Rattle.definitions.specs.Bytes.Readers.{read}
use Rattle.definitions.specs.Bytes.Decode.{Columns, expression}
use Rattle.definitions.specs.Bytes.Plans.{plan_of}
use Rattle.definitions.specs.Bytes.Good.{AllBytes, nodes, Short, Readable, GoodPlan}
use Rattle.definitions.specs.Filter.Extract.{extraction}
use Rattle.definitions.specs.Filter.Exchange.{exchange_frame, exchange_extraction, exchange_plan}

-- ---- exchange

-- Exchanged twice, a plan is what it was.
abbrev pub ExchangeTwice : Type 0
ExchangeTwice = (p : Plan) → exchange_plan (exchange_plan p) ≡ p

-- The extraction of the exchanged frame is the exchanged extraction; if one has none, neither has the other.
abbrev pub ExtractExchanged : Type 0
ExtractExchanged = (F : Frame) → extraction (exchange_frame F) ≡ Option.map exchange_extraction (extraction F)

-- ---- bytes

-- The bytes of an expression, whatever follows them, are read as that expression.
abbrev pub ExpressionReadBack : Type 0
ExpressionReadBack =
    (c : Columns) (e : Expr) (n : ℕ) (rest : List ℕ) → Readable c e → n + nodes e ≤ most_nodes
    → expression c n (expr_bytes e ++ rest) ≡ read e (n + nodes e) rest

-- The bytes of a good plan are that plan.
abbrev pub PlanReadBack : Type 0
PlanReadBack = (p : Plan) → GoodPlan p → plan_of (plan_bytes p) ≡ ok p

-- Bytes that are a plan are that plan's bytes, and it is good.
abbrev pub PlanOfBytes : Type 0
PlanOfBytes = (s : List ℕ) (p : Plan) → AllBytes s → plan_of s ≡ ok p → (s ≡ plan_bytes p) × GoodPlan p

-- An extraction with another position.
abbrev pub moved_to : (position : ℕ) → Extraction → Extraction
moved_to position X = record { position = position; predicate = X.predicate; remainder = X.remainder }

-- Request 4: an extraction that is good is good with any position that two bytes hold.
abbrev pub AnyPosition : Type 0
AnyPosition = (X : Extraction) (position : ℕ) → Short position → GoodPlan (extracted X) → GoodPlan (extracted (moved_to position X))

-- ---- sizes

-- The extraction of a good frame is good, and never longer than the frame.
abbrev pub ExtractionGood : Type 0
ExtractionGood =
    (F : Frame) (X : Extraction) → GoodPlan (held F) → extraction F ≡ some X
    → GoodPlan (extracted X) × (length (extraction_bytes X) ≤ length (frame_bytes F))

-- The exchange of a good plan is good, and as long.
abbrev pub ExchangeGood : Type 0
ExchangeGood = (p : Plan) → GoodPlan p → GoodPlan (exchange_plan p) × (length (plan_bytes (exchange_plan p)) ≡ length (plan_bytes p))
