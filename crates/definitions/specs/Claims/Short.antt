-- Short claims about extractions, merged frames, projections, texts and the program's lines, for the reader of the price list.
use Rattle.std.specs.Prelude.{ℕ, ◌≡◌, true, List, [], ◌∷◌, ◌++◌, take}
use Rattle.std.proofs.Math.Option.{some}
use Rattle.definitions.specs.Words.Basics.{ok}
use Rattle.definitions.specs.Words.Expression.{no_side, Expr, Frame, distance, Extraction, held, extracted}
use Rattle.definitions.specs.Words.References.{columns_of}
use Rattle.definitions.specs.Bytes.Encode.{plan_bytes}
use Rattle.definitions.specs.Bytes.Plans.{frame_of}
use Rattle.definitions.specs.Bytes.Good.{AllBytes, GoodPlan}
use Rattle.definitions.specs.Filter.Extract.{is_knn, extraction}
use Rattle.definitions.specs.Filter.Exchange.{exchange_frame, exchange_extraction}
use Rattle.definitions.specs.Filter.Merge.{merge_frames}
use Rattle.definitions.specs.Filter.Project.{ChildLists, projection}
use Rattle.definitions.specs.Calls.Base.{Outcome, held_plan, exchange}
use Rattle.definitions.specs.Calls.Print.{print}
use Rattle.definitions.specs.Lists.Sessions.{accepted}
use Rattle.definitions.specs.Lists.Program.{Kept, LineOutcome, line_outcome, written_line, output_from, fresh_plan}
use Rattle.definitions.specs.Claims.Calls.{RefusedBy}
use Rattle.definitions.specs.Claims.PriceLine.{price_line}
use Rattle.definitions.specs.Claims.Project.{project_by}

-- ---- exchange (request 4)

-- An exchange keeps the position of the leaf, and with it the first three bytes: the price line and the position.
abbrev pub ExchangedKeepsPosition : Type 0
ExchangedKeepsPosition =
    (X : Extraction)
    → ((exchange_extraction X).position ≡ X.position)
    × (take 3 (plan_bytes (extracted (exchange_extraction X))) ≡ take 3 (plan_bytes (extracted X)))

-- So does an accepted call of exchange, whatever extraction is held: it leaves that one exchanged, with the same first three bytes.
abbrev pub ExchangeKeepsPosition : Type 0
ExchangeKeepsPosition =
    (n : ℕ) (buffer scratch : List ℕ) (X : Extraction) → AllBytes buffer → held_plan n buffer ≡ ok (extracted X)
    → accepted (exchange n buffer scratch).answer ≡ true
    → let o : Outcome = exchange n buffer scratch in
    (held_plan o.n o.buffer ≡ ok (extracted (exchange_extraction X)))
    × (take 3 (take o.n o.buffer) ≡ take 3 (take n buffer))

-- ---- projections (request 7)

-- A projection keeps the first three bytes: the price line and the position of the leaf.
abbrev pub ProjectionKeepsLine : Type 0
ProjectionKeepsLine =
    (lists : ChildLists) (X Y : Extraction) → projection lists X ≡ some Y
    → take 3 (plan_bytes (extracted Y)) ≡ take 3 (plan_bytes (extracted X))

-- So does an accepted call of project.
abbrev pub ProjectKeepsLine : Type 0
ProjectKeepsLine =
    (lists : ChildLists) (n : ℕ) (buffer scratch : List ℕ) → AllBytes buffer → accepted (project_by lists n buffer scratch).answer ≡ true
    → take 3 (take (project_by lists n buffer scratch).n (project_by lists n buffer scratch).buffer) ≡ take 3 (take n buffer)

-- ---- merged frames (request 2)

-- Exchanged frames, merged, are the merged frame exchanged:
abbrev pub MergeExchanged : Type 0
MergeExchanged = (old new : Frame) → merge_frames (exchange_frame old) (exchange_frame new) ≡ exchange_frame (merge_frames old new)

-- a unit that exchanges before a merge is on the price line of one that exchanges after it, or never.
abbrev pub MergeExchangedLine : Type 0
MergeExchangedLine =
    (old new : Frame) → price_line (merge_frames (exchange_frame old) (exchange_frame new)) ≡ price_line (merge_frames old new)

-- A row policy that is merged never makes an indexed join filtered, and never takes the place of a KNN leaf.
abbrev pub PolicyKeepsIndex : Type 0
PolicyKeepsIndex =
    (old new : Frame) (X : Extraction) → GoodPlan (held old) → GoodPlan (held new) → extraction old ≡ some X
    → (Y : Extraction) × (extraction (merge_frames old new) ≡ some Y)
    × (is_knn X.predicate ≡ true → (Y.position ≡ X.position) × (Y.predicate ≡ X.predicate))

-- ---- distances (request 8)

-- The bound of a distance of side none that extract made has no column.
abbrev pub BoundWithoutColumns : Type 0
BoundWithoutColumns =
    (F : Frame) (X : Extraction) (form : ℕ) (l r bound : Expr) → extraction F ≡ some X → X.predicate ≡ distance form no_side l r bound
    → columns_of bound ≡ []

-- ---- texts (request 1)

-- Two accepted prints that wrote the same text are of the same expression.
abbrev pub SameTextSameExpression : Type 0
SameTextSameExpression =
    (frame buffer frame' buffer' : List ℕ) (m : ℕ) → AllBytes frame → AllBytes frame' → (print frame buffer).answer ≡ ok m
    → (print frame' buffer').answer ≡ ok m → take m (print frame buffer).buffer ≡ take m (print frame' buffer').buffer
    → (F : Frame) × (F' : Frame) × (frame_of frame ≡ ok F) × (frame_of frame' ≡ ok F') × (F.expr ≡ F'.expr)

-- ---- the program's lines

-- What is kept after lines, one after another. (Ours.)
unfoldable pub kept_after : Kept → (lines : List (List ℕ)) → Kept
kept_after kept [] = kept
kept_after kept (line ∷ lines) = kept_after (line_outcome line kept).kept lines

-- The refusals of a line: neither 9 nor 10, because its buffers are long enough and what is kept is a plan, nor 15 and above.
unfoldable pub line_refusals : List ℕ
line_refusals = 1 ∷ 2 ∷ 3 ∷ 4 ∷ 5 ∷ 6 ∷ 7 ∷ 8 ∷ 11 ∷ 12 ∷ 13 ∷ 14 ∷ []

-- Every line, after whatever lines from a fresh plan, has an answer or one of these refusals, and that is what is written for it.
abbrev pub LineRefusals : Type 0
LineRefusals =
    (before : List (List ℕ)) (line : List ℕ) (later : List (List ℕ))
    → let o : LineOutcome = line_outcome line (kept_after fresh_plan before) in
    RefusedBy line_refusals o.answer
    × (output_from fresh_plan (before ++ (line ∷ later))
    ≡ output_from fresh_plan before ++ (written_line o.answer ++ output_from o.kept later))
