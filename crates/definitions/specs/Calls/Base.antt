-- The calls load, extract and exchange on lent buffers. (The logical call has none: Logical.)
use Rattle.std.specs.Prelude.{ℕ, Bool, true, List, ◌++◌, length, take, drop, leb, if◌then◌else◌}
use Rattle.std.proofs.Math.Option.{Option, none, some}
use Rattle.definitions.specs.Words.Basics.{Result, ok, refused}
use Rattle.definitions.specs.Words.Expression.{Frame, Extraction, Plan, empty, held, extracted}
use Rattle.definitions.specs.Bytes.Encode.{plan_bytes}
use Rattle.definitions.specs.Bytes.Plans.{frame_of, plan_of}
use Rattle.definitions.specs.Bytes.Good.{nodes}
use Rattle.definitions.specs.Bytes.NodeTable.{NodeRecord, node_table, begins_with}
use Rattle.definitions.specs.Filter.Match.{match_leaf}
use Rattle.definitions.specs.Filter.Extract.{Matcher, extraction_by}
use Rattle.definitions.specs.Filter.OneWalk.{walk_length_by}
use Rattle.definitions.specs.Filter.Exchange.{exchange_plan}

-- These at the start, those after them as they were.
unfoldable pub written_over : {A : Type 0} → (new old : List A) → List A
written_over new old = new ++ drop (length new) old

-- ---- the table of nodes (request 6)

-- A frame, or 17 where the table is shorter than its node count.
unfoldable pub tabled : (places : ℕ) → Frame → Result Frame
tabled places F = if leb (nodes F.expr) places then ok F else refused 17

-- The table filled with a frame's records, those past them as they were; a refusal changes none.
unfoldable pub filled_by : Result Frame → (table : List NodeRecord) → List NodeRecord
filled_by (ok F) table = written_over (node_table F) table
filled_by (refused number) table = table

-- Whether the table begins with the records of the frame that is held; where none is, any does.
unfoldable pub table_fits : (table : List NodeRecord) → Result Plan → Bool
table_fits table (ok (held F)) = begins_with (node_table F) table
table_fits table (ok (extracted X)) = true
table_fits table (ok empty) = true
table_fits table (refused number) = true

-- ---- load: 1 to 8, 9, 17

-- What a load gives: the frame's length or a refusal, and what n, the plan buffer and the table are afterwards.
pub record LoadOutcome : Type 0 where
  pub answer : Result ℕ
  pub n : ℕ
  pub buffer : List ℕ
  pub table : List NodeRecord

-- The frame that is loaded: 9 where the plan buffer is shorter than its bytes, then 17.
unfoldable pub new_after_load : (frame : List ℕ) → (room places : ℕ) → Result Frame → Result Frame
new_after_load frame room places (refused number) = refused number
new_after_load frame room places (ok F) = if leb (length frame) room then tabled places F else refused 9

-- The frame as it is at the buffer's start, and its records at the table's; a refusal changes nothing.
unfoldable pub finish_load : (frame : List ℕ) → (n : ℕ) → (buffer : List ℕ) → (table : List NodeRecord) → Result Frame → LoadOutcome
finish_load frame n buffer table (ok F) = record {
  answer = ok (length frame);
  n = length frame;
  buffer = written_over frame buffer;
  table = filled_by (ok F) table;
}
finish_load frame n buffer table (refused number) =
    record { answer = refused number; n = n; buffer = buffer; table = filled_by (refused number) table }

-- Load takes a frame and reads nothing of the old plan nor of the table.
unfoldable pub load : (frame : List ℕ) → (n : ℕ) → (buffer : List ℕ) → (table : List NodeRecord) → LoadOutcome
load frame n buffer table = finish_load frame n buffer table (new_after_load frame (length buffer) (length table) (frame_of frame))

-- ---- extract and exchange

-- What extract and exchange give: the new plan's length or a refusal, and what n and both buffers are afterwards.
pub record Outcome : Type 0 where
  pub answer : Result ℕ
  pub n : ℕ
  pub buffer : List ℕ
  pub scratch : List ℕ

-- The old plan copied to the scratch's start, the new one written; a refusal changes nothing.
unfoldable pub finish : (n : ℕ) → (buffer scratch : List ℕ) → Result (List ℕ) → Outcome
finish n buffer scratch (ok bytes) = record {
  answer = ok (length bytes);
  n = length bytes;
  buffer = written_over bytes buffer;
  scratch = written_over (take n buffer) scratch;
}
finish n buffer scratch (refused number) = record { answer = refused number; n = n; buffer = buffer; scratch = scratch }

-- The plan in the first n bytes.
unfoldable pub held_plan : (n : ℕ) → (buffer : List ℕ) → Result Plan
held_plan n buffer = if leb n (length buffer) then plan_of (take n buffer) else refused 10

-- The new plan of an exchange: 10, 11, 9.
unfoldable pub new_after_exchange : (n room : ℕ) → Result Plan → Result (List ℕ)
new_after_exchange n room (refused number) = refused 10
new_after_exchange n room (ok empty) = refused 11
new_after_exchange n room (ok (held F)) = if leb n room then ok (plan_bytes (exchange_plan (held F))) else refused 9
new_after_exchange n room (ok (extracted X)) = if leb n room then ok (plan_bytes (exchange_plan (extracted X))) else refused 9

-- The call exchange.
unfoldable pub exchange : (n : ℕ) → (buffer scratch : List ℕ) → Outcome
exchange n buffer scratch = finish n buffer scratch (new_after_exchange n (length scratch) (held_plan n buffer))

-- The bytes of an extraction; 13 where no leaf matches.
unfoldable pub matched_bytes : Option Extraction → Result (List ℕ)
matched_bytes none = refused 13
matched_bytes (some X) = ok (plan_bytes (extracted X))

-- The new plan of an extract: 10, 11, 12, 9, 13.
unfoldable pub new_after_extract_by : Matcher → (n room : ℕ) → Result Plan → Result (List ℕ)
new_after_extract_by match n room (refused number) = refused 10
new_after_extract_by match n room (ok empty) = refused 11
new_after_extract_by match n room (ok (extracted X)) = refused 12
new_after_extract_by match n room (ok (held F)) = if leb n room then matched_bytes (extraction_by match F) else refused 9

-- 01's, with `match_leaf`.
abbrev pub new_after_extract : (n room : ℕ) → Result Plan → Result (List ℕ)
new_after_extract = new_after_extract_by match_leaf

-- The call extract with a table that fits.
unfoldable pub extract_filled_by : Matcher → (n : ℕ) → (buffer scratch : List ℕ) → Outcome
extract_filled_by match n buffer scratch = finish n buffer scratch (new_after_extract_by match n (length scratch) (held_plan n buffer))

-- 01's, with `match_leaf`.
abbrev pub extract_filled : (n : ℕ) → (buffer scratch : List ℕ) → Outcome
extract_filled = extract_filled_by match_leaf

-- The call extract: 10 for a table that does not fit.
unfoldable pub extract_by : Matcher → (n : ℕ) → (buffer scratch : List ℕ) → (table : List NodeRecord) → Outcome
extract_by match n buffer scratch table =
    if table_fits table (held_plan n buffer) then extract_filled_by match n buffer scratch else finish n buffer scratch (refused 10)

-- 01's, with `match_leaf`.
abbrev pub extract : (n : ℕ) → (buffer scratch : List ℕ) → (table : List NodeRecord) → Outcome
extract = extract_by match_leaf

-- ---- the walk that an extract carries (request 10)

-- That of the held frame, with an extraction and with 13; every other refusal carries 0.
unfoldable pub walked_by : Matcher → (n room : ℕ) → Result Plan → ℕ
walked_by match n room (refused number) = 0
walked_by match n room (ok empty) = 0
walked_by match n room (ok (extracted X)) = 0
walked_by match n room (ok (held F)) = if leb n room then walk_length_by match F else 0

-- With a table that fits.
unfoldable pub walk_filled_by : Matcher → (n : ℕ) → (buffer scratch : List ℕ) → ℕ
walk_filled_by match n buffer scratch = walked_by match n (length scratch) (held_plan n buffer)

-- 01's, with `match_leaf`.
abbrev pub walk_filled : (n : ℕ) → (buffer scratch : List ℕ) → ℕ
walk_filled = walk_filled_by match_leaf

-- With any table.
unfoldable pub extract_walk_by : Matcher → (n : ℕ) → (buffer scratch : List ℕ) → (table : List NodeRecord) → ℕ
extract_walk_by match n buffer scratch table = if table_fits table (held_plan n buffer) then walk_filled_by match n buffer scratch else 0

-- 01's, with `match_leaf`.
abbrev pub extract_walk : (n : ℕ) → (buffer scratch : List ℕ) → (table : List NodeRecord) → ℕ
extract_walk = extract_walk_by match_leaf
