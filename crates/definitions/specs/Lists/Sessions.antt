-- Lists of calls made on lent buffers, from a held frame, and what is read off their answers.
use Rattle.std.specs.Prelude.{ℕ, ◌≤◌, ◌≡◌, Bool, true, false, ◌&&◌, ◌||◌, not, List, [], ◌∷◌, map, length, take, if◌then◌else◌}
use Rattle.definitions.specs.Words.Basics.{Result, ok, refused}
use Rattle.definitions.specs.Words.Expression.{Frame, held}
use Rattle.definitions.specs.Bytes.Encode.{frame_bytes}
use Rattle.definitions.specs.Bytes.Good.{GoodPlan}
use Rattle.definitions.specs.Bytes.NodeTable.{NodeRecord, node_table, begins_with}
use Rattle.definitions.specs.Filter.Match.{match_leaf}
use Rattle.definitions.specs.Filter.Extract.{Matcher}
use Rattle.definitions.specs.Calls.Base.{Outcome, extract_by, exchange, extract_walk_by}
use Rattle.definitions.specs.Lists.Machine.{Kind, extract_call, exchange_call, Fed, Run, machine_run, fresh}

-- ---- lists of calls

-- One call as it is made, with its own scratch.
pub record Made : Type 0 where
  pub kind : Kind
  pub scratch : List ℕ

-- An extract with this scratch.
abbrev pub extract_with : (scratch : List ℕ) → Made
extract_with scratch = record { kind = extract_call; scratch = scratch }

-- An exchange with this scratch.
abbrev pub exchange_with : (scratch : List ℕ) → Made
exchange_with scratch = record { kind = exchange_call; scratch = scratch }

-- The call of a kind; an exchange has no table.
unfoldable pub make_by : Matcher → Kind → (n : ℕ) → (buffer scratch : List ℕ) → (table : List NodeRecord) → Outcome
make_by match extract_call n buffer scratch table = extract_by match n buffer scratch table
make_by match exchange_call n buffer scratch table = exchange n buffer scratch

-- 01's, with `match_leaf`.
abbrev pub make : Kind → (n : ℕ) → (buffer scratch : List ℕ) → (table : List NodeRecord) → Outcome
make = make_by match_leaf

-- The walk that the call of a kind carries (request 10); an exchange has none.
unfoldable pub walk_by : Matcher → Kind → (n : ℕ) → (buffer scratch : List ℕ) → (table : List NodeRecord) → ℕ
walk_by match extract_call n buffer scratch table = extract_walk_by match n buffer scratch table
walk_by match exchange_call n buffer scratch table = 0

-- 01's, with `match_leaf`.
abbrev pub walk : Kind → (n : ℕ) → (buffer scratch : List ℕ) → (table : List NodeRecord) → ℕ
walk = walk_by match_leaf

-- The answers of a list of calls, the walks that they carry, and n and the plan buffer at its end.
pub record ListOutcome : Type 0 where
  pub answers : List (Result ℕ)
  pub walks : List ℕ
  pub n : ℕ
  pub buffer : List ℕ

-- A list of calls, each given the last n and the plan buffer as it was left, and one and the same table, which none of them writes.
unfoldable pub calls_run_by : Matcher → (n : ℕ) → (buffer : List ℕ) → (table : List NodeRecord) → List Made → ListOutcome
calls_run_by match n buffer table [] = record { answers = []; walks = []; n = n; buffer = buffer }
calls_run_by match n buffer table (c ∷ cs) =
    let one : Outcome = make_by match c.kind n buffer c.scratch table in
    let after : ListOutcome = calls_run_by match one.n one.buffer table cs in
    let carried : ℕ = walk_by match c.kind n buffer c.scratch table in
    record { answers = one.answer ∷ after.answers; walks = carried ∷ after.walks; n = after.n; buffer = after.buffer }

-- 01's, with `match_leaf`.
abbrev pub calls_run : (n : ℕ) → (buffer : List ℕ) → (table : List NodeRecord) → List Made → ListOutcome
calls_run = calls_run_by match_leaf

-- A call as the machine is fed it: its kind and the length of its scratch.
unfoldable pub fed : Made → Fed
fed c = record { kind = c.kind; room = length c.scratch }

-- The machine after the same list.
abbrev pub machine_after_by : Matcher → Frame → List Made → Run
machine_after_by match F calls = machine_run match F fresh (map fed calls)

-- 01's, with `match_leaf`.
abbrev pub machine_after : Frame → List Made → Run
machine_after = machine_after_by match_leaf

-- ---- what the answers tell

-- Whether an answer is a length.
unfoldable pub accepted : Result ℕ → Bool
accepted (ok length) = true
accepted (refused number) = false

-- Whether a call is an extract.
unfoldable pub is_extract : Kind → Bool
is_extract extract_call = true
is_extract exchange_call = false

-- Whether an extract was accepted, read off the answers.
unfoldable pub extract_accepted : List Made → (answers : List (Result ℕ)) → Bool
extract_accepted [] answers = false
extract_accepted (c ∷ cs) [] = false
extract_accepted (c ∷ cs) (a ∷ answers) = (is_extract c.kind && accepted a) || extract_accepted cs answers

-- Whether accepted exchanges are odd in number, read off the answers.
unfoldable pub exchanges_odd : List Made → (answers : List (Result ℕ)) → Bool
exchanges_odd [] answers = false
exchanges_odd (c ∷ cs) [] = false
exchanges_odd (c ∷ cs) (a ∷ answers) =
    if not (is_extract c.kind) && accepted a then not (exchanges_odd cs answers) else exchanges_odd cs answers

-- ---- sessions

-- The good frame F is held: its bytes are the first n of a plan buffer, and the table is supposed as filled with its nodes (request 6).
-- All calls of a session are made with its matcher.
pub record SessionBy (match : Matcher) (F : Frame) : Type 0 where
  pub n : ℕ
  pub buffer : List ℕ
  pub table : List NodeRecord
  pub good : GoodPlan (held F)
  pub fits : n ≤ length buffer
  pub holds : take n buffer ≡ frame_bytes F
  pub filled : begins_with (node_table F) table ≡ true

-- 01's, with `match_leaf`.
abbrev pub Session : Frame → Type 0
Session = SessionBy match_leaf

-- What a list of calls answers and leaves.
abbrev pub after : {match : Matcher} {F : Frame} → SessionBy match F → List Made → ListOutcome
after {match} s calls = calls_run_by match s.n s.buffer s.table calls

-- n after a list of calls: the plan's length.
abbrev pub length_after : {match : Matcher} {F : Frame} → SessionBy match F → List Made → ℕ
length_after s calls = (after s calls).n

-- The first n bytes of the plan buffer at the end of a list of calls.
abbrev pub plan_left : ListOutcome → List ℕ
plan_left o = take o.n o.buffer

-- The plan after a list of calls.
abbrev pub plan_after : {match : Matcher} {F : Frame} → SessionBy match F → List Made → List ℕ
plan_after s calls = plan_left (after s calls)

-- Whether an extract was accepted in a list of calls.
abbrev pub extracted_in : {match : Matcher} {F : Frame} → SessionBy match F → List Made → Bool
extracted_in s calls = extract_accepted calls (after s calls).answers

-- Whether accepted exchanges are odd in number in a list of calls.
abbrev pub odd_in : {match : Matcher} {F : Frame} → SessionBy match F → List Made → Bool
odd_in s calls = exchanges_odd calls (after s calls).answers

-- The answer of a call that is made after a list of calls.
abbrev pub answer_after : {match : Matcher} {F : Frame} → SessionBy match F → (before : List Made) → Made → Result ℕ
answer_after {match} s before c = (make_by match c.kind (after s before).n (after s before).buffer c.scratch s.table).answer

-- The walk that it carries.
abbrev pub walk_after : {match : Matcher} {F : Frame} → SessionBy match F → (before : List Made) → Made → ℕ
walk_after {match} s before c = walk_by match c.kind (after s before).n (after s before).buffer c.scratch s.table
