-- Lists of calls of the code, by the contracts of load, extract, exchange, merge and project alone: demand 3, clause by clause. Within a
-- list the settings are fixed, two lists that are compared have the same ones, and the machine is given them too (request 13).
use Rattle.std.specs.Prelude.{ℕ, ◌≡◌, Bool, true, false, ◌&&◌, not, List, [], ◌∷◌, map, length, take, leb, Ok}
use Rattle.std.proofs.Math.Option.{some}
use Rattle.definitions.specs.Words.Basics.{Result, ok}
use Rattle.definitions.specs.Words.Expression.{Frame, Extraction, held, extracted as holding}
use Rattle.definitions.specs.Bytes.Encode.{frame_bytes, plan_bytes}
use Rattle.definitions.specs.Bytes.Plans.{frame_of}
use Rattle.definitions.specs.Filter.Extract.{matches_by}
use Rattle.definitions.specs.Calls.Base.{table_fits, held_plan}
use Rattle.definitions.specs.Bytes.NodeTable.{NodeRecord}
use Rattle.definitions.specs.Lists.Machine.{extract_call, exchange_call}
use Rattle.definitions.specs.Bytes.Good.{AllBytes}
use Rattle.definitions.specs.Lists.Sessions.{Made, fed, ListOutcome, machine_after_by, accepted, extract_accepted, exchanges_odd, plan_left}
use Rattle.definitions.specs.Meaning.Values.{Valuation, Meaning, frame_value, extraction_value, FairUnder}
use Rattle.definitions.specs.Filter.Settings.{Settings, match_under, GoodSettings}
use Rattle.definitions.specs.Lists.Settings.{make_under, walk_under}
use Rattle.definitions.specs.Claims.Lists.{AgreeBy, some_leaf_matches_by}
use Rattle.definitions.specs.Claims.Pick.{TookAmong, NamesLeaf}
use Rattle.definitions.specs.Filter.Exchange.{extracted_plan}
use Rattle.definitions.specs.Claims.PriceLine.{price_line_by}
use Rattle.definitions.specs.Claims.Values.{values_when, HasValue}
use Rattle.definitions.specs.Filter.Merge.{merge_frames}
use Rattle.definitions.specs.Calls.Merge.{merge}
use Rattle.definitions.specs.Filter.Project.{projection, ChildLists}
use Rattle.definitions.specs.Calls.Project.{project}
use Rattle.definitions.specs.Lists.OddMachine.{odd_run}
use Rattle.definitions.specs.Claims.Project.{NewColumns, project_by, OddAgree}
use Rattle.definitions.specs.Lists.History.{Call, loading, making, merging, projecting, nothing, state_plan, History, machine_history, FramesAreBytes}
use Rattle.call_answers.specs.Outcomes.{Answered, answer_of, n_after, LoadIs, OutcomeIs, MergeIs}
use Rattle.call_answers.specs.declared.answers.Extracted.{Extracted}

-- ---- lists of calls

-- n, the plan buffer and the table, as a call is given them and leaves them.
pub record Lent : Type 0 where
  pub n : ℕ
  pub buffer : List ℕ
  pub table : List NodeRecord

-- One call met its contract, given these, and left these with its answer: n is the one that its answer tells. The walk is an extract's;
-- the other calls have none.
abbrev pub CallIs : Settings → Lent → Call → Lent → Extracted → Type 0
CallIs S b (loading frame) a r =
    LoadIs frame b.buffer a.buffer b.table a.table r.answer × (a.n ≡ n_after b.n r.answer)
CallIs S b (making c) a r =
    (kept : List ℕ) × OutcomeIs (make_under S c.kind b.n b.buffer c.scratch b.table) b.n a.buffer kept r.answer
    × (a.n ≡ n_after b.n r.answer) × (a.table ≡ b.table)
    × (r.walk ≡ walk_under S c.kind b.n b.buffer c.scratch b.table)
CallIs S b (merging frame scratch) a r =
    (kept : List ℕ) × MergeIs (merge frame b.n b.buffer scratch b.table) b.n a.buffer kept a.table r.answer
    × (a.n ≡ n_after b.n r.answer)
CallIs S b (projecting scratch of_left of_right) a r =
    (kept : List ℕ) × OutcomeIs (project b.n b.buffer scratch of_left of_right) b.n a.buffer kept r.answer
    × (a.n ≡ n_after b.n r.answer) × (a.table ≡ b.table)

-- A list of calls was made: each met its contract, was given what the one before left, and gave its answer.
pub data Ran (S : Settings) : Lent → List Call → List Extracted → Lent → Type 0 where
  no_call : {b : Lent} → Ran S b [] [] b
  called : {b a last : Lent} {c : Call} {calls : List Call} {r : Extracted} {answers : List Extracted}
      → CallIs S b c a r → Ran S a calls answers last → Ran S b (c ∷ calls) (r ∷ answers) last

-- The answers of such a list, and the walks that they carry.
abbrev pub given : List Extracted → List (Result ℕ)
given answers = map (λ r. answer_of r.answer) answers

abbrev pub carried : List Extracted → List ℕ
carried answers = map (λ r. r.walk) answers

-- What such a list answered and left.
abbrev pub ran_to : List Extracted → Lent → ListOutcome
ran_to answers last = record { answers = given answers; walks = carried answers; n = last.n; buffer = last.buffer }

-- ---- from a frame: demand 3

-- A projection by these lists that met its contract, given what was left as the first, gave a length and left the last.
abbrev pub ProjectIs : ChildLists → Lent → (scratch kept : List ℕ) → Lent → Type 0
ProjectIs lists b scratch kept a = OutcomeIs (project_by lists b.n b.buffer scratch) b.n a.buffer kept (Ok a.n)

-- A call that met its contract and gave a length left the frame F: a load of it, or a merge that joined two frames to it.
pub data Starts (F : Frame) (a : Lent) : Type 0 where
  by_load : (frame before : List ℕ) (table : List NodeRecord) → AllBytes frame → frame_of frame ≡ ok F
      → LoadIs frame before a.buffer table a.table (Ok a.n) → Starts F a
  by_merge : (frame : List ℕ) (n : ℕ) (before scratch kept : List ℕ) (table : List NodeRecord) (old new : Frame) → AllBytes frame
      → AllBytes before → frame_of frame ≡ ok new → held_plan n before ≡ ok (held old) → merge_frames old new ≡ F
      → MergeIs (merge frame n before scratch table) n a.buffer kept a.table (Ok a.n) → Starts F a

-- Such a call, and after it a list of extracts and exchanges that met their contracts.
pub record CodeRun (S : Settings) (F : Frame) (calls : List Made) : Type 0 where
  pub start : Lent
  pub starts : Starts F start
  pub answers : List Extracted
  pub last : Lent
  pub ran : Ran S start (map making calls) answers last

-- What the list answered and left.
abbrev pub outcome : {S : Settings} {F : Frame} {calls : List Made} → CodeRun S F calls → ListOutcome
outcome r = ran_to r.answers r.last

-- The plan that it left.
abbrev pub plan : {S : Settings} {F : Frame} {calls : List Made} → CodeRun S F calls → List ℕ
plan r = plan_left (outcome r)

-- Whether it accepted an extract.
abbrev pub extracted : {S : Settings} {F : Frame} {calls : List Made} → CodeRun S F calls → Bool
extracted {S} {F} {calls} r = extract_accepted calls (outcome r).answers

-- Whether it accepted an odd number of exchanges.
abbrev pub odd : {S : Settings} {F : Frame} {calls : List Made} → CodeRun S F calls → Bool
odd {S} {F} {calls} r = exchanges_odd calls (outcome r).answers

-- Demand 3 of the code, from the frame F and under settings.
pub record DemandThree (S : Settings) (F : Frame) : Type 0 where
  -- The load or merge gave the frame's length.
  pub size : (calls : List Made) (r : CodeRun S F calls) → r.start.n ≡ length (frame_bytes F)
  -- Plan, n, every answer and the walk that it carries are the two-bit machine's.
  pub machine : (calls : List Made) (r : CodeRun S F calls)
      → AgreeBy (match_under S) F (outcome r) (machine_after_by (match_under S) F calls)
  -- Two lists alike in whether an extract was accepted and in whether accepted exchanges are odd in number leave the same plan.
  pub same_plan : (calls calls' : List Made) (r : CodeRun S F calls) (r' : CodeRun S F calls')
      → extracted r ≡ extracted r' → odd r ≡ odd r' → plan r ≡ plan r'
  -- The plan has the frame's truth value, sides exchanged when odd.
  pub truth : (M : Meaning) → FairUnder S M → (v : Valuation) (calls : List Made) (r : CodeRun S F calls)
      → HasValue M v (plan r) (frame_value M (values_when (odd r) v) F)
  -- An exchange is accepted exactly when its scratch is at least as long as the plan;
  pub exchange_accepted : (calls : List Made) (r : CodeRun S F calls) (scratch buffer' scratch' : List ℕ) (a : Answered)
      → OutcomeIs (make_under S exchange_call r.last.n r.last.buffer scratch r.last.table) r.last.n buffer' scratch' a
      → accepted (answer_of a) ≡ leb r.last.n (length scratch)
  -- an extract exactly when its scratch is too, none was accepted before it and an AND-leaf of the frame matches under the settings.
  pub extract_accepted : (calls : List Made) (r : CodeRun S F calls) (scratch buffer' scratch' : List ℕ) (a : Answered)
      → OutcomeIs (make_under S extract_call r.last.n r.last.buffer scratch r.last.table) r.last.n buffer' scratch' a
      → accepted (answer_of a) ≡ (leb r.last.n (length scratch) && (not (extracted r) && some_leaf_matches_by (match_under S) F))
  -- An accepted extract takes the first KNN match, failing that the first match.
  pub pick : (calls : List Made) (r : CodeRun S F calls) → extracted r ≡ true
      → (X : Extraction) × TookAmong (matches_by (match_under S) F) F X × (plan r ≡ plan_bytes (extracted_plan X (odd r)))
  -- Bytes 1 and 2 of the plan are its leaf's position among the frame's AND-leaves (request 4).
  pub position : (calls : List Made) (r : CodeRun S F calls) → extracted r ≡ true → NamesLeaf (matches_by (match_under S) F) F (plan r)
  -- Whatever was exchanged, the plan then is on the frame's price line.
  pub line : (calls : List Made) (r : CodeRun S F calls) → extracted r ≡ true
      → (line : ℕ) × (price_line_by (match_under S) F ≡ some line) × (take 1 (plan r) ≡ line ∷ [])
  -- A projection after the list (request 7), and any list after it: the plan has over the new columns, exchanged when odd, the truth value
  -- that the frame has over its own; the columns that are projected are the frame's, exchanged when odd.
  pub projected : (M : Meaning) → FairUnder S M → (v w : Valuation) (calls : List Made) (r : CodeRun S F calls)
      (lists : ChildLists) (scratch kept : List ℕ) (a : Lent) → ProjectIs lists r.last scratch kept a
      → (later : List Made) (answers : List Extracted) (last : Lent) → Ran S a (map making later) answers last
      → NewColumns lists (values_when (odd r) v) (values_when (exchanges_odd later (given answers)) w)
      → HasValue M w (plan_left (ran_to answers last)) (frame_value M v F)

-- ---- from an extraction that was projected (request 7)

-- Extracts and exchanges after a projection of X to Y that left this.
pub record AfterProjection (S : Settings) (lists : ChildLists) (X Y : Extraction) (a : Lent) : Type 0 where
  -- Plan, n and every answer are those of the machine with the odd bit alone.
  pub machine : (calls : List Made) (answers : List Extracted) (last : Lent) → Ran S a (map making calls) answers last
      → OddAgree Y (ran_to answers last) (odd_run Y false (map fed calls))
  -- The plan has over the new columns, exchanged when odd, the truth value that X had over the old ones.
  pub truth : (M : Meaning) → FairUnder S M → (v w : Valuation) (calls : List Made) (answers : List Extracted) (last : Lent)
      → Ran S a (map making calls) answers last → NewColumns lists v (values_when (exchanges_odd calls (given answers)) w)
      → HasValue M w (plan_left (ran_to answers last)) (extraction_value M v X)

-- ---- whole

pub record CodeMeetsUnder (S : Settings) : Type 0 where
  -- A load that met its contract and gave a length is of a good frame, for which all of this holds.
  pub after_load : (frame before : List ℕ) (table : List NodeRecord) (a : Lent) → AllBytes frame
      → LoadIs frame before a.buffer table a.table (Ok a.n)
      → (F : Frame) × (frame_of frame ≡ ok F) × Starts F a × DemandThree S F
  -- A merge that did is of a good frame into a held one; it all holds afresh for the merged frame.
  pub after_merge : (frame : List ℕ) (n : ℕ) (before scratch kept : List ℕ) (table : List NodeRecord) (a : Lent) → AllBytes frame
      → AllBytes before → MergeIs (merge frame n before scratch table) n a.buffer kept a.table (Ok a.n)
      → (old : Frame) × (new : Frame) × (held_plan n before ≡ ok (held old)) × (frame_of frame ≡ ok new)
      × Starts (merge_frames old new) a × DemandThree S (merge_frames old new)
  -- A projection that met its contract and gave a length is of an extraction that is held, as long, and all of this holds after it.
  pub after_projection : (lists : ChildLists) (b : Lent) (scratch kept : List ℕ) (a : Lent) → AllBytes b.buffer
      → ProjectIs lists b scratch kept a
      → (X : Extraction) × (Y : Extraction) × (held_plan b.n b.buffer ≡ ok (holding X)) × (projection lists X ≡ some Y)
      × (a.n ≡ b.n) × AfterProjection S lists X Y a
  -- Every list of load, extract, exchange, merge and project, from an empty plan and any table, gives the machine's answers, and leaves its
  -- plan, that plan's length, a plan buffer and a table as long as before, and a table that fits what is held.
  pub history : (buffer : List ℕ) (table : List NodeRecord) (calls : List Call) (answers : List Extracted) (last : Lent)
      → FramesAreBytes calls
      → Ran S (record { n = 0; buffer = buffer; table = table }) calls answers last
      → let m : History = machine_history (match_under S) (length buffer) (length table) nothing calls in
      (given answers ≡ m.answers) × (take last.n last.buffer ≡ plan_bytes (state_plan (match_under S) m.state))
      × (last.n ≡ length (plan_bytes (state_plan (match_under S) m.state))) × (length last.buffer ≡ length buffer)
      × (length last.table ≡ length table) × (table_fits last.table (ok (state_plan (match_under S) m.state)) ≡ true)

-- At one go for all settings that do not get 24.
abbrev pub CodeMeetsDemandThree : Type 0
CodeMeetsDemandThree = (S : Settings) → GoodSettings S → CodeMeetsUnder S
