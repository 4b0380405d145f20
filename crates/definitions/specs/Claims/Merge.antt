-- Request 2 of document 02: what is claimed of merged frames and of the call merge; crate `theorems` proves each claim.
use Rattle.std.specs.Prelude.{ℕ, ◌+◌, ◌≤◌, ◌≡◌, true, false, ◌&&◌, not, List, ◌++◌, map, length, take, leb}
use Rattle.definitions.specs.Words.Basics.{ok}
use Rattle.definitions.specs.Words.Limits.{most_bytes}
use Rattle.definitions.specs.Words.Expression.{Frame, held}
use Rattle.definitions.specs.Words.Leaves.{leaves}
use Rattle.definitions.specs.Bytes.Encode.{frame_bytes, plan_bytes}
use Rattle.definitions.specs.Bytes.Plans.{frame_of}
use Rattle.definitions.specs.Bytes.Good.{AllBytes, nodes, GoodPlan}
use Rattle.definitions.specs.Bytes.NodeTable.{NodeRecord}
use Rattle.definitions.specs.Filter.Match.{match_leaf}
use Rattle.definitions.specs.Filter.Extract.{Matcher, matches_by}
use Rattle.definitions.specs.Filter.Merge.{raised, merge_frames, over_limits}
use Rattle.definitions.specs.Calls.Base.{table_fits, Outcome, held_plan}
use Rattle.definitions.specs.Calls.Merge.{MergeOutcome, merge}
use Rattle.definitions.specs.Lists.Sessions.{Made, calls_run_by, machine_after_by, accepted, SessionBy, Session, after, plan_after, extracted_in, odd_in}
use Rattle.definitions.specs.Lists.History.{Call, nothing, state_plan, held_now, History, machine_history, HistoryOutcome, history_by, FramesAreBytes}
use Rattle.definitions.specs.Meaning.Values.{Valuation, Meaning, Fair, and_value, frame_value}
use Rattle.definitions.specs.Meaning.Matchers.{Lawful}
use Rattle.definitions.specs.Claims.Calls.{Filled, CallWrote}
use Rattle.definitions.specs.Claims.Lists.{LeavesSession, AgreeBy}
use Rattle.definitions.specs.Claims.Values.{values_when, HasValue}

-- ---- the merged frame

-- Two good frames, merged, are good where they are over no limit, and one byte shorter than both.
abbrev pub MergedGood : Type 0
MergedGood =
    (old new : Frame) → GoodPlan (held old) → GoodPlan (held new) → over_limits (merge_frames old new) ≡ false
    → GoodPlan (held (merge_frames old new))
    × (length (frame_bytes (merge_frames old new)) + 1 ≡ length (frame_bytes old) + length (frame_bytes new))

-- The merged frame's value is the And of both, whatever the meaning, fair or not, mark columns or none.
abbrev pub MergedValue : Type 0
MergedValue =
    (M : Meaning) (v : Valuation) (old new : Frame) → GoodPlan (held old)
    → frame_value M v (merge_frames old new) ≡ and_value (frame_value M v old) (frame_value M v new)

-- Its AND-leaves are the held ones and then the new ones, and each matches as it did in its own frame.
abbrev pub MergedLeavesBy : Matcher → Type 0
MergedLeavesBy match =
    (old new : Frame) → GoodPlan (held old) → GoodPlan (held new)
    → (leaves (merge_frames old new).expr ≡ leaves old.expr ++ map (raised (length old.records)) (leaves new.expr))
    × (matches_by match (merge_frames old new) ≡ matches_by match old ++ matches_by match new)

-- 01's, with `match_leaf`.
abbrev pub MergedLeaves : Type 0
MergedLeaves = MergedLeavesBy match_leaf

-- ---- the call

-- A good frame is merged into a held one exactly when together they are over no limit, and scratch, plan buffer and table have room;
-- `MergeWrites` says that nothing else is ever merged.
abbrev pub MergeAccepted : Type 0
MergeAccepted =
    (frame : List ℕ) (n : ℕ) (buffer scratch : List ℕ) (table : List NodeRecord) (old new : Frame)
    → frame_of frame ≡ ok new → held_plan n buffer ≡ ok (held old)
    → accepted (merge frame n buffer scratch table).answer
    ≡ (not (over_limits (merge_frames old new))
    && ((leb n (length scratch) && leb (length (frame_bytes (merge_frames old new))) (length buffer))
    && leb (nodes (merge_frames old new).expr) (length table)))

-- What a merge leaves but for the table.
abbrev pub but_table : MergeOutcome → Outcome
but_table o = record { answer = o.answer; n = o.n; buffer = o.buffer; scratch = o.scratch }

-- A merge of these frames wrote the merged one to the plan buffer's start and the old plan to the scratch's, filled the table with the
-- merged one's records, and changed nothing else.
pub record MergeWrote (n : ℕ) (buffer scratch : List ℕ) (table : List NodeRecord) (old new : Frame) (o : MergeOutcome) : Type 0 where
  pub size : o.n ≡ length (frame_bytes (merge_frames old new))
  pub short : o.n ≤ most_bytes
  pub plan : take o.n o.buffer ≡ frame_bytes (merge_frames old new)
  pub wrote : CallWrote n buffer scratch (but_table o)
  pub filled : Filled (merge_frames old new) table o.table

-- An accepted merge is of a good frame into a held one, and does.
abbrev pub MergeWrites : Type 0
MergeWrites =
    (frame : List ℕ) (n : ℕ) (buffer scratch : List ℕ) (table : List NodeRecord)
    → accepted (merge frame n buffer scratch table).answer ≡ true
    → (old : Frame) × (new : Frame) × (held_plan n buffer ≡ ok (held old)) × (frame_of frame ≡ ok new)
    × MergeWrote n buffer scratch table old new (merge frame n buffer scratch table)

-- A refused merge keeps n, both buffers and the table.
abbrev pub MergeKeeps : Type 0
MergeKeeps =
    (frame : List ℕ) (n : ℕ) (buffer scratch : List ℕ) (table : List NodeRecord)
    → accepted (merge frame n buffer scratch table).answer ≡ false
    → ((merge frame n buffer scratch table).n ≡ n) × ((merge frame n buffer scratch table).buffer ≡ buffer)
    × ((merge frame n buffer scratch table).scratch ≡ scratch) × ((merge frame n buffer scratch table).table ≡ table)

-- ---- lists of calls after it

-- A merge left a session of this frame.
abbrev pub LeftBy : Matcher → Frame → MergeOutcome → Type 0
LeftBy match F o = LeavesSession match F o.n o.buffer o.table

-- An accepted merge joins a good frame to a held one, and leaves a session of the merged frame, whatever the matcher.
abbrev pub MergeHolds : Type 0
MergeHolds =
    (match : Matcher) (frame : List ℕ) (n : ℕ) (buffer scratch : List ℕ) (table : List NodeRecord) → AllBytes frame → AllBytes buffer
    → accepted (merge frame n buffer scratch table).answer ≡ true
    → (old : Frame) × (new : Frame) × (held_plan n buffer ≡ ok (held old)) × (frame_of frame ≡ ok new)
    × LeftBy match (merge_frames old new) (merge frame n buffer scratch table)

-- A merge that is made after a list of calls, of the table as it is.
abbrev pub merge_after : {match : Matcher} {F : Frame} → SessionBy match F → (before : List Made) → (frame scratch : List ℕ) → MergeOutcome
merge_after s before frame scratch = merge frame (after s before).n (after s before).buffer scratch s.table

-- From a held frame, after any list: where a merge is accepted no extract was; it joins the new frame to the held one, exchanged where
-- accepted exchanges are odd in number; it leaves a session of the merged frame; and from there every list of calls gives what the
-- two-bit machine gives that starts from the merged frame.
abbrev pub ListAfterMergeBy : Matcher → Type 0
ListAfterMergeBy match =
    (F : Frame) (s : SessionBy match F) (before : List Made) (frame scratch : List ℕ) → AllBytes frame
    → accepted (merge_after s before frame scratch).answer ≡ true
    → (extracted_in s before ≡ false)
    × (new : Frame) × (frame_of frame ≡ ok new)
    × LeftBy match (merge_frames (held_now F (odd_in s before)) new) (merge_after s before frame scratch)
    × ((calls : List Made) → AgreeBy match (merge_frames (held_now F (odd_in s before)) new)
    (calls_run_by match (merge_after s before frame scratch).n (merge_after s before frame scratch).buffer
    (merge_after s before frame scratch).table calls)
    (machine_after_by match (merge_frames (held_now F (odd_in s before)) new) calls))

-- 01's, with `match_leaf`.
abbrev pub ListAfterMerge : Type 0
ListAfterMerge = ListAfterMergeBy match_leaf

-- From a merged frame, after any list, the plan has the And of both values, those of left and right exchanged when odd.
abbrev pub ValueAfterMerge : Type 0
ValueAfterMerge =
    (M : Meaning) → Fair M → (v : Valuation) (old new : Frame) (s : Session (merge_frames old new)) → GoodPlan (held old)
    → (calls : List Made)
    → HasValue M v (plan_after s calls)
    (and_value (frame_value M (values_when (odd_in s calls) v) old) (frame_value M (values_when (odd_in s calls) v) new))

-- Every list of load, extract, exchange, merge and project (request 7), from an empty plan and any table, gives the machine's answers, and
-- leaves the machine's plan and its length in a plan buffer as long as before, and a table as long as before that fits what is held.
abbrev pub HistoryOfCallsBy : Matcher → Type 0
HistoryOfCallsBy match =
    (buffer : List ℕ) (table : List NodeRecord) (calls : List Call) → FramesAreBytes calls
    → let m : History = machine_history match (length buffer) (length table) nothing calls in
    let o : HistoryOutcome = history_by match 0 buffer table calls in
    (o.answers ≡ m.answers) × (take o.n o.buffer ≡ plan_bytes (state_plan match m.state))
    × (o.n ≡ length (plan_bytes (state_plan match m.state))) × (length o.buffer ≡ length buffer)
    × (length o.table ≡ length table) × (table_fits o.table (ok (state_plan match m.state)) ≡ true)

-- 01's, with `match_leaf`.
abbrev pub HistoryOfCalls : Type 0
HistoryOfCalls = HistoryOfCallsBy match_leaf

-- All three hold with any lawful matcher.
abbrev pub AnyMatcherMerges : Type 1
AnyMatcherMerges =
    (match : Matcher) (Asks : Meaning → Type 0) → Lawful match Asks → ListAfterMergeBy match × HistoryOfCallsBy match × MergedLeavesBy match
