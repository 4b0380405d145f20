-- A host's own lists of exported calls, each call by the relation that its contract cites, and demand 3 of them. Within a list the settings
-- are fixed, two lists that are compared have the same ones, and the machine is given them too (request 13).
use Rattle.std.specs.Prelude.{ℕ, ◌≡◌, Bool, true, false, ◌&&◌, not, List, [], ◌∷◌, map, ℤ, pos, length, take, leb}
use Rattle.std.proofs.Math.Option.{some}
use Rattle.definitions.specs.Words.Basics.{ok}
use Rattle.definitions.specs.Words.Expression.{Frame, Extraction, held, extracted as holding}
use Rattle.definitions.specs.Bytes.Encode.{frame_bytes, plan_bytes}
use Rattle.definitions.specs.Bytes.Plans.{frame_of}
use Rattle.definitions.specs.Filter.Extract.{matches_by}
use Rattle.definitions.specs.Calls.Base.{table_fits, held_plan, exchange}
use Rattle.definitions.specs.Lists.Machine.{Kind, extract_call, exchange_call, machine_step}
use Rattle.definitions.specs.Lists.Sessions.{Made, fed, ListOutcome, machine_after_by, accepted, extract_accepted, exchanges_odd, plan_left}
use Rattle.definitions.specs.Meaning.Values.{Valuation, Meaning, frame_value, extraction_value, FairUnder}
use Rattle.definitions.specs.Filter.Settings.{Settings, match_under, GoodSettings}
use Rattle.definitions.specs.Calls.Settings.{extract_under, extract_walk_under}
use Rattle.definitions.specs.Claims.Lists.{AgreeBy, some_leaf_matches_by}
use Rattle.definitions.specs.Claims.Pick.{TookAmong, NamesLeaf}
use Rattle.definitions.specs.Filter.Exchange.{extracted_plan}
use Rattle.definitions.specs.Claims.PriceLine.{price_line_by}
use Rattle.definitions.specs.Claims.Values.{values_when, HasValue}
use Rattle.definitions.specs.Filter.Merge.{merge_frames}
use Rattle.definitions.specs.Calls.Merge.{merge}
use Rattle.definitions.specs.Filter.Project.{projection, ChildLists}
use Rattle.definitions.specs.Calls.Project.{project}
use Rattle.definitions.specs.Lists.OddMachine.{odd_run}
use Rattle.definitions.specs.Claims.Project.{NewColumns, project_by, OddAgree}
use Rattle.definitions.specs.Lists.History.{Call, loading, making, merging, projecting, State, nothing, started, projected, state_plan, machine_call, History, machine_history}
use Rattle.host_calls.specs.Hosts.{hosted}
use Rattle.node_table.specs.Records.{nodes_of}
use Rattle.node_table.specs.declared.NodeRecord.{NodeRecord as TableRecord}
use Rattle.host_calls.specs.Hosted.{LoadHosted, CallHosted, ExtractHosted, MergeHosted}
use Rattle.host_lists.specs.Numbers.{answered, walk_answered, next_n, answered_by, answers_by, walks_by, numbers_by}

-- ---- a host, and its calls

-- What a host owns between two calls: the plan buffer, n, and the table. It lends a scratch buffer to each call anew.
pub record Host : Type 0 where
  pub plan : List ℕ
  pub n : ℕ
  pub table : List TableRecord

-- `spatialjoin_extract` or `spatialjoin_exchange` met its contract.
abbrev pub MadeHosted : Settings → Kind → Host → (scratch after kept : List ℕ) → ℤ → Type 0
MadeHosted S extract_call b scratch after kept z =
    ExtractHosted b.plan (extract_under S b.n b.plan scratch (nodes_of b.table))
    (extract_walk_under S b.n b.plan scratch (nodes_of b.table)) after kept z
MadeHosted S exchange_call b scratch after kept z = CallHosted b.plan (exchange b.n b.plan scratch) after kept z

-- A call of `spatialjoin_load`, `_extract`, `_exchange`, `_merge` or `_project` met its contract, was given what the first host owns, gave
-- this number, and left what the second owns. n is the host's to keep, by the answer that it reads off the number. Extract is lent the
-- table and cannot write it; exchange and project are not lent it.
abbrev pub HostCall : Settings → Host → Call → Host → ℤ → Type 0
HostCall S b (loading frame) a z =
    LoadHosted frame b.plan a.plan (nodes_of b.table) (nodes_of a.table) z
    × (a.n ≡ next_n b.n (answered_by (loading frame) z))
HostCall S b (making c) a z =
    (kept : List ℕ) × MadeHosted S c.kind b c.scratch a.plan kept z
    × (a.n ≡ next_n b.n (answered_by (making c) z)) × (a.table ≡ b.table)
HostCall S b (merging frame scratch) a z =
    (kept : List ℕ)
    × MergeHosted frame b.plan (merge frame b.n b.plan scratch (nodes_of b.table)) a.plan kept (nodes_of a.table) z
    × (a.n ≡ next_n b.n (answered_by (merging frame scratch) z))
HostCall S b (projecting scratch of_left of_right) a z =
    (kept : List ℕ) × CallHosted b.plan (project b.n b.plan scratch of_left of_right) a.plan kept z
    × (a.n ≡ next_n b.n (answered_by (projecting scratch of_left of_right) z)) × (a.table ≡ b.table)

-- A host made a list of calls, each with what the one before left, and was given these numbers.
pub data HostRan (S : Settings) : Host → List Call → List ℤ → Host → Type 0 where
  made_none : {b : Host} → HostRan S b [] [] b
  made_one : {b a last : Host} {c : Call} {calls : List Call} {z : ℤ} {numbers : List ℤ}
      → HostCall S b c a z → HostRan S a calls numbers last → HostRan S b (c ∷ calls) (z ∷ numbers) last

-- What such a list answered and the walks that it carried, read off its numbers, and what it left.
abbrev pub host_to : List Call → List ℤ → Host → ListOutcome
host_to calls numbers last =
    record { answers = answers_by calls numbers; walks = walks_by calls numbers; n = last.n; buffer = last.plan }

-- Those of a list of extracts and exchanges.
abbrev pub made_to : List Made → List ℤ → Host → ListOutcome
made_to calls numbers last = host_to (map making calls) numbers last

-- ---- from a frame

-- A call that met its contract gave a length, which the host has as n, and left the frame F: a load of it, or a merge of two frames to it.
pub data HostStarts (F : Frame) (a : Host) : Type 0 where
  by_load : (frame before : List ℕ) (table : List TableRecord) → frame_of frame ≡ ok F
      → LoadHosted frame before a.plan (nodes_of table) (nodes_of a.table) (pos a.n) → HostStarts F a
  by_merge : (frame : List ℕ) (n : ℕ) (before scratch kept : List ℕ) (table : List TableRecord) (old new : Frame)
      → frame_of frame ≡ ok new → held_plan n before ≡ ok (held old) → merge_frames old new ≡ F
      → MergeHosted frame before (merge frame n before scratch (nodes_of table)) a.plan kept (nodes_of a.table) (pos a.n)
      → HostStarts F a

-- Such a call, and after it a list of extracts and exchanges.
pub record HostRun (S : Settings) (F : Frame) (calls : List Made) : Type 0 where
  pub start : Host
  pub starts : HostStarts F start
  pub numbers : List ℤ
  pub last : Host
  pub ran : HostRan S start (map making calls) numbers last

-- What the list answered and left.
abbrev pub outcome : {S : Settings} {F : Frame} {calls : List Made} → HostRun S F calls → ListOutcome
outcome {S} {F} {calls} r = made_to calls r.numbers r.last

-- The plan that it left: the first n bytes of the plan buffer.
abbrev pub plan : {S : Settings} {F : Frame} {calls : List Made} → HostRun S F calls → List ℕ
plan r = plan_left (outcome r)

-- Whether it accepted an extract.
abbrev pub extracted : {S : Settings} {F : Frame} {calls : List Made} → HostRun S F calls → Bool
extracted {S} {F} {calls} r = extract_accepted calls (outcome r).answers

-- Whether it accepted an odd number of exchanges.
abbrev pub odd : {S : Settings} {F : Frame} {calls : List Made} → HostRun S F calls → Bool
odd {S} {F} {calls} r = exchanges_odd calls (outcome r).answers

-- A projection by these lists met its contract and gave n.
abbrev pub ProjectHosted : ChildLists → Host → (scratch kept : List ℕ) → Host → Type 0
ProjectHosted lists b scratch kept a = CallHosted b.plan (project_by lists b.n b.plan scratch) a.plan kept (pos a.n)

-- Demand 3 of a host, from the frame F and under settings.
pub record HostDemandThree (S : Settings) (F : Frame) : Type 0 where
  -- The load or merge gave the frame's length.
  pub size : (calls : List Made) (r : HostRun S F calls) → r.start.n ≡ length (frame_bytes F)
  -- Every number is that of the two-bit machine's answer, an extract's with the machine's walk (request 10).
  pub numbers : (calls : List Made) (r : HostRun S F calls)
      → r.numbers
      ≡ numbers_by (map making calls) (machine_after_by (match_under S) F calls).walks (machine_after_by (match_under S) F calls).answers
  -- Plan, n, every answer and every walk that is read off are the two-bit machine's.
  pub machine : (calls : List Made) (r : HostRun S F calls)
      → AgreeBy (match_under S) F (outcome r) (machine_after_by (match_under S) F calls)
  -- Two lists alike in whether an extract was accepted and in whether accepted exchanges are odd in number leave the same plan.
  pub same_plan : (calls calls' : List Made) (r : HostRun S F calls) (r' : HostRun S F calls')
      → extracted r ≡ extracted r' → odd r ≡ odd r' → plan r ≡ plan r'
  -- The plan has the frame's truth value, sides exchanged when odd.
  pub truth : (M : Meaning) → FairUnder S M → (v : Valuation) (calls : List Made) (r : HostRun S F calls)
      → HasValue M v (plan r) (frame_value M (values_when (odd r) v) F)
  -- An exchange is accepted exactly when its scratch is at least as long as the plan;
  pub exchange_accepted : (calls : List Made) (r : HostRun S F calls) (scratch after kept : List ℕ) (z : ℤ)
      → MadeHosted S exchange_call r.last scratch after kept z → accepted (answered z) ≡ leb r.last.n (length scratch)
  -- an extract exactly when its scratch is too, none was accepted before it and an AND-leaf of the frame matches under the settings.
  pub extract_accepted : (calls : List Made) (r : HostRun S F calls) (scratch after kept : List ℕ) (z : ℤ)
      → MadeHosted S extract_call r.last scratch after kept z
      → accepted (walk_answered z) ≡ (leb r.last.n (length scratch) && (not (extracted r) && some_leaf_matches_by (match_under S) F))
  -- An accepted extract takes the first KNN match, failing that the first match.
  pub pick : (calls : List Made) (r : HostRun S F calls) → extracted r ≡ true
      → (X : Extraction) × TookAmong (matches_by (match_under S) F) F X × (plan r ≡ plan_bytes (extracted_plan X (odd r)))
  -- Bytes 1 and 2 of the plan are its leaf's position among the frame's AND-leaves (request 4).
  pub position : (calls : List Made) (r : HostRun S F calls) → extracted r ≡ true → NamesLeaf (matches_by (match_under S) F) F (plan r)
  -- Whatever was exchanged, the plan then is on the frame's price line.
  pub line : (calls : List Made) (r : HostRun S F calls) → extracted r ≡ true
      → (line : ℕ) × (price_line_by (match_under S) F ≡ some line) × (take 1 (plan r) ≡ line ∷ [])
  -- A projection after the list (request 7), and any list after it: the plan has over the new columns, exchanged when odd, the truth value
  -- that the frame has over its own; the columns that are projected are the frame's, exchanged when odd.
  pub projected : (M : Meaning) → FairUnder S M → (v w : Valuation) (calls : List Made) (r : HostRun S F calls)
      (lists : ChildLists) (scratch kept : List ℕ) (a : Host) → ProjectHosted lists r.last scratch kept a
      → (later : List Made) (numbers : List ℤ) (last : Host) → HostRan S a (map making later) numbers last
      → NewColumns lists (values_when (odd r) v) (values_when (exchanges_odd later (made_to later numbers last).answers) w)
      → HasValue M w (plan_left (made_to later numbers last)) (frame_value M v F)

-- ---- from an extraction that was projected (request 7)

-- Extracts and exchanges after a projection of X to Y that left this.
pub record HostProjected (S : Settings) (lists : ChildLists) (X Y : Extraction) (a : Host) : Type 0 where
  -- Every number is that of the machine with the odd bit alone, with no walk: an extract is refused with 12 and carries 0.
  pub numbers : (calls : List Made) (numbers : List ℤ) (last : Host) → HostRan S a (map making calls) numbers last
      → numbers ≡ map hosted (odd_run Y false (map fed calls)).answers
  -- Plan, n and every answer are that machine's.
  pub machine : (calls : List Made) (numbers : List ℤ) (last : Host) → HostRan S a (map making calls) numbers last
      → OddAgree Y (made_to calls numbers last) (odd_run Y false (map fed calls))
  -- Every walk that is read off is 0.
  pub walks : (calls : List Made) (numbers : List ℤ) (last : Host) → HostRan S a (map making calls) numbers last
      → (made_to calls numbers last).walks ≡ map (λ c. 0) calls
  -- The plan has over the new columns, exchanged when odd, the truth value that X had over the old ones.
  pub truth : (M : Meaning) → FairUnder S M → (v w : Valuation) (calls : List Made) (numbers : List ℤ) (last : Host)
      → HostRan S a (map making calls) numbers last
      → NewColumns lists v (values_when (exchanges_odd calls (made_to calls numbers last).answers) w)
      → HasValue M w (plan_left (made_to calls numbers last)) (extraction_value M v X)

-- ---- from nothing held

-- The walk that the machine's extract or exchange carries in a state: the two-bit machine's, from a frame, else 0;
abbrev pub made_walk : Settings → State → Made → ℕ
made_walk S nothing c = 0
made_walk S (started F bits) c = (machine_step (match_under S) F bits c.kind (length c.scratch)).walk
made_walk S (projected X odd) c = 0

-- that of any call.
abbrev pub state_walk : Settings → State → Call → ℕ
state_walk S s (loading frame) = 0
state_walk S s (making c) = made_walk S s c
state_walk S s (merging frame scratch) = 0
state_walk S s (projecting scratch of_left of_right) = 0

-- Those of a list, over a plan buffer and a table of these lengths.
unfoldable pub machine_walks : Settings → (room places : ℕ) → State → List Call → List ℕ
machine_walks S room places s [] = []
machine_walks S room places s (c ∷ calls) =
    state_walk S s c ∷ machine_walks S room places (machine_call (match_under S) room places s c).state calls

-- ---- whole

pub record HostsMeetUnder (S : Settings) : Type 0 where
  -- A load that gave a length is of a good frame, for which all of this holds.
  pub after_load : (frame before : List ℕ) (table : List TableRecord) (a : Host)
      → LoadHosted frame before a.plan (nodes_of table) (nodes_of a.table) (pos a.n)
      → (F : Frame) × (frame_of frame ≡ ok F) × HostStarts F a × HostDemandThree S F
  -- A merge that gave a length is of a good frame into a held one; it all holds afresh for the merged frame.
  pub after_merge : (frame : List ℕ) (n : ℕ) (before scratch kept : List ℕ) (table : List TableRecord) (a : Host)
      → MergeHosted frame before (merge frame n before scratch (nodes_of table)) a.plan kept (nodes_of a.table) (pos a.n)
      → (old : Frame) × (new : Frame) × (held_plan n before ≡ ok (held old)) × (frame_of frame ≡ ok new)
      × HostStarts (merge_frames old new) a × HostDemandThree S (merge_frames old new)
  -- A projection that gave a length is of an extraction that is held, as long, and all of this holds after it.
  pub after_projection : (lists : ChildLists) (b : Host) (scratch kept : List ℕ) (a : Host)
      → ProjectHosted lists b scratch kept a
      → (X : Extraction) × (Y : Extraction) × (held_plan b.n b.plan ≡ ok (holding X)) × (projection lists X ≡ some Y)
      × (a.n ≡ b.n) × HostProjected S lists X Y a
  -- Every list of load, extract, exchange, merge and project, from n = 0, any plan buffer and any table, gives the machine's numbers, off
  -- which its answers and walks are read, and leaves its plan, that plan's length, a plan buffer and a table as long as before, and a table
  -- that fits what is held.
  pub history : (plan : List ℕ) (table : List TableRecord) (calls : List Call) (numbers : List ℤ) (last : Host)
      → HostRan S (record { plan = plan; n = 0; table = table }) calls numbers last
      → let m : History = machine_history (match_under S) (length plan) (length table) nothing calls in
      let walks : List ℕ = machine_walks S (length plan) (length table) nothing calls in
      (numbers ≡ numbers_by calls walks m.answers) × ((host_to calls numbers last).answers ≡ m.answers)
      × ((host_to calls numbers last).walks ≡ walks) × (take last.n last.plan ≡ plan_bytes (state_plan (match_under S) m.state))
      × (last.n ≡ length (plan_bytes (state_plan (match_under S) m.state))) × (length last.plan ≡ length plan)
      × (length last.table ≡ length table) × (table_fits (nodes_of last.table) (ok (state_plan (match_under S) m.state)) ≡ true)

-- At one go for all settings that do not get 24.
abbrev pub HostsMeetDemandThree : Type 0
HostsMeetDemandThree = (S : Settings) → GoodSettings S → HostsMeetUnder S
