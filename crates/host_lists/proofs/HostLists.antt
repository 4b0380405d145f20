-- A host's run from a load or merge is the code's run, so all of demand 3 holds of it, and of any history.
mod Walked
use Rattle.std.specs.Prelude.{Ok}
use Prim.Native.Nat.{ℕ}
use mathlib.Core.Path.{◌≡◌, refl, sym, ap, ap₂, ◌∙◌, subst}
use mathlib.Core.Bool.{true, false, ◌&&◌, not}
use mathlib.Core.List.{List, [], ◌∷◌, map}
use mathlib.Core.Option.{some}
use lib.IntN.{ℤ, pos}
use lib.ListN.{length, take, length-map}
use lib.Dec.{leb}
use Rattle.definitions.specs.Words.Expression.{Frame, Extraction}
use Rattle.definitions.specs.Bytes.Encode.{plan_bytes}
use Rattle.definitions.specs.Filter.Extract.{matches_by}
use Rattle.definitions.specs.Lists.Machine.{extract_call, exchange_call}
use Rattle.definitions.specs.Bytes.NodeTable.{NodeRecord}
use Rattle.definitions.specs.Lists.Sessions.{Made, fed, ListOutcome, machine_after_by, accepted, extract_accepted, exchanges_odd, plan_left}
use Rattle.definitions.specs.Meaning.Values.{Valuation, Meaning, frame_value, extraction_value, FairUnder}
use Rattle.definitions.specs.Filter.Settings.{Settings, match_under, GoodSettings}
use Rattle.definitions.specs.Claims.Lists.{AgreeBy, some_leaf_matches_by}
use Rattle.definitions.specs.Claims.Pick.{TookAmong, NamesLeaf}
use Rattle.definitions.specs.Filter.Exchange.{extracted_plan}
use Rattle.definitions.specs.Claims.PriceLine.{price_line_by}
use Rattle.definitions.specs.Claims.Values.{values_when, HasValue}
use Rattle.definitions.specs.Filter.Merge.{merge_frames}
use Rattle.definitions.specs.Calls.Merge.{merge}
use Rattle.definitions.specs.Filter.Project.{ChildLists}
use Rattle.definitions.specs.Lists.OddMachine.{odd_run}
use Rattle.definitions.specs.Claims.Project.{NewColumns, project_by, OddAgree}
use Rattle.definitions.specs.Lists.History.{making, nothing}
use Rattle.host_calls.specs.Hosts.{hosted}
use Rattle.call_answers.specs.Outcomes.{Answered, LoadIs, OutcomeIs, MergeIs}
use Rattle.call_answers.specs.Lists.{Ran, given, carried, ran_to, Starts, by_load as code-by-load, by_merge as code-by-merge, CodeRun, outcome as code-outcome, DemandThree, AfterProjection, ProjectIs, CodeMeetsUnder}
use Rattle.call_answers.specs.declared.answers.Extracted.{Extracted}
use Rattle.call_answers.proofs.DemandThree.{code-meets-demand-three, demand-three}
use Rattle.node_table.specs.Records.{nodes_of, node_of}
use Rattle.host_calls.specs.Hosted.{LoadHosted, MergeHosted}
use Rattle.host_lists.specs.Numbers.{answered, walk_answered, numbers_by}
use Rattle.host_lists.specs.HostLists.{Host, MadeHosted, HostRan, made_to, HostStarts, by_load, by_merge, HostRun, outcome, plan, extracted, odd, ProjectHosted, HostDemandThree, HostProjected, HostsMeetUnder, HostsMeetDemandThree}
use Rattle.host_lists.proofs.Ran.{lent_of, MadeIs, made-is, project-is, merge-is, RanAs, host-ran, frames-bytes, outcomes-same, length-told}
use Rattle.host_lists.proofs.HostLists.Walked.{none-carried, numbers-alone, Told, history-told}

-- ---- a call that gave a length

load-length : (frame before : List ℕ) (table : List NodeRecord) (after : List ℕ) (filled : List NodeRecord) (m : ℕ)
    → LoadHosted frame before after table filled (pos m) → LoadIs frame before after table filled (Ok m)
load-length frame before table after filled m h =
    subst (λ (r : Answered). LoadIs frame before after table filled r) (length-told m h.1 h.3) h.2

pub merge-length : (frame : List ℕ) (n : ℕ) (before scratch kept : List ℕ) (table : List NodeRecord) (after : List ℕ)
    (filled : List NodeRecord) (m : ℕ) → MergeHosted frame before (merge frame n before scratch table) after kept filled (pos m)
    → MergeIs (merge frame n before scratch table) n after kept filled (Ok m)
merge-length frame n before scratch kept table after filled m h =
    let (r, is, same) = merge-is frame n before scratch table after kept filled (pos m) h in
    subst (λ (r : Answered). MergeIs (merge frame n before scratch table) n after kept filled r) (length-told m r same) is

project-length : (lists : ChildLists) (b : Host) (scratch kept : List ℕ) (a : Host) → ProjectHosted lists b scratch kept a
    → ProjectIs lists (lent_of b) scratch kept (lent_of a)
project-length lists b scratch kept a h =
    let (r, is, same) = project-is b.n b.plan scratch lists.of_left lists.of_right a.plan kept (pos a.n) h in
    subst (λ (r : Answered). OutcomeIs (project_by lists b.n b.plan scratch) b.n a.plan kept r) (length-told a.n r same) is

starts_is : (F : Frame) (a : Host) → HostStarts F a → Starts F (lent_of a)
starts_is F a (by_load frame before table good is) =
    code-by-load frame before (nodes_of table) is.0 good
    (load-length frame before (nodes_of table) a.plan (nodes_of a.table) a.n is)
starts_is F a (by_merge frame n before scratch kept table old new given found joined is) =
    code-by-merge frame n before scratch kept (nodes_of table) old new is.0 is.1 given found joined
    (merge-length frame n before scratch kept (nodes_of table) a.plan (nodes_of a.table) a.n is)

module _ (S : Settings) (g : GoodSettings S) where
  abbrev code_meets : CodeMeetsUnder S
  code_meets = code-meets-demand-three S g

  -- ---- demand 3 from a frame

  module _ (F : Frame) where
    -- The code's run of a host's.
    abbrev code-run : {calls : List Made} (r : HostRun S F calls) → CodeRun S F calls
    code-run r = record {
      start = lent_of r.start;
      starts = starts_is F r.start r.starts;
      answers = (host-ran g.width r.ran).answers;
      last = lent_of r.last;
      ran = (host-ran g.width r.ran).ran;
    }

    same_outcome : {calls : List Made} (r : HostRun S F calls) → code-outcome (code-run r) ≡ outcome r
    same_outcome r = outcomes-same (host-ran g.width r.ran)

    -- What is told of the code's runs by their outcome is told of a host's.
    told : {calls : List Made} (P : ListOutcome → Type 0) → ((c : CodeRun S F calls) → P (code-outcome c)) → (r : HostRun S F calls)
        → P (outcome r)
    told P h r = subst P (same_outcome r) (h (code-run r))

    code : DemandThree S F
    code = demand-three S g F

    numbers-are : (calls : List Made) (r : HostRun S F calls)
        → r.numbers ≡ numbers_by (map making calls) (machine_after_by (match_under S) F calls).walks
        (machine_after_by (match_under S) F calls).answers
    numbers-are calls r =
        let agrees : AgreeBy (match_under S) F (code-outcome (code-run r)) (machine_after_by (match_under S) F calls) =
        code.machine calls (code-run r) in
        (host-ran g.width r.ran).numbered ∙ ap₂ (numbers_by (map making calls)) agrees.walks agrees.answers

    plans-alike : (calls calls' : List Made) (r : HostRun S F calls) (r' : HostRun S F calls')
        → extracted r ≡ extracted r' → odd r ≡ odd r' → plan r ≡ plan r'
    plans-alike calls calls' r r' =
        subst (λ (x : ListOutcome). extract_accepted calls x.answers ≡ extracted r' → exchanges_odd calls x.answers ≡ odd r'
        → plan_left x ≡ plan r') (same_outcome r)
        (subst (λ (y : ListOutcome). extract_accepted calls (code-outcome (code-run r)).answers ≡ extract_accepted calls' y.answers
        → exchanges_odd calls (code-outcome (code-run r)).answers ≡ exchanges_odd calls' y.answers
        → plan_left (code-outcome (code-run r)) ≡ plan_left y) (same_outcome r')
        (code.same_plan calls calls' (code-run r) (code-run r')))

    exchange-accepted : (calls : List Made) (r : HostRun S F calls) (scratch after kept : List ℕ) (z : ℤ)
        → MadeHosted S exchange_call r.last scratch after kept z → accepted (answered z) ≡ leb r.last.n (length scratch)
    exchange-accepted calls r scratch after kept z h =
        let m : MadeIs S exchange_call r.last scratch after kept z = made-is S g.width exchange_call r.last scratch after kept z h in
        ap accepted m.read ∙ code.exchange_accepted calls (code-run r) scratch after kept m.answer m.is

    extract-accepted : (calls : List Made) (r : HostRun S F calls) (scratch after kept : List ℕ) (z : ℤ)
        → MadeHosted S extract_call r.last scratch after kept z
        → accepted (walk_answered z) ≡ (leb r.last.n (length scratch) && (not (extracted r) && some_leaf_matches_by (match_under S) F))
    extract-accepted calls r scratch after kept z h =
        let m : MadeIs S extract_call r.last scratch after kept z = made-is S g.width extract_call r.last scratch after kept z h in
        ap accepted m.read ∙ code.extract_accepted calls (code-run r) scratch after kept m.answer m.is
        ∙ ap (λ (x : ListOutcome). leb r.last.n (length scratch)
        && (not (extract_accepted calls x.answers) && some_leaf_matches_by (match_under S) F))
        (same_outcome r)

    value-projected : (M : Meaning) → FairUnder S M → (v w : Valuation) (calls : List Made) (r : HostRun S F calls)
        (lists : ChildLists) (scratch kept : List ℕ) (a : Host) → ProjectHosted lists r.last scratch kept a
        → (later : List Made) (numbers : List ℤ) (last : Host) → HostRan S a (map making later) numbers last
        → NewColumns lists (values_when (odd r) v) (values_when (exchanges_odd later (made_to later numbers last).answers) w)
        → HasValue M w (plan_left (made_to later numbers last)) (frame_value M v F)
    value-projected M fair v w calls r lists scratch kept a is later numbers last ran =
        let code-ran : RanAs S a (map making later) numbers last = host-ran g.width ran in
        subst (λ (y : ListOutcome). NewColumns lists (values_when (odd r) v) (values_when (exchanges_odd later y.answers) w)
        → HasValue M w (plan_left y) (frame_value M v F)) (outcomes-same code-ran)
        (subst (λ (x : ListOutcome). NewColumns lists (values_when (exchanges_odd calls x.answers) v)
        (values_when (exchanges_odd later (given code-ran.answers)) w) → HasValue M w (plan_left (ran_to code-ran.answers (lent_of last)))
        (frame_value M v F))
        (same_outcome r)
        (code.projected M fair v w calls (code-run r) lists scratch kept (lent_of a) (project-length lists r.last scratch kept a is) later
        code-ran.answers (lent_of last) code-ran.ran))

    pub host-demand-three : HostDemandThree S F
    host-demand-three = record {
      size = λ calls r. code.size calls (code-run r);
      numbers = numbers-are;
      machine = λ calls. told (λ (x : ListOutcome). AgreeBy (match_under S) F x
          (machine_after_by (match_under S) F calls)) (code.machine calls);
      same_plan = plans-alike;
      truth = λ M fair v calls.
          told (λ (x : ListOutcome). HasValue M v (plan_left x) (frame_value M (values_when (exchanges_odd calls x.answers) v) F))
          (code.truth M fair v calls);
      exchange_accepted = exchange-accepted;
      extract_accepted = extract-accepted;
      pick = λ calls. told
          (λ (x : ListOutcome). extract_accepted calls x.answers ≡ true
          → (X : Extraction) × TookAmong (matches_by (match_under S) F) F X
          × (plan_left x ≡ plan_bytes (extracted_plan X (exchanges_odd calls x.answers))))
          (code.pick calls);
      position = λ calls. told
          (λ (x : ListOutcome). extract_accepted calls x.answers ≡ true
          → NamesLeaf (matches_by (match_under S) F) F (plan_left x)) (code.position calls);
      line = λ calls. told
          (λ (x : ListOutcome). extract_accepted calls x.answers ≡ true
          → (line : ℕ) × (price_line_by (match_under S) F ≡ some line) × (take 1 (plan_left x) ≡ line ∷ []))
          (code.line calls);
      projected = value-projected;
    }

  -- ---- after a projection

  module _ (lists : ChildLists) (X Y : Extraction) (a : Host) (code : AfterProjection S lists X Y (lent_of a)) where
    module _ (calls : List Made) (numbers : List ℤ) (last : Host) (ran : HostRan S a (map making calls) numbers last) where
      code-ran : RanAs S a (map making calls) numbers last
      code-ran = host-ran g.width ran

      projected-told : (P : ListOutcome → Type 0)
          → ((answers : List Extracted) → Ran S (lent_of a) (map making calls) answers (lent_of last) → P (ran_to answers (lent_of last)))
          → P (made_to calls numbers last)
      projected-told P h = subst P (outcomes-same code-ran) (h code-ran.answers code-ran.ran)

      answers-are : given code-ran.answers ≡ (odd_run Y false (map fed calls)).answers
      answers-are = (code.machine calls code-ran.answers (lent_of last) code-ran.ran).answers

      walks-are : carried code-ran.answers ≡ map (λ c. 0) calls
      walks-are = none-carried S g Y calls false code-ran.ran answers-are

      projected-numbers : numbers ≡ map hosted (odd_run Y false (map fed calls)).answers
      projected-numbers =
          code-ran.numbered ∙ ap₂ (numbers_by (map making calls)) walks-are answers-are ∙ numbers-alone Y calls false

      projected-walks : (made_to calls numbers last).walks ≡ map (λ c. 0) calls
      projected-walks = code-ran.carries ∙ walks-are

    host-projected : HostProjected S lists X Y a
    host-projected = record {
      numbers = projected-numbers;
      machine = λ calls numbers last ran.
          projected-told calls numbers last ran (λ (x : ListOutcome). OddAgree Y x (odd_run Y false (map fed calls)))
          (λ answers code-ran. code.machine calls answers (lent_of last) code-ran);
      walks = projected-walks;
      truth = λ M fair v w calls numbers last ran.
          projected-told calls numbers last ran
          (λ (x : ListOutcome). NewColumns lists v (values_when (exchanges_odd calls x.answers) w)
          → HasValue M w (plan_left x) (extraction_value M v X))
          (λ answers code-ran. code.truth M fair v w calls answers (lent_of last) code-ran);
    }

  -- ---- whole

  meets_under : HostsMeetUnder S
  meets_under = record {
    after_load = λ frame before table a is.
        let (F, good, starts, d) = code_meets.after_load frame before (nodes_of table) (lent_of a) is.0
        (load-length frame before (nodes_of table) a.plan (nodes_of a.table) a.n is) in
        (F, good, by_load frame before table good is, host-demand-three F);
    after_merge = λ frame n before scratch kept table a is.
        let (old, new, found, given, starts, d) =
        code_meets.after_merge frame n before scratch kept (nodes_of table) (lent_of a) is.0 is.1
        (merge-length frame n before scratch kept (nodes_of table) a.plan (nodes_of a.table) a.n is) in (
          old,
          new,
          found,
          given,
          by_merge frame n before scratch kept table old new given found refl is,
          host-demand-three (merge_frames old new),
        );
    after_projection = λ lists b scratch kept a is.
        let (X, Y, found, new, size, after) =
        code_meets.after_projection lists (lent_of b) scratch kept (lent_of a) is.0
        (project-length lists b scratch kept a is) in
        (X, Y, found, new, size, host-projected lists X Y a after);
    history = λ plan table calls numbers last ran.
        let code-ran = host-ran g.width ran in
        let bytes = frames-bytes ran in
        let h = code_meets.history plan (nodes_of table) calls code-ran.answers (lent_of last) bytes code-ran.ran in
        let k = rw (length-map table node_of) at h in
        let t : Told S g (length plan) (length table) nothing calls numbers =
        history-told S g (length plan) (length table) ran bytes nothing (refl, (refl, length-map table node_of)) in (
          t.numbered,
          code-ran.read ∙ k.0,
          t.carries,
          k.1,
          k.2,
          k.3,
          sym (length-map last.table node_of) ∙ k.4,
          k.5,
        );
  }

pub hosts-meet-demand-three : HostsMeetDemandThree
hosts-meet-demand-three S g = meets_under S g
