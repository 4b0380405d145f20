-- Calls that meet their contracts are the definitions' calls, so a list of them is a session's list, of which all of demand 3 holds.
use Rattle.std.specs.Prelude.{Ok}
use Prim.Native.Nat.{ℕ}
use mathlib.Core.Path.{◌≡◌, refl, sym, ap, ap₂, ◌∙◌, subst}
use mathlib.Core.Bool.{true, false, ◌&&◌, not}
use mathlib.Core.List.{List, [], ◌∷◌, map}
use mathlib.Core.Option.{some}
use lib.ListN.{length, take}
use lib.Seq.{length-take-le}
use lib.Dec.{leb}
use Rattle.definitions.specs.Words.Basics.{ok}
use Rattle.definitions.specs.Words.Expression.{Frame, Extraction, held, extracted as holding}
use Rattle.definitions.specs.Bytes.Encode.{frame_bytes, plan_bytes}
use Rattle.definitions.specs.Bytes.Plans.{frame_of}
use Rattle.definitions.specs.Filter.Extract.{matches_by}
use Rattle.definitions.specs.Calls.Base.{LoadOutcome, load, Outcome, held_plan}
use Rattle.definitions.specs.Lists.Machine.{Kind, extract_call, exchange_call}
use Rattle.definitions.specs.Bytes.Good.{AllBytes}
use Rattle.definitions.specs.Lists.Sessions.{Made, fed, make_by, ListOutcome, calls_run_by, machine_after_by, accepted, extract_accepted, exchanges_odd, SessionBy, after, plan_left}
use Rattle.definitions.specs.Meaning.Values.{Valuation, Meaning, frame_value, extraction_value, FairUnder}
use Rattle.definitions.specs.Filter.Settings.{Settings, match_under, GoodSettings}
use Rattle.definitions.specs.Lists.Settings.{make_under, calls_run_under}
use Rattle.definitions.specs.Claims.Settings.{UnderSettings}
use Rattle.definitions.specs.Claims.Lists.{LeavesSession, AgreeBy, some_leaf_matches_by}
use Rattle.definitions.specs.Claims.Pick.{TookAmong, NamesLeaf}
use Rattle.definitions.specs.Filter.Exchange.{extracted_plan}
use Rattle.definitions.specs.Claims.PriceLine.{price_line_by}
use Rattle.definitions.specs.Claims.Values.{values_when, HasValue}
use Rattle.definitions.specs.Filter.Merge.{merge_frames}
use Rattle.definitions.specs.Calls.Merge.{MergeOutcome, merge}
use Rattle.definitions.specs.Bytes.NodeTable.{NodeRecord}
use Rattle.definitions.specs.Claims.Merge.{LeftBy}
use Rattle.definitions.specs.Filter.Project.{projection, ChildLists}
use Rattle.definitions.specs.Lists.OddMachine.{odd_run}
use Rattle.definitions.specs.Claims.Project.{NewColumns, project_by, OddAgree, calls_from, ValueFrom}
use Rattle.definitions.specs.Lists.History.{Call, loading, making, merging, projecting, one_call_by, HistoryOutcome, history_by}
use Rattle.theorems.proofs.InverseFrame.{same_ok}
use Rattle.theorems.proofs.MergeCall.{same-held}
use Rattle.theorems.proofs.SettingsClaimed.{same-make}
use Rattle.theorems.proofs.Proved.{all-settings, merge-holds, list-after-projection}
use Rattle.call_answers.specs.Outcomes.{Answered, answer_of, LoadIs, OutcomeIs, MergeIs}
use Rattle.call_answers.specs.Lists.{Lent, CallIs, Ran, no_call, called, given, ran_to, ProjectIs, Starts, by_load, by_merge, CodeRun, outcome, plan, extracted, odd, DemandThree, AfterProjection, CodeMeetsUnder, CodeMeetsDemandThree}
use Rattle.call_answers.specs.declared.answers.Extracted.{Extracted}

module _ (S : Settings) (g : GoodSettings S) where
  abbrev under : UnderSettings S
  under = all-settings S g

  -- ---- a list of calls is the definitions' list

  one-is : (b : Lent) (c : Call) (a : Lent) (r : Extracted) → CallIs S b c a r
      → one_call_by (match_under S) b.n b.buffer b.table c
      ≡ record { answer = answer_of r.answer; n = a.n; buffer = a.buffer; table = a.table }
  unfolding one_call_by
  one-is b (loading frame) a r is = is.0 b.n ∙ rw is.1 refl
  one-is b (making c) a r is =
      ap (λ (o : Outcome). record { answer = o.answer; n = o.n; buffer = o.buffer; table = b.table })
      (sym (same-make S g.good c.kind b.n b.buffer c.scratch b.table) ∙ is.1) ∙ rw (is.2, is.3) refl
  one-is b (merging frame scratch) a r is =
      ap (λ (o : MergeOutcome). record { answer = o.answer; n = o.n; buffer = o.buffer; table = o.table }) is.1 ∙ rw is.2 refl
  one-is b (projecting scratch of_left of_right) a r is =
      ap (λ (o : Outcome). record { answer = o.answer; n = o.n; buffer = o.buffer; table = b.table }) is.1 ∙ rw (is.2, is.3) refl

  history-is : {b last : Lent} {calls : List Call} {answers : List Extracted} → Ran S b calls answers last
      → history_by (match_under S) b.n b.buffer b.table calls
      ≡ record { answers = given answers; n = last.n; buffer = last.buffer; table = last.table }
  unfolding history_by
  history-is no_call = refl
  history-is (called {b} {a} {c = c} {r = r} e more) =
      rw (one-is b c a r e)
      (ap (λ (o : HistoryOutcome). record { answers = answer_of r.answer ∷ o.answers; n = o.n; buffer = o.buffer; table = o.table })
      (history-is more))

  -- Of extracts and exchanges alone it is a session's, and the table is as it was.
  made_table : (calls : List Made) {b last : Lent} {answers : List Extracted} → Ran S b (map making calls) answers last
      → last.table ≡ b.table
  made_table [] no_call = refl
  made_table (c ∷ calls) (called e more) = made_table calls more ∙ e.3

  made-under : (calls : List Made) {a last : Lent} {answers : List Extracted} → Ran S a (map making calls) answers last
      → calls_run_under S a.n a.buffer a.table calls ≡ ran_to answers last
  unfolding calls_run_under
  made-under [] no_call = refl
  made-under (c ∷ calls) (called {b} {a} {r = r} e more) =
      let rest = made-under calls more in
      rw (e.1, ← e.2, ← e.4, ← e.3)
      (ap (λ (o : ListOutcome).
      record { answers = answer_of r.answer ∷ o.answers; walks = r.walk ∷ o.walks; n = o.n; buffer = o.buffer }) rest)

  made-ran : (calls : List Made) {a last : Lent} {answers : List Extracted} → Ran S a (map making calls) answers last
      → calls_run_by (match_under S) a.n a.buffer a.table calls ≡ ran_to answers last
  made-ran calls {a} ran = sym (under.calls a.n a.buffer a.table calls) ∙ made-under calls ran

  -- After a projection too.
  from-projected : (lists : ChildLists) (b : Lent) (scratch kept : List ℕ) (a : Lent) → ProjectIs lists b scratch kept a
      → (calls : List Made) {last : Lent} {answers : List Extracted} → Ran S a (map making calls) answers last
      → calls_from (match_under S) (project_by lists b.n b.buffer scratch) a.table calls ≡ ran_to answers last
  from-projected lists b scratch kept a is calls ran =
      ap (λ (o : Outcome). calls_from (match_under S) o a.table calls) is ∙ made-ran calls ran

  projects : (lists : ChildLists) (b : Lent) (scratch kept : List ℕ) (a : Lent) → ProjectIs lists b scratch kept a
      → accepted (project_by lists b.n b.buffer scratch).answer ≡ true
  unfolding accepted
  projects lists b scratch kept a is = ap (λ (o : Outcome). accepted o.answer) is

  -- ---- where it starts

  -- The frame F is held by a session of what was left.
  abbrev Holds : Lent → Frame → Type 0
  Holds a F = LeavesSession (match_under S) F a.n a.buffer a.table

  load_is : (frame before : List ℕ) (table : List NodeRecord) (a : Lent) → AllBytes frame
      → LoadIs frame before a.buffer table a.table (Ok a.n) → (F : Frame) × (frame_of frame ≡ ok F) × Holds a F
  unfolding accepted
  load_is frame before table a bytes is =
      let taken : accepted (load frame 0 before table).answer ≡ true = ap (λ (o : LoadOutcome). accepted o.answer) (is 0) in
      let (F, good, size, s) = under.lists.loads frame 0 before table bytes taken in
      (F, good, subst (λ (o : LoadOutcome). LeavesSession (match_under S) F o.n o.buffer o.table) (is 0) s)

  merge-is : (frame : List ℕ) (n : ℕ) (before scratch kept : List ℕ) (table : List NodeRecord) (a : Lent) → AllBytes frame → AllBytes before
      → MergeIs (merge frame n before scratch table) n a.buffer kept a.table (Ok a.n)
      → (old : Frame) × (new : Frame) × (held_plan n before ≡ ok (held old)) × (frame_of frame ≡ ok new) × Holds a (merge_frames old new)
  unfolding accepted
  merge-is frame n before scratch kept table a bytes plan-bytes is =
      let taken : accepted (merge frame n before scratch table).answer ≡ true = ap (λ (o : MergeOutcome). accepted o.answer) is in
      let (old, new, found, given, s) = merge-holds (match_under S) frame n before scratch table bytes plan-bytes taken in
      (old, new, found, given, subst (LeftBy (match_under S) (merge_frames old new)) is s)

  module _ (F : Frame) where
    -- What starts a run leaves a session of F.
    started : (a : Lent) → Starts F a → Holds a F
    started a (by_load frame before table bytes good is) =
        let (G, is-good, h) = load_is frame before table a bytes is in
        subst (Holds a) (same_ok G F (sym is-good ∙ good)) h
    started a (by_merge frame n before scratch kept table old new bytes plan-bytes given found joined is) =
        let (old', new', found', given', h) = merge-is frame n before scratch kept table a bytes plan-bytes is in
        let one : old' ≡ old = same-held old' old (same_ok _ _ (sym found' ∙ found)) in
        let two : new' ≡ new = same_ok new' new (sym given' ∙ given) in
        subst (Holds a) (ap₂ merge_frames one two ∙ joined) h

    size_is : (a : Lent) → Starts F a → a.n ≡ length (frame_bytes F)
    size_is a start =
        let (s, n, buffer, table) = started a start in
        sym n ∙ sym (length-take-le s.n s.buffer s.fits) ∙ ap length s.holds

    -- So what a run answers and leaves is what a session's list does, with the session's table.
    session-of : {calls : List Made} (r : CodeRun S F calls)
        → (s : SessionBy (match_under S) F) × (after s calls ≡ outcome r) × (s.table ≡ r.last.table)
    session-of {calls} r =
        let (s, n, buffer, table) = started r.start r.starts in
        let same : after s calls ≡ calls_run_by (match_under S) r.start.n r.start.buffer r.start.table calls =
        rw (n, buffer, table) refl in (
          s,
          same ∙ made-ran calls r.ran,
          table ∙ sym (made_table calls r.ran),
        )

    -- What is told of a session's list by its outcome is told of the run.
    told : {calls : List Made} (P : ListOutcome → Type 0) → ((s : SessionBy (match_under S) F) → P (after s calls))
        → (r : CodeRun S F calls) → P (outcome r)
    told P h r = let (s, is, table) = session-of r in subst P is (h s)

    -- And with its table.
    told_with : {calls : List Made} (P : ListOutcome → List NodeRecord → Type 0)
        → ((s : SessionBy (match_under S) F) → P (after s calls) s.table)
        → (r : CodeRun S F calls) → P (outcome r) r.last.table
    told_with P h r = let (s, is, table) = session-of r in subst (P (outcome r)) table (subst (λ (x : ListOutcome). P x s.table) is (h s))

    plans-alike : (calls calls' : List Made) (r : CodeRun S F calls) (r' : CodeRun S F calls')
        → extracted r ≡ extracted r' → odd r ≡ odd r' → plan r ≡ plan r'
    plans-alike calls calls' r r' e o =
        let (s, is, table) = session-of r in
        let (t, is', table') = session-of r' in
        sym (ap plan_left is)
        ∙ under.lists.same_plan F s t calls calls'
        (ap (λ (x : ListOutcome). extract_accepted calls x.answers) is ∙ e
        ∙ sym (ap (λ (x : ListOutcome). extract_accepted calls' x.answers) is'))
        (ap (λ (x : ListOutcome). exchanges_odd calls x.answers) is ∙ o
        ∙ sym (ap (λ (x : ListOutcome). exchanges_odd calls' x.answers) is'))
        ∙ ap plan_left is'

    value-projected : (M : Meaning) → FairUnder S M → (v w : Valuation) (calls : List Made) (r : CodeRun S F calls)
        (lists : ChildLists) (scratch kept : List ℕ) (a : Lent) → ProjectIs lists r.last scratch kept a
        → (later : List Made) (answers : List Extracted) (last : Lent) → Ran S a (map making later) answers last
        → NewColumns lists (values_when (odd r) v) (values_when (exchanges_odd later (given answers)) w)
        → HasValue M w (plan_left (ran_to answers last)) (frame_value M v F)
    value-projected M fair v w calls r lists scratch kept a is later answers last ran =
        subst (λ (x : ListOutcome). NewColumns lists (values_when (odd r) v) (values_when (exchanges_odd later x.answers) w)
        → HasValue M w (plan_left x) (frame_value M v F)) (from-projected lists r.last scratch kept a is later ran)
        (told
        (λ (x : ListOutcome). accepted (project_by lists x.n x.buffer scratch).answer ≡ true
        → ValueFrom (match_under S) (project_by lists x.n x.buffer scratch) a.table later lists M
        (values_when (exchanges_odd calls x.answers) v) w (frame_value M v F))
        (λ s. under.projects M (under.symmetric M fair) v w F s fair calls lists scratch a.table later) r
        (projects lists r.last scratch kept a is))

    -- One more call that met its contract is made with the matcher of the settings.
    as-made : (kind : Kind) (l : Lent) (scratch buffer' scratch' : List ℕ) (a : Answered)
        → OutcomeIs (make_under S kind l.n l.buffer scratch l.table) l.n buffer' scratch' a
        → accepted (answer_of a) ≡ accepted (make_by (match_under S) kind l.n l.buffer scratch l.table).answer
    as-made kind l scratch buffer' scratch' a is =
        ap (λ (x : Outcome). accepted x.answer) (sym is ∙ same-make S g.good kind l.n l.buffer scratch l.table)

    pub demand-three : DemandThree S F
    demand-three = record {
      size = λ calls r. size_is r.start r.starts;
      machine = λ calls. told (λ (x : ListOutcome). AgreeBy (match_under S) F x
          (machine_after_by (match_under S) F calls)) (λ s. under.lists.machine F s calls);
      same_plan = plans-alike;
      truth = λ M fair v calls.
          told (λ (x : ListOutcome). HasValue M v (plan_left x) (frame_value M (values_when (exchanges_odd calls x.answers) v) F))
          (λ s. under.lists.value M (under.symmetric M fair) v F s fair calls);
      exchange_accepted = λ calls r scratch buffer' scratch' a is.
          as-made exchange_call r.last scratch buffer' scratch' a is
          ∙ told_with
          (λ (x : ListOutcome) (t : List NodeRecord).
          accepted (make_by (match_under S) exchange_call x.n x.buffer scratch t).answer ≡ leb x.n (length scratch))
          (λ s. under.lists.exchange_accepted F s calls scratch) r;
      extract_accepted = λ calls r scratch buffer' scratch' a is.
          as-made extract_call r.last scratch buffer' scratch' a is
          ∙ told_with
          (λ (x : ListOutcome) (t : List NodeRecord). accepted (make_by (match_under S) extract_call x.n x.buffer scratch t).answer
          ≡ (leb x.n (length scratch) && (not (extract_accepted calls x.answers) && some_leaf_matches_by (match_under S) F)))
          (λ s. under.lists.extract_accepted F s calls scratch) r;
      pick = λ calls. told
          (λ (x : ListOutcome). extract_accepted calls x.answers ≡ true
          → (X : Extraction) × TookAmong (matches_by (match_under S) F) F X
          × (plan_left x ≡ plan_bytes (extracted_plan X (exchanges_odd calls x.answers))))
          (λ s. under.lists.takes F s calls);
      position = λ calls. told
          (λ (x : ListOutcome). extract_accepted calls x.answers ≡ true → NamesLeaf (matches_by (match_under S) F) F (plan_left x))
          (λ s. under.lists.position F s calls);
      line = λ calls. told
          (λ (x : ListOutcome). extract_accepted calls x.answers ≡ true
          → (line : ℕ) × (price_line_by (match_under S) F ≡ some line) × (take 1 (plan_left x) ≡ line ∷ []))
          (λ s. under.lists.line_stays F s calls);
      projected = value-projected;
    }

  -- ---- after a projection

  after-projection : (lists : ChildLists) (b : Lent) (scratch kept : List ℕ) (a : Lent) → AllBytes b.buffer
      → ProjectIs lists b scratch kept a
      → (X : Extraction) × (Y : Extraction) × (held_plan b.n b.buffer ≡ ok (holding X)) × (projection lists X ≡ some Y)
      × (a.n ≡ b.n) × AfterProjection S lists X Y a
  after-projection lists b scratch kept a bytes is =
      let (X, Y, found, new, size, agree, has) =
      list-after-projection (match_under S) lists b.n b.buffer scratch a.table bytes (projects lists b scratch kept a is) in (
        X,
        Y,
        found,
        new,
        same_ok _ _ (sym (ap (λ (o : Outcome). o.answer) is) ∙ size),
        record {
          machine = λ calls answers last ran.
              subst (λ (x : ListOutcome). OddAgree Y x (odd_run Y false (map fed calls)))
              (from-projected lists b scratch kept a is calls ran)
              (agree calls);
          truth = λ M fair v w calls answers last ran new.
              subst (λ (x : ListOutcome). NewColumns lists v (values_when (exchanges_odd calls x.answers) w)
              → HasValue M w (plan_left x) (extraction_value M v X)) (from-projected lists b scratch kept a is calls ran)
              (has M (under.symmetric M fair) v w calls) new;
        },
      )

  meets_under : CodeMeetsUnder S
  meets_under = record {
    after_load = λ frame before table a bytes is.
        let (F, good, h) = load_is frame before table a bytes is in (F, good, by_load frame before table bytes good is, demand-three F);
    after_merge = λ frame n before scratch kept table a bytes plan-bytes is.
        let (old, new, found, given, h) = merge-is frame n before scratch kept table a bytes plan-bytes is in (
          old,
          new,
          found,
          given,
          by_merge frame n before scratch kept table old new bytes plan-bytes given found refl is,
          demand-three (merge_frames old new),
        );
    after_projection = after-projection;
    history = λ buffer table calls answers last bytes ran.
        let h = under.history buffer table calls bytes in
        rw (history-is ran) at h;
  }

pub code-meets-demand-three : CodeMeetsDemandThree
code-meets-demand-three S g = meets_under S g
