-- Every list of load, extract, exchange, merge and project gives the machine's answers and leaves the machine's plan.
use Rattle.std.specs.Prelude.{if◌then◌else◌}
use Prim.Native.Nat.{ℕ, ◌≤◌}
use native.Mathlib.Omega.{arith}
use mathlib.Core.Path.{◌≡◌, refl, sym, ap, ap₂, ◌∙◌, subst}
use mathlib.Core.Bool.{Bool, true, false, ◌&&◌}
use mathlib.Core.List.{List, [], ◌∷◌}
use mathlib.Core.Option.{Option, none, some}
use lib.ListN.{length, take}
use lib.Dec.{leb}
use borrow.Author.Tests.{leb-true, le-leb}
use Rattle.definitions.specs.Words.Basics.{Result, ok, refused, map_result}
use Rattle.definitions.specs.Words.Expression.{Frame, Extraction, Plan, empty, held, extracted}
use Rattle.definitions.specs.Bytes.Encode.{plan_bytes, frame_bytes}
use Rattle.definitions.specs.Bytes.Plans.{frame_of, plan_of}
use Rattle.definitions.specs.Filter.Extract.{Matcher, extraction_by}
use Rattle.definitions.specs.Calls.Base.{LoadOutcome, written_over, tabled, filled_by, table_fits, new_after_load, finish_load, load, Outcome, finish, held_plan, new_after_exchange, exchange, new_after_extract_by, extract_filled_by}
use Rattle.definitions.specs.Lists.Machine.{Kind, extract_call, exchange_call, Bits, fresh, extraction_or, machine_plan, machine_length, machine_step}
use Rattle.definitions.specs.Bytes.Good.{AllBytes, nodes, plan_nodes, GoodPlan}
use Rattle.definitions.specs.Bytes.NodeTable.{NodeRecord, node_table}
use Rattle.definitions.specs.Lists.Sessions.{Made, make_by}
use Rattle.definitions.specs.Meaning.Values.{Meaning}
use Rattle.definitions.specs.Meaning.Matchers.{Lawful}
use Rattle.definitions.specs.Filter.Merge.{merge_frames, over_limits}
use Rattle.definitions.specs.Calls.Merge.{merged_frame, new_after_merge, with_table, merge}
use Rattle.definitions.specs.Filter.Project.{ChildLists, project_extraction, placed, projection}
use Rattle.definitions.specs.Calls.Project.{short_lists, projected_bytes, new_after_project, project}
use Rattle.definitions.specs.Lists.OddMachine.{odd_length, odd_step}
use Rattle.definitions.specs.Lists.History.{Call, loading, making, merging, projecting, State, nothing, started, projected, state_plan, Answered, refuse_call, start_at, start_in, load_call, make_call, merged_call, merge_call, projected_call, project_call, machine_call, History, machine_history, but_scratch, merged_but, one_call_by, HistoryOutcome, history_by, FrameIsBytes, FramesAreBytes}
use Rattle.definitions.specs.Claims.Merge.{HistoryOfCallsBy}
use Rattle.theorems.proofs.Tools.{and-both}
use Rattle.theorems.proofs.InverseFrame.{frame_back}
use Rattle.theorems.proofs.ExtractGood.{GoodExtraction, good-by}
use Rattle.theorems.proofs.ExchangeGood.{plan-as-long}
use Rattle.theorems.proofs.NodeTables.{table-nests-by}
use Rattle.theorems.proofs.TablesFit.{extract-filled-by}
use Rattle.theorems.proofs.Changes.{over-same, extract-writes}
use Rattle.theorems.proofs.Lists.{Holds, Tabled, bits, plan-good, held-plan, fits-machine, Agrees, step-agrees}
use Rattle.theorems.proofs.ListTheorem.{written_held, session-holds}
use Rattle.theorems.proofs.Merged.{good-merged}
use Rattle.theorems.proofs.ProjectedGood.{projected-length, projected-good}
use Rattle.theorems.proofs.ProjectCall.{both-short}
use Rattle.theorems.proofs.OddMachines.{OddHolds, OddAgrees, odd-good, fits-odd, held-odd, as-long-odd, odd-written, odd-step}

-- ---- whatever the matcher

empty-held : (buffer : List ℕ) → held_plan 0 buffer ≡ ok empty
unfolding held_plan plan_of
empty-held buffer = ap (λ (b : Bool). if b then plan_of (take 0 buffer) else refused 10) (le-leb 0 (length buffer) (omega arith))

finish-length : (n : ℕ) (buffer scratch : List ℕ) (r : Result (List ℕ)) → (finish n buffer scratch r).n ≤ length buffer
    → length (finish n buffer scratch r).buffer ≡ length buffer
unfolding finish
finish-length n buffer scratch (ok bytes) h = (over-same bytes buffer h).as_many
finish-length n buffer scratch (refused number) h = refl

base_short : (F : Frame) (x : Option Extraction) → GoodExtraction F x
    → length (plan_bytes (extraction_or (held F) x)) ≤ length (frame_bytes F)
unfolding extraction_or plan_bytes
base_short F none h = omega arith
base_short F (some X) h = h.1

-- What a merge leaves but for the scratch, by the frame that it made.
abbrev merged_to : (n : ℕ) → (buffer scratch : List ℕ) → (table : List NodeRecord) → Result Frame → LoadOutcome
merged_to n buffer scratch table x = merged_but (with_table (finish n buffer scratch (map_result frame_bytes x)) (filled_by x table))

-- ---- with a lawful matcher

module _ {match : Matcher} {Asks : Meaning → Type 0} (laws : Lawful match Asks) where
  make-length : (k : Kind) (n : ℕ) (buffer scratch : List ℕ) (table : List NodeRecord)
      → (make_by match k n buffer scratch table).n ≤ length buffer
      → length (make_by match k n buffer scratch table).buffer ≡ length buffer
  unfolding make_by exchange
  make-length extract_call n buffer scratch table h =
      extract-writes match n buffer scratch table (λ (o : Outcome). o.n ≤ length buffer → length o.buffer ≡ length buffer)
      (finish-length n buffer scratch _) (finish-length n buffer scratch (refused 10)) h
  make-length exchange_call n buffer scratch table h = finish-length n buffer scratch _ h

  -- The machine's plan is never longer than the frame that it started from.
  machine-short : (F : Frame) (e o : Bool) → GoodPlan (held F) → machine_length match F (bits e o) ≤ length (frame_bytes F)
  unfolding machine_length machine_plan plan_bytes
  machine-short F true true g =
      omega (
        arith,
        plan-as-long (extraction_or (held F) (extraction_by match F)),
        base_short F (extraction_by match F) (good-by laws F g),
      )
  machine-short F true false g = base_short F (extraction_by match F) (good-by laws F g)
  machine-short F false true g = omega (arith, plan-as-long (held F))
  machine-short F false false g = omega arith

  module _ (room places : ℕ) where
    -- Plan buffer and table are of these lengths.
    abbrev pub Sized : (buffer : List ℕ) → (table : List NodeRecord) → Type 0
    Sized buffer table = (length buffer ≡ room) × (length table ≡ places)

    -- n and such a plan buffer hold the state's plan, the table is filled, and the frame that it started from fits.
    abbrev pub HoldsState : State → (n : ℕ) → (buffer : List ℕ) → (table : List NodeRecord) → Type 0
    HoldsState nothing n buffer table = (n ≡ 0) × Sized buffer table
    HoldsState (started F b) n buffer table =
        GoodPlan (held F) × Holds laws F b n buffer × Sized buffer table × (length (frame_bytes F) ≤ room) × Tabled laws F table
    HoldsState (projected X o) n buffer table = GoodPlan (extracted X) × OddHolds X o n buffer × Sized buffer table

    sized : (s : State) (n : ℕ) (buffer : List ℕ) (table : List NodeRecord) → HoldsState s n buffer table → Sized buffer table
    sized nothing n buffer table h = h.1
    sized (started F b) n buffer table h = h.2
    sized (projected X o) n buffer table h = h.2

    -- The plan that a state's buffer holds, and the table that fits it.
    pub state-left : (s : State) (n : ℕ) (buffer : List ℕ) (table : List NodeRecord) → HoldsState s n buffer table
        → (take n buffer ≡ plan_bytes (state_plan match s)) × (n ≡ length (plan_bytes (state_plan match s)))
        × Sized buffer table × (table_fits table (ok (state_plan match s)) ≡ true)
    unfolding state_plan plan_bytes machine_length
    state-left nothing n buffer table h = (ap (λ (k : ℕ). take k buffer) h.0, h.0, h.1, unfold table_fits in refl)
    state-left (started F b) n buffer table h =
        (h.1.bytes, h.1.size, h.2, fits-machine laws F b.is_extracted b.is_odd table h.4)
    state-left (projected X o) n buffer table h = (h.1.bytes, unfold odd_length in h.1.size, h.2, fits-odd table X o)

    -- It is read from there, and good.
    pub state-held : (s : State) (n : ℕ) (buffer : List ℕ) (table : List NodeRecord) → HoldsState s n buffer table
        → (held_plan n buffer ≡ ok (state_plan match s)) × GoodPlan (state_plan match s) × (n ≤ length buffer)
    unfolding state_plan plan_nodes plan_bytes
    state-held nothing n buffer table h = (
      ap (λ (k : ℕ). held_plan k buffer) h.0 ∙ empty-held buffer,
      record { readable = tt; few_nodes = omega arith; few_bytes = omega arith },
      omega (arith, h.0),
    )
    state-held (started F b) n buffer table h = (
      held-plan laws F b.is_extracted b.is_odd n buffer h.0 h.1,
      plan-good laws F b.is_extracted b.is_odd h.0,
      h.1.fits,
    )
    state-held (projected X o) n buffer table h = (held-odd X o n buffer h.0 h.1, odd-good X o h.0, h.1.fits)

    -- What one call must give.
    pub record CallAgrees (a : Answered) (o : LoadOutcome) : Type 0 where
      pub answer : o.answer ≡ a.answer
      pub holds : HoldsState a.state o.n o.buffer o.table

    -- A refusal keeps everything.
    refuses : (s : State) (n : ℕ) (buffer : List ℕ) (table : List NodeRecord) (number : ℕ) → HoldsState s n buffer table
        → CallAgrees (refuse_call s number) (record { answer = refused number; n = n; buffer = buffer; table = table })
    unfolding refuse_call
    refuses s n buffer table number h = record { answer = refl; holds = h }

    refuses-too : (s : State) (n : ℕ) (buffer scratch : List ℕ) (table : List NodeRecord) (number : ℕ) → HoldsState s n buffer table
        → CallAgrees (refuse_call s number) (merged_to n buffer scratch table (refused number))
    unfolding with_table finish filled_by
    refuses-too s n buffer scratch table number h = refuses s n buffer table number h

    -- A good frame that fits is started from.
    starts : (M : Frame) (buffer : List ℕ) (table : List NodeRecord) → GoodPlan (held M) → length (frame_bytes M) ≤ length buffer
        → nodes M.expr ≤ length table → Sized buffer table
        → CallAgrees (start_at M) (record {
          answer = ok (length (frame_bytes M));
          n = length (frame_bytes M);
          buffer = written_over (frame_bytes M) buffer;
          table = filled_by (ok M) table;
        })
    unfolding start_at filled_by
    starts M buffer table g fits enough e =
        let s = written_held match M (frame_bytes M) buffer table refl g fits in
        record {
          answer = refl;
          holds = (
            g,
            subst (λ (x : List ℕ). Holds laws M fresh (length (frame_bytes M)) x) s.2
                (subst (λ (k : ℕ). Holds laws M fresh k s.0.buffer) s.1 (session-holds laws s.0)),
            (
              (over-same (frame_bytes M) buffer fits).as_many ∙ e.0,
              (over-same (node_table M) table (omega (arith, (table-nests-by M).0, enough))).as_many ∙ e.1,
            ),
            omega (arith, fits, e.0),
            subst (Tabled laws M) s.3 s.0.filled,
          );
        }

    -- ---- load

    load-by : (s : State) (n : ℕ) (buffer : List ℕ) (table : List NodeRecord) (F : Frame) → HoldsState s n buffer table → GoodPlan (held F)
        → (t u : Bool) → leb (length (frame_bytes F)) (length buffer) ≡ t → leb (nodes F.expr) (length table) ≡ u
        → CallAgrees (if t then (if u then start_at F else refuse_call s 17) else refuse_call s 9)
        (finish_load (frame_bytes F) n buffer table (if t then (if u then ok F else refused 17) else refused 9))
    unfolding finish_load
    load-by s n buffer table F h g true true t u =
        starts F buffer table g (leb-true _ _ t) (leb-true _ _ u) (sized s n buffer table h)
    load-by s n buffer table F h g true false t u = unfold filled_by in refuses s n buffer table 17 h
    load-by s n buffer table F h g false u t v = unfold filled_by in refuses s n buffer table 9 h

    load-agrees : (s : State) (n : ℕ) (buffer : List ℕ) (table : List NodeRecord) (frame : List ℕ) → AllBytes frame
        → HoldsState s n buffer table → (r : Result Frame) → frame_of frame ≡ r
        → CallAgrees (load_call room places s r) (finish_load frame n buffer table (new_after_load frame (length buffer) (length table) r))
    unfolding load_call start_in new_after_load tabled
    load-agrees s n buffer table frame bytes h (refused number) e = unfold finish_load filled_by in refuses s n buffer table number h
    load-agrees s n buffer table frame bytes h (ok F) e =
        let back = frame_back frame F bytes e in
        let size = sized s n buffer table h in
        rw (back.0, size.0, size.1)
        (load-by s n buffer table F h back.1 (leb (length (frame_bytes F)) room) (leb (nodes F.expr) places)
        (ap (leb (length (frame_bytes F))) size.0) (ap (leb (nodes F.expr)) size.1))

    -- ---- nothing held

    fits-nothing : (buffer : List ℕ) (table : List NodeRecord) → table_fits table (held_plan 0 buffer) ≡ true
    unfolding table_fits
    fits-nothing buffer table = ap (table_fits table) (empty-held buffer)

    make-nothing : (k : Kind) (buffer scratch : List ℕ) (table : List NodeRecord) → Sized buffer table
        → CallAgrees (refuse_call nothing 11) (but_scratch (make_by match k 0 buffer scratch table) table)
    unfolding make_by exchange new_after_extract_by new_after_exchange
    make-nothing extract_call buffer scratch table e =
        rw (extract-filled-by match 0 buffer scratch table (fits-nothing buffer table))
        (unfold extract_filled_by finish in rw (empty-held buffer) (refuses nothing 0 buffer table 11 (refl, e)))
    make-nothing exchange_call buffer scratch table e = unfold finish in
        rw (empty-held buffer) (refuses nothing 0 buffer table 11 (refl, e))

    -- ---- extract and exchange

    make-started : (F : Frame) (b : Bits) (n : ℕ) (buffer : List ℕ) (table : List NodeRecord) (c : Made)
        → HoldsState (started F b) n buffer table
        → CallAgrees (make_call match (started F b) c) (but_scratch (make_by match c.kind n buffer c.scratch table) table)
    unfolding make_call
    make-started F b n buffer table c h =
        let a : Agrees laws F (machine_step match F b c.kind (length c.scratch)) (make_by match c.kind n buffer c.scratch table) =
        step-agrees laws F b c.kind n buffer c.scratch table h.0 h.4 h.1 in
        let b' : Bits = (machine_step match F b c.kind (length c.scratch)).bits in
        let short : machine_length match F b' ≤ length (frame_bytes F) = machine-short F b'.is_extracted b'.is_odd h.0 in
        let fits : (make_by match c.kind n buffer c.scratch table).n ≤ length buffer =
        omega (arith, a.holds.size, short, h.2.0, h.3) in
        record {
          answer = a.answer;
          holds = (h.0, a.holds, (make-length c.kind n buffer c.scratch table fits ∙ h.2.0, h.2.1), h.3, h.4);
        }

    -- ---- merge

    module _ (s : State) (n : ℕ) (buffer scratch : List ℕ) (table : List NodeRecord) (h : HoldsState s n buffer table) where
      merged_by : (M : Frame) → (over_limits M ≡ false → GoodPlan (held M)) → (over t u : Bool) → over_limits M ≡ over
          → (leb n (length scratch) && leb (length (frame_bytes M)) (length buffer)) ≡ t → leb (nodes M.expr) (length table) ≡ u
          → CallAgrees (if over then refuse_call s 16 else if t then (if u then start_at M else refuse_call s 17) else refuse_call s 9)
          (merged_to n buffer scratch table (if over then refused 16 else if t then (if u then ok M else refused 17) else refused 9))
      unfolding with_table finish
      merged_by M good true t u e f v = refuses-too s n buffer scratch table 16 h
      merged_by M good false false u e f v = refuses-too s n buffer scratch table 9 h
      merged_by M good false true false e f v = refuses-too s n buffer scratch table 17 h
      merged_by M good false true true e f v =
          starts M buffer table (good e)
          (leb-true _ _ (and-both (leb n (length scratch)) (leb (length (frame_bytes M)) (length buffer)) f).1) (leb-true _ _ v)
          (sized s n buffer table h)

      merge-agrees : (frame : List ℕ) → AllBytes frame → (p : Plan) → GoodPlan p → (r : Result Frame) → frame_of frame ≡ r
          → CallAgrees (merge_call n (length scratch) room places s p r)
          (merged_to n buffer scratch table (new_after_merge n (length scratch) (length buffer) (length table) r (ok p)))
      unfolding merge_call new_after_merge merged_call start_in merged_frame tabled
      merge-agrees frame bytes p g (refused number) e = refuses-too s n buffer scratch table number h
      merge-agrees frame bytes empty g (ok new) e = refuses-too s n buffer scratch table 11 h
      merge-agrees frame bytes (extracted X) g (ok new) e = refuses-too s n buffer scratch table 12 h
      merge-agrees frame bytes (held old) g (ok new) e =
          let M : Frame = merge_frames old new in
          let size = sized s n buffer table h in
          rw (size.0, size.1)
          (merged_by M (good-merged old new g (frame_back frame new bytes e).1) (over_limits M)
          (leb n (length scratch) && leb (length (frame_bytes M)) room) (leb (nodes M.expr) places) refl
          (ap (λ (k : ℕ). leb n (length scratch) && leb (length (frame_bytes M)) k) size.0) (ap (leb (nodes M.expr)) size.1))

    -- ---- after a projection

    make-projected : (X : Extraction) (o : Bool) (n : ℕ) (buffer : List ℕ) (table : List NodeRecord) (c : Made)
        → HoldsState (projected X o) n buffer table
        → CallAgrees (make_call match (projected X o) c) (but_scratch (make_by match c.kind n buffer c.scratch table) table)
    unfolding make_call
    make-projected X o n buffer table c h =
        let a : OddAgrees X (odd_step X o c.kind (length c.scratch)) (make_by match c.kind n buffer c.scratch table) =
        odd-step match X h.0 o c.kind n buffer c.scratch table h.1 in
        let o' : Bool = (odd_step X o c.kind (length c.scratch)).is_odd in
        let fits : (make_by match c.kind n buffer c.scratch table).n ≤ length buffer =
        omega (arith, a.holds.size, as-long-odd X o', as-long-odd X o, h.1.size, h.1.fits) in
        record {
          answer = a.answer;
          holds = (h.0, a.holds, (make-length c.kind n buffer c.scratch table fits ∙ h.2.0, h.2.1));
        }

    -- ---- project

    module _ (lists : ChildLists) (s : State) (n : ℕ) (buffer scratch : List ℕ) (table : List NodeRecord)
        (h : HoldsState s n buffer table) where
      refuses-project : (number : ℕ) → CallAgrees (refuse_call s number) (but_scratch (finish n buffer scratch (refused number)) table)
      unfolding finish
      refuses-project number = refuses s n buffer table number h

      projected-by : (X : Extraction) → GoodPlan (extracted X) → n ≡ length (plan_bytes (extracted X)) → n ≤ length buffer
          → (a b c : Bool) → short_lists lists ≡ a
          → let Y : Option Extraction = if c then some (project_extraction lists X) else none in
          CallAgrees (if a then (if b then projected_call s Y else refuse_call s 9) else refuse_call s 19)
          (but_scratch (finish n buffer scratch (if a then (if b then projected_bytes Y else refused 9) else refused 19)) table)
      unfolding projected_call projected_bytes finish odd_length
      projected-by X g size fits false b c e = refuses-project 19
      projected-by X g size fits true false c e = refuses-project 9
      projected-by X g size fits true true false e = refuses-project 20
      projected-by X g size fits true true true e =
          let Y : Extraction = project_extraction lists X in
          let short = both-short lists e in
          let room : odd_length Y false ≤ length buffer =
          omega (arith, as-long-odd Y false, projected-length lists X, size, fits) in
          let size = sized s n buffer table h in
          record {
            answer = refl;
            holds = (
              projected-good lists X short.0 short.1 g,
              odd-written Y false n buffer scratch room,
              (finish-length n buffer scratch (ok (plan_bytes (extracted Y))) room ∙ size.0, size.1),
            );
          }

      project-by : (p : Plan) → GoodPlan p → n ≡ length (plan_bytes p) → n ≤ length buffer
          → CallAgrees (project_call lists n (length scratch) s p)
          (but_scratch (finish n buffer scratch (new_after_project lists n (length scratch) (ok p))) table)
      unfolding project_call new_after_project projection
      project-by empty g size fits = refuses-project 11
      project-by (held F) g size fits = refuses-project 18
      project-by (extracted X) g size fits =
          projected-by X g size fits (short_lists lists) (leb n (length scratch)) (placed lists X) refl

    -- ---- lists

    pub call-agrees : (s : State) (n : ℕ) (buffer : List ℕ) (table : List NodeRecord) (c : Call) → FrameIsBytes c
        → HoldsState s n buffer table
        → CallAgrees (machine_call match room places s c) (one_call_by match n buffer table c)
    unfolding machine_call one_call_by load merge project make_call
    call-agrees s n buffer table (loading frame) bytes h = load-agrees s n buffer table frame bytes h (frame_of frame) refl
    call-agrees nothing n buffer table (making c) bytes h =
        subst (λ (k : ℕ). CallAgrees (refuse_call nothing 11) (but_scratch (make_by match c.kind k buffer c.scratch table) table))
        (sym h.0) (make-nothing c.kind buffer c.scratch table h.1)
    call-agrees (started F b) n buffer table (making c) bytes h = make-started F b n buffer table c h
    call-agrees (projected X o) n buffer table (making c) bytes h = make-projected X o n buffer table c h
    call-agrees s n buffer table (merging frame scratch) bytes h =
        let l = state-left s n buffer table h in
        let k = state-held s n buffer table h in
        rw (k.0, ← l.1) (merge-agrees s n buffer scratch table h frame bytes (state_plan match s) k.1 (frame_of frame) refl)
    call-agrees s n buffer table (projecting scratch of_left of_right) bytes h =
        let lists : ChildLists = record { of_left = of_left; of_right = of_right } in
        let l = state-left s n buffer table h in
        let k = state-held s n buffer table h in
        rw (k.0, ← l.1) (project-by lists s n buffer scratch table h (state_plan match s) k.1 l.1 k.2)

    record AllAgree (m : History) (c : HistoryOutcome) : Type 0 where
      answers : c.answers ≡ m.answers
      holds : HoldsState m.state c.n c.buffer c.table

    history-agrees : (calls : List Call) (s : State) (n : ℕ) (buffer : List ℕ) (table : List NodeRecord) → FramesAreBytes calls
        → HoldsState s n buffer table → AllAgree (machine_history match room places s calls) (history_by match n buffer table calls)
    unfolding machine_history history_by
    history-agrees [] s n buffer table bytes h = record { answers = refl; holds = h }
    history-agrees (c ∷ cs) s n buffer table bytes h =
        let one : CallAgrees (machine_call match room places s c) (one_call_by match n buffer table c) =
        call-agrees s n buffer table c bytes.0 h in
        let after : AllAgree (machine_history match room places (machine_call match room places s c).state cs) _ =
        history-agrees cs _ _ _ _ bytes.1 one.holds in
        record { answers = ap₂ (λ (a : Result ℕ) (l : List (Result ℕ)). a ∷ l) one.answer after.answers; holds = after.holds }

  pub history-of : HistoryOfCallsBy match
  history-of buffer table calls bytes =
      let m : History = machine_history match (length buffer) (length table) nothing calls in
      let o : HistoryOutcome = history_by match 0 buffer table calls in
      let a : AllAgree (length buffer) (length table) m o =
      history-agrees (length buffer) (length table) calls nothing 0 buffer table bytes (refl, (refl, refl)) in
      let l = state-left (length buffer) (length table) m.state o.n o.buffer o.table a.holds in
      (a.answers, l.0, l.1, l.2.0, l.2.1, l.3)
