-- The walks that a host reads off (request 10): none after a projection, and in every history the machine's.
use Prim.Native.Nat.{ℕ}
use mathlib.Core.Path.{◌≡◌, refl, sym, ap, ap₂, ◌∙◌, subst}
use mathlib.Core.Bool.{Bool}
use mathlib.Core.List.{List, [], ◌∷◌, map}
use lib.IntN.{ℤ}
use lib.ListN.{length}
use Rattle.definitions.specs.Words.Basics.{Result}
use Rattle.definitions.specs.Words.Expression.{Extraction}
use Rattle.definitions.specs.Calls.Base.{LoadOutcome, Outcome}
use Rattle.definitions.specs.Lists.Machine.{Kind, extract_call, exchange_call}
use Rattle.definitions.specs.Bytes.NodeTable.{NodeRecord}
use Rattle.definitions.specs.Lists.Sessions.{Made, extract_with, fed, make_by, walk_by}
use Rattle.definitions.specs.Filter.Settings.{Settings, match_under, GoodSettings}
use Rattle.definitions.specs.Meaning.Values.{FairUnder}
use Rattle.definitions.specs.Lists.Settings.{make_under, walk_under}
use Rattle.definitions.specs.Meaning.Matchers.{Lawful}
use Rattle.definitions.specs.Calls.Merge.{MergeOutcome}
use Rattle.definitions.specs.Lists.OddMachine.{odd_step, odd_run}
use Rattle.definitions.specs.Lists.History.{Call, loading, making, merging, projecting, State, nothing, started, projected, refuse_call, make_call, machine_call, machine_history, one_call_by, FramesAreBytes}
use Rattle.host_calls.specs.Hosts.{hosted}
use Rattle.theorems.proofs.SettingsLaws.{settings-laws}
use Rattle.theorems.proofs.SettingsClaimed.{same-make, same-carried}
use Rattle.theorems.proofs.Lists.{step-walk}
use Rattle.theorems.proofs.Histories.{HoldsState, CallAgrees, call-agrees}
use Rattle.theorems.proofs.Proved.{walk-carried}
use Rattle.call_answers.specs.Outcomes.{answer_of}
use Rattle.call_answers.specs.Lists.{Lent, CallIs, Ran, no_call, called, given, carried}
use Rattle.call_answers.specs.declared.answers.Extracted.{Extracted}
use Rattle.node_table.specs.Records.{nodes_of}
use Rattle.host_lists.specs.Numbers.{made_number, carried_by, number_by, walks_by, numbers_by}
use Rattle.host_lists.specs.HostLists.{Host, HostCall, HostRan, made_none, made_one, made_walk, state_walk, machine_walks}
use Rattle.host_lists.proofs.Numbers.{without-walk}
use Rattle.host_lists.proofs.Ran.{lent_of, made-is, OneIs, one-is}

-- ---- numbers without a walk

made-alone : (kind : Kind) (a : Result ℕ) → made_number kind 0 a ≡ hosted a
made-alone extract_call a = without-walk a
made-alone exchange_call a = refl

pub numbers-alone : (X : Extraction) (calls : List Made) (odd : Bool)
    → numbers_by (map making calls) (map (λ c. 0) calls) (odd_run X odd (map fed calls)).answers
    ≡ map hosted (odd_run X odd (map fed calls)).answers
unfolding odd_run fed
numbers-alone X [] odd = refl
numbers-alone X (c ∷ calls) odd =
    ap₂ (λ (z : ℤ) (l : List ℤ). z ∷ l) (made-alone c.kind (odd_step X odd c.kind (length c.scratch)).answer)
    (numbers-alone X calls (odd_step X odd c.kind (length c.scratch)).is_odd)

module _ (S : Settings) (g : GoodSettings S) where
  abbrev laws : Lawful (match_under S) (FairUnder S)
  laws = settings-laws S g

  -- ---- after a projection

  -- An extract is refused with 12 then.
  alone-by : (kind : Kind) (X : Extraction) (odd : Bool) (n : ℕ) (buffer scratch : List ℕ) (table : List NodeRecord)
      → (make_by (match_under S) kind n buffer scratch table).answer ≡ (odd_step X odd kind (length scratch)).answer
      → walk_by (match_under S) kind n buffer scratch table ≡ 0
  unfolding make_by walk_by odd_step
  alone-by extract_call X odd n buffer scratch table e = (walk-carried (match_under S) n buffer scratch table).2 12 e refl
  alone-by exchange_call X odd n buffer scratch table e = refl

  step-alone : (kind : Kind) (X : Extraction) (odd : Bool) (n : ℕ) (buffer scratch : List ℕ) (table : List NodeRecord)
      → (make_under S kind n buffer scratch table).answer ≡ (odd_step X odd kind (length scratch)).answer
      → walk_under S kind n buffer scratch table ≡ 0
  step-alone kind X odd n buffer scratch table e =
      same-carried S g.good kind n buffer scratch table
      ∙ alone-by kind X odd n buffer scratch table
      (sym (ap (λ (o : Outcome). o.answer) (same-make S g.good kind n buffer scratch table)) ∙ e)

  pub none-carried : (X : Extraction) (calls : List Made) (odd : Bool) {b last : Lent} {answers : List Extracted}
      → Ran S b (map making calls) answers last → given answers ≡ (odd_run X odd (map fed calls)).answers
      → carried answers ≡ map (λ c. 0) calls
  unfolding odd_run fed
  none-carried X [] odd no_call e = refl
  none-carried X (c ∷ calls) odd (called {b} {a} {r = r} {answers = answers} is more) e =
      let room : ℕ = length c.scratch in
      let first : answer_of r.answer ≡ (odd_step X odd c.kind room).answer = cc in
      let later : given answers ≡ (odd_run X (odd_step X odd c.kind room).is_odd (map fed calls)).answers = cc in
      ap₂ (λ (w : ℕ) (l : List ℕ). w ∷ l)
      (is.4 ∙ step-alone c.kind X odd b.n b.buffer c.scratch b.table (ap (λ (o : Outcome). o.answer) is.1 ∙ first))
      (none-carried X calls (odd_step X odd c.kind room).is_odd more later)

  -- ---- in every history

  -- The definitions' call, given what the first host owns, leaves what the second owns.
  call-left : (b : Host) (c : Call) (a : Host) (r : Extracted) → CallIs S (lent_of b) c (lent_of a) r
      → one_call_by (match_under S) b.n b.plan (nodes_of b.table) c
      ≡ record { answer = answer_of r.answer; n = a.n; buffer = a.plan; table = nodes_of a.table }
  unfolding one_call_by
  call-left b (loading frame) a r is = is.0 b.n ∙ rw is.1 refl
  call-left b (making c) a r is =
      ap (λ (o : Outcome). record { answer = o.answer; n = o.n; buffer = o.buffer; table = nodes_of b.table })
      (sym (same-make S g.good c.kind b.n b.plan c.scratch (nodes_of b.table)) ∙ is.1)
      ∙ rw (is.2, is.3) refl
  call-left b (merging frame scratch) a r is =
      ap (λ (o : MergeOutcome). record { answer = o.answer; n = o.n; buffer = o.buffer; table = o.table }) is.1 ∙ rw is.2 refl
  call-left b (projecting scratch of_left of_right) a r is =
      ap (λ (o : Outcome). record { answer = o.answer; n = o.n; buffer = o.buffer; table = nodes_of b.table }) is.1
      ∙ rw (is.2, is.3) refl

  module _ (room places : ℕ) where
    -- What a host owns stands for a state of the machine.
    abbrev Stands : State → Host → Type 0
    Stands s h = HoldsState laws room places s h.n h.plan (nodes_of h.table)

    -- With nothing held an extract is refused with 11, after a projection with 12.
    made-walk : (s : State) (kind : Kind) (b : Host) (scratch : List ℕ) → Stands s b
        → walk_by (match_under S) kind b.n b.plan scratch (nodes_of b.table) ≡ made_walk S s (record { kind = kind; scratch = scratch })
    unfolding make_by walk_by one_call_by machine_call make_call refuse_call odd_step
    made-walk nothing extract_call b scratch h =
        (walk-carried (match_under S) b.n b.plan scratch (nodes_of b.table)).2 11
        (call-agrees laws room places nothing b.n b.plan (nodes_of b.table) (making (extract_with scratch)) tt h).answer refl
    made-walk nothing exchange_call b scratch h = refl
    made-walk (started F bits) kind b scratch h =
        step-walk laws F bits kind b.n b.plan scratch (nodes_of b.table) h.0 h.4 h.1
    made-walk (projected X odd) extract_call b scratch h =
        (walk-carried (match_under S) b.n b.plan scratch (nodes_of b.table)).2 12
        (call-agrees laws room places (projected X odd) b.n b.plan (nodes_of b.table) (making (extract_with scratch)) tt h
        ).answer refl
    made-walk (projected X odd) exchange_call b scratch h = refl

    walk-told : (s : State) (b : Host) (c : Call) (a : Host) (z : ℤ) → HostCall S b c a z → Stands s b
        → carried_by c z ≡ state_walk S s c
    walk-told s b (loading frame) a z is h = refl
    walk-told s b (making c) a z is h =
        (made-is S g.width c.kind b c.scratch a.plan is.0 z is.1).carries
        ∙ same-carried S g.good c.kind b.n b.plan c.scratch (nodes_of b.table) ∙ made-walk s c.kind b c.scratch h
    walk-told s b (merging frame scratch) a z is h = refl
    walk-told s b (projecting scratch of_left of_right) a z is h = refl

    -- Numbers and walks of a list.
    pub record Told (s : State) (calls : List Call) (numbers : List ℤ) : Type 0 where
      pub numbered : numbers ≡ numbers_by calls (machine_walks S room places s calls)
          (machine_history (match_under S) room places s calls).answers
      pub carries : walks_by calls numbers ≡ machine_walks S room places s calls

    pub history-told : {b last : Host} {calls : List Call} {numbers : List ℤ} → HostRan S b calls numbers last → FramesAreBytes calls
        → (s : State) → Stands s b → Told s calls numbers
    unfolding machine_walks machine_history
    history-told made_none bytes s h = record { numbered = refl; carries = refl }
    history-told (made_one {b} {a} {c = c} {z = z} is more) bytes s h =
        let one : OneIs S b c a z = one-is S g.width b c a z is in
        let agrees : CallAgrees laws room places (machine_call (match_under S) room places s c)
        (one_call_by (match_under S) b.n b.plan (nodes_of b.table) c) =
        call-agrees laws room places s b.n b.plan (nodes_of b.table) c bytes.0 h in
        let left = call-left b c a one.answer one.is in
        let next : State = (machine_call (match_under S) room places s c).state in
        let stands : Stands next a =
        subst (λ (o : LoadOutcome). HoldsState laws room places next o.n o.buffer o.table) left agrees.holds in
        let rest : Told next _ _ = history-told more bytes.1 next stands in
        let carries : carried_by c z ≡ state_walk S s c = walk-told s b c a z is h in record {
          numbered =
              ap₂ (λ (x : ℤ) (l : List ℤ). x ∷ l)
              (one.number
              ∙ ap₂ (number_by c) (sym one.carries ∙ carries) (sym (ap (λ (o : LoadOutcome). o.answer) left) ∙ agrees.answer))
              rest.numbered;
          carries = ap₂ (λ (x : ℕ) (l : List ℕ). x ∷ l) carries rest.carries;
        }
