-- A projection leaves an extraction as long as before, so any list after it is the machine's with the odd bit alone; each exchange
-- exchanges the values of the new columns, and before the projection the plan had the frame's value.
use Rattle.std.specs.Prelude.{if◌then◌else◌}
use Prim.Native.Nat.{ℕ}
use native.Mathlib.Omega.{arith}
use mathlib.Core.Path.{◌≡◌, refl, sym, ap, ◌∙◌, subst, fun_ext}
use mathlib.Core.Bool.{Bool, true, false}
use mathlib.Core.List.{List, map}
use mathlib.Core.Option.{none, some}
use Rattle.definitions.specs.Words.Basics.{Result, ok}
use Rattle.definitions.specs.Words.Expression.{Side, Frame, Extraction, held, extracted}
use Rattle.definitions.specs.Bytes.Encode.{plan_bytes}
use Rattle.definitions.specs.Bytes.Plans.{plan_of}
use Rattle.definitions.specs.Filter.Extract.{Matcher}
use Rattle.definitions.specs.Filter.Exchange.{exchange_plan, extracted_plan}
use Rattle.definitions.specs.Calls.Base.{Outcome, finish}
use Rattle.definitions.specs.Lists.Machine.{Bits, machine_plan}
use Rattle.definitions.specs.Bytes.Good.{GoodPlan}
use Rattle.definitions.specs.Bytes.NodeTable.{NodeRecord}
use Rattle.definitions.specs.Lists.Sessions.{Made, fed, ListOutcome, accepted, exchanges_odd, after, plan_left}
use Rattle.definitions.specs.Meaning.Values.{Valuation, Meaning, frame_value, extraction_value, plan_value, exchanged_values}
use Rattle.definitions.specs.Meaning.Matchers.{Lawful, Symmetric}
use Rattle.definitions.specs.Claims.Values.{values_when}
use Rattle.definitions.specs.Filter.Project.{ChildLists, project_extraction, projection}
use Rattle.definitions.specs.Lists.OddMachine.{odd_length, odd_run}
use Rattle.definitions.specs.Claims.Project.{Projects, project_by, OddAgree, calls_from, odd_from, ValueFrom, ListAfterProjection, ListProjectedBy}
use Rattle.theorems.proofs.Exchange.{negate-negate}
use Rattle.theorems.proofs.RoundTripPlan.{plan-reads}
use Rattle.theorems.proofs.InverseFrame.{same_ok}
use Rattle.theorems.proofs.Lists.{Holds, held-plan, plan-good}
use Rattle.theorems.proofs.ListTheorem.{after-all}
use Rattle.theorems.proofs.Answers.{told, bits-told}
use Rattle.theorems.proofs.Truth.{plan-exchange-value, machine-value}
use Rattle.theorems.proofs.Projected.{projected-value}
use Rattle.theorems.proofs.ProjectedGood.{projected-length, projected-good}
use Rattle.theorems.proofs.ProjectCall.{HeldFirst, held-size, held_first, projects, projected}
use Rattle.theorems.proofs.OddMachines.{OddHolds, OddAgreesAll, odd-good, odd-written, odd-run, bit-told}

odd-value : (M : Meaning) → Symmetric M → (w : Valuation) (Y : Extraction) (o : Bool)
    → plan_value M w (extracted_plan Y o) ≡ extraction_value M (values_when o w) Y
unfolding plan_value exchange_plan
odd-value M turns w Y true = plan-exchange-value M turns w (extracted Y)
odd-value M turns w Y false = refl

-- ---- after a projection of X

module _ (match : Matcher) (lists : ChildLists) (n : ℕ) (buffer scratch : List ℕ) (table : List NodeRecord) (X : Extraction)
    (p : Projects lists n buffer scratch X) (h : HeldFirst n buffer X) where
  abbrev Y : Extraction
  Y = project_extraction lists X

  abbrev o : Outcome
  o = project_by lists n buffer scratch

  new-good : GoodPlan (extracted Y)
  new-good = projected-good lists X p.short_left p.short_right h.good

  new-size : odd_length Y false ≡ n
  unfolding odd_length
  new-size = projected-length lists X ∙ sym h.size

  new-answer : o.answer ≡ ok n
  unfolding finish odd_length
  new-answer = ap (λ (x : Outcome). x.answer) (projected lists n buffer scratch X p) ∙ ap {B = Result ℕ} ok new-size

  new-holds : OddHolds Y false o.n o.buffer
  new-holds =
      subst (λ (x : Outcome). OddHolds Y false x.n x.buffer) (sym (projected lists n buffer scratch X p))
      (odd-written Y false n buffer scratch (omega (arith, new-size, h.fits)))

  module _ (calls : List Made) where
    after-projection : OddAgreesAll match Y new-good (odd_run Y false (map fed calls)) (calls_from match o table calls)
    after-projection = odd-run match Y new-good table calls false o.n o.buffer new-holds

    odd-agrees : OddAgree Y (calls_from match o table calls) (odd_run Y false (map fed calls))
    odd-agrees = record {
      answers = after-projection.answers;
      plan = after-projection.holds.bytes;
      size = after-projection.holds.size;
    }

    abbrev odd : Bool
    odd = odd_from match o table calls

    reads_as : plan_of (plan_left (calls_from match o table calls)) ≡ ok (extracted_plan Y odd)
    reads_as =
        let bit : (odd_run Y false (map fed calls)).is_odd ≡ odd =
        bit-told Y calls ∙ ap (exchanges_odd calls) (sym after-projection.answers) in
        ap plan_of (after-projection.holds.bytes ∙ ap (λ (b : Bool). plan_bytes (extracted_plan Y b)) bit)
        ∙ plan-reads (extracted_plan Y odd) (odd-good Y odd new-good)

    value_after : (M : Meaning) → Symmetric M → (v w : Valuation) → ValueFrom match o table calls lists M v w (extraction_value M v X)
    value_after M turns v w new =
        (extracted_plan Y odd, reads_as, odd-value M turns w Y odd ∙ projected-value lists v (values_when odd w) new M X p.found)

pub list-after-project : ListAfterProjection
unfolding projection
list-after-project match lists n buffer scratch table bytes a =
    let (X, p) = projects lists n buffer scratch a in
    let h : HeldFirst n buffer X = held_first n buffer X bytes p.holds in (
      X,
      project_extraction lists X,
      p.holds,
      ap (λ (b : Bool). if b then some (project_extraction lists X) else none) p.found,
      new-answer match lists n buffer scratch table X p h,
      odd-agrees match lists n buffer scratch table X p h,
      λ M turns v w calls. value_after match lists n buffer scratch table X p h calls M turns v w,
    )

-- ---- from a frame

exchanged-twice : (v : Valuation) → exchanged_values (exchanged_values v) ≡ v
unfolding exchanged_values
exchanged-twice v = fun_ext (λ (s : Side). ap v (negate-negate s))

-- Values exchanged as often as the machine's plan was, are those of the frame.
values-back : (o : Bool) (v : Valuation) → values_when o (values_when o v) ≡ v
values-back true v = exchanged-twice v
values-back false v = refl

module _ {match : Matcher} {Asks : Meaning → Type 0} (laws : Lawful match Asks) where
  -- What the plan had before the projection.
  old_value : (M : Meaning) → Symmetric M → (v : Valuation) (F : Frame) (b : Bits) (X : Extraction) → Asks M
      → GoodPlan (held F) → machine_plan match F b ≡ extracted X
      → extraction_value M (values_when b.is_odd v) X ≡ frame_value M v F
  unfolding plan_value
  old_value M turns v F b X asked good same =
      ap (plan_value M (values_when b.is_odd v)) (sym same)
      ∙ machine-value laws M turns (values_when b.is_odd v) F asked good.readable.expr.in_range b.is_extracted b.is_odd
      ∙ ap (λ (u : Valuation). frame_value M u F) (values-back b.is_odd v)

  -- With the machine's plan before the projection known.
  module _ (M : Meaning) (turns : Symmetric M) (v w : Valuation) (F : Frame) (asked : Asks M) (good : GoodPlan (held F))
      (b : Bits) (n : ℕ) (buffer : List ℕ) (h : Holds laws F b n buffer) (lists : ChildLists) (scratch : List ℕ) (table : List NodeRecord)
      (later : List Made) where
    from-held : (X : Extraction) → Projects lists n buffer scratch X → machine_plan match F b ≡ extracted X
        → ValueFrom match (project_by lists n buffer scratch) table later lists M (values_when b.is_odd v) w (frame_value M v F)
    from-held X p same new =
        let bytes = h.bytes ∙ ap plan_bytes same in
        let k : HeldFirst n buffer X = record {
          good = subst GoodPlan same (plan-good laws F b.is_extracted b.is_odd good);
          size = held-size n buffer X bytes h.fits;
          bytes = bytes;
          fits = h.fits;
        } in
        let (q, reads, is) = value_after match lists n buffer scratch table X p k later M turns (values_when b.is_odd v) w new in
        (q, reads, is ∙ old_value M turns v F b X asked good same)

    from-machine : accepted (project_by lists n buffer scratch).answer ≡ true
        → ValueFrom match (project_by lists n buffer scratch) table later lists M (values_when b.is_odd v) w (frame_value M v F)
    from-machine a =
        let (X, p) = projects lists n buffer scratch a in
        from-held X p (same_ok _ _ (sym (held-plan laws F b.is_extracted b.is_odd n buffer good h) ∙ p.holds))

  pub list-projected : ListProjectedBy match Asks
  list-projected M turns v w F s asked before lists scratch table later a new =
      let now : ListOutcome = after s before in
      from-machine M turns v w F asked s.good (told s before) now.n now.buffer
      (subst (λ (x : Bits). Holds laws F x now.n now.buffer) (bits-told laws s before) (after-all laws s before).holds)
      lists scratch table later a new
