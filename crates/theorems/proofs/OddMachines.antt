-- From an extraction that is held, any list of calls gives the answers of the machine with the odd bit alone, and leaves its plan.
use Rattle.std.specs.Prelude.{if◌then◌else◌}
use Prim.Native.Nat.{ℕ, ◌≤◌}
use native.Mathlib.Omega.{arith}
use mathlib.Core.Path.{◌≡◌, refl, ap, ap₂, ◌∙◌}
use mathlib.Core.Bool.{Bool, true, false, not}
use mathlib.Core.List.{List, [], ◌∷◌, map}
use lib.ListN.{length, take, drop, length-append}
use lib.Seq.{take-append_seam}
use lib.Dec.{leb}
use borrow.Author.Tests.{le-leb}
use Rattle.definitions.specs.Words.Basics.{Result, ok, refused}
use Rattle.definitions.specs.Words.Expression.{Extraction, extracted}
use Rattle.definitions.specs.Bytes.Encode.{plan_bytes}
use Rattle.definitions.specs.Bytes.Plans.{plan_of}
use Rattle.definitions.specs.Filter.Extract.{Matcher}
use Rattle.definitions.specs.Filter.Exchange.{exchange_plan, extracted_plan}
use Rattle.definitions.specs.Calls.Base.{Outcome, written_over, finish, held_plan, exchange, extract_filled_by, table_fits}
use Rattle.definitions.specs.Lists.Machine.{Kind, extract_call, exchange_call}
use Rattle.definitions.specs.Bytes.Good.{GoodPlan}
use Rattle.definitions.specs.Bytes.NodeTable.{NodeRecord}
use Rattle.definitions.specs.Lists.Sessions.{Made, fed, make_by, ListOutcome, calls_run_by, accepted, is_extract, exchanges_odd}
use Rattle.definitions.specs.Lists.OddMachine.{odd_length, OddStep, odd_step, OddRun, odd_run}
use Rattle.theorems.proofs.Tools.{by-test}
use Rattle.theorems.proofs.Exchange.{plan-twice}
use Rattle.theorems.proofs.ExchangeGood.{plan-as-long, exchange-good}
use Rattle.theorems.proofs.RoundTripPlan.{plan-reads}
use Rattle.theorems.proofs.TablesFit.{extract-filled-by}
use Rattle.theorems.proofs.Lists.{NotEmpty, exchange-bytes, extract-again}
use Rattle.theorems.proofs.Answers.{exchanges, flipped-bit}

-- ---- its plans

not-empty : (X : Extraction) (o : Bool) → NotEmpty (extracted_plan X o)
not-empty X true = tt
not-empty X false = tt

exchanged-plan : (X : Extraction) (o : Bool) → exchange_plan (extracted_plan X o) ≡ extracted_plan X (not o)
unfolding exchange_plan
exchanged-plan X true = plan-twice (extracted X)
exchanged-plan X false = refl

pub odd-good : (X : Extraction) (o : Bool) → GoodPlan (extracted X) → GoodPlan (extracted_plan X o)
unfolding exchange_plan
odd-good X true g = exchange-good (extracted X) g
odd-good X false g = g

-- Any table fits it.
pub fits-odd : (table : List NodeRecord) (X : Extraction) (o : Bool) → table_fits table (ok (extracted_plan X o)) ≡ true
unfolding table_fits
fits-odd table X true = refl
fits-odd table X false = refl

-- n and the buffer hold its plan.
pub record OddHolds (X : Extraction) (odd : Bool) (n : ℕ) (buffer : List ℕ) : Type 0 where
  pub size : n ≡ odd_length X odd
  pub bytes : take n buffer ≡ plan_bytes (extracted_plan X odd)
  pub fits : n ≤ length buffer

pub held-odd : (X : Extraction) (o : Bool) (n : ℕ) (buffer : List ℕ) → GoodPlan (extracted X) → OddHolds X o n buffer
    → held_plan n buffer ≡ ok (extracted_plan X o)
unfolding held_plan
held-odd X o n buffer g h =
    ap (λ (b : Bool). if b then plan_of (take n buffer) else refused 10) (le-leb n (length buffer) h.fits)
    ∙ ap plan_of h.bytes ∙ plan-reads (extracted_plan X o) (odd-good X o g)

-- ---- one call

-- What one call must give.
pub record OddAgrees (X : Extraction) (s : OddStep) (o : Outcome) : Type 0 where
  pub answer : o.answer ≡ s.answer
  pub holds : OddHolds X s.is_odd o.n o.buffer

-- A new plan that fits is written.
pub odd-written : (X : Extraction) (o : Bool) (n : ℕ) (buffer scratch : List ℕ) → odd_length X o ≤ length buffer
    → OddHolds X o (finish n buffer scratch (ok (plan_bytes (extracted_plan X o)))).n
    (finish n buffer scratch (ok (plan_bytes (extracted_plan X o)))).buffer
unfolding finish written_over odd_length
odd-written X o n buffer scratch f =
    let new : List ℕ = plan_bytes (extracted_plan X o) in
    record { size = refl; bytes = take-append_seam new (drop (length new) buffer); fits = simp length-append (omega arith) }

-- Exchanged or not, it is as long.
pub as-long-odd : (X : Extraction) (o : Bool) → odd_length X o ≡ length (plan_bytes (extracted X))
unfolding odd_length exchange_plan
as-long-odd X true = plan-as-long (extracted X)
as-long-odd X false = refl

by-room : (X : Extraction) (o : Bool) (n : ℕ) (buffer scratch : List ℕ) (t : Bool) → OddHolds X o n buffer
    → odd_length X (not o) ≤ length buffer
    → OddAgrees X
    (if t then record { answer = ok (odd_length X (not o)); is_odd = not o } else record { answer = refused 9; is_odd = o })
    (finish n buffer scratch (if t then ok (plan_bytes (extracted_plan X (not o))) else refused 9))
unfolding finish odd_length
by-room X o n buffer scratch true h f = record { answer = refl; holds = odd-written X (not o) n buffer scratch f }
by-room X o n buffer scratch false h f = record { answer = refl; holds = h }

module _ (match : Matcher) (X : Extraction) (g : GoodPlan (extracted X)) where
  twelve : (o : Bool) (n : ℕ) (buffer scratch : List ℕ) → OddHolds X o n buffer
      → OddAgrees X (record { answer = refused 12; is_odd = o }) (extract_filled_by match n buffer scratch)
  unfolding extract_filled_by finish
  twelve o n buffer scratch h =
      rw (held-odd X o n buffer g h, extract-again match n (length scratch) X o) (record { answer = refl; holds = h })

  pub odd-step : (o : Bool) (k : Kind) (n : ℕ) (buffer scratch : List ℕ) (table : List NodeRecord) → OddHolds X o n buffer
      → OddAgrees X (odd_step X o k (length scratch)) (make_by match k n buffer scratch table)
  unfolding make_by exchange odd_step
  odd-step o extract_call n buffer scratch table h =
      rw (extract-filled-by match n buffer scratch table (ap (table_fits table) (held-odd X o n buffer g h) ∙ fits-odd table X o))
      (twelve o n buffer scratch h)
  odd-step o exchange_call n buffer scratch table h =
      rw (
        held-odd X o n buffer g h,
        exchange-bytes n (length scratch) (extracted_plan X o) (not-empty X o),
        exchanged-plan X o,
        ← h.size,
      )
      (by-room X o n buffer scratch (leb n (length scratch)) h (omega (arith, as-long-odd X o, as-long-odd X (not o), h.size, h.fits)))

  -- ---- lists of calls

  -- What a list of calls must give.
  pub record OddAgreesAll (m : OddRun) (c : ListOutcome) : Type 0 where
    pub answers : c.answers ≡ m.answers
    pub holds : OddHolds X m.is_odd c.n c.buffer

  pub odd-run : (table : List NodeRecord) (calls : List Made) (o : Bool) (n : ℕ) (buffer : List ℕ) → OddHolds X o n buffer
      → OddAgreesAll (odd_run X o (map fed calls)) (calls_run_by match n buffer table calls)
  unfolding odd_run calls_run_by fed
  odd-run table [] o n buffer h = record { answers = refl; holds = h }
  odd-run table (c ∷ cs) o n buffer h =
      let one : OddAgrees X (odd_step X o c.kind (length c.scratch)) (make_by match c.kind n buffer c.scratch table) =
      odd-step o c.kind n buffer c.scratch table h in
      let after : OddAgreesAll (odd_run X (odd_step X o c.kind (length c.scratch)).is_odd (map fed cs)) _ =
      odd-run table cs _ _ _ one.holds in
      record { answers = ap₂ (λ (a : Result ℕ) (l : List (Result ℕ)). a ∷ l) one.answer after.answers; holds = after.holds }

-- ---- its bit, read off the answers

step-bit : (X : Extraction) (o : Bool) (k : Kind) (room : ℕ)
    → (odd_step X o k room).is_odd ≡ (if exchanges k (odd_step X o k room).answer then not o else o)
unfolding odd_step is_extract accepted
step-bit X o extract_call room = refl
step-bit X o exchange_call room =
    by-test (λ (s : OddStep). s.is_odd ≡ (if exchanges exchange_call s.answer then not o else o)) (leb (odd_length X o) room) _ _
    (λ _. refl) (λ _. refl)

run-bit : (X : Extraction) (o : Bool) (calls : List Made)
    → (odd_run X o (map fed calls)).is_odd ≡ (if exchanges_odd calls (odd_run X o (map fed calls)).answers then not o else o)
unfolding odd_run fed exchanges_odd
run-bit X o [] = refl
run-bit X o (c ∷ cs) =
    let s : OddStep = odd_step X o c.kind (length c.scratch) in
    let later : Bool = exchanges_odd cs (odd_run X s.is_odd (map fed cs)).answers in
    run-bit X s.is_odd cs
    ∙ ap (λ (b : Bool). if later then not b else b) (step-bit X o c.kind (length c.scratch))
    ∙ flipped-bit o (exchanges c.kind s.answer) later

pub bit-told : (X : Extraction) (calls : List Made)
    → (odd_run X false (map fed calls)).is_odd ≡ exchanges_odd calls (odd_run X false (map fed calls)).answers
bit-told X calls = run-bit X false calls ∙ from_false (exchanges_odd calls (odd_run X false (map fed calls)).answers) where
  from_false : (f : Bool) → (if f then true else false) ≡ f
  from_false true = refl
  from_false false = refl
