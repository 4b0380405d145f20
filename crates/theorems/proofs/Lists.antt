-- Any list of calls gives the machine's answers and leaves the machine's plan.
use Rattle.std.specs.Prelude.{if◌then◌else◌}
use Prim.Native.Nat.{ℕ, ◌≤◌}
use native.Mathlib.Omega.{arith}
use mathlib.Core.Path.{◌≡◌, refl, sym, ap, ap₂, ◌∙◌, subst}
use mathlib.Core.Bool.{Bool, true, false, not}
use mathlib.Core.List.{List, [], ◌∷◌, map}
use mathlib.Core.Option
use mathlib.Core.Option.{Option, none, some}
use lib.ListN.{length, take, drop, length-append}
use lib.Seq.{take-append_seam}
use lib.Dec.{leb}
use borrow.Author.Tests.{le-leb}
use Rattle.definitions.specs.Words.Basics.{Result, ok, refused}
use Rattle.definitions.specs.Words.Expression.{Frame, Extraction, Plan, empty, held, extracted}
use Rattle.definitions.specs.Bytes.Encode.{plan_bytes}
use Rattle.definitions.specs.Bytes.Plans.{plan_of}
use Rattle.definitions.specs.Filter.Extract.{Matcher, extraction_by}
use Rattle.definitions.specs.Filter.OneWalk.{walk_length_by}
use Rattle.definitions.specs.Filter.Exchange.{exchange_plan, exchange_frame, exchange_extraction, extracted_plan}
use Rattle.definitions.specs.Calls.Base.{Outcome, written_over, finish, held_plan, new_after_exchange, exchange, matched_bytes, new_after_extract_by, extract_filled_by, table_fits, walked_by, walk_filled_by, extract_walk_by}
use Rattle.definitions.specs.Bytes.NodeTable.{NodeRecord, node_table, begins_with}
use Rattle.definitions.specs.Lists.Machine.{Kind, extract_call, exchange_call, Bits, extraction_or, machine_plan, machine_length, Step, refuse_step, accept_step, with_walk, take_step, machine_step, Run, machine_run}
use Rattle.definitions.specs.Lists.Sessions.{Made, fed, make_by, walk_by, ListOutcome, calls_run_by}
use Rattle.definitions.specs.Bytes.Good.{GoodPlan}
use Rattle.definitions.specs.Meaning.Values.{Meaning}
use Rattle.definitions.specs.Meaning.Matchers.{Lawful}
use Rattle.theorems.proofs.Tools.{by-test}
use Rattle.theorems.proofs.Exchange.{plan-twice}
use Rattle.theorems.proofs.ExtractExchange.{exchanged-by}
use Rattle.theorems.proofs.ExchangeGood.{plan-as-long, exchange-good}
use Rattle.theorems.proofs.ExtractGood.{GoodExtraction, good-by}
use Rattle.theorems.proofs.RoundTripPlan.{plan-reads}
use Rattle.theorems.proofs.Walks.{walk-exchanged-by}
use Rattle.theorems.proofs.TablesFit.{extract-filled-by, fits-exchanged, fits-base}

-- The bits of the machine.
abbrev pub bits : Bool → Bool → Bits
bits e o = record { is_extracted = e; is_odd = o }

-- ---- plans, whatever the matcher

or-none : (p : Plan) (x : Option Extraction) (X : Extraction) → x ≡ some X → extraction_or p x ≡ extracted X
unfolding extraction_or
or-none p x X e = ap (extraction_or p) e

base-good : (F : Frame) (x : Option Extraction) → GoodPlan (held F) → GoodExtraction F x → GoodPlan (extraction_or (held F) x)
unfolding extraction_or
base-good F none g h = g
base-good F (some X) g h = h.0

abbrev pub NotEmpty : Plan → Type 0
NotEmpty empty = ⊥
NotEmpty (held F) = Unit {0}
NotEmpty (extracted X) = Unit {0}

base-not-empty : (F : Frame) (x : Option Extraction) → NotEmpty (extraction_or (held F) x)
unfolding extraction_or
base-not-empty F none = tt
base-not-empty F (some X) = tt

exchange-not-empty : (p : Plan) → NotEmpty p → NotEmpty (exchange_plan p)
unfolding exchange_plan
exchange-not-empty empty h = h
exchange-not-empty (held F) h = tt
exchange-not-empty (extracted X) h = tt

pub exchange-bytes : (n room : ℕ) (p : Plan) → NotEmpty p
    → new_after_exchange n room (ok p) ≡ (if leb n room then ok (plan_bytes (exchange_plan p)) else refused 9)
unfolding new_after_exchange
exchange-bytes n room empty h = absurd h
exchange-bytes n room (held F) h = refl
exchange-bytes n room (extracted X) h = refl

-- An extracted plan is refused with 12.
pub extract-again : (match : Matcher) (n room : ℕ) (X : Extraction) (o : Bool)
    → new_after_extract_by match n room (ok (extracted_plan X o)) ≡ refused 12
unfolding new_after_extract_by
extract-again match n room X true = refl
extract-again match n room X false = refl

-- ---- with a lawful matcher

module _ {match : Matcher} {Asks : Meaning → Type 0} (laws : Lawful match Asks) where
  -- The extracted bit is 1 only where the frame has an extraction.
  abbrev pub Reached : Frame → Bool → Type 0
  Reached F true = (X : Extraction) × (extraction_by match F ≡ some X)
  Reached F false = Unit {0}

  -- n and the buffer hold the machine's plan.
  pub record Holds (F : Frame) (b : Bits) (n : ℕ) (buffer : List ℕ) : Type 0 where
    pub reached : Reached F b.is_extracted
    pub size : n ≡ machine_length match F b
    pub bytes : take n buffer ≡ plan_bytes (machine_plan match F b)
    pub fits : n ≤ length buffer

  -- ---- the machine's plans

  pub plan-extracted : (F : Frame) (X : Extraction) (o : Bool) → extraction_by match F ≡ some X
      → machine_plan match F (bits true o) ≡ (if o then extracted (exchange_extraction X) else extracted X)
  unfolding machine_plan exchange_plan
  plan-extracted F X true e = ap exchange_plan (or-none (held F) (extraction_by match F) X e)
  plan-extracted F X false e = or-none (held F) (extraction_by match F) X e

  pub plan-held : (F : Frame) (o : Bool) → machine_plan match F (bits false o) ≡ (if o then held (exchange_frame F) else held F)
  unfolding machine_plan exchange_plan
  plan-held F true = refl
  plan-held F false = refl

  exchange-plan : (F : Frame) (e o : Bool) → exchange_plan (machine_plan match F (bits e o)) ≡ machine_plan match F (bits e (not o))
  unfolding machine_plan
  exchange-plan F true true = plan-twice (extraction_or (held F) (extraction_by match F))
  exchange-plan F true false = refl
  exchange-plan F false true = plan-twice (held F)
  exchange-plan F false false = refl

  pub plan-good : (F : Frame) (e o : Bool) → GoodPlan (held F) → GoodPlan (machine_plan match F (bits e o))
  unfolding machine_plan
  plan-good F true true g = exchange-good _ (base-good F (extraction_by match F) g (good-by laws F g))
  plan-good F true false g = base-good F (extraction_by match F) g (good-by laws F g)
  plan-good F false true g = exchange-good _ g
  plan-good F false false g = g

  -- ---- one call

  plan-size : (F : Frame) (b : Bits) (n : ℕ) (buffer : List ℕ) → Holds F b n buffer → n ≡ length (plan_bytes (machine_plan match F b))
  unfolding machine_length
  plan-size F b n buffer h = h.size

  pub held-plan : (F : Frame) (e o : Bool) (n : ℕ) (buffer : List ℕ) → GoodPlan (held F) → Holds F (bits e o) n buffer
      → held_plan n buffer ≡ ok (machine_plan match F (bits e o))
  unfolding held_plan
  held-plan F e o n buffer g h =
      ap (λ (b : Bool). if b then plan_of (take n buffer) else refused 10) (le-leb n (length buffer) h.fits)
      ∙ ap plan_of h.bytes
      ∙ plan-reads (machine_plan match F (bits e o)) (plan-good F e o g)

  -- What one call must give.
  pub record Agrees (F : Frame) (s : Step) (o : Outcome) : Type 0 where
    pub answer : o.answer ≡ s.answer
    pub holds : Holds F s.bits o.n o.buffer

  -- A refusal keeps everything.
  refuses : (F : Frame) (b : Bits) (n : ℕ) (buffer scratch : List ℕ) (number : ℕ) → Holds F b n buffer
      → Agrees F (refuse_step b number) (finish n buffer scratch (refused number))
  unfolding refuse_step finish
  refuses F b n buffer scratch number h = record { answer = refl; holds = h }

  -- A new plan that fits is written.
  accepts : (F : Frame) (b : Bits) (n : ℕ) (buffer scratch new : List ℕ) → Reached F b.is_extracted
      → new ≡ plan_bytes (machine_plan match F b) → length new ≤ length buffer
      → Agrees F (accept_step match F b) (finish n buffer scratch (ok new))
  unfolding accept_step finish written_over machine_length
  accepts F b n buffer scratch new r e f = record {
    answer = ap (λ (s : List ℕ). ok (length s)) e;
    holds = record {
      reached = r;
      size = ap length e;
      bytes = take-append_seam new (drop (length new) buffer) ∙ e;
      fits = simp length-append (omega arith);
    };
  }

  -- ---- exchange

  plan-not-empty : (F : Frame) (e o : Bool) → NotEmpty (machine_plan match F (bits e o))
  unfolding machine_plan
  plan-not-empty F true true = exchange-not-empty _ (base-not-empty F (extraction_by match F))
  plan-not-empty F true false = base-not-empty F (extraction_by match F)
  plan-not-empty F false true = exchange-not-empty _ tt
  plan-not-empty F false false = tt

  -- The test of the scratch, on both sides.
  by-room : (F : Frame) (b b' : Bits) (n : ℕ) (buffer scratch new : List ℕ) (t : Bool) → Holds F b n buffer
      → Agrees F (accept_step match F b') (finish n buffer scratch (ok new))
      → Agrees F (if t then accept_step match F b' else refuse_step b 9) (finish n buffer scratch (if t then ok new else refused 9))
  by-room F b b' n buffer scratch new true h a = a
  by-room F b b' n buffer scratch new false h a = refuses F b n buffer scratch 9 h

  exchange-step : (F : Frame) (e o : Bool) (n : ℕ) (buffer scratch : List ℕ) → GoodPlan (held F) → Holds F (bits e o) n buffer
      → Agrees F (machine_step match F (bits e o) exchange_call (length scratch)) (exchange n buffer scratch)
  unfolding exchange machine_step
  exchange-step F e o n buffer scratch g h =
      let plan : Plan = machine_plan match F (bits e o) in
      let new : List ℕ = plan_bytes (exchange_plan plan) in
      rw (held-plan F e o n buffer g h, exchange-bytes n (length scratch) plan (plan-not-empty F e o), ← h.size)
      (by-room F (bits e o) (bits e (not o)) n buffer scratch new (leb n (length scratch)) h
      (accepts F (bits e (not o)) n buffer scratch new h.reached (ap plan_bytes (exchange-plan F e o))
      (omega (arith, plan-as-long plan, plan-size F (bits e o) n buffer h, h.fits))))

  -- ---- extract

  swapped-extraction : (F : Frame) (o : Bool) → Option Extraction
  swapped-extraction F o = if o then Option.map exchange_extraction (extraction_by match F) else extraction_by match F

  extract-held : (n room : ℕ) (F : Frame) (o : Bool)
      → new_after_extract_by match n room (ok (if o then held (exchange_frame F) else held F))
      ≡ (if leb n room then matched_bytes (swapped-extraction F o) else refused 9)
  unfolding new_after_extract_by swapped-extraction
  extract-held n room F true = ap (λ (x : Option Extraction). if leb n room then matched_bytes x else refused 9) (exchanged-by laws F)
  extract-held n room F false = refl

  held-length : (F : Frame) (o : Bool) → length (plan_bytes (machine_plan match F (bits false o))) ≡ length (plan_bytes (held F))
  unfolding machine_plan
  held-length F true = plan-as-long (held F)
  held-length F false = refl

  -- With the extraction known.
  take-step : (F : Frame) (o : Bool) (n : ℕ) (buffer scratch : List ℕ) → GoodPlan (held F) → Holds F (bits false o) n buffer
      → (x : Option Extraction) → extraction_by match F ≡ x → GoodExtraction F x
      → Agrees F (take_step match F (bits false o) x)
      (finish n buffer scratch (matched_bytes (if o then Option.map exchange_extraction x else x)))
  unfolding take_step matched_bytes plan_bytes exchange_plan
  take-step F true n buffer scratch g h none e k = refuses F (bits false true) n buffer scratch 13 h
  take-step F false n buffer scratch g h none e k = refuses F (bits false false) n buffer scratch 13 h
  take-step F true n buffer scratch g h (some X) e k =
      accepts F (bits true true) n buffer scratch (plan_bytes (extracted (exchange_extraction X))) (X, e)
      (ap plan_bytes (sym (plan-extracted F X true e)))
      (omega (arith, plan-as-long (extracted X), k.1, plan-size F (bits false true) n buffer h, held-length F true, h.fits))
  take-step F false n buffer scratch g h (some X) e k =
      accepts F (bits true false) n buffer scratch (plan_bytes (extracted X)) (X, e) (ap plan_bytes (sym (plan-extracted F X false e)))
      (omega (arith, k.1, plan-size F (bits false false) n buffer h, held-length F false, h.fits))

  extract-room : (F : Frame) (o : Bool) (n : ℕ) (buffer scratch : List ℕ) (t : Bool) → Holds F (bits false o) n buffer
      → Agrees F (take_step match F (bits false o) (extraction_by match F))
      (finish n buffer scratch (matched_bytes (swapped-extraction F o)))
      → Agrees F
      (if t then with_walk (walk_length_by match F)
      (take_step match F (bits false o) (extraction_by match F)) else refuse_step (bits false o) 9)
      (finish n buffer scratch (if t then matched_bytes (swapped-extraction F o) else refused 9))
  extract-room F o n buffer scratch true h a = record { answer = a.answer; holds = a.holds }
  extract-room F o n buffer scratch false h a = refuses F (bits false o) n buffer scratch 9 h

  extract-step : (F : Frame) (e o : Bool) (n : ℕ) (buffer scratch : List ℕ) → GoodPlan (held F) → Holds F (bits e o) n buffer
      → Agrees F (machine_step match F (bits e o) extract_call (length scratch)) (extract_filled_by match n buffer scratch)
  unfolding extract_filled_by machine_step swapped-extraction
  extract-step F true o n buffer scratch g h =
      rw (
        held-plan F true o n buffer g h,
        plan-extracted F h.reached.0 o h.reached.1,
        extract-again match n (length scratch) h.reached.0 o,
      )
      (refuses F (bits true o) n buffer scratch 12 h)
  extract-step F false o n buffer scratch g h =
      rw (held-plan F false o n buffer g h, plan-held F o, extract-held n (length scratch) F o, ← h.size)
      (extract-room F o n buffer scratch (leb n (length scratch)) h
      (take-step F o n buffer scratch g h (extraction_by match F) refl (good-by laws F g)))

  -- ---- the table

  -- A table as it was filled.
  abbrev pub Tabled : Frame → List NodeRecord → Type 0
  Tabled F table = begins_with (node_table F) table ≡ true

  -- It fits every plan of the machine, and so extract takes it.
  pub fits-machine : (F : Frame) (e o : Bool) (table : List NodeRecord) → Tabled F table
      → table_fits table (ok (machine_plan match F (bits e o))) ≡ true
  unfolding machine_plan
  fits-machine F true true table t = fits-exchanged table _ ∙ fits-base table F (extraction_by match F) t
  fits-machine F true false table t = fits-base table F (extraction_by match F) t
  fits-machine F false true table t = fits-exchanged table (held F) ∙ unfold table_fits in t
  fits-machine F false false table t = unfold table_fits in t

  pub fits-held : (F : Frame) (b : Bits) (n : ℕ) (buffer : List ℕ) (table : List NodeRecord) → GoodPlan (held F) → Tabled F table
      → Holds F b n buffer → table_fits table (held_plan n buffer) ≡ true
  fits-held F b n buffer table g t h =
      ap (table_fits table) (held-plan F b.is_extracted b.is_odd n buffer g h) ∙ fits-machine F b.is_extracted b.is_odd table t

  -- ---- lists of calls

  pub step-agrees : (F : Frame) (b : Bits) (k : Kind) (n : ℕ) (buffer scratch : List ℕ) (table : List NodeRecord) → GoodPlan (held F)
      → Tabled F table → Holds F b n buffer
      → Agrees F (machine_step match F b k (length scratch)) (make_by match k n buffer scratch table)
  unfolding make_by
  step-agrees F b extract_call n buffer scratch table g t h =
      subst (Agrees F (machine_step match F b extract_call (length scratch)))
      (sym (extract-filled-by match n buffer scratch table (fits-held F b n buffer table g t h)))
      (extract-step F b.is_extracted b.is_odd n buffer scratch g h)
  step-agrees F b exchange_call n buffer scratch table g t h = exchange-step F b.is_extracted b.is_odd n buffer scratch g h

  -- ---- the walk that a call carries (request 10)

  held-walk : (n room : ℕ) (F : Frame) (o : Bool)
      → walked_by match n room (ok (if o then held (exchange_frame F) else held F)) ≡ (if leb n room then walk_length_by match F else 0)
  unfolding walked_by
  held-walk n room F true = ap (λ (w : ℕ). if leb n room then w else 0) (walk-exchanged-by laws F)
  held-walk n room F false = refl

  no-walk : (n room : ℕ) (X : Extraction) (o : Bool)
      → walked_by match n room (ok (if o then extracted (exchange_extraction X) else extracted X)) ≡ 0
  unfolding walked_by
  no-walk n room X true = refl
  no-walk n room X false = refl

  room-walk : (F : Frame) (b : Bits) (s : Step) (w : ℕ) (t : Bool)
      → (if t then w else 0) ≡ (if t then with_walk w s else refuse_step b 9).walk
  unfolding refuse_step
  room-walk F b s w true = refl
  room-walk F b s w false = refl

  extract-walk : (F : Frame) (e o : Bool) (n : ℕ) (buffer scratch : List ℕ) → GoodPlan (held F) → Holds F (bits e o) n buffer
      → walk_filled_by match n buffer scratch ≡ (machine_step match F (bits e o) extract_call (length scratch)).walk
  unfolding walk_filled_by machine_step refuse_step
  extract-walk F true o n buffer scratch g h =
      rw (held-plan F true o n buffer g h, plan-extracted F h.reached.0 o h.reached.1) (no-walk n (length scratch) h.reached.0 o)
  extract-walk F false o n buffer scratch g h =
      rw (held-plan F false o n buffer g h, plan-held F o, held-walk n (length scratch) F o, ← h.size)
      (room-walk F (bits false o) (take_step match F (bits false o) (extraction_by match F)) (walk_length_by match F)
      (leb n (length scratch)))

  exchange-walk : (F : Frame) (b : Bits) (room : ℕ) → 0 ≡ (machine_step match F b exchange_call room).walk
  unfolding machine_step accept_step refuse_step
  exchange-walk F b room = by-test (λ (s : Step). 0 ≡ s.walk) (leb (machine_length match F b) room) _ _ (λ _. refl) (λ _. refl)

  pub step-walk : (F : Frame) (b : Bits) (k : Kind) (n : ℕ) (buffer scratch : List ℕ) (table : List NodeRecord) → GoodPlan (held F)
      → Tabled F table → Holds F b n buffer
      → walk_by match k n buffer scratch table ≡ (machine_step match F b k (length scratch)).walk
  unfolding walk_by extract_walk_by
  step-walk F b extract_call n buffer scratch table g t h =
      ap (λ (fits : Bool). if fits then walk_filled_by match n buffer scratch else 0) (fits-held F b n buffer table g t h)
      ∙ extract-walk F b.is_extracted b.is_odd n buffer scratch g h
  step-walk F b exchange_call n buffer scratch table g t h = exchange-walk F b (length scratch)

  -- What a list of calls must give.
  pub record AgreesAll (F : Frame) (m : Run) (c : ListOutcome) : Type 0 where
    pub answers : c.answers ≡ m.answers
    pub walks : c.walks ≡ m.walks
    pub holds : Holds F m.bits c.n c.buffer

  pub run-agrees : (F : Frame) (table : List NodeRecord) → GoodPlan (held F) → Tabled F table
      → (calls : List Made) (b : Bits) (n : ℕ) (buffer : List ℕ) → Holds F b n buffer
      → AgreesAll F (machine_run match F b (map fed calls)) (calls_run_by match n buffer table calls)
  unfolding machine_run calls_run_by fed
  run-agrees F table g t [] b n buffer h = record { answers = refl; walks = refl; holds = h }
  run-agrees F table g t (c ∷ cs) b n buffer h =
      let one : Agrees F (machine_step match F b c.kind (length c.scratch)) (make_by match c.kind n buffer c.scratch table) =
      step-agrees F b c.kind n buffer c.scratch table g t h in
      let after : AgreesAll F (machine_run match F (machine_step match F b c.kind (length c.scratch)).bits (map fed cs)) _ =
      run-agrees F table g t cs _ _ _ one.holds in
      record {
        answers = ap₂ (λ (a : Result ℕ) (l : List (Result ℕ)). a ∷ l) one.answer after.answers;
        walks = ap₂ (λ (a : ℕ) (l : List ℕ). a ∷ l) (step-walk F b c.kind n buffer c.scratch table g t h) after.walks;
        holds = after.holds;
      }
