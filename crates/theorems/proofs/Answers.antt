-- A call is accepted exactly where the machine's step is, so the machine's bits can be read off the answers.
use Rattle.std.specs.Prelude.{if◌then◌else◌}
use Prim.Native.Nat.{ℕ}
use mathlib.Core.Path.{◌≡◌, refl, sym, ap, ap₂, ◌∙◌}
use mathlib.Core.Bool.{Bool, true, false, ◌&&◌, ◌||◌, not, and-false}
use mathlib.Core.List.{List, [], ◌∷◌, ◌++◌, map}
use mathlib.Core.Option.{Option, none, some}
use lib.ListN.{length}
use lib.Dec.{leb}
use Rattle.definitions.specs.Words.Basics.{Result}
use Rattle.definitions.specs.Words.Expression.{Frame, Extraction}
use Rattle.definitions.specs.Filter.Extract.{Matcher, extraction_by}
use Rattle.definitions.specs.Bytes.Encode.{plan_bytes}
use Rattle.definitions.specs.Calls.Base.{Outcome}
use Rattle.definitions.specs.Bytes.NodeTable.{NodeRecord}
use Rattle.definitions.specs.Lists.Machine.{Kind, extract_call, exchange_call, Bits, machine_plan, machine_length, Step, refuse_step, accept_step, take_step, machine_step, machine_run, fresh}
use Rattle.definitions.specs.Lists.Sessions.{Made, extract_with, exchange_with, make_by, calls_run_by, fed, machine_after_by, accepted, is_extract, extract_accepted, exchanges_odd, SessionBy, length_after, plan_after, extracted_in, odd_in, answer_after}
use Rattle.definitions.specs.Meaning.Values.{Meaning}
use Rattle.definitions.specs.Meaning.Matchers.{Lawful}
use Rattle.definitions.specs.Claims.Lists.{some_leaf_matches_by}
use Rattle.theorems.proofs.Tools.{by-test}
use Rattle.theorems.proofs.Pick.{Matched, matched}
use Rattle.theorems.proofs.Lists.{bits, step-agrees}
use Rattle.theorems.proofs.ListTheorem.{after-all}

-- ---- the bits

-- The bits once an extract was accepted, or none was, and the odd bit flipped or not.
abbrev changed : Bits → (extracted flipped : Bool) → Bits
changed b e f = record { is_extracted = if e then true else b.is_extracted; is_odd = if f then not b.is_odd else b.is_odd }

either-bit : (x e e' : Bool) → (if e' then true else if e then true else x) ≡ (if e || e' then true else x)
either-bit x true true = refl
either-bit x true false = refl
either-bit x false e' = refl

pub flipped-bit : (x f f' : Bool)
    → (if f' then not (if f then not x else x) else if f then not x else x) ≡ (if (if f then not f' else f') then not x else x)
flipped-bit true true true = refl
flipped-bit false true true = refl
flipped-bit x true false = refl
flipped-bit x false f' = refl

changed-both : (b : Bits) (e f e' f' : Bool) → changed (changed b e f) e' f' ≡ changed b (e || e') (if f then not f' else f')
changed-both b e f e' f' =
    ap₂ (λ (x y : Bool). record { is_extracted = x; is_odd = y }) (either-bit b.is_extracted e e') (flipped-bit b.is_odd f f')

-- A call of this kind with this answer is an accepted extract; an accepted exchange.
abbrev pub extracts : Kind → Result ℕ → Bool
extracts k a = is_extract k && accepted a

abbrev pub exchanges : Kind → Result ℕ → Bool
exchanges k a = not (is_extract k) && accepted a

-- A step changes the bits as its answer says.
abbrev Follows : Bits → Kind → Step → Type 0
Follows b k s = s.bits ≡ changed b (extracts k s.answer) (exchanges k s.answer)

refuse-follows : (b : Bits) (k : Kind) (number : ℕ) → Follows b k (refuse_step b number)
unfolding refuse_step is_extract accepted
refuse-follows b extract_call number = refl
refuse-follows b exchange_call number = refl

take-follows : (match : Matcher) (F : Frame) (b : Bits) (x : Option Extraction) → Follows b extract_call (take_step match F b x)
unfolding take_step accept_step is_extract accepted
take-follows match F b none = refuse-follows b extract_call 13
take-follows match F b (some X) = refl

step_follows : (match : Matcher) (F : Frame) (b : Bits) (k : Kind) (room : ℕ) → Follows b k (machine_step match F b k room)
unfolding machine_step accept_step is_extract accepted
step_follows match F b exchange_call room =
    by-test (Follows b exchange_call) (leb (machine_length match F b) room) _ _ (λ _. refl) (λ _. refuse-follows b exchange_call 9)
step_follows match F b extract_call room =
    by-test (Follows b extract_call) b.is_extracted _ _ (λ _. refuse-follows b extract_call 12)
    (λ _. by-test (Follows b extract_call) (leb (machine_length match F b) room) _ _ (λ _. take-follows match F b (extraction_by match F))
    (λ _. refuse-follows b extract_call 9))

run-follows : (match : Matcher) (F : Frame) (b : Bits) (calls : List Made)
    → (machine_run match F b (map fed calls)).bits
    ≡ changed b (extract_accepted calls (machine_run match F b (map fed calls)).answers)
    (exchanges_odd calls (machine_run match F b (map fed calls)).answers)
unfolding machine_run fed extract_accepted exchanges_odd
run-follows match F b [] = refl
run-follows match F b (c ∷ cs) =
    let s : Step = machine_step match F b c.kind (length c.scratch) in
    let e : Bool = extract_accepted cs (machine_run match F s.bits (map fed cs)).answers in
    let o : Bool = exchanges_odd cs (machine_run match F s.bits (map fed cs)).answers in
    run-follows match F s.bits cs
    ∙ ap (λ (x : Bits). changed x e o) (step_follows match F b c.kind (length c.scratch))
    ∙ changed-both b (extracts c.kind s.answer) (exchanges c.kind s.answer) e o

changed-fresh : (e o : Bool) → changed fresh e o ≡ bits e o
unfolding fresh
changed-fresh true true = refl
changed-fresh true false = refl
changed-fresh false true = refl
changed-fresh false false = refl

-- ---- the machine's answers

module _ (match : Matcher) (F : Frame) (b : Bits) where
  exchange-accepts : (room : ℕ) → accepted (machine_step match F b exchange_call room).answer ≡ leb (machine_length match F b) room
  unfolding machine_step accept_step refuse_step accepted
  exchange-accepts room =
      by-test (λ (s : Step). accepted s.answer ≡ leb (machine_length match F b) room) (leb (machine_length match F b) room) _ _
      (λ e. sym e) (λ e. sym e)

  take-accepts : (x : Option Extraction) → Matched (some_leaf_matches_by match F) x
      → accepted (take_step match F b x).answer ≡ some_leaf_matches_by match F
  unfolding take_step accept_step refuse_step accepted
  take-accepts none m = sym m
  take-accepts (some X) m = sym m

  -- 12 and 9 come before it.
  first-accepts : (s : Step) (x t m : Bool) → accepted s.answer ≡ m
      → accepted (if x then refuse_step b 12 else if t then s else refuse_step b 9).answer ≡ (t && (not x && m))
  unfolding refuse_step accepted
  first-accepts s true t m h = sym (and-false t)
  first-accepts s false true m h = h
  first-accepts s false false m h = refl

  extract-accepts : (room : ℕ)
      → accepted (machine_step match F b extract_call room).answer
      ≡ (leb (machine_length match F b) room && (not b.is_extracted && some_leaf_matches_by match F))
  unfolding machine_step
  extract-accepts room =
      first-accepts _ b.is_extracted (leb (machine_length match F b) room) _ (take-accepts (extraction_by match F) (matched match F))

-- ---- the calls

-- A call in a list answers as it does on what the calls before it left.
pub in-place : (match : Matcher) (n : ℕ) (buffer : List ℕ) (table : List NodeRecord) (before : List Made) (c : Made) (later : List Made)
    → (others : List (Result ℕ))
    × ((calls_run_by match n buffer table (before ++ (c ∷ later))).answers
    ≡ (calls_run_by match n buffer table before).answers
    ++ (
    (make_by match c.kind (calls_run_by match n buffer table before).n (calls_run_by match n buffer table before).buffer c.scratch table
    ).answer ∷
    others
    ))
unfolding calls_run_by
in-place match n buffer table [] c later = (_, refl)
in-place match n buffer table (b ∷ bs) c later =
    let one : Outcome = make_by match b.kind n buffer b.scratch table in
    let rest = in-place match one.n one.buffer table bs c later in
    (rest.0, ap {B = List (Result ℕ)} (λ answers. one.answer ∷ answers) rest.1)

-- The bits that a list of calls and its answers tell.
abbrev pub told : {match : Matcher} {F : Frame} → SessionBy match F → List Made → Bits
told s calls = bits (extracted_in s calls) (odd_in s calls)

module _ {match : Matcher} {Asks : Meaning → Type 0} (laws : Lawful match Asks) {F : Frame} (s : SessionBy match F) where
  -- They are the machine's bits.
  pub bits-told : (calls : List Made) → (machine_after_by match F calls).bits ≡ told s calls
  bits-told calls =
      run-follows match F fresh calls ∙ changed-fresh _ _
      ∙ ap (λ (answers : List (Result ℕ)). bits (extract_accepted calls answers) (exchanges_odd calls answers))
      (sym (after-all laws s calls).answers)

  -- So they tell the plan that is left.
  pub plan-told : (calls : List Made) → plan_after s calls ≡ plan_bytes (machine_plan match F (told s calls))
  plan-told calls = (after-all laws s calls).holds.bytes ∙ ap (λ (b : Bits). plan_bytes (machine_plan match F b)) (bits-told calls)

  -- The answer of a call is the machine's.
  pub machine-answer : (before : List Made) (c : Made)
      → answer_after s before c ≡ (machine_step match F (machine_after_by match F before).bits c.kind (length c.scratch)).answer
  machine-answer before c =
      (step-agrees laws F _ c.kind _ _ c.scratch s.table s.good s.filled (after-all laws s before).holds).answer

  pub exchange-among : (before : List Made) (scratch : List ℕ)
      → accepted (answer_after s before (exchange_with scratch)) ≡ leb (length_after s before) (length scratch)
  exchange-among before scratch =
      rw (machine-answer before (exchange_with scratch), (after-all laws s before).holds.size)
      (exchange-accepts match F (machine_after_by match F before).bits (length scratch))

  pub extract-among : (before : List Made) (scratch : List ℕ)
      → accepted (answer_after s before (extract_with scratch))
      ≡ (leb (length_after s before) (length scratch) && (not (extracted_in s before) && some_leaf_matches_by match F))
  extract-among before scratch =
      rw (
        machine-answer before (extract_with scratch),
        (after-all laws s before).holds.size,
        ← (ap (λ (b : Bits). b.is_extracted) (bits-told before)),
      )
      (extract-accepts match F (machine_after_by match F before).bits (length scratch))

pub plans-same : {match : Matcher} {Asks : Meaning → Type 0} (laws : Lawful match Asks) {F : Frame} (s t : SessionBy match F)
    (calls calls' : List Made)
    → extracted_in s calls ≡ extracted_in t calls' → odd_in s calls ≡ odd_in t calls' → plan_after s calls ≡ plan_after t calls'
plans-same {match} laws {F} s t calls calls' e o =
    plan-told laws s calls ∙ ap₂ (λ (x y : Bool). plan_bytes (machine_plan match F (bits x y))) e o ∙ sym (plan-told laws t calls')
