-- A plan after an accepted extract is the frame's one extraction, exchanged or not, if it has one: so two machines agree.
use Rattle.std.specs.Prelude.{if◌then◌else◌}
use Prim.Native.Nat.{ℕ, ◌≤◌, ◌<◌}
use native.Mathlib.Omega.{arith}
use mathlib.Core.Path.{◌≡◌, refl, sym, ap, ◌∙◌, subst}
use mathlib.Core.Bool.{Bool, true, false, ◌&&◌, ◌||◌, or-true}
use mathlib.Core.List.{List, [], ◌∷◌, ◌++◌}
use mathlib.Core.Option.{Option, none, some, map}
use lib.ListN.{length, take}
use lib.Dec.{leb, lit≤}
use lib.Seq.{take-take}
use borrow.Author.Tests.{le-leb}
use Rattle.definitions.specs.Words.Limits.{two_bytes}
use Rattle.definitions.specs.Words.Basics.{Result, ok, refused, big_endian}
use Rattle.definitions.specs.Words.Expression.{Frame, Predicate, relation, distance, knn, Extraction}
use Rattle.definitions.specs.Bytes.Encode.{predicate_kind, extraction_bytes, plan_bytes}
use Rattle.definitions.specs.Words.Leaves.{leaves}
use Rattle.definitions.specs.Filter.Extract.{Matcher, matches_by, extraction_by}
use Rattle.definitions.specs.Filter.OneWalk.{walk_length_by}
use Rattle.definitions.specs.Filter.Exchange.{exchange_predicate, exchange_frame, exchange_extraction, extracted_plan}
use Rattle.definitions.specs.Calls.Base.{Outcome}
use Rattle.definitions.specs.Bytes.NodeTable.{NodeRecord}
use Rattle.definitions.specs.Lists.Machine.{extract_call, Bits, machine_plan, machine_length, refuse_step, accept_step, with_walk, take_step, machine_step}
use Rattle.definitions.specs.Lists.Sessions.{Made, extract_with, make_by, ListOutcome, calls_run_by, machine_after_by, accepted, is_extract, extract_accepted, SessionBy, length_after, plan_after, extracted_in, odd_in, answer_after}
use Rattle.definitions.specs.Meaning.Values.{Meaning}
use Rattle.definitions.specs.Meaning.Matchers.{Lawful}
use Rattle.definitions.specs.Claims.Lists.{some_leaf_matches_by}
use Rattle.definitions.specs.Claims.Pick.{TookAmong, position_held, NamesLeaf}
use Rattle.definitions.specs.Claims.PriceLine.{price_line_by, OnLine}
use Rattle.theorems.proofs.ExtractExchange.{exchanged-by}
use Rattle.theorems.proofs.Pick.{takes-by, position-of-leaf, few-leaves, Matched, matched}
use Rattle.theorems.proofs.Lists.{Reached, Holds, bits, plan-extracted}
use Rattle.theorems.proofs.ListTheorem.{after-all}
use Rattle.theorems.proofs.Answers.{bits-told, plan-told, machine-answer, extract-among}

-- ---- the line

kind-exchanged : (p : Predicate) → predicate_kind (exchange_predicate p) ≡ predicate_kind p
unfolding predicate_kind exchange_predicate
kind-exchanged (relation type l r) = refl
kind-exchanged (distance form side l r bound) = refl
kind-exchanged (knn k spheroid probe ties l r) = refl

-- The first three bytes of an extraction: the line, and the position of its leaf, exchanged or not.
abbrev pub named : Extraction → List ℕ
named X = predicate_kind X.predicate ∷ big_endian 2 X.position

pub first-bytes : (X : Extraction) (o : Bool) → take 3 (plan_bytes (extracted_plan X o)) ≡ named X
unfolding plan_bytes extraction_bytes exchange_extraction big_endian
first-bytes X true = ap {B = List ℕ} (λ b. b ∷ big_endian 2 X.position) (kind-exchanged X.predicate)
first-bytes X false = refl

-- Bytes 1 and 2 are looked at as far as the third byte.
held-in-three : (plan : List ℕ) → position_held (take 3 plan) ≡ position_held plan
unfolding position_held
held-in-three [] = refl
held-in-three (a ∷ []) = refl
held-in-three (a ∷ b ∷ []) = refl
held-in-three (a ∷ b ∷ c ∷ s) = refl

two-bytes : (X : Extraction) → X.position < two_bytes → position_held (named X) ≡ X.position
unfolding position_held big_endian
two-bytes X h = omega arith

line-exchanged : (x : Option Extraction)
    → map (λ X. predicate_kind X.predicate) (map exchange_extraction x) ≡ map (λ X. predicate_kind X.predicate) x
unfolding exchange_extraction
line-exchanged none = refl
line-exchanged (some X) = ap {B = Option ℕ} some (kind-exchanged X.predicate)

-- ---- the refusal

-- The number of a refusal; 0 of a length.
refusal : Result ℕ → ℕ
refusal (ok length) = 0
refusal (refused number) = number

-- 13 is given only where the frame has no extraction.
no-extraction : (match : Matcher) (F : Frame) (b : Bits) (x : Option Extraction) (e t : Bool) (w : ℕ)
    → (if e then refuse_step b 12 else if t then with_walk w (take_step match F b x) else refuse_step b 9).answer ≡ refused 13 → x ≡ none
unfolding take_step accept_step refuse_step refusal
no-extraction match F b none e t w h = refl
no-extraction match F b (some X) true t w h = absurd (omega (arith, ap refusal h))
no-extraction match F b (some X) false true w h = absurd (omega (arith, ap refusal h))
no-extraction match F b (some X) false false w h = absurd (omega (arith, ap refusal h))

none-by : (match : Matcher) (F : Frame) (b : Bits) (room : ℕ) → (machine_step match F b extract_call room).answer ≡ refused 13
    → extraction_by match F ≡ none
unfolding machine_step
none-by match F b room h = no-extraction match F b (extraction_by match F) b.is_extracted (leb (machine_length match F b) room) _ h

-- ---- the end of a list

-- An extract that is accepted at the end of a list was accepted in it.
extracted-last : (match : Matcher) (n : ℕ) (buffer : List ℕ) (table : List NodeRecord) (before : List Made) (scratch : List ℕ)
    → let o : ListOutcome = calls_run_by match n buffer table before in
    accepted (make_by match extract_call o.n o.buffer scratch table).answer ≡ true
    → extract_accepted (before ++ (extract_with scratch ∷ []))
    (calls_run_by match n buffer table (before ++ (extract_with scratch ∷ []))).answers ≡ true
unfolding calls_run_by extract_accepted is_extract
extracted-last match n buffer table [] scratch a = ap (λ (b : Bool). b || false) a
extracted-last match n buffer table (b ∷ bs) scratch a =
    let one : Outcome = make_by match b.kind n buffer b.scratch table in
    ap (λ (x : Bool). (is_extract b.kind && accepted one.answer) || x) (extracted-last match one.n one.buffer table bs scratch a)
    ∙ or-true (is_extract b.kind && accepted one.answer)

-- ---- with a lawful matcher

module _ {match : Matcher} {Asks : Meaning → Type 0} (laws : Lawful match Asks) where
  pub price-exchanged : (F : Frame) → price_line_by match (exchange_frame F) ≡ price_line_by match F
  unfolding price_line_by
  price-exchanged F = ap (map (λ X. predicate_kind X.predicate)) (exchanged-by laws F) ∙ line-exchanged (extraction_by match F)

  -- Where the frame has no extraction, 13 is given always, if the scratch is long enough.
  refused-again : (F : Frame) (e o : Bool) (room : ℕ) → extraction_by match F ≡ none → Reached laws F e
      → machine_length match F (bits e o) ≤ room
      → (machine_step match F (bits e o) extract_call room).answer ≡ refused 13
  unfolding machine_step take_step refuse_step
  refused-again F true o room x r h = let z : ◌≡◌ {A = ℕ} 0 1 = cc r.1 in absurd (omega arith)
  refused-again F false o room x r h =
      ap (λ (t : Bool).
      (if t then with_walk (walk_length_by match F)
      (take_step match F (bits false o) (extraction_by match F)) else refuse_step (bits false o) 9).answer)
      (le-leb _ room h)
      ∙ ap (λ (y : Option Extraction). (take_step match F (bits false o) y).answer) x

  module _ {F : Frame} (s : SessionBy match F) where
    -- ---- after an accepted extract

    module _ (calls : List Made) (e : extracted_in s calls ≡ true) where
      -- The frame has an extraction,
      reached : Reached laws F true
      reached =
          subst (λ (b : Bool). Reached laws F b) (ap (λ (b : Bits). b.is_extracted) (bits-told laws s calls) ∙ e)
          (after-all laws s calls).holds.reached

      -- which the plan is, exchanged where the accepted exchanges are odd in number;
      plan-left : (X : Extraction) → extraction_by match F ≡ some X → plan_after s calls ≡ plan_bytes (extracted_plan X (odd_in s calls))
      plan-left X x =
          plan-told laws s calls ∙ ap (λ (b : Bool). plan_bytes (machine_plan match F (bits b (odd_in s calls)))) e
          ∙ ap plan_bytes (plan-extracted laws F X (odd_in s calls) x)

      -- and its first bytes are the line and the position.
      named-left : (X : Extraction) → extraction_by match F ≡ some X → take 3 (plan_after s calls) ≡ named X
      named-left X x = ap (take 3) (plan-left X x) ∙ first-bytes X (odd_in s calls)

      line-left : (X : Extraction) → extraction_by match F ≡ some X → take 1 (plan_after s calls) ≡ predicate_kind X.predicate ∷ []
      line-left X x = sym (take-take 1 3 (plan_after s calls) (lit≤ tt)) ∙ ap (take 1) (named-left X x)

      pub extract-took : (X : Extraction) × TookAmong (matches_by match F) F X
          × (plan_after s calls ≡ plan_bytes (extracted_plan X (odd_in s calls)))
      extract-took = let (X, x) = reached in (X, takes-by match F X x, plan-left X x)

      pub names-leaf : NamesLeaf (matches_by match F) F (plan_after s calls)
      names-leaf =
          let (X, x) = reached in
          let few : length (leaves F.expr) ≤ 1024 = few-leaves F s.good in
          let below : X.position < length (leaves F.expr) = position-of-leaf match F X x in
          let held : position_held (plan_after s calls) ≡ X.position =
          sym (held-in-three (plan_after s calls)) ∙ ap position_held (named-left X x) ∙ two-bytes X (omega arith) in
          (X, takes-by match F X x, held, below, few)

      pub line-stays : (line : ℕ) × (price_line_by match F ≡ some line) × (take 1 (plan_after s calls) ≡ line ∷ [])
      unfolding price_line_by
      line-stays =
          let (X, x) = reached in
          (predicate_kind X.predicate, ap (map (λ X. predicate_kind X.predicate)) x, line-left X x)

    -- A list that extracted has a frame with an extraction.
    none-extracted : (calls : List Made) (b : Bool) → extracted_in s calls ≡ b → extraction_by match F ≡ none → extracted_in s calls ≡ false
    none-extracted calls true e x = let z : ◌≡◌ {A = ℕ} 0 1 = cc (reached calls e).1 in absurd (omega arith)
    none-extracted calls false e x = e

    -- ---- the refusal of an extract, and its line

    module _ (before : List Made) (scratch : List ℕ) where
      -- A machine that says 13 has a frame without extraction,
      says-13 : answer_after s before (extract_with scratch) ≡ refused 13 → extraction_by match F ≡ none
      says-13 e =
          none-by match F (machine_after_by match F before).bits (length scratch)
          (sym (machine-answer laws s before (extract_with scratch)) ∙ e)

      -- and one with such a frame says 13.
      must-say-13 : extraction_by match F ≡ none → length_after s before ≤ length scratch
          → answer_after s before (extract_with scratch) ≡ refused 13
      must-say-13 x h =
          let b : Bits = (machine_after_by match F before).bits in
          let now : Holds laws F b _ _ = (after-all laws s before).holds in
          machine-answer laws s before (extract_with scratch)
          ∙ refused-again F b.is_extracted b.is_odd (length scratch) x now.reached (omega (arith, now.size))

      -- With the extraction known.
      line-with : (x : Option Extraction) → extraction_by match F ≡ x → Matched (some_leaf_matches_by match F) x
          → extracted_in s before ≡ false → length_after s before ≤ length scratch
          → OnLine (map (λ X. predicate_kind X.predicate) x) (answer_after s before (extract_with scratch))
          (plan_after s (before ++ (extract_with scratch ∷ [])))
      line-with none x m e h = must-say-13 x h
      line-with (some X) x m e h =
          let taken : accepted (answer_after s before (extract_with scratch)) ≡ true =
          extract-among laws s before scratch ∙ rw (e, m, le-leb (length_after s before) (length scratch) h) refl in (
            taken,
            line-left (before ++ (extract_with scratch ∷ []))
                (extracted-last match s.n s.buffer s.table before scratch taken) X x,
          )

      pub line-of-calls : extracted_in s before ≡ false → length_after s before ≤ length scratch
          → OnLine (price_line_by match F) (answer_after s before (extract_with scratch))
          (plan_after s (before ++ (extract_with scratch ∷ [])))
      unfolding price_line_by
      line-of-calls e h = line-with (extraction_by match F) refl (matched match F) e h

  -- ---- two machines

  module _ {F : Frame} (s t : SessionBy match F) where
    pub same-leaf : (calls calls' : List Made) → extracted_in s calls ≡ true → extracted_in t calls' ≡ true
        → (X : Extraction) × TookAmong (matches_by match F) F X
        × (plan_after s calls ≡ plan_bytes (extracted_plan X (odd_in s calls)))
        × (plan_after t calls' ≡ plan_bytes (extracted_plan X (odd_in t calls')))
        × (take 3 (plan_after s calls) ≡ take 3 (plan_after t calls'))
    same-leaf calls calls' e e' =
        let (X, x) = reached s calls e in (
          X,
          takes-by match F X x,
          plan-left s calls e X x,
          plan-left t calls' e' X x,
          named-left s calls e X x ∙ sym (named-left t calls' e' X x),
        )

    pub same-refusal : (before before' : List Made) (scratch scratch' : List ℕ)
        → answer_after s before (extract_with scratch) ≡ refused 13 → length_after t before' ≤ length scratch'
        → answer_after t before' (extract_with scratch') ≡ refused 13
    same-refusal before before' scratch scratch' e h = must-say-13 t before' scratch' (says-13 s before scratch e) h

    pub never-mixed : (before : List Made) (scratch : List ℕ) (calls : List Made)
        → answer_after s before (extract_with scratch) ≡ refused 13 → extracted_in t calls ≡ false
    never-mixed before scratch calls e = none-extracted t calls (extracted_in t calls) refl (says-13 s before scratch e)
