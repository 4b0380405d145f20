-- What is claimed of truth values, demand 3.
use Rattle.std.specs.Prelude.{ℕ, ◌≡◌, Bool, List, [], ◌∷◌, if◌then◌else◌}
use Rattle.std.proofs.Math.Option.{none, some}
use Rattle.definitions.specs.Words.Basics.{ok, ascii}
use Rattle.definitions.specs.Words.Expression.{left, right, no_side, within, column, call, nil, cons, Frame, Predicate, distance, Extraction, Plan, held}
use Rattle.definitions.specs.Bytes.Plans.{plan_of}
use Rattle.definitions.specs.Bytes.Good.{GoodPlan}
use Rattle.definitions.specs.Filter.Extract.{extraction}
use Rattle.definitions.specs.Filter.Exchange.{exchange_plan}
use Rattle.definitions.specs.Lists.Sessions.{Made, Session, plan_after, odd_in}
use Rattle.definitions.specs.Meaning.Values.{Valuation, Meaning, Fair, and_value, frame_value, predicate_value, extraction_value, plan_value, exchanged_values}

-- And may be regrouped.
abbrev pub AndAssociative : Type 0
AndAssociative = (a b c : ℕ) → and_value (and_value a b) c ≡ and_value a (and_value b c)

-- And may be exchanged.
abbrev pub AndCommutative : Type 0
AndCommutative = (a b : ℕ) → and_value a b ≡ and_value b a

-- An exchanged plan has the plan's value with those of left and right columns exchanged.
abbrev pub ExchangeValue : Type 0
ExchangeValue = (M : Meaning) → Fair M → (v : Valuation) (p : Plan) → plan_value M v (exchange_plan p) ≡ plan_value M (exchanged_values v) p

-- The extraction of a good frame has the frame's value, mark columns or not (request 8).
abbrev pub ExtractionValue : Type 0
ExtractionValue =
    (M : Meaning) → Fair M → (v : Valuation) (F : Frame) (X : Extraction)
    → GoodPlan (held F) → extraction F ≡ some X → extraction_value M v X ≡ frame_value M v F

-- The values that a plan is read with: those of left and right exchanged when accepted exchanges are odd in number.
abbrev pub values_when : (odd : Bool) → Valuation → Valuation
values_when odd v = if odd then exchanged_values v else v

-- A plan's bytes have a truth value: they are a plan of that value.
abbrev pub HasValue : Meaning → Valuation → (plan : List ℕ) → ℕ → Type 0
HasValue M v plan truth = (p : Plan) × (plan_of plan ≡ ok p) × (plan_value M v p ≡ truth)

-- After any list of calls the plan has the frame's value, the values of left and right exchanged when odd.
abbrev pub ListValue : Type 0
ListValue =
    (M : Meaning) → Fair M → (v : Valuation) (F : Frame) (s : Session F) (calls : List Made)
    → HasValue M v (plan_after s calls) (frame_value M (values_when (odd_in s calls) v) F)

-- A fair meaning exists, and one in which a relation, a distance and KNN hold of some arguments and not of others.
abbrev pub FairMeaning : Type 0
FairMeaning =
    (M : Meaning) × Fair M
    × (M.relation_value within 0 1 ≡ 1) × (M.relation_value within 1 0 ≡ 0)
    × (M.dwithin_value 3 5 2 ≡ 1) × (M.dwithin_value 3 5 1 ≡ 0)
    × (M.knn_value 3 5 2 0 2 ≡ 1) × (M.knn_value 3 5 1 0 2 ≡ 0)

-- Fairness leaves free what 01 leaves free: there is a fair meaning in which every five-argument `st_knn` is 1 and every four-argument one
-- 0.
abbrev pub FairByArguments : Type 0
FairByArguments =
    (M : Meaning) × Fair M
    × ((a b k s t : ℕ) → M.call_value (ascii "st_knn") (a ∷ b ∷ k ∷ s ∷ t ∷ []) ≡ 1)
    × ((a b k s : ℕ) → M.call_value (ascii "st_knn") (a ∷ b ∷ k ∷ s ∷ []) ≡ 0)

-- A frame with a mark column: `st_dwithin` of a left and a right column, its bound the mark column with child index 9.
unfoldable pub marked_frame : Frame
marked_frame = record {
  records =
      record { side = left; child = 5; tag = 0 } ∷ record { side = right; child = 0; tag = 0 } ∷
      record { side = no_side; child = 9; tag = 0 } ∷ [];
  expr = call (ascii "st_dwithin") (cons (column 0 0) (cons (column 1 0) (cons (column 2 0) nil)));
}

-- The predicate that the Rust takes from it: the bound is copied with the filter's own column number.
unfoldable pub mark_copied : Predicate
mark_copied = distance 0 no_side (column 5 0) (column 0 0) (column 2 0)

-- Why a bound of mark columns does not match (request 8): in a fair meaning that frame can be true and the copied predicate false. So it
-- has no extraction.
abbrev pub MarksStay : Type 0
MarksStay =
    (extraction marked_frame ≡ none)
    × ((M : Meaning) × Fair M × (v : Valuation) × (frame_value M v marked_frame ≡ 1) × (predicate_value M v mark_copied ≡ 0))
