-- Every child index of a good extraction has two bytes and stands within the plan: so its number says all of it.
use Prim.Native.Nat.{ℕ, ◌+◌, ◌/◌, ◌%◌, ◌≤◌, ◌<◌}
use native.Mathlib.Omega.{arith}
use mathlib.Core.Path.{◌≡◌}
use mathlib.Core.List.{List, [], ◌∷◌, ◌++◌}
use mathlib.Core.Option.{Option, none, some}
use lib.ListN.{length, length-append}
use Rattle.definitions.specs.Words.Basics.{big_endian}
use Rattle.definitions.specs.Words.Limits.{two_bytes}
use Rattle.definitions.specs.Words.Expression as tree
use Rattle.definitions.specs.Words.Expression.{Side, left, right, Expr, column, literal, and, binary, call, other, field, Exprs, nil, cons, Record, Predicate, relation, distance, knn, Extraction, extracted}
use Rattle.definitions.specs.Bytes.Encode.{side_number, expr_bytes, exprs_bytes, record_bytes, records_bytes, predicate_fields, frame_bytes, remainder_bytes, extraction_bytes, plan_bytes}
use Rattle.definitions.specs.Bytes.Decode.{index_below}
use Rattle.definitions.specs.Filter.Exchange.{negate}
use Rattle.definitions.specs.Bytes.Good.{InRange, InRangeAll, RecordsInRange, ReadablePredicate, ReadableRemainder, GoodPlan}
use Rattle.projection.specs.Spots.{Spot, spot_number, column_spots, child_spots, record_spots}
use Rattle.projection.proofs.SpotLaws.{side-small, spot_of}
use Rattle.projection.specs.PlanSpots.{both_spots, predicate_spots, remainder_spots, extraction_spots}

-- Of each its two bytes end by a place, and hold it.
pub data AllSound (end : ℕ) : List Spot → Type 0 where
  nothing : AllSound end []
  also : {es : List Spot} (e : Spot) → e.at + 2 ≤ end → e.child < two_bytes → AllSound end es → AllSound end (e ∷ es)

sound-further : {end more : ℕ} {es : List Spot} → end ≤ more → AllSound end es → AllSound more es
sound-further low nothing = nothing
sound-further low (also e inside short all) = also e (omega arith) short (sound-further low all)

-- One part after another.
sound-append : {end : ℕ} {x y : List Spot} → AllSound end x → AllSound end y → AllSound end (x ++ y)
sound-append nothing b = b
sound-append (also e inside short all) b = also e inside short (sound-append all b)

-- ---- columns

abbrev Wide : Expr → Type 0
Wide t = InRange (index_below two_bytes) t

mutual
  unfolding column_spots child_spots expr_bytes exprs_bytes big_endian

  columns-sound : (side : Side) (at : ℕ) (t : Expr) → Wide t → AllSound (at + length (expr_bytes t)) (column_spots side at t)
  columns-sound side at (column i g) = λ h. also (record { side = side; at = at + 1; child = i }) (omega arith) h.1 nothing
  columns-sound side at (literal y v) = λ h. nothing
  columns-sound side at (and l r) = λ h.
      sound-append (sound-further (simp length-append (omega arith)) (columns-sound side (at + 2) l h.0))
      (sound-further (simp length-append (omega arith)) (columns-sound side (at + 2 + length (expr_bytes l)) r h.1))
  columns-sound side at (binary o l r) = λ h.
      sound-append (sound-further (simp length-append (omega arith)) (columns-sound side (at + 2) l h.2))
      (sound-further (simp length-append (omega arith)) (columns-sound side (at + 2 + length (expr_bytes l)) r h.3))
  columns-sound side at (call name ts) = λ h.
      sound-further (simp length-append (omega arith)) (children-sound side (at + (3 + length name)) ts h.4)
  columns-sound side at (other g ts) = λ h.
      sound-further (simp length-append (omega arith)) (children-sound side (at + 4) ts h.2)
  columns-sound side at (field b g) = λ h. nothing

  children-sound : (side : Side) (at : ℕ) (ts : Exprs) → InRangeAll (index_below two_bytes) ts
      → AllSound (at + length (exprs_bytes ts)) (child_spots side at ts)
  children-sound side at nil = λ h. nothing
  children-sound side at (cons t ts) = λ h.
      sound-append (sound-further (simp length-append (omega arith)) (columns-sound side at t h.0))
      (sound-further (simp length-append (omega arith)) (children-sound side (at + length (expr_bytes t)) ts h.1))

both-sound : (one two : Side) (at : ℕ) (l r : Expr) → Wide l → Wide r
    → AllSound (at + (length (expr_bytes l) + length (expr_bytes r))) (both_spots one two at l r)
unfolding both_spots
both-sound one two at l r a b =
    sound-append (sound-further (omega arith) (columns-sound one at l a))
    (sound-further (omega arith) (columns-sound two (at + length (expr_bytes l)) r b))

-- ---- records

records-sound : (at : ℕ) (rs : List Record) → RecordsInRange rs → AllSound (at + length (records_bytes rs)) (record_spots at rs)
unfolding record_spots records_bytes record_bytes big_endian
records-sound at [] h = nothing
records-sound at (r ∷ rs) h =
    also (spot_of at r) (omega arith) h.0.0 (sound-further (omega arith) (records-sound (at + 5) rs h.1))

-- ---- an extraction

predicate-sound : (P : Predicate) → ReadablePredicate P → AllSound (3 + length (predicate_fields P)) (predicate_spots P)
unfolding predicate_spots predicate_fields big_endian
predicate-sound (relation type l r) h =
    sound-further (simp length-append (omega arith)) (both-sound left right 4 l r h.0.in_range h.1.in_range)
predicate-sound (distance form side l r bound) h =
    sound-append (sound-further (simp length-append (omega arith)) (both-sound left right 5 l r h.1.in_range h.2.in_range))
    (sound-further (simp length-append (omega arith))
    (columns-sound side (5 + (length (expr_bytes l) + length (expr_bytes r))) bound h.3.in_range))
predicate-sound (knn k spheroid probe ties l r) h =
    sound-further (simp length-append (omega arith)) (both-sound probe (negate probe) 10 l r h.4.in_range h.5.in_range)

remainder-sound : (at : ℕ) (R : Option tree.Frame) → ReadableRemainder R → AllSound (at + length (remainder_bytes R)) (remainder_spots at R)
unfolding remainder_spots remainder_bytes frame_bytes big_endian
remainder-sound at none h = nothing
remainder-sound at (some F) h =
    sound-further (simp length-append (omega arith)) (records-sound (at + 3) F.records h.records_in_range)

pub extraction-sound : (X : Extraction) → GoodPlan (extracted X) → AllSound (length (plan_bytes (extracted X))) (extraction_spots X)
unfolding extraction_spots plan_bytes extraction_bytes big_endian
extraction-sound X good =
    sound-append (sound-further (simp length-append (omega arith)) (predicate-sound X.predicate good.readable.1))
    (sound-further (simp length-append (omega arith))
    (remainder-sound (3 + length (predicate_fields X.predicate)) X.remainder good.readable.2))

-- ---- what a number says

module _ (e : Spot) (short : e.child < two_bytes) where
  pub number-place : spot_number e / 262144 ≡ e.at
  number-place = omega (arith, side-small e.side)

  pub number-side : spot_number e / 65536 % 4 ≡ side_number e.side
  number-side = omega (arith, side-small e.side)

  pub number-child : spot_number e % 65536 ≡ e.child
  number-child = omega (arith, side-small e.side)
