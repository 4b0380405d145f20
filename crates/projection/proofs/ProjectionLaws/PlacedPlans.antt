-- Whether the lists have every child index of an extraction: of its columns and records, and of their places in its bytes.
use Prim.Native.Nat.{ℕ, ◌+◌}
use mathlib.Core.Path.{◌≡◌, refl, sym, ap, ap₂, ◌∙◌}
use mathlib.Core.Bool.{Bool, ◌&&◌, and_assoc}
use mathlib.Core.List.{List, [], ◌∷◌}
use mathlib.Core.Option.{Option, none, some}
use lib.ListN.{length}
use Rattle.definitions.specs.Words.Basics.{all}
use Rattle.definitions.specs.Words.Expression as tree
use Rattle.definitions.specs.Words.Expression.{Side, left, right, Expr, column, literal, and, binary, call, other, field, Exprs, nil, cons, Record, Predicate, relation, distance, knn, Extraction}
use Rattle.definitions.specs.Bytes.Encode.{expr_bytes, predicate_fields}
use Rattle.definitions.specs.Words.References.{columns_of, columns_of_all}
use Rattle.definitions.specs.Filter.Exchange.{negate}
use Rattle.definitions.specs.Filter.Project.{ChildLists, has_place, placed_expr, placed_predicate, placed_record, placed_remainder, placed}
use Rattle.expression.proofs.AndLeaves.{all_append}
use Rattle.projection.specs.Spots.{column_spots, child_spots, record_spots}
use Rattle.projection.specs.PlanSpots.{both_spots, predicate_spots, remainder_spots, extraction_spots}
use Rattle.projection.proofs.PlacedSpots.{has}

module _ (lists : ChildLists) where
  mutual
    unfolding column_spots child_spots columns_of columns_of_all all

    columns-have : (side : Side) (at : ℕ) (t : Expr) → all (has lists) (column_spots side at t) ≡ all (has_place lists side) (columns_of t)
    columns-have side at (column i g) = refl
    columns-have side at (literal y v) = refl
    columns-have side at (and l r) =
        all_append (has lists) (column_spots side (at + 2) l) (column_spots side (at + 2 + length (expr_bytes l)) r)
        ∙ ap₂ ◌&&◌ (columns-have side (at + 2) l) (columns-have side (at + 2 + length (expr_bytes l)) r)
        ∙ sym (all_append (has_place lists side) (columns_of l) (columns_of r))
    columns-have side at (binary o l r) =
        all_append (has lists) (column_spots side (at + 2) l) (column_spots side (at + 2 + length (expr_bytes l)) r)
        ∙ ap₂ ◌&&◌ (columns-have side (at + 2) l) (columns-have side (at + 2 + length (expr_bytes l)) r)
        ∙ sym (all_append (has_place lists side) (columns_of l) (columns_of r))
    columns-have side at (call name ts) = children-have side (at + (3 + length name)) ts
    columns-have side at (other g ts) = children-have side (at + 4) ts
    columns-have side at (field b g) = refl

    children-have : (side : Side) (at : ℕ) (ts : Exprs)
        → all (has lists) (child_spots side at ts) ≡ all (has_place lists side) (columns_of_all ts)
    children-have side at nil = refl
    children-have side at (cons t ts) =
        all_append (has lists) (column_spots side at t) (child_spots side (at + length (expr_bytes t)) ts)
        ∙ ap₂ ◌&&◌ (columns-have side at t) (children-have side (at + length (expr_bytes t)) ts)
        ∙ sym (all_append (has_place lists side) (columns_of t) (columns_of_all ts))

  both-have : (one two : Side) (at : ℕ) (l r : Expr)
      → all (has lists) (both_spots one two at l r) ≡ (placed_expr lists one l && placed_expr lists two r)
  unfolding both_spots placed_expr
  both-have one two at l r =
      all_append (has lists) (column_spots one at l) (column_spots two (at + length (expr_bytes l)) r)
      ∙ ap₂ ◌&&◌ (columns-have one at l) (columns-have two (at + length (expr_bytes l)) r)

  predicate-have : (P : Predicate) → all (has lists) (predicate_spots P) ≡ placed_predicate lists P
  unfolding predicate_spots placed_predicate placed_expr
  predicate-have (relation type l r) = both-have left right 4 l r
  predicate-have (distance form side l r bound) =
      let at : ℕ = 5 + (length (expr_bytes l) + length (expr_bytes r)) in
      all_append (has lists) (both_spots left right 5 l r) (column_spots side at bound)
      ∙ ap₂ ◌&&◌ (both-have left right 5 l r) (columns-have side at bound)
      ∙ and_assoc (placed_expr lists left l) (placed_expr lists right r) (placed_expr lists side bound)
  predicate-have (knn k spheroid probe ties l r) = both-have probe (negate probe) 10 l r

  records-have : (at : ℕ) (rs : List Record) → all (has lists) (record_spots at rs) ≡ all (placed_record lists) rs
  unfolding record_spots placed_record all
  records-have at [] = refl
  records-have at (r ∷ rs) = ap (λ (t : Bool). placed_record lists r && t) (records-have (at + 5) rs)

  remainder-have : (at : ℕ) (R : Option tree.Frame) → all (has lists) (remainder_spots at R) ≡ placed_remainder lists R
  unfolding remainder_spots placed_remainder all
  remainder-have at none = refl
  remainder-have at (some F) = records-have (at + 3) F.records

  pub extraction-have : (X : Extraction) → all (has lists) (extraction_spots X) ≡ placed lists X
  unfolding extraction_spots placed
  extraction-have X =
      let at : ℕ = 3 + length (predicate_fields X.predicate) in
      all_append (has lists) (predicate_spots X.predicate) (remainder_spots at X.remainder)
      ∙ ap₂ ◌&&◌ (predicate-have X.predicate) (remainder-have at X.remainder)
