-- Two arguments in a row: what their walks require, and what they collected.
use Prim.Native.Nat.{ℕ, ◌+◌, ◌≤◌}
use native.Mathlib.Omega.{arith}
use mathlib.Core.Path.{◌≡◌, sym, ◌∙◌, subst}
use mathlib.Core.List.{List, ◌++◌}
use lib.ListN.{length, length-append}
use Rattle.definitions.specs.Words.Limits.{two_bytes}
use Rattle.definitions.specs.Words.Expression.{Side}
use Rattle.definitions.specs.Bytes.Encode.{expr_bytes}
use Rattle.definitions.specs.Bytes.Decode.{index_below}
use Rattle.expression.specs.Nodes.{Stands}
use Rattle.projection.specs.Spots.{Spot, column_spots}
use Rattle.projection.specs.Rows.{ColumnsFit, SpotsPut, ColumnsCollected}
use Rattle.projection.specs.declared.spots.Spotted.{Spotted}
use Rattle.projection.proofs.SpotWalk.{index-after, collected-both}
use Rattle.projection.specs.PlanSpots.{both_spots}
use Rattle.projection.specs.Arguments.{BothFit, BothCollected}

-- The same walk counted from another place.
pub counted-from : {at size i : ℕ} {x : List Spot} {before after : List ℕ} {r : Spotted} → SpotsPut at size i x before after r
    → (from length : ℕ) → at + size ≡ from + length → SpotsPut from length i x before after r
counted-from c from length e = record { ends = c.ends ∙ e; put = c.put }

module _ {s : List ℕ} {at : ℕ} {one two : Side} {row : List ℕ} (f : BothFit s at one two row) where
  pub first_fits : ColumnsFit s at one 0 row
  unfolding both_spots
  first_fits = record {
    tree = f.l;
    stands = f.there.first;
    short = omega (arith, f.short);
    room = omega (arith, simp length-append at f.room);
  }

  pub second_fits : (middle : List ℕ) → length middle ≡ length row → (p : Spotted) → ColumnsCollected s at one 0 row middle p
      → ColumnsFit s p.end two p.index middle
  unfolding both_spots
  second_fits middle same p is =
      let a : SpotsPut at (length (expr_bytes f.l)) 0 (column_spots one at f.l) row middle p = is f.l f.there.first in
      record {
        tree = f.r;
        stands = subst (λ (q : ℕ). Stands (index_below two_bytes) s q f.r) (sym a.ends) f.there.second;
        short = omega (arith, f.short, a.ends);
        room = subst (λ (q : ℕ). p.index + length (column_spots two q f.r) ≤ length middle) (sym a.ends)
            (omega (arith, index-after a, simp length-append at f.room));
      }

pub both-collected : {s : List ℕ} {at : ℕ} (one two : Side) (before middle after : List ℕ) (p r : Spotted)
    → ColumnsCollected s at one 0 before middle p → ColumnsCollected s p.end two p.index middle after r
    → BothCollected s at one two before after r
unfolding both_spots
both-collected {s} {at} one two before middle after p r first second x y there =
    let a : SpotsPut at (length (expr_bytes x)) 0 (column_spots one at x) before middle p = first x there.first in
    let b : SpotsPut p.end (length (expr_bytes y)) p.index (column_spots two p.end y) middle after r =
    second y (subst (λ (q : ℕ). Stands (index_below two_bytes) s q y) (sym a.ends) there.second) in
    let size : ℕ = length (expr_bytes x) + length (expr_bytes y) in
    let all = collected-both (omega arith) a b in
    subst (λ (q : ℕ). SpotsPut at size 0 (column_spots one at x ++ column_spots two q y) before after r) a.ends all
