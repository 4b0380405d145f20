-- The worked run and the ten rows hold by computation, row 9 beside the definitions; of row 8, an operator from 5 on compares nothing.
use Prim.Native.Nat.{ℕ, ◌≤◌}
use native.Mathlib.Omega.{arith}
use mathlib.Core.Path.{◌≡◌, refl, ap}
use mathlib.Core.Bool.{false}
use mathlib.Core.List.{List, [], ◌∷◌}
use mathlib.Core.Option.{none}
use lib.Dec.{eqb}
use borrow.Author.Tests.{ne_eqb}
use Rattle.definitions.specs.Words.Expression.{Expr, binary, Record}
use Rattle.definitions.specs.Words.Leaves.{leaves, comparison, Comparison, no_comparison}
use Rattle.definitions.specs.Filter.Match.{match_leaf_by, match_request, request_by, comparison_request}
use Rattle.definitions.specs.Filter.Extract.{matches_by, extraction_by, extraction, pick, first_match, later, first_of, take_pick}
use Rattle.definitions.specs.Rows.Ten.{TenRows}
use Rattle.definitions.proofs.Everything.{everything}
use Rattle.definitions.proofs.Rows.Ten.{row-nine-holds}

-- An operator from 5 on compares nothing, so its leaf asks for nothing.
no-comparison : (operator : ℕ) → 5 ≤ operator → (l r : Expr) → comparison operator l r ≡ no_comparison
unfolding comparison
no-comparison o h l r = rw (other 1 (omega arith), other 2 (omega arith), other 3 (omega arith), other 4 (omega arith))
  where
    other : (k : ℕ) → (o ≡ k → ⊥) → eqb o k ≡ false
    other k n = ne_eqb o k n

other-operator : (operator : ℕ) → 5 ≤ operator → (records : List Record) (l r : Expr)
    → extraction (record { records = records; expr = binary operator l r }) ≡ none
unfolding extraction_by matches_by leaves match_leaf_by request_by comparison_request match_request pick first_match later first_of
    take_pick
other-operator o h records l r =
    ap (λ (c : Comparison). take_pick (record { records = records; expr = binary o l r })
    (pick (match_request records (comparison_request o c) ∷ []))) (no-comparison o h l r)

-- 01's table, one theorem, by computation.
pub ten-rows-hold : TenRows
unfolding everything
ten-rows-hold = record {
  worked-run = refl;
  row1 = refl;
  row2 = refl;
  row3-matches = refl;
  row3-does-not = refl;
  row4-matches = refl;
  row4-does-not = refl;
  row5 = refl;
  row6 = refl;
  row7 = refl;
  row8-first = refl;
  row8-last = refl;
  row8 = other-operator;
  row9 = row-nine-holds;
  row10-physical = refl;
  row10-logical = refl;
}
