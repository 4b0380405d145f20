-- Numbers of two bytes, records and columns at a place.
use Prim.Native.Nat.{ℕ, zero, suc, ◌+◌, ◌<◌}
use native.Mathlib.Omega.{arith}
use mathlib.Core.Path.{◌≡◌, refl, sym, ap₂, ◌∙◌, subst}
use mathlib.Core.List.{List, [], ◌∷◌, ◌++◌}
use lib.ListN.{length, get_or}
use lib.Dec.{lit<}
use borrow.Author.Tests.{ltb-true}
use Rattle.definitions.specs.Words.Basics.{big_endian}
use Rattle.definitions.specs.Words.Expression.{Expr, column, Record}
use Rattle.definitions.specs.Bytes.Encode.{expr_bytes}
use Rattle.definitions.specs.Bytes.Decode.{index_below}
use Rattle.definitions.specs.Words.References.{record_at}
use Rattle.definitions.specs.Bytes.Good.{RecordsInRange}
use Rattle.expression.specs.Places.{Holds, short_at}
use Rattle.expression.specs.Nodes.{head_bytes, Stands}
use Rattle.expression.proofs.Records.{short-is, short-length}
use Rattle.expression.proofs.Placed.{front, back, next}
use Rattle.expression.proofs.OfKind.{a-column}
use Rattle.expression.proofs.Standing.{head-stands, kind-is}

pub child-short : (rs : List Record) (i : ℕ) → RecordsInRange rs → (record_at rs i).child < 65536
unfolding record_at
child-short [] i h = lit< tt
child-short (r ∷ rs) zero h = h.0.0
child-short (r ∷ rs) (suc i) h = child-short rs i h.1

-- A column's five bytes.
pub column-size : (index tag : ℕ) → length (expr_bytes (column index tag)) ≡ 5
unfolding expr_bytes big_endian
column-size index tag = refl

-- What the bytes of a column say.
pub record ColumnIs (n : ℕ) (s : List ℕ) (at : ℕ) (t : Expr) : Type 0 where
  pub tree : t ≡ column (short_at s (at + 1)) (short_at s (at + 3))
  pub below : short_at s (at + 1) < n
  pub bytes : Holds s at (expr_bytes (column (short_at s (at + 1)) (short_at s (at + 3))))

pub column-is : {n : ℕ} {s : List ℕ} {at : ℕ} {t : Expr} → Stands (index_below n) s at t → get_or s at 0 ≡ 0 → ColumnIs n s at t
unfolding head_bytes expr_bytes
column-is {n} {s} {at} {t} stands e = a-column (λ t. Stands (index_below n) s at t → ColumnIs n s at t)
    (λ i g o.
    let both : Holds s (at + 1) (big_endian 2 i ++ big_endian 2 g) = next (head-stands o) (at + 1) refl in
    let index : i ≡ short_at s (at + 1) = sym (short-is (front (big_endian 2 i) (big_endian 2 g) both) o.in_range.1) in
    let tag : g ≡ short_at s (at + 3) =
    sym (short-is (back (big_endian 2 i) (big_endian 2 g) both (at + 3) (omega (arith, short-length i))) o.in_range.2) in
    let is : column i g ≡ column (short_at s (at + 1)) (short_at s (at + 3)) = ap₂ column index tag in
    record {
      tree = is;
      below = omega (arith, ltb-true i n o.in_range.0);
      bytes = subst (λ (t : Expr). Holds s at (expr_bytes t)) is
          o.bytes;
    })
    t (kind-is stands ∙ e) stands
