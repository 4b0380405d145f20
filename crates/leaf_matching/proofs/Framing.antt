-- Laws of an expression with its records: from a node to its column's record, and to its children.
use Prim.Native.Nat.{ℕ, suc, ◌+◌, ◌*◌, ◌≤◌}
use native.Mathlib.Omega.{arith}
use mathlib.Core.Path.{◌≡◌, refl, sym, ap₂, ◌∙◌}
use mathlib.Core.List.{List, ◌∷◌, ◌++◌}
use lib.ListN.{length, get_or}
use borrow.Author.Tests.{ltb-true}
use Rattle.definitions.specs.Words.Basics.{big_endian}
use Rattle.definitions.specs.Words.Expression.{Expr, column, Exprs, cons, Record, count}
use Rattle.definitions.specs.Bytes.Encode.{expr_bytes, record_bytes}
use Rattle.definitions.specs.Bytes.Decode.{index_below}
use Rattle.definitions.specs.Words.References.{record_at}
use Rattle.expression.specs.Places.{Holds, short_at}
use Rattle.expression.specs.Nodes.{head_bytes, children_of, Tree}
use Rattle.leaf_matching.specs.Frames.{Over, OverAll, Framed}
use Rattle.expression.proofs.Placed.{fits, front, back, next}
use Rattle.expression.proofs.OfKind.{a-column}
use Rattle.expression.proofs.HeadLaws.{head-column}
use Rattle.expression.proofs.Standing.{children-stand, first-stands, rest-stands, head-stands, head-fits, kind-is}
use Rattle.theorems.proofs.ExchangeGood.{record-length}
use Rattle.expression.proofs.Records.{short-is, short-length, entry_at}

-- ---- what is known of a node

-- What the bytes of a column node say.
pub record ColumnIs (s : List ℕ) (rec at : ℕ) (records : List Record) (t : Expr) : Type 0 where
  pub tree : t ≡ column (short_at s (at + 1)) (short_at s (at + 3))
  pub entry : Holds s (rec + 5 * short_at s (at + 1)) (record_bytes (record_at records (short_at s (at + 1))))

module _ {s : List ℕ} {rec at : ℕ} {records : List Record} where
  pub column-is : {t : Expr} → Over s rec at records t → get_or s at 0 ≡ 0 → ColumnIs s rec at records t
  unfolding head_bytes
  column-is {t} over e = a-column (λ t. Over s rec at records t → ColumnIs s rec at records t)
      (λ i g o.
      let h : Holds s at (0 ∷ (big_endian 2 i ++ big_endian 2 g)) = head-stands o.tree in
      let both : Holds s (at + 1) (big_endian 2 i ++ big_endian 2 g) = next h (at + 1) refl in
      let index : short_at s (at + 1) ≡ i = short-is (front (big_endian 2 i) (big_endian 2 g) both) o.tree.in_range.1 in
      let tag : short_at s (at + 3) ≡ g =
      short-is (back (big_endian 2 i) (big_endian 2 g) both (at + 3) (omega (arith, short-length i))) o.tree.in_range.2 in
      record {
        tree = ap₂ column (sym index) (sym tag);
        entry = entry_at records o.entries (short_at s (at + 1)) (omega (arith, ltb-true i (length records) o.tree.in_range.0))
            (rec + 5 * short_at s (at + 1)) refl;
      }) t (kind-is over.tree ∙ e) over

  -- The law from a node to its children, and from a row to its first and its rest, with the records.
  pub children-over : {t : Expr} → Over s rec at records t → (p n : ℕ) → p ≡ at + length (head_bytes t) → n ≡ count (children_of t)
      → OverAll s rec p n records (children_of t)
  children-over over p n e k = record { entries = over.entries; row = children-stand over.tree p n e k }

  pub first-over : {n : ℕ} {t : Expr} {ts : Exprs} → OverAll s rec at n records (cons t ts) → Over s rec at records t
  first-over o = record { entries = o.entries; tree = first-stands o.row }

  pub rest_over : {n : ℕ} {t : Expr} {ts : Exprs} → OverAll s rec at n records (cons t ts) → (p m : ℕ) → p ≡ at + length (expr_bytes t)
      → suc m ≡ n
      → OverAll s rec p m records ts
  rest_over o p m e k = record { entries = o.entries; row = rest-stands o.row p m e k }

-- ---- what the walks' calls require

module _ {s : List ℕ} {rec at : ℕ} where
  pub framed-tree : Framed s rec at → Tree s at
  framed-tree p = (index_below (length p.0), p.1, p.2.tree)

  -- A column and its record lie within s.
  pub column_fits : Framed s rec at → get_or s at 0 ≡ 0 → at + 5 ≤ length s
  column_fits p e = omega (arith, (head-column p.2.tree e).next, head-fits p.2.tree)

  pub entry-within : Framed s rec at → get_or s at 0 ≡ 0 → rec + 5 * short_at s (at + 1) + 5 ≤ length s
  entry-within p e = omega (arith, fits (column-is p.2 e).entry, record-length (record_at p.0 (short_at s (at + 1))))
