-- The fields among the records of an expression are its own, and their bits stand after the node's first byte.
use Prim.Native.Nat.{ℕ, ◌+◌, ◌≤◌, ◌<◌}
use native.Mathlib.Omega.{arith}
use mathlib.Core.Path.{◌≡◌, refl, sym, ap, ap₂, ◌∙◌, subst}
use mathlib.Core.List.{List, [], ◌∷◌, ◌++◌, map, map-append, append-nil}
use lib.ListN.{length, drop, get_or}
use Rattle.definitions.specs.Words.Expression.{Expr, column, literal, and, binary, call, other, field, Exprs, nil, cons, count}
use Rattle.definitions.specs.Bytes.Encode.{expr_bytes}
use Rattle.definitions.specs.Bytes.Decode.{Columns, index_below, fields}
use Rattle.definitions.specs.Bytes.Good.{All, FieldInRange}
use Rattle.definitions.specs.Bytes.NodeTable.{record_of, nodes_from, row_from}
use Rattle.definitions.specs.Filter.Names.{bits_of, bits_of_all}
use Rattle.theorems.proofs.Cases.{whole}
use Rattle.theorems.proofs.Columns.{all_append}
use Rattle.expression.specs.Nodes.{head_bytes, children_of, kind_of, Stands, Row}
use Rattle.expression.proofs.Placed.{byte_at}
use Rattle.expression.proofs.Standing.{head-stands, head-fits, children-stand, first-stands, rest-stands}
use Rattle.filter_tree.proofs.NodeLaws.{nodes-split, kind-byte}
use Rattle.node_table.specs.declared.NodeRecord.{NodeRecord as Lent}
use Rattle.node_table.specs.Records.{nodes_of}
use Rattle.node_table.proofs.RecordLaws.{blank}
use Rattle.filter_tree.specs.Trees.{Noded, below, places_of}
use Rattle.filter_tree.proofs.Scans.{kind-more, other-more, places-append, noded-places}
use Rattle.filter_tree.specs.Columns.{bits_in, FieldAt, FieldsAre}

-- ---- those of an expression

bits_below : (t : Expr) → (kind_of t ≡ 5 → ⊥) → bits_of t ≡ bits_of_all (children_of t)
unfolding kind_of bits_of children_of
bits_below (column i g) k = refl
bits_below (literal y v) k = refl
bits_below (and l r) k = ap (λ (x : List ℕ). bits_of l ++ x) (sym (append-nil (bits_of r)))
bits_below (binary o l r) k = ap (λ (x : List ℕ). bits_of l ++ x) (sym (append-nil (bits_of r)))
bits_below (call name args) k = refl
bits_below (other g cs) k = refl
bits_below (field b g) k = absurd (k refl)

module _ {c : Columns} {s : List ℕ} where
  moved : {x y u v : List ℕ} → x ≡ y → u ≡ v → FieldsAre c s y v → FieldsAre c s x u
  moved e f h = record { read = ap (map (bits_in s)) e ∙ h.read ∙ sym f; each = subst (All (FieldAt c s)) (sym e) h.each }

  join : {x y u v : List ℕ} → FieldsAre c s x u → FieldsAre c s y v → FieldsAre c s (x ++ y) (u ++ v)
  join {x} {y} f g = record {
    read = map-append (bits_in s) x y ∙ ap₂ ◌++◌ f.read g.read;
    each = all_append (FieldAt c s) x y f.each g.each;
  }

module _ (c : Columns) (s : List ℕ) where
  abbrev Law : Expr → Type 0
  Law t = (at : ℕ) → Stands c s at t → FieldsAre c s (places_of 5 (nodes_from at t)) (bits_of t)

  abbrev RowLaw : Exprs → Type 0
  RowLaw ts = (at n : ℕ) → Row c s at n ts → FieldsAre c s (places_of 5 (row_from at ts)) (bits_of_all ts)

  node : (t : Expr) → (kind_of t ≡ 5 → ⊥) → RowLaw (children_of t) → Law t
  unfolding record_of
  node t unlike lower at h =
      let p : ℕ = at + length (head_bytes t) in
      moved (ap (places_of 5) (nodes-split at t) ∙ other-more 5 (record_of at t) (row_from p (children_of t))
      (λ e. unlike (kind-byte t ∙ e)))
      (bits_below t unlike) (lower p (count (children_of t)) (children-stand h p (count (children_of t)) refl refl))

  of-field : (b g : ℕ) → Law (field b g)
  unfolding nodes_from bits_of head_bytes kind_of record_of places_of
  of-field b g at h = moved (kind-more 5 (record_of at (field b g)) [] (sym (kind-byte (field b g)))) refl (record {
    read = ap {B = List ℕ} (λ n. n ∷ []) (byte_at (head-stands h) 1 (omega arith));
    each = ((b, g, h), tt);
  })

  none : RowLaw nil
  unfolding row_from bits_of_all places_of
  none at n row = record { read = refl; each = tt }

  more : (t : Expr) (ts : Exprs) → Law t → RowLaw ts → RowLaw (cons t ts)
  unfolding row_from bits_of_all count
  more t ts one others at n row =
      let p : ℕ = at + length (expr_bytes t) in
      moved (places-append 5 (nodes_from at t) (row_from p ts)) refl
      (join (one at (first-stands row)) (others p (count ts) (rest-stands row p (count ts) refl row.counted)))

  pair : (l r : Expr) → Law l → Law r → RowLaw (cons l (cons r nil))
  pair l r one two = more l (cons r nil) one (more r nil two none)

  pub fields-are : (t : Expr) → Law t
  unfolding kind_of children_of
  fields-are = whole Law RowLaw (λ i g. node (column i g) (λ e. omega arith) none) (λ y v. node (literal y v) (λ e. omega arith) none)
      (λ l r a b. node (and l r) (λ e. omega arith) (pair l r a b)) (λ o l r a b. node (binary o l r) (λ e. omega arith) (pair l r a b))
      (λ name ts f. node (call name ts) (λ e. omega arith) f) (λ g ts f. node (other g ts) (λ e. omega arith) f) of-field none more

pub noded-fields : {c : Columns} {s : List ℕ} {xs : List Lent} {at i : ℕ} {t : Expr} → Stands c s at t → Noded xs at i t
    → FieldsAre c s (places_of 5 (below (get_or xs i blank).end (drop i (nodes_of xs)))) (bits_of t)
noded-fields {c} {s} {at = at} {t = t} stands h = moved (noded-places 5 h) refl (fields-are c s t at stands)

-- ---- one of them

few : (c : Columns) (b g : ℕ) → FieldInRange c b g → b ≤ 3
few (index_below bound) b g h = absurd h
few fields b g h = h.0

-- Its bits are there, and they are at most two.
pub field-bits : {c : Columns} {s : List ℕ} {at : ℕ} → FieldAt c s at → (at + 1 < length s) × (bits_in s at ≤ 3)
unfolding head_bytes
field-bits {c} {s} {at} (b, g, h) = (
  omega (arith, head-fits h),
  omega (arith, byte_at (head-stands h) 1 (omega arith), few c b g h.in_range),
)
