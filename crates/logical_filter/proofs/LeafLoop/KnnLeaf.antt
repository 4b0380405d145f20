-- An AND-leaf has the bit of `st_knn` where it is such a call, and the index that is kept is that of the first.
use Rattle.std.specs.Prelude.{Some, None, eqb, if◌then◌else◌}
use Rattle.std.specs.Prelude as prelude
use Prim.Native.Nat.{ℕ, ◌+◌, ◌*◌, ◌≤◌}
use native.Mathlib.Omega.{arith}
use mathlib.Core.Path.{◌≡◌, refl, sym, ap, ◌∙◌, subst}
use mathlib.Core.Bool.{Bool, true, false, or-false}
use mathlib.Core.List.{List, [], ◌∷◌}
use mathlib.Core.Option.{Option, none, some}
use borrow.Author.Tests.{ne_eqb}
use Rattle.definitions.specs.Words.Basics.{ascii, same_name, any}
use Rattle.definitions.specs.Words.Expression.{Expr, column, literal, and, binary, call, other, field, Exprs}
use Rattle.definitions.specs.Words.Leaves.{Comparison, compares, no_comparison, comparison}
use Rattle.definitions.specs.Bytes.Decode.{Columns}
use Rattle.definitions.specs.Filter.Names.{lower_case, spatial_names, function_name, comparison_name, leaf_name, mask, knn_arguments}
use Rattle.expression.specs.Nodes.{children_of, Stands}
use Rattle.node_table.specs.declared.NodeRecord.{NodeRecord as Lent}
use Rattle.filter_tree.specs.Trees.{Noded}
use Rattle.theorems.proofs.Requests.{same-name}
use Rattle.logical_filter.specs.Logicals.{known}
use Rattle.logical_filter.specs.QuerySides.{or_else, first_knn, KnnIs}
use Rattle.logical_filter.proofs.NameMasks.{same-sym}
use Rattle.logical_filter.proofs.QueryWalk.{or-none}

-- ---- its bit

small : (b : Bool) → (if b then 1 else 0) ≤ 1
small true = omega arith
small false = omega arith

-- Eleven bits below it, and any above it.
not-twelfth : (a b c d e f g h i j k m : ℕ) → a ≤ 1 → b ≤ 1 → c ≤ 1 → d ≤ 1 → e ≤ 1 → f ≤ 1 → g ≤ 1 → h ≤ 1 → i ≤ 1 → j ≤ 1 → k ≤ 1
    → a + 2 * (b + 2 * (c + 2 * (d + 2 * (e + 2 * (f + 2 * (g + 2 * (h + 2 * (i + 2 * (j + 2 * (k + 2 * (0 + 2 * m))))))))))) ≡ 2048 → ⊥
not-twelfth a b c d e f g h i j k m p q r s t u v w x y z is = omega arith

module _ (n : List ℕ) where
  bit_of : (name : List ℕ) → ℕ
  bit_of name = if any (same_name name) (n ∷ []) then 1 else 0

  no-bit : same_name n (ascii "st_knn") ≡ false → mask spatial_names (n ∷ []) ≡ 2048 → ⊥
  unfolding mask spatial_names any bit_of
  no-bit e is =
      let low : (name : List ℕ) → bit_of name ≤ 1 = λ name. small (any (same_name name) (n ∷ [])) in
      let zero : bit_of (ascii "st_knn") ≡ 0 =
      ap (λ (b : Bool). if b then 1 else 0) (or-false (same_name (ascii "st_knn") n) ∙ same-sym (ascii "st_knn") n ∙ e) in
      not-twelfth (bit_of (ascii "st_intersects")) (bit_of (ascii "st_contains")) (bit_of (ascii "st_within"))
      (bit_of (ascii "st_covers")) (bit_of (ascii "st_covered_by")) (bit_of (ascii "st_coveredby")) (bit_of (ascii "st_touches"))
      (bit_of (ascii "st_crosses")) (bit_of (ascii "st_overlaps")) (bit_of (ascii "st_equals")) (bit_of (ascii "st_dwithin"))
      (mask (ascii "rs_intersects" ∷ ascii "rs_contains" ∷ ascii "rs_within" ∷ []) (n ∷ []))
      (low _) (low _) (low _) (low _) (low _) (low _) (low _) (low _) (low _) (low _) (low _)
      (omega (arith, zero, is))

  pub knn-bit : eqb (mask spatial_names (n ∷ [])) 2048 ≡ same_name n (ascii "st_knn")
  unfolding mask spatial_names any same_name ascii
  knn-bit = by_same (same_name n (ascii "st_knn")) refl where
    by_same : (b : Bool) → same_name n (ascii "st_knn") ≡ b → eqb (mask spatial_names (n ∷ [])) 2048 ≡ b
    by_same true e = ap (λ (n : List ℕ). eqb (mask spatial_names (n ∷ [])) 2048) (same-name n (ascii "st_knn") e)
    by_same false e = ne_eqb (mask spatial_names (n ∷ [])) 2048 (no-bit e)

comparison-bit : (q : Comparison) → eqb (mask spatial_names (comparison_name q ∷ [])) 2048 ≡ false
unfolding comparison_name mask spatial_names any same_name ascii
comparison-bit no_comparison = refl
comparison-bit (compares m b) = by_same (same_name (function_name m) (ascii "st_distance")) where
  by_same : (same : Bool) → eqb (mask spatial_names ((if same then ascii "st_dwithin" else []) ∷ [])) 2048 ≡ false
  by_same true = refl
  by_same false = refl

-- What the test of its bit says.
abbrev KnnBy : Expr → Bool → Type 0
KnnBy t true = knn_arguments t ≡ some (children_of t)
KnnBy t false = knn_arguments t ≡ none

module _ (b : Bool) where
  no_call : (t : Expr) → knn_arguments t ≡ none → eqb (mask spatial_names (leaf_name t ∷ [])) 2048 ≡ false
      → eqb (mask spatial_names (leaf_name t ∷ [])) 2048 ≡ b → KnnBy t b
  no_call t lacks is e = subst (KnnBy t) (sym is ∙ e) lacks

  a-call : (name : List ℕ) (ts : Exprs) → same_name (lower_case name) (ascii "st_knn") ≡ b → KnnBy (call name ts) b
  unfolding knn_arguments children_of
  a-call name ts e = by-value b e where
    by-value : (b : Bool) → same_name (lower_case name) (ascii "st_knn") ≡ b → KnnBy (call name ts) b
    by-value true e = rw e refl
    by-value false e = rw e refl

  leaf-knn : (t : Expr) → eqb (mask spatial_names (leaf_name t ∷ [])) 2048 ≡ b → KnnBy t b
  unfolding knn_arguments leaf_name mask spatial_names any same_name ascii
  leaf-knn (column i g) e = no_call (column i g) refl refl e
  leaf-knn (literal y v) e = no_call (literal y v) refl refl e
  leaf-knn (and l r) e = no_call (and l r) refl refl e
  leaf-knn (binary o l r) e = no_call (binary o l r) refl (comparison-bit (comparison o l r)) e
  leaf-knn (call name ts) e = a-call name ts (sym (knn-bit (lower_case name)) ∙ e)
  leaf-knn (other g ts) e = no_call (other g ts) refl refl e
  leaf-knn (field x g) e = no_call (field x g) refl refl e

-- ---- the index that is kept

module _ {c : Columns} {s : List ℕ} {nodes : List Lent} {place i : ℕ} {t : Expr} (stands : Stands c s place t)
    (h : Noded nodes place i t) where
  this-leaf : (b : Bool) → eqb (mask spatial_names (leaf_name t ∷ [])) 2048 ≡ b
      → KnnIs s nodes (if b then Some i else None) (first_knn (t ∷ []))
  unfolding first_knn
  this-leaf true e = record {
    columns = c;
    place = place;
    call = t;
    is = or-none (knn_arguments t) ∙ leaf-knn true t e;
    stands = stands;
    noded = h;
  }
  this-leaf false e = or-none (knn_arguments t) ∙ leaf-knn false t e

  pub knn-kept : (knn : prelude.Option ℕ) (q : Option Exprs) → KnnIs s nodes knn q
      → KnnIs s nodes (known knn (mask spatial_names (leaf_name t ∷ [])) i) (or_else q (first_knn (t ∷ [])))
  knn-kept (Some j) q k = record {
    columns = k.columns;
    place = k.place;
    call = k.call;
    is = ap (λ (q : Option Exprs). or_else q (first_knn (t ∷ []))) k.is;
    stands = k.stands;
    noded = k.noded;
  }
  knn-kept None q k = subst
      (λ (q : Option Exprs). KnnIs s nodes (if eqb (mask spatial_names (leaf_name t ∷ [])) 2048 then Some i else None)
      (or_else q (first_knn (t ∷ []))))
      (sym k) (this-leaf (eqb (mask spatial_names (leaf_name t ∷ [])) 2048) refl)
