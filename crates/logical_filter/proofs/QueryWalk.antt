-- The first KNN call, and the schemas of its first argument by a loop over that argument's logical columns.
use Rattle.std.specs.Prelude.{if◌then◌else◌}
use Prim.Native.Nat.{ℕ, zero, suc, ◌+◌, ◌/◌, ◌%◌, ◌≤◌, ◌<◌}
use native.Mathlib.Omega.{arith}
use mathlib.Core.Path.{◌≡◌, refl, sym, ap, ap₂, ◌∙◌, subst}
use mathlib.Core.Bool.{Bool, true, false, ◌&&◌, not, and_assoc, and-true}
use mathlib.Core.List.{List, [], ◌∷◌, ◌++◌, map}
use mathlib.Core.Option.{Option, none, some}
use lib.ListN.{length}
use lib.Bits.{bit_and}
use lib.Dec.{eqb}
use Rattle.definitions.specs.Words.Basics.{all}
use Rattle.definitions.specs.Words.Expression.{Side, left, right, no_side, Expr, Exprs, nil, cons, count}
use Rattle.definitions.specs.Bytes.Decode.{Columns}
use Rattle.definitions.specs.Bytes.Good.{All, nodes, nodes_all}
use Rattle.definitions.specs.Filter.Names.{bits_of, in_left, in_right, schema_side, first_argument_side, knn_arguments, query_side_from, query_side}
use Rattle.expression.specs.Nodes.{children_of, Row}
use Rattle.expression.proofs.Standing.{children-stand, first-stands}
use Rattle.filter_tree.proofs.NodeLaws.{nodes-below}
use Rattle.node_table.specs.declared.NodeRecord.{NodeRecord as Lent}
use Rattle.filter_tree.specs.Trees.{NodedAll, OfTreeNode, Indexed}
use Rattle.filter_tree.proofs.Scans.{noded-children}
use Rattle.filter_tree.proofs.Children.{noded-first}
use Rattle.filter_tree.specs.Columns.{bits_in, FieldAt, FieldsAre}
use Rattle.logical_filter.specs.QuerySides.{or_else, first_knn, KnnAt, SchemasAre}
use Rattle.logical_filter.specs.declared.knn_query_side.Schemas.{Schemas}
use Rattle.filter_tree.proofs.Fields.{field-bits}

-- ---- the first KNN call

or_assoc : (a b d : Option Exprs) → or_else a (or_else b d) ≡ or_else (or_else a b) d
or_assoc none b d = refl
or_assoc (some x) b d = refl

pub or-none : (a : Option Exprs) → or_else a none ≡ a
or-none none = refl
or-none (some x) = refl

pub knn-append : (xs ys : List Expr) → first_knn (xs ++ ys) ≡ or_else (first_knn xs) (first_knn ys)
unfolding first_knn
knn-append [] ys = refl
knn-append (x ∷ xs) ys = ap (or_else (knn_arguments x)) (knn-append xs ys) ∙ or_assoc (knn_arguments x) (first_knn xs) (first_knn ys)

-- The query side is that of the first KNN call.
side-from : (a b : Option Exprs) → query_side_from a (query_side_from b no_side) ≡ query_side_from (or_else a b) no_side
unfolding query_side_from
side-from none b = refl
side-from (some args) b = refl

pub by_first : (es : List Expr) → query_side es ≡ query_side_from (first_knn es) no_side
unfolding query_side first_knn query_side_from
by_first [] = refl
by_first (e ∷ es) = ap (query_side_from (knn_arguments e)) (by_first es) ∙ side-from (knn_arguments e) (first_knn es)

pub no-knn : {q : Option Exprs} → q ≡ none → no_side ≡ query_side_from q no_side
unfolding query_side_from
no-knn e = sym (ap (λ (q : Option Exprs). query_side_from q no_side) e)

-- ---- its first argument

no-nodes : (P : Exprs → Type 0) → P nil → (ts : Exprs) → nodes_all ts ≡ 0 → P ts
unfolding nodes
no-nodes P f nil e = f
no-nodes P f (cons t ts) e = absurd (omega (arith, nodes-below t))

some-nodes : (P : Exprs → Type 0) → ((t : Expr) (ts : Exprs) → P (cons t ts)) → (ts : Exprs) → (nodes_all ts ≡ 0 → ⊥) → P ts
unfolding nodes
some-nodes P f nil h = absurd (h refl)
some-nodes P f (cons t ts) h = f t ts

module _ {s : List ℕ} {xs : List Lent} {i : ℕ} {q : Option Exprs} (k : KnnAt s xs i q) where
  sided : query_side_from q no_side ≡ first_argument_side (children_of k.call)
  unfolding query_side_from
  sided = ap (λ (q : Option Exprs). query_side_from q no_side) k.is

  pub no-argument : i + nodes k.call ≡ i + 1 → no_side ≡ query_side_from q no_side
  unfolding first_argument_side
  no-argument e =
      sym (sided ∙ no-nodes (λ ts. first_argument_side ts ≡ no_side) refl (children_of k.call) (omega (arith, e, nodes-below k.call)))

  -- It has the index after the call's, and its columns decide.
  pub first-argument : (i + nodes k.call ≡ i + 1 → ⊥)
      → (t : Expr) × Indexed k.columns s xs (i + 1) t × (query_side_from q no_side ≡ schema_side (bits_of t))
  unfolding first_argument_side
  first-argument more = some-nodes
      (λ ts. (p : ℕ) → Row k.columns s p (count ts) ts → NodedAll xs p (i + 1) ts → query_side_from q no_side ≡ first_argument_side ts
      → (t : Expr) × Indexed k.columns s xs (i + 1) t × (query_side_from q no_side ≡ schema_side (bits_of t)))
      (λ t ts p row noded e. (t, record { at = p; stands = first-stands row; noded = noded-first noded }, e))
      (children_of k.call) (λ z. more (omega (arith, z, nodes-below k.call))) _
      (children-stand k.stands _ _ refl refl) (noded-children k.noded _ _ refl refl) sided

-- Which side the two answers make.
abbrev pub side_by : (all_left all_right : Bool) → Side
side_by l r = if l && not r then left else if r && not l then right else no_side

schema-side : (bits : List ℕ) → schema_side bits ≡ side_by (all in_left bits) (all in_right bits)
unfolding schema_side all
schema-side [] = refl
schema-side (b ∷ bits) = refl

pub argument-side : {s : List ℕ} {xs : List Lent} {i : ℕ} {q : Option Exprs} (k : KnnAt s xs i q) → (i + nodes k.call ≡ i + 1 → ⊥)
    → (r : Schemas) → OfTreeNode s xs (i + 1) (λ t. SchemasAre (bits_of t) r) → side_by r.left r.right ≡ query_side_from q no_side
argument-side k more r is =
    let first = first-argument k more in
    let here = is k.columns first.1.at first.0 first.1.stands first.1.noded in
    ap₂ side_by here.all_left here.all_right ∙ sym (schema-side (bits_of first.0)) ∙ sym first.2

-- ---- the loop over its columns

-- The bits that all columns have, by whether all are in the left schema and in the right one.
pub code : (l r : Bool) → ℕ
code false false = 0
code true false = 1
code false true = 2
code true true = 3

code-left : (l r : Bool) → eqb (code l r % 2) 1 ≡ l
unfolding code
code-left false false = refl
code-left true false = refl
code-left false true = refl
code-left true true = refl

code-right : (l r : Bool) → eqb (code l r / 2) 1 ≡ r
unfolding code
code-right false false = refl
code-right true false = refl
code-right false true = refl
code-right true true = refl

below-four : (P : ℕ → Type 0) → P 0 → P 1 → P 2 → P 3 → (b : ℕ) → b ≤ 3 → P b
below-four P p q r s zero h = p
below-four P p q r s (suc zero) h = q
below-four P p q r s (suc (suc zero)) h = r
below-four P p q r s (suc (suc (suc zero))) h = s
below-four P p q r s (suc (suc (suc (suc b)))) h = absurd (omega arith)

-- One column more.
code-more : (l r : Bool) (b : ℕ) → b ≤ 3 → bit_and (code l r) b ≡ code (l && in_left b) (r && in_right b)
unfolding code in_left in_right
code-more false false = below-four (λ b. bit_and 0 b ≡ code false false) refl refl refl refl
code-more true false = below-four (λ b. bit_and 1 b ≡ code (in_left b) false) refl refl refl refl
code-more false true = below-four (λ b. bit_and 2 b ≡ code false (in_right b)) refl refl refl refl
code-more true true = below-four (λ b. bit_and 3 b ≡ code (in_left b) (in_right b)) refl refl refl refl

-- What it keeps: with the bits of the columns that are left all are seen.
pub record Joining (c : Columns) (s bits left : List ℕ) (now : ℕ) : Type 0 where
  pub each : All (FieldAt c s) left
  pub in_both : Bool × Bool
  pub coded : now ≡ code in_both.0 in_both.1
  pub all_left : in_both.0 && all in_left (map (bits_in s) left) ≡ all in_left bits
  pub all_right : in_both.1 && all in_right (map (bits_in s) left) ≡ all in_right bits

module _ {c : Columns} {s bits left : List ℕ} where
  pub joining-begins : FieldsAre c s left bits → Joining c s bits left 3
  unfolding code
  joining-begins h = record {
    each = h.each;
    in_both = (true, true);
    coded = refl;
    all_left = ap (all in_left) h.read;
    all_right = ap (all in_right) h.read;
  }

  module _ {now : ℕ} (inv : Joining c s bits left now) where
    -- One column more: its bits are seen.
    module _ {p : ℕ} {more : List ℕ} (is : left ≡ p ∷ more) where
      these : All (FieldAt c s) (p ∷ more)
      these = subst (All (FieldAt c s)) is inv.each

      pub field-within : p + 1 < length s
      field-within = (field-bits these.0).0

      pub joining-next : Joining c s bits more (bit_and now (bits_in s p))
      unfolding all
      joining-next =
          let b : ℕ = bits_in s p in
          let l = inv.in_both.0 in
          let r = inv.in_both.1 in
          record {
            each = these.1;
            in_both = (l && in_left b, r && in_right b);
            coded = ap (λ (n : ℕ). bit_and n b) inv.coded ∙ code-more l r b (field-bits these.0).1;
            all_left = and_assoc l (in_left b) (all in_left (map (bits_in s) more))
                ∙ ap (λ (x : List ℕ). l && all in_left (map (bits_in s) x)) (sym is) ∙ inv.all_left;
            all_right = and_assoc r (in_right b) (all in_right (map (bits_in s) more))
                ∙ ap (λ (x : List ℕ). r && all in_right (map (bits_in s) x)) (sym is) ∙ inv.all_right;
          }

    pub joining-ends : left ≡ [] → SchemasAre bits (record { left = eqb (now % 2) 1; right = eqb (now / 2) 1 })
    unfolding all
    joining-ends empty =
        let l = inv.in_both.0 in
        let r = inv.in_both.1 in
        record {
          all_left = ap (λ (n : ℕ). eqb (n % 2) 1) inv.coded ∙ code-left l r ∙ sym (and-true l)
              ∙ ap (λ (x : List ℕ). l && all in_left (map (bits_in s) x)) (sym empty) ∙ inv.all_left;
          all_right = ap (λ (n : ℕ). eqb (n / 2) 1) inv.coded ∙ code-right l r ∙ sym (and-true r)
              ∙ ap (λ (x : List ℕ). r && all in_right (map (bits_in s) x)) (sym empty) ∙ inv.all_right;
        }
