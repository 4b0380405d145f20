-- The side of a comparison that is read, and the arguments of `st_distance`.
use Rattle.std.specs.Prelude.{if◌then◌else◌, Option, Some, None}
use Rattle.std.specs.Bool.{then_some}
use Prim.Native.Nat.{ℕ, ◌+◌, ◌<◌}
use native.Mathlib.Omega.{arith}
use mathlib.Core.Path.{◌≡◌, refl, sym, ap, ◌∙◌, subst}
use mathlib.Core.Bool.{Bool, true, false, ◌||◌}
use mathlib.Core.List.{List}
use mathlib.Core.Option.{none, some}
use lib.Dec.{eqb}
use borrow.Author.Tests.{ne_eqb}
use Rattle.definitions.specs.Words.Basics.{ascii, same_name}
use Rattle.definitions.specs.Words.Expression.{Expr}
use Rattle.definitions.specs.Words.Leaves.{compares, no_comparison, comparison, distance_arguments}
use Rattle.definitions.specs.Bytes.Decode.{Columns}
use Rattle.definitions.specs.Bytes.Good.{nodes as nodes_in}
use Rattle.expression.specs.Places.{part}
use Rattle.expression.specs.Nodes.{Stands}
use Rattle.expression.specs.Leaves.{CallIs, NodeIs, plain_column, plain_literal, plain_other, plain_field}
use Rattle.expression.specs.declared.leaves.Called.{Called}
use Rattle.expression.specs.declared.leaves.Node.{Node}
use Rattle.expression.specs.declared.leaves.Node.TheVariants.{And, Binary, Call, Plain}
use Rattle.node_table.specs.declared.NodeRecord.{NodeRecord as Lent}
use Rattle.filter_tree.specs.Trees.{Node as Within, OfNode, Indexed, TreePair, OfTreePair}
use Rattle.filter_tree.proofs.Children.{noded-first}
use Rattle.filter_tree.proofs.Indexes.{index-first, index-second, starts-there}
use Rattle.sedona_expr.specs.Parsed.{compared, ComparedIs, DistanceIs}
use Rattle.sedona_expr.specs.declared.utils.Compared.{Compared}

-- Two sides, the first of which is read.
abbrev pub on : (measured bound : ℕ) → Option Compared
on measured bound = Some (record { measured = measured; bound = bound })

-- They are the definitions' sides, whatever is known of both.
module _ (P : ℕ → Expr → Type 0) {left right : ℕ} {l r : Expr} (x : P left l) (y : P right r) where
  by_tests : (a b : Bool) → ComparedIs P (if a then on left right else if b then on right left else None)
      (if a then compares l r else if b then compares r l else no_comparison)
  by_tests true b = record { m = l; b = r; is = refl; stands_measured = x; stands_bound = y }
  by_tests false true = record { m = r; b = l; is = refl; stands_measured = y; stands_bound = x }
  by_tests false false = refl

  pub told-sides : (operator : ℕ) {answer : Option Compared} → answer ≡ compared operator left right
      → ComparedIs P answer (comparison operator l r)
  unfolding compared comparison
  told-sides operator e = subst (λ (a : Option Compared). ComparedIs P a (comparison operator l r)) (sym e)
      (by_tests (eqb operator 1 || eqb operator 2) (eqb operator 3 || eqb operator 4))

-- Above 4 there is none.
pub no-sides : (operator : ℕ) (l r : Expr) → 4 < operator → comparison operator l r ≡ no_comparison
unfolding comparison
no-sides operator l r h =
    rw (
      ne_eqb operator 1 (λ e. omega arith),
      ne_eqb operator 2 (λ e. omega arith),
      ne_eqb operator 3 (λ e. omega arith),
      ne_eqb operator 4 (λ e. omega arith),
    )

-- The sides of two expressions that have indexes have them too.
module _ {s : List ℕ} {nodes : List Lent} {i : ℕ} where
  pub pair-node : TreePair s nodes i → Within nodes i
  pair-node p = (p.1, p.2, noded-first p.5)

  pub index-sides : (operator : ℕ) {right : ℕ} {answer : Option Compared} → OfNode nodes i (λ at t. right ≡ i + nodes_in t)
      → answer ≡ compared operator i right
      → OfTreePair s nodes i (λ c l r. ComparedIs (Indexed c s nodes) answer (comparison operator l r))
  index-sides operator after is c at l r row h =
      told-sides (Indexed c s nodes) (index-first row h) (index-second row h after) operator is

-- Each stands where its record says.
pub starts : {c : Columns} {s : List ℕ} {nodes : List Lent} {k p : ℕ} {t : Expr} → Indexed c s nodes k t → OfNode nodes k (λ at t. p ≡ at)
    → Stands c s p t
starts h start = starts-there h.stands h.noded start

-- A node that is no function has none.
pub no_arguments : (c : Columns) (s : List ℕ) (at : ℕ) (t : Expr) (node : Node) → ((k : Called) → node ≡ Call k → ⊥)
    → NodeIs c s at node t → distance_arguments t ≡ none
unfolding distance_arguments
no_arguments c s at t (And first) other is = ap distance_arguments is.is
no_arguments c s at t (Binary operator first) other is = ap distance_arguments is.is
no_arguments c s at t (Call k) other is = absurd (other k refl)
no_arguments c s at t (Plain head) other (plain_column, h) = refl
no_arguments c s at t (Plain head) other (plain_literal, h) = refl
no_arguments c s at t (Plain head) other (plain_other, h) = refl
no_arguments c s at t (Plain head) other (plain_field, h) = refl

module _ {c : Columns} {s : List ℕ} {at : ℕ} {k : Called} {t : Expr} (b : CallIs c s at k t) where
  arguments-are : (same : Bool) → same ≡ same_name (part s k.name k.end) (ascii "st_distance")
      → distance_arguments t ≡ (if same then some b.arguments else none)
  unfolding distance_arguments
  arguments-are same e = ap distance_arguments b.is ∙ rw (← b.stands.spelling, ← e)

  pub distance-named : (same : Bool) → same ≡ same_name (part s k.name k.end) (ascii "st_distance")
      → DistanceIs c s (then_some same k) (distance_arguments t)
  distance-named true e = record { all = b.arguments; is = arguments-are true e; row = b.stands.row }
  distance-named false e = arguments-are false e
