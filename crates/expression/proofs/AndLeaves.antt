-- The AND-leaves of what `node_at` found: those of both children of an And, and any other node is its only one.
use Prim.Native.Nat.{ℕ, ◌≤◌, ◌<◌}
use native.Mathlib.Omega.{arith}
use mathlib.Core.Path.{◌≡◌, refl, sym, ap, ◌∙◌, subst⁻¹}
use mathlib.Core.Bool.{Bool, ◌&&◌, and_assoc}
use mathlib.Core.List.{List, [], ◌∷◌, ◌++◌}
use lib.ListN.{length, length-append}
use Rattle.definitions.specs.Words.Basics.{all}
use Rattle.definitions.specs.Words.Expression.{Expr, column, literal, and, binary, call, other, field}
use Rattle.definitions.specs.Bytes.Encode.{expr_bytes}
use Rattle.definitions.specs.Words.Leaves.{leaves}
use Rattle.definitions.specs.Bytes.Decode.{Columns}
use Rattle.theorems.proofs.Pick.{leaves-most}
use Rattle.expression.proofs.Standing.{some_bytes}
use Rattle.expression.specs.Nodes.{Stands, OfTreeIn}
use Rattle.expression.specs.Leaves.{NodeIs, PlainNode, plain_column, plain_literal, plain_other, plain_field}
use Rattle.expression.specs.Cuts.{CutAt, here, in_left, in_right}
use Rattle.expression.specs.declared.cuts.Cut.{Cut}
use Rattle.expression.specs.declared.leaves.Node.{Node}
use Rattle.expression.specs.declared.leaves.Node.TheVariants.{And, Binary, Call, Plain}

-- ---- how many

pub leaves-some : (t : Expr) → 0 < length (leaves t)
unfolding leaves
leaves-some (column i g) = omega arith
leaves-some (literal y v) = omega arith
leaves-some (and l r) = simp length-append (omega (arith, leaves-some l))
leaves-some (binary o l r) = omega arith
leaves-some (call name ts) = omega arith
leaves-some (other g ts) = omega arith
leaves-some (field b g) = omega arith

-- What is an AND-leaf of its own is no And.
pub no-and : (l r : Expr) {t : Expr} → leaves (and l r) ≡ t ∷ [] → ⊥
unfolding leaves
no-and l r e = omega (arith, leaves-some l, leaves-some r, simp length-append at (ap length e))

-- The position of a leaf that is cut out is below their number.
pub position-below : {cut : Cut} {up : ℕ} {t : Expr} {at position : ℕ} → CutAt cut up t at position → position < length (leaves t)
unfolding leaves
position-below (here {t = t} lone leaf end parent) = leaves-some t
position-below (in_left c) = simp length-append (omega (arith, position-below c))
position-below (in_right c) = simp length-append (omega (arith, position-below c))

-- ---- by what stands there

pub plain-leaf : {t : Expr} → PlainNode t → leaves t ≡ t ∷ []
unfolding leaves
plain-leaf plain_column = refl
plain-leaf plain_literal = refl
plain-leaf plain_other = refl
plain-leaf plain_field = refl

-- An expression has no more of them than bytes.
pub leaves-few : (t : Expr) → length (leaves t) ≤ length (expr_bytes t)
unfolding expr_bytes
leaves-few = leaves-most (λ t. length (expr_bytes t)) some_bytes
    (λ l r. simp length-append (omega arith))

-- ---- what holds of all

pub all_append : {A : Type 0} (f : A → Bool) (xs ys : List A) → all f (xs ++ ys) ≡ all f xs && all f ys
unfolding all
all_append f [] ys = refl
all_append f (x ∷ xs) ys = ap (λ (t : Bool). f x && t) (all_append f xs ys) ∙ sym (and_assoc (f x) (all f xs) (all f ys))

-- Any node but And is an AND-leaf.
leaf-node : (c : Columns) (s : List ℕ) (at : ℕ) (t : Expr) (node : Node) → ((first : ℕ) → node ≡ And first → ⊥)
    → NodeIs c s at node t → leaves t ≡ t ∷ []
unfolding leaves
leaf-node c s at t (And first) none is = absurd (none first refl)
leaf-node c s at t (Binary operator first) none is = subst⁻¹ (λ (t : Expr). leaves t ≡ t ∷ []) is.is refl
leaf-node c s at t (Call k) none is = subst⁻¹ (λ (t : Expr). leaves t ≡ t ∷ []) is.is refl
leaf-node c s at t (Plain head) none is = plain-leaf is.0

pub single-leaf : {c : Columns} {s : List ℕ} {at : ℕ} {t : Expr} (node : Node) → OfTreeIn s at (λ c t. NodeIs c s at node t)
    → Stands c s at t → ((first : ℕ) → node ≡ And first → ⊥) → leaves t ≡ t ∷ []
single-leaf {c} {s} {at} {t} node is stands none = leaf-node c s at t node none (is c t stands)
