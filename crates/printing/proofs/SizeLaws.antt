-- How many characters a node has of its own, by the bytes at its place; they are few.
use Prim.Native.Nat.{ℕ, ◌+◌, ◌-◌, ◌≤◌, ◌<◌}
use native.Mathlib.Omega.{arith}
use mathlib.Core.Path.{◌≡◌, refl, ◌∙◌}
use mathlib.Core.List.{List}
use lib.ListN.{get_or}
use lib.Dec.{lit≤}
use Rattle.definitions.specs.Words.Expression.{Expr, column, literal, and, binary, call, other, field, count}
use Rattle.definitions.specs.Bytes.Decode.{index_below}
use Rattle.definitions.specs.Bytes.Good.{InRange}
use Rattle.definitions.specs.Bytes.Printed.{decimal_width}
use Rattle.theorems.proofs.Figures.{width-cases}
use Rattle.expression.specs.Places.{short_at}
use Rattle.expression.specs.Nodes.{children_of, kind_of}
use Rattle.expression.proofs.Standing.{kind-is}
use Rattle.printing.specs.Marks.{leading_of, own_size, PhysicalAt, OfPhysical}
use Rattle.printing.proofs.NodeFields.{column-at, literal-at, binary-at, call_at, other_at}

-- ---- small numbers

pub width_small : (n : ℕ) → decimal_width n ≤ 5
width_small n = width-cases (λ w. w ≤ 5) n (λ a. lit≤ tt) (λ a b. lit≤ tt) (λ a b. lit≤ tt) (λ a b. lit≤ tt) (λ a. lit≤ tt)

children-few : (b : ℕ) (t : Expr) → InRange (index_below b) t → count (children_of t) ≤ 16
unfolding children_of count
children-few b (column i g) r = lit≤ tt
children-few b (literal y v) r = lit≤ tt
children-few b (and l m) r = lit≤ tt
children-few b (binary o l m) r = lit≤ tt
children-few b (call name args) r = r.3
children-few b (other g cs) r = r.1
children-few b (field x g) r = lit≤ tt

name-short : (b : ℕ) (t : Expr) → InRange (index_below b) t → kind_of t ≡ 3 → leading_of t ≤ 32
unfolding kind_of leading_of
name-short b (column i g) r e = absurd (omega arith)
name-short b (literal y v) r e = absurd (omega arith)
name-short b (and l m) r e = absurd (omega arith)
name-short b (binary o l m) r e = absurd (omega arith)
name-short b (call name args) r e = r.1
name-short b (other g cs) r e = absurd (omega arith)
name-short b (field x g) r e = absurd (omega arith)

module _ {s : List ℕ} {at : ℕ} {t : Expr} (h : PhysicalAt s at t) where
  pub few-children : count (children_of t) ≤ 16
  few-children = children-few h.bound t h.stands.in_range

  pub short-name : get_or s at 0 ≡ 3 → leading_of t ≤ 32
  short-name e = name-short h.bound t h.stands.in_range (kind-is h.stands ∙ e)

-- ---- each kind

module _ {s : List ℕ} {at : ℕ} (number : ℕ) (is : OfPhysical s at (λ t. number ≡ leading_of t)) (t : Expr) (h : PhysicalAt s at t) where
  pub own-column : get_or s at 0 ≡ 0 → own_size t ≡ 2 + decimal_width number + decimal_width (short_at s (at + 3))
  unfolding own_size leading_of
  own-column e = column-at (λ t. number ≡ leading_of t → own_size t ≡ 2 + decimal_width number + decimal_width (short_at s (at + 3))) h e
      (λ i n. rw n refl) (is t h)

  pub own-literal : get_or s at 0 ≡ 1 → own_size t ≡ 18 + decimal_width number
  unfolding own_size leading_of
  own-literal e = literal-at (λ t. number ≡ leading_of t → own_size t ≡ 18 + decimal_width number) h e (λ y v b n. rw n refl) (is t h)

  pub own-binary : get_or s at 0 ≡ 2 → own_size t ≡ 5 + decimal_width number
  unfolding own_size leading_of
  own-binary e = binary-at (λ t. number ≡ leading_of t → own_size t ≡ 5 + decimal_width number) h e (λ l r n. rw n refl)
      (λ o l r n. rw n refl) (is t h)

  module _ (children : ℕ) (k : children ≡ count (children_of t)) where
    pub own-call : get_or s at 0 ≡ 3 → own_size t ≡ 4 + decimal_width number + number + (children - 1)
    unfolding own_size leading_of children_of
    own-call e = call_at
        (λ t. number ≡ leading_of t → children ≡ count (children_of t)
        → own_size t ≡ 4 + decimal_width number + number + (children - 1)) h e
        (λ name args p n m. rw (n, m) refl) (is t h) k

    pub own-other : 3 < get_or s at 0 → own_size t ≡ 3 + decimal_width number + (children - 1)
    unfolding own_size leading_of children_of
    own-other more = other_at
        (λ t. number ≡ leading_of t → children ≡ count (children_of t) → own_size t ≡ 3 + decimal_width number + (children - 1)) h more
        (λ g cs n m. rw (n, m) refl) (is t h) k
