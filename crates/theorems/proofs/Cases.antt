-- What is shown of each kind of expression, or of each pair of sides, holds of all.
use Prim.Native.Nat.{ℕ}
use mathlib.Core.List.{List}
use Rattle.definitions.specs.Words.Expression.{Side, left, right, no_side, Expr, column, literal, and, binary, call, other, field, Exprs, nil, cons}

module _ (P : Expr → Type 0) where
  -- By what an expression is.
  pub each : ((index tag : ℕ) → P (column index tag)) → ((type value : ℕ) → P (literal type value)) → ((l r : Expr) → P (and l r))
      → ((operator : ℕ) (l r : Expr) → P (binary operator l r)) → ((name : List ℕ) (arguments : Exprs) → P (call name arguments))
      → ((tag : ℕ) (children : Exprs) → P (other tag children)) → ((bits tag : ℕ) → P (field bits tag)) → (t : Expr) → P t
  each c l a b n o f (column i g) = c i g
  each c l a b n o f (literal y v) = l y v
  each c l a b n o f (and x y) = a x y
  each c l a b n o f (binary p x y) = b p x y
  each c l a b n o f (call name ts) = n name ts
  each c l a b n o f (other g ts) = o g ts
  each c l a b n o f (field x g) = f x g

module _ (P : Expr → Type 0) (Q : Exprs → Type 0) (c : (index tag : ℕ) → P (column index tag))
    (l : (type value : ℕ) → P (literal type value)) (a : (x y : Expr) → P x → P y → P (and x y))
    (b : (operator : ℕ) (x y : Expr) → P x → P y → P (binary operator x y))
    (n : (name : List ℕ) (arguments : Exprs) → Q arguments → P (call name arguments))
    (o : (tag : ℕ) (children : Exprs) → Q children → P (other tag children)) (f : (bits tag : ℕ) → P (field bits tag)) (none : Q nil)
    (more : (t : Expr) (ts : Exprs) → P t → Q ts → Q (cons t ts)) where
  -- By what it is, where it holds of all below it.
  mutual
    pub whole : (t : Expr) → P t
    whole (column i g) = c i g
    whole (literal y v) = l y v
    whole (and x y) = a x y (whole x) (whole y)
    whole (binary p x y) = b p x y (whole x) (whole y)
    whole (call name ts) = n name ts (row ts)
    whole (other g ts) = o g ts (row ts)
    whole (field x g) = f x g

    pub row : (ts : Exprs) → Q ts
    row nil = none
    row (cons t ts) = more t ts (whole t) (row ts)

-- Two sides.
pub two-sides : (P : Side → Side → Type 0) → P left left → P left right → P left no_side → P right left → P right right → P right no_side
    → P no_side left → P no_side right → P no_side no_side → (a b : Side) → P a b
two-sides P ll lr ln rl rr rn nl nr nn left left = ll
two-sides P ll lr ln rl rr rn nl nr nn left right = lr
two-sides P ll lr ln rl rr rn nl nr nn left no_side = ln
two-sides P ll lr ln rl rr rn nl nr nn right left = rl
two-sides P ll lr ln rl rr rn nl nr nn right right = rr
two-sides P ll lr ln rl rr rn nl nr nn right no_side = rn
two-sides P ll lr ln rl rr rn nl nr nn no_side left = nl
two-sides P ll lr ln rl rr rn nl nr nn no_side right = nr
two-sides P ll lr ln rl rr rn nl nr nn no_side no_side = nn
