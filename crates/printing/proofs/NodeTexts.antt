-- A node's text is what it opens with, its children's, and what it closes with; so is its length.
use Prim.Native.Nat.{ℕ, suc, ◌+◌, ◌-◌}
use native.Mathlib.Omega.{arith}
use mathlib.Core.Path.{◌≡◌, refl, sym, ap}
use mathlib.Core.List.{List, [], ◌∷◌, ◌++◌, append_assoc, append-nil}
use lib.ListN.{length, length-append}
use Rattle.definitions.specs.Words.Basics.{ascii}
use Rattle.definitions.specs.Words.Expression.{Expr, column, literal, and, binary, call, other, field, Exprs, nil, cons, count}
use Rattle.definitions.specs.Bytes.Printed.{decimal, printed, printed_all, printed_more}
use Rattle.theorems.proofs.Figures.{decimal-length, digits16-length}
use Rattle.expression.specs.Nodes.{children_of}
use Rattle.printing.specs.Marks.{opening_of, separator_of, before_of, closing_of, own_size}
use Rattle.printing.specs.Texts.{texts_from}

-- ---- texts

-- Where commas stand between, the children's text is the definitions'.
commas-more : (position : ℕ) (t : Expr) → separator_of t ≡ ascii "," → (ts : Exprs) → texts_from (suc position) t ts ≡ printed_more ts
unfolding texts_from before_of printed
commas-more position t e nil = refl
commas-more position t e (cons x xs) = rw (e, commas-more (suc position) t e xs) refl

commas-all : (t : Expr) → separator_of t ≡ ascii "," → (ts : Exprs) → texts_from 0 t ts ≡ printed_all ts
unfolding texts_from before_of printed
commas-all t e nil = refl
commas-all t e (cons x xs) = ap (λ (l : List ℕ). printed x ++ l) (commas-more 0 t e xs)

call-groups : (d name y : List ℕ) → 102 ∷ (d ++ (58 ∷ (name ++ (91 ∷ y)))) ≡ (102 ∷ (d ++ (58 ∷ (name ++ (91 ∷ []))))) ++ y
call-groups d name y = simp append_assoc

other-groups : (d y : List ℕ) → 120 ∷ (d ++ (91 ∷ y)) ≡ (120 ∷ (d ++ (91 ∷ []))) ++ y
other-groups d y = simp append_assoc

pub node-text : (t : Expr) → printed t ≡ opening_of t ++ (texts_from 0 t (children_of t) ++ closing_of t)
unfolding printed opening_of separator_of before_of closing_of children_of texts_from ascii
node-text (column i g) = sym (append-nil _)
node-text (literal y v) = sym (append-nil _)
node-text (and l r) = simp (append_assoc, append-nil)
node-text (binary o l r) = simp (append_assoc, append-nil)
node-text (call name args) =
    rw (commas-all (call name args) refl args) (call-groups (decimal (length name)) name (printed_all args ++ (93 ∷ [])))
node-text (other g cs) = rw (commas-all (other g cs) refl cs) (other-groups (decimal g) (printed_all cs ++ (93 ∷ [])))
node-text (field b g) = refl

-- ---- lengths

-- How many characters several expressions have together.
unfoldable pub sizes : Exprs → ℕ
sizes nil = 0
sizes (cons t ts) = length (printed t) + sizes ts

more-size : (ts : Exprs) → length (printed_more ts) ≡ count ts + sizes ts
unfolding printed sizes count ascii
more-size nil = refl
more-size (cons t ts) = simp length-append (omega (arith, more-size ts))

all-size : (ts : Exprs) → length (printed_all ts) ≡ count ts - 1 + sizes ts
unfolding printed sizes count
all-size nil = refl
all-size (cons t ts) = simp length-append (omega (arith, more-size ts))

pub node-size : (t : Expr) → length (printed t) ≡ own_size t + sizes (children_of t)
unfolding printed own_size children_of sizes ascii
node-size (column i g) = simp length-append (omega (arith, decimal-length i, decimal-length g))
node-size (literal y v) = simp length-append (omega (arith, decimal-length y, digits16-length v))
node-size (and l r) = simp length-append (omega (arith, decimal-length 0))
node-size (binary o l r) = simp length-append (omega (arith, decimal-length o))
node-size (call name args) = simp length-append (omega (arith, decimal-length (length name), all-size args))
node-size (other g cs) = simp length-append (omega (arith, decimal-length g, all-size cs))
node-size (field b g) = refl
