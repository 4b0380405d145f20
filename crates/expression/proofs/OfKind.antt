-- What holds of each node of a kind holds of a node whose kind it is.
use Prim.Native.Nat.{ℕ, zero, suc, ◌<◌}
use native.Mathlib.Omega.{arith}
use mathlib.Core.Path.{◌≡◌, refl, sym, ap}
use mathlib.Core.List.{List, ◌++◌, append-nil}
use Rattle.definitions.specs.Words.Expression.{Expr, column, literal, and, binary, call, other, field, Exprs}
use Rattle.definitions.specs.Words.References.{columns_of, columns_of_all}
use Rattle.theorems.proofs.Cases.{each}
use Rattle.expression.specs.Nodes.{kind_of, children_of}

-- What is to be shown of the nodes of a kind.
abbrev OfKind : (Expr → Type 0) → ℕ → Type 0
OfKind P zero = (index tag : ℕ) → P (column index tag)
OfKind P (suc zero) = (type value : ℕ) → P (literal type value)
OfKind P (suc (suc zero)) = ((l r : Expr) → P (and l r)) × ((operator : ℕ) (l r : Expr) → P (binary operator l r))
OfKind P (suc (suc (suc zero))) = (name : List ℕ) (arguments : Exprs) → P (call name arguments)
OfKind P (suc (suc (suc (suc zero)))) = (tag : ℕ) (children : Exprs) → P (other tag children)
OfKind P (suc (suc (suc (suc (suc k))))) = (bits tag : ℕ) → P (field bits tag)

by_kind : (P : Expr → Type 0) (t : Expr) → OfKind P (kind_of t) → P t
unfolding kind_of
by_kind P = each (λ t. OfKind P (kind_of t) → P t) (λ i g f. f i g) (λ y v f. f y v) (λ l r f. f.0 l r) (λ o l r f. f.1 o l r)
    (λ n ts f. f n ts) (λ g ts f. f g ts) (λ b g f. f b g)

pub a-column : (P : Expr → Type 0) → ((index tag : ℕ) → P (column index tag)) → (t : Expr) → kind_of t ≡ 0 → P t
a-column P f t e = by_kind P t (rw e f)

pub a-literal : (P : Expr → Type 0) → ((type value : ℕ) → P (literal type value)) → (t : Expr) → kind_of t ≡ 1 → P t
a-literal P f t e = by_kind P t (rw e f)

pub a-binary : (P : Expr → Type 0) → ((l r : Expr) → P (and l r)) → ((operator : ℕ) (l r : Expr) → P (binary operator l r)) → (t : Expr)
    → kind_of t ≡ 2 → P t
a-binary P f h t e = by_kind P t (rw e (f, h))

pub a_call : (P : Expr → Type 0) → ((name : List ℕ) (arguments : Exprs) → P (call name arguments)) → (t : Expr) → kind_of t ≡ 3 → P t
a_call P f t e = by_kind P t (rw e f)

pub an-other : (P : Expr → Type 0) → ((tag : ℕ) (children : Exprs) → P (other tag children)) → (t : Expr) → kind_of t ≡ 4 → P t
an-other P f t e = by_kind P t (rw e f)

pub a-field : (P : Expr → Type 0) → ((bits tag : ℕ) → P (field bits tag)) → (t : Expr) → 4 < kind_of t → P t
unfolding kind_of
a-field P f (column i g) e = absurd (omega arith)
a-field P f (literal y v) e = absurd (omega arith)
a-field P f (and l r) e = absurd (omega arith)
a-field P f (binary o l r) e = absurd (omega arith)
a-field P f (call n args) e = absurd (omega arith)
a-field P f (other g cs) e = absurd (omega arith)
a-field P f (field b g) e = f b g

-- A node that is no column has its children's columns.
pub no-own-columns : (t : Expr) → (kind_of t ≡ 0 → ⊥) → columns_of t ≡ columns_of_all (children_of t)
unfolding kind_of columns_of children_of
no-own-columns (column i g) n = absurd (n refl)
no-own-columns (literal y v) n = refl
no-own-columns (and l r) n = ap (λ (x : List ℕ). columns_of l ++ x) (sym (append-nil (columns_of r)))
no-own-columns (binary o l r) n = ap (λ (x : List ℕ). columns_of l ++ x) (sym (append-nil (columns_of r)))
no-own-columns (call name ts) n = refl
no-own-columns (other g ts) n = refl
no-own-columns (field b g) n = refl
