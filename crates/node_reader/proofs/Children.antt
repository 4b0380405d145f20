-- What a node's fields leave to read: no child, two, or as many as they say.
use Prim.Native.Nat.{ℕ, zero, suc, ◌≤◌}
use native.Mathlib.Omega.{arith}
use mathlib.Core.Path.{◌≡◌, refl, ◌∙◌}
use mathlib.Core.List.{List}
use lib.ListN.{length, drop}
use borrow.Author.Tests.{ne_eqb, le-leb, lt-leb}
use Rattle.definitions.specs.Words.Expression.{Expr, column, Exprs, nil, cons, count}
use Rattle.definitions.specs.Bytes.Readers.{Read, read, stopped, Reader, continue, ◌>>=◌, give, byte_up_to}
use Rattle.definitions.specs.Bytes.Decode.{repeat_exprs, Columns, index_below, fields, allowed_kind, node_of_kind, any_column, binary_expr, binary_node}
use Rattle.expression.specs.Nodes.{children_of}
use mathlib.Core.Bool.{true, false}
use Rattle.std.specs.Prelude.{Result, Ok, Err}
use Rattle.expression.specs.declared.heads.Head.{Head}
use Rattle.terms.specs.declared.refusals.Refusal.{Refusal}
use Rattle.terms.specs.declared.refusals.Refusal.TheVariants.{OutOfRange}
use Rattle.node_reader.specs.Fields.{ReadsAt}
use Rattle.node_reader.specs.Heads.{HeadIs, any_kind, OtherKind, columns_in}
use Rattle.theorems.proofs.ReaderLaws.{after}

-- A node with no child has those of an empty list.
alone : (e : Expr) → children_of e ≡ nil → (es : Exprs) → count es ≡ 0 → children_of e ≡ es
unfolding count
alone e one nil none = one
alone e one (cons x es) none = absurd (omega arith)

pub childless : (s : List ℕ) (at : ℕ) {first : ℕ} (reader : Reader Expr) (e : Expr) → children_of e ≡ nil → first ≤ length s
    → ReadsAt s at first e reader → HeadIs s at (Ok (record { next = first; children = 0 })) (λ child. reader)
unfolding repeat_exprs
childless s at reader e one place reads = (place, (λ es. e), (λ child n. reads n), alone e one, omega arith)

-- Two children, one after the other, are a list of two.
of_two : (Expr → Expr → Expr) → Exprs → Expr
of_two f nil = column 0 0
of_two f (cons l nil) = column 0 0
of_two f (cons l (cons r es)) = f l r

second : (f : Expr → Expr → Expr) (child : Reader Expr) (l : Expr) (r : Read Expr)
    → continue r (λ x. give (f l x))
    ≡ continue (continue (continue r (λ x. repeat_exprs 0 child >>= λ es. give (cons x es))) (λ es. give (cons l es)))
    (λ es. give (of_two f es))
unfolding repeat_exprs of_two
second f child l (read x n s) = refl
second f child l (stopped number) = refl

first : (f : Expr → Expr → Expr) (child : Reader Expr) (r : Read Expr)
    → continue r (λ l. child >>= λ x. give (f l x))
    ≡ continue (continue r (λ l. repeat_exprs 1 child >>= λ es. give (cons l es))) (λ es. give (of_two f es))
unfolding repeat_exprs
first f child (read l n s) = second f child l (child n s)
first f child (stopped number) = refl

above-two : (operator : ℕ) (es : Exprs) → count es ≡ 2 → children_of (of_two (binary_expr operator) es) ≡ es
unfolding binary_expr of_two children_of count
above-two operator nil both = absurd (omega arith)
above-two operator (cons l nil) both = absurd (omega arith)
above-two zero (cons l (cons r nil)) both = refl
above-two (suc operator) (cons l (cons r nil)) both = refl
above-two operator (cons l (cons r (cons x es))) both = absurd (omega arith)

pub two : (s : List ℕ) (at end operator : ℕ) → end ≤ length s
    → ((n : ℕ) → byte_up_to 63 n (drop at s) ≡ read operator n (drop end s))
    → HeadIs s at (Ok (record { next = end; children = 2 })) binary_node
unfolding repeat_exprs binary_node
two s at end operator w h = (
  w,
  of_two (binary_expr operator),
  (λ child n. after _ (h n) ∙ first (binary_expr operator) child (child n (drop end s))),
  above-two operator,
  omega arith,
)

-- A kind that may stand there.
pub allowed-head : (c : Columns) (s : List ℕ) (at kind : ℕ) (r : Result Head Refusal) → allowed_kind c kind ≡ true
    → HeadIs s at r (λ child. node_of_kind c child kind) → HeadIs s at r (any_kind c kind)
allowed-head c s at kind (Ok head) e h = (h.0, h.1, (λ child n. rw e (h.2 child n)), h.3, h.4)
allowed-head c s at kind (Err why) e h = λ child n. rw e (h child n)

-- Those of literals, operators, calls and other nodes always may.
pub always : (c : Columns) (kind : ℕ) → 1 ≤ kind → kind ≤ 4 → allowed_kind c kind ≡ true
unfolding allowed_kind
always (index_below bound) kind low high = le-leb kind 4 high
always fields kind low high = rw (le-leb 1 kind low, le-leb kind 5 (omega arith))

-- One that may not is refused.
pub kind-refused : (c : Columns) (s : List ℕ) (at kind : ℕ) → allowed_kind c kind ≡ false → HeadIs s at (Err OutOfRange) (any_kind c kind)
kind-refused c s at kind e child n = rw e

-- A kind that is none of 1 to 4 is a column's.
pub column-kind : (c : Columns) (kind : ℕ) → OtherKind kind → (child : Reader Expr) → node_of_kind c child kind ≡ any_column c
unfolding node_of_kind
column-kind c kind other child = rw (ne_eqb kind 1 other.0, ne_eqb kind 2 other.1, ne_eqb kind 3 other.2, ne_eqb kind 4 other.3)

pub column-head : (c : Columns) (s : List ℕ) (at kind : ℕ) (r : Result Head Refusal) → OtherKind kind → allowed_kind c kind ≡ true
    → HeadIs s at r (λ child. any_column c) → HeadIs s at r (any_kind c kind)
column-head c s at kind r other e h = allowed-head c s at kind r e (simp (column-kind c kind other) h)

pub only-zero : (bound kind : ℕ) → OtherKind kind → (kind ≡ 0 → ⊥) → allowed_kind (index_below bound) kind ≡ false
unfolding allowed_kind
only-zero bound kind other none = lt-leb kind 4 (omega (arith, other.0, other.1, other.2, other.3, none))

pub only-five : (kind : ℕ) → OtherKind kind → (kind ≡ 5 → ⊥) → allowed_kind fields kind ≡ false
unfolding allowed_kind
only-five zero other none = refl
only-five (suc kind) other none = rw (
  le-leb 1 (suc kind) (omega arith),
  lt-leb (suc kind) 5 (omega (arith, other.0, other.1, other.2, other.3, none)),
)

-- The columns of a walk, by the two kinds.
pub physical : (kind bound : ℕ) → kind ≡ 0 → columns_in kind bound ≡ index_below bound
physical zero bound e = refl
physical (suc kind) bound e = absurd (omega arith)

pub logical : (kind bound : ℕ) → (kind ≡ 0 → ⊥) → columns_in kind bound ≡ fields
logical zero bound e = absurd (e refl)
logical (suc kind) bound e = refl
