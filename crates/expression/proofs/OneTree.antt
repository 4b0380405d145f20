-- Only one expression stands at a place, and only one row of so many.
use Prim.Native.Nat.{ℕ, ◌<◌, ◌^◌}
use native.Mathlib.Omega.{arith}
use mathlib.Core.Path.{◌≡◌, refl, sym, ap, ap₂, ◌∙◌, subst}
use mathlib.Core.List.{List, [], ◌∷◌, ◌++◌, append_assoc}
use lib.ListN.{length, get_or}
use Rattle.definitions.specs.Words.Basics.{big_endian}
use Rattle.definitions.specs.Words.Expression.{Expr, column, literal, and, binary, call, other, field, Exprs, nil, cons, count}
use Rattle.definitions.specs.Bytes.Encode.{expr_bytes, exprs_bytes}
use Rattle.definitions.specs.Bytes.Readers.{read, number}
use Rattle.definitions.specs.Bytes.Decode.{Columns, index_below, fields}
use Rattle.definitions.specs.Bytes.Good.{Short, ColumnInRange, FieldInRange, InRange, InRangeAll}
use Rattle.theorems.proofs.Cases.{whole, row}
use Rattle.theorems.proofs.RoundTrip.{number-reads}
use Rattle.expression.specs.Nodes.{kind_of, Stands, Row, OfTree, OfTrees}
use Rattle.expression.proofs.OfKind.{a-column, a-literal, a-binary, a_call, an-other, a-field}

-- ---- lists that begin alike

heads : {a b : ℕ} {x y : List ℕ} → a ∷ x ≡ b ∷ y → a ≡ b
heads e = cc

tails : {a b : ℕ} {x y : List ℕ} → a ∷ x ≡ b ∷ y → x ≡ y
tails e = cc

as_long : (a b x y : List ℕ) → length a ≡ length b → a ++ x ≡ b ++ y → (a ≡ b) × (x ≡ y)
as_long [] [] x y n e = (refl, e)
as_long [] (q ∷ b) x y n e = absurd (omega arith)
as_long (p ∷ a) [] x y n e = absurd (omega arith)
as_long (p ∷ a) (q ∷ b) x y n e =
    let rest = as_long a b x y (omega arith) (tails e) in (ap₂ ◌∷◌ (heads e) rest.0, rest.1)

numbers-alike : (w v v' : ℕ) (x y : List ℕ) → v < 256 ^ w → v' < 256 ^ w → big_endian w v ++ x ≡ big_endian w v' ++ y → (v ≡ v') × (x ≡ y)
numbers-alike w v v' x y h h' e =
    let same : read v 0 x ≡ read v' 0 y = sym (number-reads w v 0 x h) ∙ ap (number w 0) e ∙ number-reads w v' 0 y h' in
    let one : v ≡ v' = cc in
    let two : x ≡ y = cc in
    (one, two)

-- ---- expressions

-- What begins with the bytes of t begins with those of no other expression.
abbrev One : Expr → Type 0
One t =
    (c c' : Columns) (t' : Expr) (x y : List ℕ) → InRange c t → InRange c' t' → expr_bytes t ++ x ≡ expr_bytes t' ++ y → (t ≡ t') × (x ≡ y)

abbrev OneRow : Exprs → Type 0
OneRow ts =
    (c c' : Columns) (ts' : Exprs) (x y : List ℕ) → InRangeAll c ts → InRangeAll c' ts' → count ts ≡ count ts'
    → exprs_bytes ts ++ x ≡ exprs_bytes ts' ++ y → (ts ≡ ts') × (x ≡ y)

kind-first : (t : Expr) (x : List ℕ) → get_or (expr_bytes t ++ x) 0 0 ≡ kind_of t
unfolding expr_bytes kind_of
kind-first (column i g) x = refl
kind-first (literal y v) x = refl
kind-first (and l r) x = refl
kind-first (binary o l r) x = refl
kind-first (call name args) x = refl
kind-first (other g cs) x = refl
kind-first (field b g) x = refl

kinds : (t t' : Expr) (x y : List ℕ) → expr_bytes t ++ x ≡ expr_bytes t' ++ y → kind_of t' ≡ kind_of t
kinds t t' x y e = sym (kind-first t' y) ∙ ap (λ (l : List ℕ). get_or l 0 0) (sym e) ∙ kind-first t x

-- A node of no other kind, with its fields and what follows.
abbrev With : (t : Expr) (c' : Columns) (x y : List ℕ) → Expr → Type 0
With t c' x y t' = InRange c' t' → expr_bytes t ++ x ≡ expr_bytes t' ++ y → (t ≡ t') × (x ≡ y)

column-short : (c : Columns) (i g : ℕ) → ColumnInRange c i g → Short i × Short g
column-short (index_below bound) i g h = (h.1, h.2)
column-short fields i g h = absurd h

field-short : (c : Columns) (b g : ℕ) → FieldInRange c b g → Short g
field-short (index_below bound) b g h = absurd h
field-short fields b g h = h.1

two-numbers : (i i' g g' : ℕ) (x y : List ℕ) → Short i → Short i' → Short g → Short g'
    → (big_endian 2 i ++ big_endian 2 g) ++ x ≡ (big_endian 2 i' ++ big_endian 2 g') ++ y → (i ≡ i') × (g ≡ g') × (x ≡ y)
two-numbers i i' g g' x y hi hi' hg hg' e =
    let first = numbers-alike 2 i i' (big_endian 2 g ++ x) (big_endian 2 g' ++ y) hi hi'
    (sym (append_assoc (big_endian 2 i) (big_endian 2 g) x) ∙ e ∙ append_assoc (big_endian 2 i') (big_endian 2 g') y) in
    let second = numbers-alike 2 g g' x y hg hg' first.1 in
    (first.0, second.0, second.1)

one-column : (i g : ℕ) → One (column i g)
unfolding expr_bytes kind_of
one-column i g c c' t' x y h h' e = a-column (With (column i g) c' x y)
    (λ i' g' k e.
    let own = column-short c i g h in
    let its = column-short c' i' g' k in
    let same = two-numbers i i' g g' x y own.0 its.0 own.1 its.1 (tails e) in
    (ap₂ column same.0 same.1, same.2))
    t' (kinds (column i g) t' x y e) h' e

one-literal : (z v : ℕ) → One (literal z v)
unfolding expr_bytes kind_of
one-literal z v c c' t' x y h h' e = a-literal (With (literal z v) c' x y)
    (λ z' v' k e.
    let same = numbers-alike 8 v v' x y h.1 k.1 (tails (tails e)) in
    (ap₂ literal (heads (tails e)) same.0, same.1))
    t' (kinds (literal z v) t' x y e) h' e

one_field : (b g : ℕ) → One (field b g)
unfolding expr_bytes kind_of
one_field b g c c' t' x y h h' e = a-field (With (field b g) c' x y)
    (λ b' g' k e.
    let same = numbers-alike 2 g g' x y (field-short c b g h) (field-short c' b' g' k) (tails (tails e)) in
    (ap₂ field (heads (tails e)) same.0, same.1))
    t' (omega (arith, kinds (field b g) t' x y e)) h' e

-- Both sides of a node, one after the other.
both : (l r l' r' : Expr) → One l → One r → (c c' : Columns) (x y : List ℕ) → InRange c l × InRange c r → InRange c' l' × InRange c' r'
    → (expr_bytes l ++ expr_bytes r) ++ x ≡ (expr_bytes l' ++ expr_bytes r') ++ y → (l ≡ l') × (r ≡ r') × (x ≡ y)
both l r l' r' one two c c' x y h h' e =
    let first = one c c' l' (expr_bytes r ++ x) (expr_bytes r' ++ y) h.0 h'.0
    (sym (append_assoc (expr_bytes l) (expr_bytes r) x) ∙ e ∙ append_assoc (expr_bytes l') (expr_bytes r') y) in
    let second = two c c' r' x y h.1 h'.1 first.1 in
    (first.0, second.0, second.1)

one-and : (l r : Expr) → One l → One r → One (and l r)
unfolding expr_bytes kind_of
one-and l r one two c c' t' x y h h' e = a-binary (With (and l r) c' x y)
    (λ l' r' k e.
    let same = both l r l' r' one two c c' x y h k (tails (tails e)) in
    (ap₂ and same.0 same.1, same.2))
    (λ o' l' r' k e. absurd (omega (arith, k.0, heads (tails e))))
    t' (kinds (and l r) t' x y e) h' e

one-binary : (o : ℕ) (l r : Expr) → One l → One r → One (binary o l r)
unfolding expr_bytes kind_of
one-binary o l r one two c c' t' x y h h' e = a-binary (With (binary o l r) c' x y)
    (λ l' r' k e. absurd (omega (arith, h.0, heads (tails e))))
    (λ o' l' r' k e.
    let same = both l r l' r' one two c c' x y (h.2, h.3) (k.2, k.3) (tails (tails e)) in
    (ap (λ (n : ℕ). binary n l r) (heads (tails e)) ∙ ap₂ (binary o') same.0 same.1, same.2))
    t' (kinds (binary o l r) t' x y e) h' e

one-call : (name : List ℕ) (ts : Exprs) → OneRow ts → One (call name ts)
unfolding expr_bytes kind_of
one-call name ts row c c' t' x y h h' e = a_call (With (call name ts) c' x y)
    (λ name' ts' k e.
    let named = as_long name name' (count ts ∷ (exprs_bytes ts ++ x)) (count ts' ∷ (exprs_bytes ts' ++ y)) (heads (tails e))
    (sym (append_assoc name (count ts ∷ exprs_bytes ts) x) ∙ tails (tails e) ∙ append_assoc name' (count ts' ∷ exprs_bytes ts') y) in
    let same = row c c' ts' x y h.4 k.4 (heads named.1) (tails named.1) in
    (ap₂ call named.0 same.0, same.1))
    t' (kinds (call name ts) t' x y e) h' e

one-other : (g : ℕ) (ts : Exprs) → OneRow ts → One (other g ts)
unfolding expr_bytes kind_of
one-other g ts row c c' t' x y h h' e = an-other (With (other g ts) c' x y)
    (λ g' ts' k e.
    let tag = numbers-alike 2 g g' (count ts ∷ (exprs_bytes ts ++ x)) (count ts' ∷ (exprs_bytes ts' ++ y)) h.0 k.0
    (sym (append_assoc (big_endian 2 g) (count ts ∷ exprs_bytes ts) x) ∙ tails e ∙ append_assoc (big_endian 2 g')
    (count ts' ∷ exprs_bytes ts') y) in
    let same = row c c' ts' x y h.2 k.2 (heads tag.1) (tails tag.1) in
    (ap₂ other tag.0 same.0, same.1))
    t' (kinds (other g ts) t' x y e) h' e

no_row : OneRow nil
unfolding exprs_bytes count
no_row c c' nil x y h h' n e = (refl, e)
no_row c c' (cons t' ts') x y h h' n e = absurd (omega arith)

more-row : (t : Expr) (ts : Exprs) → One t → OneRow ts → OneRow (cons t ts)
unfolding exprs_bytes count
more-row t ts one row c c' nil x y h h' n e = absurd (omega arith)
more-row t ts one row c c' (cons t' ts') x y h h' n e =
    let first = one c c' t' (exprs_bytes ts ++ x) (exprs_bytes ts' ++ y) h.0 h'.0
    (sym (append_assoc (expr_bytes t) (exprs_bytes ts) x) ∙ e ∙ append_assoc (expr_bytes t') (exprs_bytes ts') y) in
    let rest = row c c' ts' x y h.1 h'.1 (omega arith) first.1 in
    (ap₂ cons first.0 rest.0, rest.1)

one : (t : Expr) → One t
one = whole One OneRow one-column one-literal one-and one-binary one-call one-other one_field no_row more-row

one-row : (ts : Exprs) → OneRow ts
one-row = row One OneRow one-column one-literal one-and one-binary one-call one-other one_field no_row more-row

-- ---- at a place

module _ {c : Columns} {s : List ℕ} {at : ℕ} where
  -- What is true of the expression that stands there is true of each that does.
  pub of_tree : {t : Expr} (P : Expr → Type 0) → Stands c s at t → P t → OfTree s at P
  of_tree {t} P h p d u k =
      subst P (one t c d u h.bytes.rest k.bytes.rest h.in_range k.in_range (sym h.bytes.bytes ∙ k.bytes.bytes)).0 p

  pub of-trees : {n : ℕ} {ts : Exprs} (P : Exprs → Type 0) → Row c s at n ts → P ts → OfTrees s at n P
  of-trees {n} {ts} P h p d us k =
      subst P (one-row ts c d us h.bytes.rest k.bytes.rest h.in_range k.in_range (h.counted ∙ sym k.counted)
      (sym h.bytes.bytes ∙ k.bytes.bytes)).0 p
