-- Two expressions in range that print alike, before anything but a digit, are the same, and so is what follows.
use Prim.Native.Nat.{ℕ, ◌<◌}
use native.Mathlib.Omega.{arith}
use mathlib.Core.Path.{◌≡◌, refl, sym, ap₂}
use mathlib.Core.Bool.{false}
use mathlib.Core.List.{List, [], ◌∷◌, ◌++◌, append_assoc}
use lib.ListN.{length}
use lib.Dec.{eqb, lit<}
use borrow.Author.Tests.{eqb-false}
use Rattle.definitions.specs.Words.Basics.{ascii}
use Rattle.definitions.specs.Words.Expression.{Expr, column, literal, and, binary, call, other, field, Exprs, nil, cons}
use Rattle.definitions.specs.Bytes.Decode.{index_below}
use Rattle.definitions.specs.Bytes.Good.{InRange, InRangeAll}
use Rattle.definitions.specs.Bytes.Printed.{decimal, digits16, printed, printed_all, printed_more}
use Rattle.definitions.specs.Claims.Print.{is_digit, NoDigit}
use Rattle.theorems.proofs.Cases.{whole}
use Rattle.theorems.proofs.Figures.{first-same, rest-same, parts_same, decimals-same, literals-same}

-- Texts that start with different characters are different.
differ : {G : Type 0} {a b : ℕ} {s t : List ℕ} → a ∷ s ≡ b ∷ t → eqb a b ≡ false → G
differ {G} {a} {b} e h = absurd (eqb-false a b h (first-same e))

-- An expression is told from any other, with what follows.
abbrev Apart : Expr → Type 0
Apart e = (e' : Expr) (b b' : ℕ) (s s' : List ℕ) → InRange (index_below b) e → InRange (index_below b') e' → NoDigit s → NoDigit s'
    → printed e ++ s ≡ printed e' ++ s' → (e ≡ e') × (s ≡ s')

-- Several, up to the closing bracket.
abbrev ApartAll : Exprs → Type 0
ApartAll es = (es' : Exprs) (b b' : ℕ) (s s' : List ℕ) → InRangeAll (index_below b) es → InRangeAll (index_below b') es'
    → printed_all es ++ (93 ∷ s) ≡ printed_all es' ++ (93 ∷ s') → (es ≡ es') × (s ≡ s')

abbrev ApartMore : Exprs → Type 0
ApartMore es = (es' : Exprs) (b b' : ℕ) (s s' : List ℕ) → InRangeAll (index_below b) es → InRangeAll (index_below b') es'
    → printed_more es ++ (93 ∷ s) ≡ printed_more es' ++ (93 ∷ s') → (es ≡ es') × (s ≡ s')

-- ---- each kind, told from itself

column_apart : (i t i' t' b b' : ℕ) (s s' : List ℕ) → InRange (index_below b) (column i t) → InRange (index_below b') (column i' t')
    → NoDigit s → NoDigit s'
    → (decimal i ++ (58 ∷ decimal t)) ++ s ≡ (decimal i' ++ (58 ∷ decimal t')) ++ s' → (column i t ≡ column i' t') × (s ≡ s')
unfolding is_digit
column_apart i t i' t' b b' s s' r r' h h' e =
    let x : (i ≡ i') × (58 ∷ (decimal t ++ s) ≡ 58 ∷ (decimal t' ++ s')) =
    decimals-same i i' (58 ∷ (decimal t ++ s)) (58 ∷ (decimal t' ++ s')) (omega (arith, r.1)) (omega (arith, r'.1)) refl refl
    (simp append_assoc at e) in
    let y : (t ≡ t') × (s ≡ s') = decimals-same t t' s s' (omega (arith, r.2)) (omega (arith, r'.2)) h h' (rest-same x.1) in
    (ap₂ column x.0 y.0, y.1)

literal-apart : (t v t' v' b b' : ℕ) (s s' : List ℕ) → InRange (index_below b) (literal t v) → InRange (index_below b') (literal t' v')
    → (decimal t ++ (58 ∷ digits16 v)) ++ s ≡ (decimal t' ++ (58 ∷ digits16 v')) ++ s' → (literal t v ≡ literal t' v') × (s ≡ s')
unfolding is_digit
literal-apart t v t' v' b b' s s' r r' e =
    let x : (t ≡ t') × (58 ∷ (digits16 v ++ s) ≡ 58 ∷ (digits16 v' ++ s')) =
    decimals-same t t' (58 ∷ (digits16 v ++ s)) (58 ∷ (digits16 v' ++ s')) (omega (arith, r.0)) (omega (arith, r'.0)) refl refl
    (simp append_assoc at e) in
    let y : (v ≡ v') × (s ≡ s') = literals-same v v' s s' r.1 r'.1 (rest-same x.1) in
    (ap₂ literal x.0 y.0, y.1)

-- Two children and an operator.
pair-apart : (o o' b b' : ℕ) (l r l' r' : Expr) (s s' : List ℕ) → o < 100 → o' < 100 → Apart l → Apart r
    → InRange (index_below b) l → InRange (index_below b) r → InRange (index_below b') l' → InRange (index_below b') r'
    → (printed l ++ (32 ∷ 111 ∷ (decimal o ++ (32 ∷ (printed r ++ (41 ∷ [])))))) ++ s
    ≡ (printed l' ++ (32 ∷ 111 ∷ (decimal o' ++ (32 ∷ (printed r' ++ (41 ∷ [])))))) ++ s'
    → (o ≡ o') × (l ≡ l') × (r ≡ r') × (s ≡ s')
unfolding is_digit
pair-apart o o' b b' l r l' r' s s' k k' al ar hl hr hl' hr' e =
    let u : List ℕ = decimal o ++ (32 ∷ (printed r ++ (41 ∷ s))) in
    let u' : List ℕ = decimal o' ++ (32 ∷ (printed r' ++ (41 ∷ s'))) in
    let x : (l ≡ l') × (32 ∷ 111 ∷ u ≡ 32 ∷ 111 ∷ u') = al l' b b' (32 ∷ 111 ∷ u) (32 ∷ 111 ∷ u') hl hl' refl refl
    (simp append_assoc at e) in
    let y : (o ≡ o') × (32 ∷ (printed r ++ (41 ∷ s)) ≡ 32 ∷ (printed r' ++ (41 ∷ s'))) =
    decimals-same o o' (32 ∷ (printed r ++ (41 ∷ s))) (32 ∷ (printed r' ++ (41 ∷ s'))) (omega arith) (omega arith) refl refl
    (rest-same (rest-same x.1)) in
    let z : (r ≡ r') × (41 ∷ s ≡ 41 ∷ s') = ar r' b b' (41 ∷ s) (41 ∷ s') hr hr' refl refl (rest-same y.1) in
    (y.0, x.0, z.0, rest-same z.1)

call-apart : (name name' : List ℕ) (es es' : Exprs) (b b' : ℕ) (s s' : List ℕ) → ApartAll es
    → InRange (index_below b) (call name es) → InRange (index_below b') (call name' es')
    → (decimal (length name) ++ (58 ∷ (name ++ (91 ∷ (printed_all es ++ (93 ∷ [])))))) ++ s
    ≡ (decimal (length name') ++ (58 ∷ (name' ++ (91 ∷ (printed_all es' ++ (93 ∷ [])))))) ++ s'
    → (call name es ≡ call name' es') × (s ≡ s')
unfolding is_digit
call-apart name name' es es' b b' s s' a r r' e =
    let u : List ℕ = name ++ (91 ∷ (printed_all es ++ (93 ∷ s))) in
    let u' : List ℕ = name' ++ (91 ∷ (printed_all es' ++ (93 ∷ s'))) in
    let x : (length name ≡ length name') × (58 ∷ u ≡ 58 ∷ u') =
    decimals-same (length name) (length name') (58 ∷ u) (58 ∷ u') (omega (arith, r.1)) (omega (arith, r'.1)) refl refl
    (simp append_assoc at e) in
    let y : (name ≡ name') × (91 ∷ (printed_all es ++ (93 ∷ s)) ≡ 91 ∷ (printed_all es' ++ (93 ∷ s'))) = parts_same name name' _ _ x.0
    (rest-same x.1) in
    let z : (es ≡ es') × (s ≡ s') = a es' b b' s s' r.4 r'.4 (rest-same y.1) in
    (ap₂ call y.0 z.0, z.1)

other-apart : (tag tag' : ℕ) (es es' : Exprs) (b b' : ℕ) (s s' : List ℕ) → ApartAll es
    → InRange (index_below b) (other tag es) → InRange (index_below b') (other tag' es')
    → (decimal tag ++ (91 ∷ (printed_all es ++ (93 ∷ [])))) ++ s ≡ (decimal tag' ++ (91 ∷ (printed_all es' ++ (93 ∷ [])))) ++ s'
    → (other tag es ≡ other tag' es') × (s ≡ s')
unfolding is_digit
other-apart tag tag' es es' b b' s s' a r r' e =
    let x : (tag ≡ tag') × (91 ∷ (printed_all es ++ (93 ∷ s)) ≡ 91 ∷ (printed_all es' ++ (93 ∷ s'))) =
    decimals-same tag tag' (91 ∷ (printed_all es ++ (93 ∷ s))) (91 ∷ (printed_all es' ++ (93 ∷ s'))) (omega (arith, r.0))
    (omega (arith, r'.0)) refl refl (simp append_assoc at e) in
    let z : (es ≡ es') × (s ≡ s') = a es' b b' s s' r.2 r'.2 (rest-same x.1) in
    (ap₂ other x.0 z.0, z.1)

-- ---- several

-- After an expression of a list comes a comma or the bracket.
more-no-digit : (es : Exprs) (s : List ℕ) → NoDigit (printed_more es ++ (93 ∷ s))
unfolding printed ascii is_digit
more-no-digit nil s = refl
more-no-digit (cons e es) s = refl

-- No expression starts with the bracket.
no-bracket : {G : Type 0} (e : Expr) (b : ℕ) (s t : List ℕ) → InRange (index_below b) e → 93 ∷ s ≡ printed e ++ t → G
unfolding printed ascii
no-bracket (column i t) b s u r e = differ e refl
no-bracket (literal t v) b s u r e = differ e refl
no-bracket (and x y) b s u r e = differ e refl
no-bracket (binary o x y) b s u r e = differ e refl
no-bracket (call name es) b s u r e = differ e refl
no-bracket (other tag es) b s u r e = differ e refl
no-bracket (field x t) b s u r e = absurd r

-- Nothing, up to the bracket.
nothing-first : ApartAll nil
unfolding printed ascii
nothing-first nil b b' s s' r r' e = (refl, rest-same e)
nothing-first (cons x xs) b b' s s' r r' e = no-bracket x b' s _ r'.0 (simp append_assoc at e)

nothing-more : ApartMore nil
unfolding printed ascii
nothing-more nil b b' s s' r r' e = (refl, rest-same e)
nothing-more (cons x xs) b b' s s' r r' e = differ e refl

-- An expression and then others.
both-apart : (x y : Expr) (xs ys : Exprs) → Apart x → ApartMore xs → (b b' : ℕ) (s s' : List ℕ)
    → InRangeAll (index_below b) (cons x xs) → InRangeAll (index_below b') (cons y ys)
    → (printed x ++ printed_more xs) ++ (93 ∷ s) ≡ (printed y ++ printed_more ys) ++ (93 ∷ s') → (cons x xs ≡ cons y ys) × (s ≡ s')
both-apart x y xs ys ax axs b b' s s' r r' e =
    let p : (x ≡ y) × (printed_more xs ++ (93 ∷ s) ≡ printed_more ys ++ (93 ∷ s')) =
    ax y b b' (printed_more xs ++ (93 ∷ s)) (printed_more ys ++ (93 ∷ s')) r.0 r'.0 (more-no-digit xs s) (more-no-digit ys s')
    (simp append_assoc at e) in
    let q : (xs ≡ ys) × (s ≡ s') = axs ys b b' s s' r.1 r'.1 p.1 in
    (ap₂ cons p.0 q.0, q.1)

one-first : (x : Expr) (xs : Exprs) → Apart x → ApartMore xs → ApartAll (cons x xs)
unfolding printed ascii
one-first x xs ax axs nil b b' s s' r r' e = no-bracket x b s' _ r.0 (simp append_assoc at (sym e))
one-first x xs ax axs (cons y ys) b b' s s' r r' e = both-apart x y xs ys ax axs b b' s s' r r' e

one_more : (x : Expr) (xs : Exprs) → Apart x → ApartMore xs → ApartMore (cons x xs)
unfolding printed ascii
one_more x xs ax axs nil b b' s s' r r' e = differ e refl
one_more x xs ax axs (cons y ys) b b' s s' r r' e = both-apart x y xs ys ax axs b b' s s' r r' (rest-same e)

-- ---- all kinds

column-told : (i t : ℕ) → Apart (column i t)
unfolding printed ascii
column-told i t (column i' t') b b' s s' r r' h h' e = column_apart i t i' t' b b' s s' r r' h h' (rest-same e)
column-told i t (literal t' v') b b' s s' r r' h h' e = differ e refl
column-told i t (and x' y') b b' s s' r r' h h' e = differ e refl
column-told i t (binary o' x' y') b b' s s' r r' h h' e = differ e refl
column-told i t (call name' es') b b' s s' r r' h h' e = differ e refl
column-told i t (other tag' es') b b' s s' r r' h h' e = differ e refl
column-told i t (field x' t') b b' s s' r r' h h' e = absurd r'

literal-told : (t v : ℕ) → Apart (literal t v)
unfolding printed ascii
literal-told t v (column i' t') b b' s s' r r' h h' e = differ e refl
literal-told t v (literal t' v') b b' s s' r r' h h' e = literal-apart t v t' v' b b' s s' r r' (rest-same e)
literal-told t v (and x' y') b b' s s' r r' h h' e = differ e refl
literal-told t v (binary o' x' y') b b' s s' r r' h h' e = differ e refl
literal-told t v (call name' es') b b' s s' r r' h h' e = differ e refl
literal-told t v (other tag' es') b b' s s' r r' h h' e = differ e refl
literal-told t v (field x' t') b b' s s' r r' h h' e = absurd r'

and-told : (x y : Expr) → Apart x → Apart y → Apart (and x y)
unfolding printed ascii
and-told x y ax ay (column i' t') b b' s s' r r' h h' e = differ e refl
and-told x y ax ay (literal t' v') b b' s s' r r' h h' e = differ e refl
and-told x y ax ay (and x' y') b b' s s' r r' h h' e =
    let p : _ × (x ≡ x') × (y ≡ y') × (s ≡ s') = pair-apart 0 0 b b' x y x' y' s s' (lit< tt) (lit< tt) ax ay r.0 r.1 r'.0
    r'.1 (rest-same e) in
    (ap₂ and p.1 p.2, p.3)
and-told x y ax ay (binary o' x' y') b b' s s' r r' h h' e =
    let p : (0 ≡ o') × (x ≡ x') × (y ≡ y') × (s ≡ s') = pair-apart 0 o' b b' x y x' y' s s' (lit< tt) (omega (arith, r'.1)) ax ay r.0
    r.1 r'.2 r'.3 (rest-same e) in
    absurd (omega (arith, p.0, r'.0))
and-told x y ax ay (call name' es') b b' s s' r r' h h' e = differ e refl
and-told x y ax ay (other tag' es') b b' s s' r r' h h' e = differ e refl
and-told x y ax ay (field x' t') b b' s s' r r' h h' e = absurd r'

binary-told : (o : ℕ) (x y : Expr) → Apart x → Apart y → Apart (binary o x y)
unfolding printed ascii
binary-told o x y ax ay (column i' t') b b' s s' r r' h h' e = differ e refl
binary-told o x y ax ay (literal t' v') b b' s s' r r' h h' e = differ e refl
binary-told o x y ax ay (and x' y') b b' s s' r r' h h' e =
    let p : (o ≡ 0) × (x ≡ x') × (y ≡ y') × (s ≡ s') = pair-apart o 0 b b' x y x' y' s s' (omega (arith, r.1)) (lit< tt) ax ay r.2
    r.3 r'.0 r'.1 (rest-same e) in
    absurd (omega (arith, p.0, r.0))
binary-told o x y ax ay (binary o' x' y') b b' s s' r r' h h' e =
    let p : (o ≡ o') × (x ≡ x') × (y ≡ y') × (s ≡ s') = pair-apart o o' b b' x y x' y' s s' (omega (arith, r.1))
    (omega (arith, r'.1)) ax ay r.2 r.3 r'.2 r'.3 (rest-same e) in
    (cc, p.3)
binary-told o x y ax ay (call name' es') b b' s s' r r' h h' e = differ e refl
binary-told o x y ax ay (other tag' es') b b' s s' r r' h h' e = differ e refl
binary-told o x y ax ay (field x' t') b b' s s' r r' h h' e = absurd r'

call-told : (name : List ℕ) (es : Exprs) → ApartAll es → Apart (call name es)
unfolding printed ascii
call-told name es a (column i' t') b b' s s' r r' h h' e = differ e refl
call-told name es a (literal t' v') b b' s s' r r' h h' e = differ e refl
call-told name es a (and x' y') b b' s s' r r' h h' e = differ e refl
call-told name es a (binary o' x' y') b b' s s' r r' h h' e = differ e refl
call-told name es a (call name' es') b b' s s' r r' h h' e = call-apart name name' es es' b b' s s' a r r' (rest-same e)
call-told name es a (other tag' es') b b' s s' r r' h h' e = differ e refl
call-told name es a (field x' t') b b' s s' r r' h h' e = absurd r'

other-told : (tag : ℕ) (es : Exprs) → ApartAll es → Apart (other tag es)
unfolding printed ascii
other-told tag es a (column i' t') b b' s s' r r' h h' e = differ e refl
other-told tag es a (literal t' v') b b' s s' r r' h h' e = differ e refl
other-told tag es a (and x' y') b b' s s' r r' h h' e = differ e refl
other-told tag es a (binary o' x' y') b b' s s' r r' h h' e = differ e refl
other-told tag es a (call name' es') b b' s s' r r' h h' e = differ e refl
other-told tag es a (other tag' es') b b' s s' r r' h h' e = other-apart tag tag' es es' b b' s s' a r r' (rest-same e)
other-told tag es a (field x' t') b b' s s' r r' h h' e = absurd r'

pub told-apart : (e : Expr) → Apart e
unfolding printed ascii
told-apart = whole Apart (λ es. ApartAll es × ApartMore es) column-told literal-told and-told binary-told
    (λ name es apart. call-told name es apart.0) (λ tag es apart. other-told tag es apart.0)
    (λ x t e' b b' s s' r r' h h' e. absurd r) (nothing-first, nothing-more)
    (λ e es one rest. (one-first e es one rest.1, one_more e es one rest.1))
