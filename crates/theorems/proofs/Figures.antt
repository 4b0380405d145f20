-- Digits tell their number, and a decimal number tells where it ends.
use Rattle.std.specs.Prelude.{if◌then◌else◌}
use Prim.Native.Nat.{ℕ, zero, suc, ◌+◌, ◌*◌, ◌/◌, ◌%◌, ◌^◌, ◌≤◌, ◌<◌}
use native.Mathlib.Nat.{pow-succ', one-le-pow, mod-eq_of_lt, mod-lt}
use native.Mathlib.Omega.{arith}
use mathlib.Core.Path.{◌≡◌, refl, sym, ap, ap₂, ◌∙◌, subst}
use mathlib.Core.Bool.{Bool, true, false, ◌&&◌, false≢true}
use mathlib.Core.List.{List, [], ◌∷◌, ◌++◌}
use lib.ListN.{length}
use lib.Dec.{ltb, lit<, lit≤}
use lib.Arith.{mod-mul}
use borrow.Author.Tests.{ltb-true, ltb-false, lt-ltb, le-leb}
use Rattle.definitions.specs.Words.Basics.{big_endian, digit, digits}
use Rattle.definitions.specs.Bytes.Readers.{read, number}
use Rattle.definitions.specs.Bytes.Printed.{figures, decimal_width, decimal, digits16}
use Rattle.definitions.specs.Claims.Print.{is_digit, NoDigit}
use Rattle.theorems.proofs.Tools.{by-test}
use Rattle.theorems.proofs.RoundTrip.{number-reads}

-- ---- lists

pub first-same : {a b : ℕ} {s t : List ℕ} → a ∷ s ≡ b ∷ t → a ≡ b
first-same e = cc

pub rest-same : {a b : ℕ} {s t : List ℕ} → a ∷ s ≡ b ∷ t → s ≡ t
rest-same e = cc

-- Parts of the same length before equal texts.
pub parts_same : (a b s t : List ℕ) → length a ≡ length b → a ++ s ≡ b ++ t → (a ≡ b) × (s ≡ t)
parts_same [] [] s t h e = (refl, e)
parts_same [] (y ∷ b) s t h e = absurd (omega arith)
parts_same (x ∷ a) [] s t h e = absurd (omega arith)
parts_same (x ∷ a) (y ∷ b) s t h e =
    let r : (a ≡ b) × (s ≡ t) = parts_same a b s t (omega arith) (rest-same e) in
    (ap₂ (λ (p : ℕ) (q : List ℕ). p ∷ q) (first-same e) r.0, r.1)

-- ---- digits

pub digit-small : (d : ℕ) → d < 10 → digit d ≡ d + 48
unfolding digit
digit-small d h = ap (λ (b : Bool). if b then d + 48 else d + 87) (lt-ltb d 10 h)

digit-cases : (c d : ℕ) (p q : Bool) → ltb c 10 ≡ p → ltb d 10 ≡ q → (if p then c + 48 else c + 87) ≡ (if q then d + 48 else d + 87) → c ≡ d
digit-cases c d true true e f h = omega arith
digit-cases c d true false e f h = absurd (omega (arith, ltb-true c 10 e, ltb-false d 10 f))
digit-cases c d false true e f h = absurd (omega (arith, ltb-false c 10 e, ltb-true d 10 f))
digit-cases c d false false e f h = omega arith

-- A digit tells its value.
pub digit-same : (c d : ℕ) → digit c ≡ digit d → c ≡ d
unfolding digit
digit-same c d h = digit-cases c d (ltb c 10) (ltb d 10) refl refl h

decimal_digit : (d : ℕ) → d < 10 → is_digit (digit d) ≡ true
unfolding is_digit
decimal_digit d h = rw (digit-small d h) (ap₂ ◌&&◌ (le-leb 48 (d + 48) (omega arith)) (le-leb (d + 48) 57 (omega arith)))

-- ---- digits of one width

figures-same : (w v v' : ℕ) (s s' : List ℕ) → figures w v ++ s ≡ figures w v' ++ s' → (v % 10 ^ w ≡ v' % 10 ^ w) × (s ≡ s')
unfolding figures
figures-same zero v v' s s' e = (omega arith, e)
figures-same (suc w) v v' s s' e =
    let r : (v % 10 ^ w ≡ v' % 10 ^ w) × (s ≡ s') = figures-same w v v' s s' (rest-same e) in
    let d : v / 10 ^ w % 10 ≡ v' / 10 ^ w % 10 = digit-same _ _ (first-same e) in
    let k : 0 < 10 ^ w = one-le-pow w 10 (lit< tt) in
    (rw (pow-succ' 10 w, mod-mul v (lit< tt) k, mod-mul v' (lit< tt) k) (ap₂ (λ (x y : ℕ). x * 10 ^ w + y) d r.0), r.1)

-- ---- decimal numbers before something that is no digit

digit-starts : (w v : ℕ) (s t : List ℕ) → t ≡ figures (suc w) v ++ s → NoDigit t → ⊥
unfolding figures
digit-starts w v s t e h =
    false≢true (sym (subst NoDigit e h) ∙ decimal_digit (v / 10 ^ w % 10) (mod-lt (v / 10 ^ w) (lit< tt)))

widths-same : (w w' v v' : ℕ) (s s' : List ℕ) → NoDigit s → NoDigit s' → figures w v ++ s ≡ figures w' v' ++ s' → w ≡ w'
unfolding figures
widths-same zero zero v v' s s' h h' e = refl
widths-same zero (suc w') v v' s s' h h' e = absurd (digit-starts w' v' s' s e h)
widths-same (suc w) zero v v' s s' h h' e = absurd (digit-starts w v s s' (sym e) h')
widths-same (suc w) (suc w') v v' s s' h h' e = ap suc (widths-same w w' v v' s s' h h' (rest-same e))

-- The width, by the tests that give it.
pub width-cases : (P : ℕ → Type 0) (v : ℕ) → (v < 10 → P 1) → (10 ≤ v → v < 100 → P 2) → (100 ≤ v → v < 1000 → P 3)
    → (1000 ≤ v → v < 10000 → P 4) → (10000 ≤ v → P 5) → P (decimal_width v)
unfolding decimal_width
width-cases P v one two three four five =
    by-test P (ltb v 10) 1 _ (λ a. one (ltb-true v 10 a)) (λ a.
    by-test P (ltb v 100) 2 _ (λ b. two (ltb-false v 10 a) (ltb-true v 100 b)) (λ b.
    by-test P (ltb v 1000) 3 _ (λ c. three (ltb-false v 100 b) (ltb-true v 1000 c)) (λ c.
    by-test P (ltb v 10000) 4 5 (λ d. four (ltb-false v 1000 c) (ltb-true v 10000 d)) (λ d. five (ltb-false v 10000 d)))))

-- It holds the number.
width-holds : (v : ℕ) → v < 100000 → v < 10 ^ decimal_width v
width-holds v h = width-cases (λ w. v < 10 ^ w) v (λ a. a) (λ a b. b) (λ a b. b) (λ a b. b) (λ a. h)

pub decimals-same : (v v' : ℕ) (s s' : List ℕ) → v < 100000 → v' < 100000 → NoDigit s → NoDigit s'
    → decimal v ++ s ≡ decimal v' ++ s' → (v ≡ v') × (s ≡ s')
unfolding decimal
decimals-same v v' s s' k k' h h' e =
    let w : decimal_width v ≡ decimal_width v' = widths-same (decimal_width v) (decimal_width v') v v' s s' h h' e in
    let r : (v % 10 ^ decimal_width v ≡ v' % 10 ^ decimal_width v) × (s ≡ s') =
    figures-same (decimal_width v) v v' s s' (e ∙ ap (λ (x : ℕ). figures x v' ++ s') (sym w)) in
    (sym (mod-eq_of_lt (width-holds v k)) ∙ r.0 ∙ mod-eq_of_lt (subst (λ (x : ℕ). v' < 10 ^ x) (sym w) (width-holds v' k')), r.1)

-- ---- the digits of bytes

digits_same : (a b s t : List ℕ) → length a ≡ length b → digits a ++ s ≡ digits b ++ t → (a ≡ b) × (s ≡ t)
unfolding digits
digits_same [] [] s t h e = (refl, e)
digits_same [] (y ∷ b) s t h e = absurd (omega arith)
digits_same (x ∷ a) [] s t h e = absurd (omega arith)
digits_same (x ∷ a) (y ∷ b) s t h e =
    let high : x / 16 ≡ y / 16 = digit-same _ _ (first-same e) in
    let low : x % 16 ≡ y % 16 = digit-same _ _ (first-same (rest-same e)) in
    let r : (a ≡ b) × (s ≡ t) = digits_same a b s t (omega arith) (rest-same (rest-same e)) in
    (ap₂ (λ (p : ℕ) (q : List ℕ). p ∷ q) (omega arith) r.0, r.1)

-- Eight bytes tell their number: they are read as it.
eight-bytes : (v v' : ℕ) → length (big_endian 8 v) ≡ length (big_endian 8 v')
unfolding big_endian
eight-bytes v v' = refl

eight-same : (v v' : ℕ) → v < 18446744073709551616 → v' < 18446744073709551616 → big_endian 8 v ≡ big_endian 8 v' → v ≡ v'
eight-same v v' k k' e =
    let one : number 8 0 (big_endian 8 v ++ []) ≡ read v 0 [] = number-reads 8 v 0 [] k in
    let other : number 8 0 (big_endian 8 v' ++ []) ≡ read v' 0 [] = number-reads 8 v' 0 [] k' in
    cc

pub literals-same : (v v' : ℕ) (s s' : List ℕ) → v < 18446744073709551616 → v' < 18446744073709551616
    → digits16 v ++ s ≡ digits16 v' ++ s' → (v ≡ v') × (s ≡ s')
unfolding digits16
literals-same v v' s s' k k' e =
    let r : (big_endian 8 v ≡ big_endian 8 v') × (s ≡ s') = digits_same (big_endian 8 v) (big_endian 8 v') s s' (eight-bytes v v') e in
    (eight-same v v' k k' r.0, r.1)

-- ---- lengths

pub figures-length : (w v : ℕ) → length (figures w v) ≡ w
unfolding figures
figures-length zero v = refl
figures-length (suc w) v = ap suc (figures-length w v)

-- A decimal number has as many digits as its width.
pub decimal-length : (v : ℕ) → length (decimal v) ≡ decimal_width v
unfolding decimal
decimal-length v = figures-length (decimal_width v) v

-- Small numbers have few digits.
pub decimal-short : (v : ℕ) → length (decimal v) ≤ 5
decimal-short v =
    rw (decimal-length v) (width-cases (λ w. w ≤ 5) v (λ a. lit≤ tt) (λ a b. lit≤ tt) (λ a b. lit≤ tt) (λ a b. lit≤ tt) (λ a. lit≤ tt))

pub decimal-three : (v : ℕ) → v < 1000 → length (decimal v) ≤ 3
decimal-three v h =
    rw (decimal-length v)
    (width-cases (λ w. w ≤ 3) v (λ a. lit≤ tt) (λ a b. lit≤ tt) (λ a b. lit≤ tt) (λ a b. absurd (omega arith)) (λ a. absurd (omega arith)))

pub decimal-two : (v : ℕ) → v < 100 → length (decimal v) ≤ 2
decimal-two v h =
    rw (decimal-length v)
    (width-cases (λ w. w ≤ 2) v (λ a. lit≤ tt) (λ a b. lit≤ tt) (λ a b. absurd (omega arith)) (λ a b. absurd (omega arith))
    (λ a. absurd (omega arith)))

pub decimal-one : (v : ℕ) → v < 10 → length (decimal v) ≡ 1
unfolding decimal_width
decimal-one v h = decimal-length v ∙ rw (lt-ltb v 10 h)

pub digits16-length : (v : ℕ) → length (digits16 v) ≡ 16
unfolding digits16 digits big_endian
digits16-length v = refl
