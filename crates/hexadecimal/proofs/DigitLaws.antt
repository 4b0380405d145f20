-- A digit's value, and the digit of a value.
use Rattle.std.specs.Prelude.{if◌then◌else◌}
use Prim.Native.Nat.{ℕ, zero, suc, ◌+◌, ◌-◌, ◌<◌}
use native.Mathlib.Omega.{arith}
use mathlib.Core.Path.{◌≡◌, refl, ap, ap₂, ◌∙◌}
use mathlib.Core.List.{List, [], ◌∷◌}
use lib.ListN.{get_or}
use mathlib.Core.Option.{Option, none, some}
use mathlib.Core.Bool.{Bool, true, false, ◌&&◌}
use lib.Dec.{leb}
use borrow.Author.Tests.{leb-true}
use Rattle.definitions.specs.Words.Basics.{digit}
use Rattle.definitions.specs.Lists.Program.{digit_value}

-- A digit's value is below 16.
abbrev Bounded : Option ℕ → Type 0
Bounded none = Unit {0}
Bounded (some v) = v < 16

choice : (a b : Bool) (x y : Option ℕ) → (b ≡ true → Bounded x) → Bounded y → Bounded (if a && b then x else y)
choice true true x y f g = f refl
choice true false x y f g = g
choice false b x y f g = g

value-bounded : (c : ℕ) → Bounded (digit_value c)
unfolding digit_value
value-bounded c =
    choice (leb 48 c) (leb c 57) (some (c - 48)) _ (λ e. omega (arith, leb-true c 57 e))
    (choice (leb 97 c) (leb c 102) (some (c - 87)) none (λ e. omega (arith, leb-true c 102 e)) tt)

pub value-below : (c : ℕ) {v : ℕ} → some v ≡ digit_value c → v < 16
value-below c e = rw (← e) at (value-bounded c)

-- What the code about digits needs to know of them.
pub ruleset digit_laws = (value-below)

-- ---- the table of digits

unfoldable digits_from : (first n : ℕ) → List ℕ
digits_from first zero = []
digits_from first (suc n) = digit first ∷ digits_from (suc first) n

nth-digit : (first n i : ℕ) → i < n → get_or (digits_from first n) i 0 ≡ digit (first + i)
unfolding digits_from
nth-digit first zero i h = absurd (omega (arith, h))
nth-digit first (suc n) zero h = ap digit (omega arith)
nth-digit first (suc n) (suc i) h = nth-digit (suc first) n i (omega (arith, h)) ∙ ap digit (omega arith)

table-is : (48 ∷ 49 ∷ 50 ∷ 51 ∷ 52 ∷ 53 ∷ 54 ∷ 55 ∷ 56 ∷ 57 ∷ 97 ∷ 98 ∷ 99 ∷ 100 ∷ 101 ∷ 102 ∷ []) ≡ digits_from 0 16
unfolding digits_from digit
table-is = refl

pub table-digit : (v i : ℕ) → i ≡ v → v < 16
    → get_or (48 ∷ 49 ∷ 50 ∷ 51 ∷ 52 ∷ 53 ∷ 54 ∷ 55 ∷ 56 ∷ 57 ∷ 97 ∷ 98 ∷ 99 ∷ 100 ∷ 101 ∷ 102 ∷ []) i 0 ≡ digit v
table-digit v i e h = ap₂ (λ (l : List ℕ) (k : ℕ). get_or l k 0) table-is e ∙ nth-digit 0 16 v h ∙ ap digit (omega arith)
