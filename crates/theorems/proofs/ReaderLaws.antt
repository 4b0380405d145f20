-- The laws of readers: what happens after a value, a refusal and a test; and, of something that was read, how it came.
use Prim.Native.Nat.{ℕ}
use native.Mathlib.Omega.{arith}
use mathlib.Core.Path.{◌≡◌, refl, ap, subst}
use mathlib.Core.Bool.{Bool, true, false}
use mathlib.Core.List.{List}
use Rattle.definitions.specs.Bytes.Readers.{Read, read, stopped, Reader, continue, require}

-- ---- forwards

-- It read: go on there.
pub after : {A B : Type 0} {r : Read A} {a : A} {n : ℕ} {s : List ℕ} (next : A → Reader B) → r ≡ read a n s → continue r next ≡ next a n s
after next e = ap (λ (r : Read _). continue r next) e

-- It stopped: what comes after does not happen.
pub halts : {A B : Type 0} {r : Read A} {number : ℕ} (next : A → Reader B) → r ≡ stopped number → continue r next ≡ stopped number
halts next e = ap (λ (r : Read _). continue r next) e

-- A test that holds.
pub passes : {B : Type 0} (number : ℕ) {t : Bool} (next : Reader B) (n : ℕ) (s : List ℕ)
    → t ≡ true → continue (require number t n s) (λ a. next) ≡ next n s
passes number next n s e = ap (λ (t : Bool). continue (require number t n s) (λ a. next)) e

-- A test that does not.
pub fails : {B : Type 0} (number : ℕ) {t : Bool} (next : Reader B) (n : ℕ) (s : List ℕ)
    → t ≡ false → continue (require number t n s) (λ a. next) ≡ stopped number
fails number next n s e = ap (λ (t : Bool). continue (require number t n s) (λ a. next)) e

-- ---- backwards

pub stopped-not-read : {A : Type 0} (k : ℕ) (a : A) (n : ℕ) (s : List ℕ) → ◌≡◌ {A = Read A} (stopped k) (read a n s) → ⊥
stopped-not-read k a n s e = let z : ◌≡◌ {A = ℕ} 0 1 = cc in omega arith

-- A sequence that was read was read step by step: each step binds its value, count and rest.
pub step : {A B G : Type 0} (r : Read A) (next : A → Reader B) {b : B} {m : ℕ} {t : List ℕ} → continue r next ≡ read b m t
    → ((a : A) (n : ℕ) (s : List ℕ) → r ≡ read a n s → next a n s ≡ read b m t → G) → G
step (read a n s) next e go = go a n s refl e
step (stopped k) next {b} {m} {t} e go = absurd (stopped-not-read k b m t e)

-- A test that was passed holds.
pub test : {B G : Type 0} (number : ℕ) (x : Bool) (next : Reader B) (n : ℕ) (s : List ℕ) {b : B} {m : ℕ} {t : List ℕ}
    → continue (require number x n s) (λ a. next) ≡ read b m t → (x ≡ true → next n s ≡ read b m t → G) → G
test number true next n s e go = go refl e
test number false next n s {b} {m} {t} e go = absurd (stopped-not-read number b m t e)

pub same_read : {A : Type 0} (a b : A) (n m : ℕ) (s t : List ℕ) → read a n s ≡ read b m t → (a ≡ b) × (n ≡ m) × (s ≡ t)
same_read a b n m s t e = (cc, cc, cc)

-- What holds of the value, the count and the rest that were given holds of those that were read.
pub given : {A : Type 0} (P : A → ℕ → List ℕ → Type 0) (a b : A) (n m : ℕ) (s t : List ℕ) → read a n s ≡ read b m t → P a n s → P b m t
given P a b n m s t e p =
    let q : (a ≡ b) × (n ≡ m) × (s ≡ t) = same_read a b n m s t e in
    subst (λ (x : _). P x m t) q.0 (subst (λ (x : ℕ). P a x t) q.1 (subst (P a n) q.2 p))
