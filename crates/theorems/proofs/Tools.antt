-- A test by its two outcomes, names that are the same, a list by its elements, bytes: laws that any subject may need.
use Rattle.std.specs.Prelude.{if◌then◌else◌}
use Prim.Native.Nat.{ℕ, zero, suc, ◌<◌}
use native.Mathlib.Nat.{not-suc-le-zero, le_of_suc-le-suc}
use mathlib.Core.Path.{◌≡◌, refl, ap₂}
use mathlib.Core.Bool.{Bool, true, false, ◌&&◌, false≢true}
use mathlib.Core.List.{List, [], ◌∷◌, map}
use lib.ListN.{length, drop, get_or}
use lib.Dec.{eqb}
use borrow.Author.Tests.{eqb-true}
use mir.Syntax.{w8}
use mir.Val.{Fits}
use Rattle.definitions.specs.Words.Basics.{same_name}
use Rattle.definitions.specs.Bytes.Good.{AllBytes}

-- By the two outcomes of a test.
pub by-test {κ} : {X : Type 0} (P : X → Type κ) (b : Bool) (x y : X) → (b ≡ true → P x) → (b ≡ false → P y) → P (if b then x else y)
by-test P true x y f g = f refl
by-test P false x y f g = g refl

pub and-both : (a b : Bool) → (a && b) ≡ true → (a ≡ true) × (b ≡ true)
and-both true true e = (refl, refl)
and-both true false e = (refl, e)
and-both false true e = (e, refl)
and-both false false e = (e, e)

pub same-name : (s t : List ℕ) → same_name s t ≡ true → s ≡ t
unfolding same_name
same-name [] [] e = refl
same-name [] (b ∷ t) e = absurd (false≢true e)
same-name (a ∷ s) [] e = absurd (false≢true e)
same-name (a ∷ s) (b ∷ t) e =
    let both : (eqb a b ≡ true) × (same_name s t ≡ true) = and-both (eqb a b) (same_name s t) e in
    ap₂ (λ (x : ℕ) (y : List ℕ). x ∷ y) (eqb-true a b both.0) (same-name s t both.1)

-- An element of a mapped list, whatever stands for one past its end.
pub mapped_at : {A B : Type 0} (f : A → B) (xs : List A) (i : ℕ) (a : A) (b : B) → i < length xs → get_or (map f xs) i b ≡ f (get_or xs i a)
mapped_at f [] i a b h = absurd (not-suc-le-zero h)
mapped_at f (x ∷ xs) zero a b h = refl
mapped_at f (x ∷ xs) (suc i) a b h = mapped_at f xs i a b (le_of_suc-le-suc h)

-- A slice of bytes, and what is left of it from a place on.
pub all-bytes : (s : List ℕ) → ((i : ℕ) → Fits w8 (get_or s i 0)) → AllBytes s
all-bytes [] h = tt
all-bytes (b ∷ s) h = ((h 0).fits, all-bytes s (λ i. h (suc i)))

pub bytes-from : (at : ℕ) (s : List ℕ) → AllBytes s → AllBytes (drop at s)
bytes-from zero s h = h
bytes-from (suc at) [] h = tt
bytes-from (suc at) (b ∷ s) h = bytes-from at s h.1
