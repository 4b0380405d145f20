-- A name that is not as long as one of the spatial names, or does not end with the letter of one, is none of them.
use Prim.Native.Nat.{ℕ, ◌-◌, ◌≤◌}
use mathlib.Core.Path.{◌≡◌, refl, sym, ap, ◌∙◌}
use mathlib.Core.Bool.{Bool, true, false, ◌&&◌, ◌||◌, false≢true}
use mathlib.Core.List.{List, [], ◌∷◌}
use lib.ListN.{length, get_or}
use lib.Dec.{eqb, leb}
use borrow.Author.Tests.{ne_eqb, leb-true}
use Rattle.definitions.specs.Words.Basics.{ascii, same_name, any, all}
use Rattle.definitions.specs.Filter.Names.{lower_case, spatial_names}
use Rattle.expression.proofs.NameLaws.{letter, small-length, small_at}
use Rattle.theorems.proofs.Requests.{same-name}

-- What a test holds of all names but not of this one, it is none of them.
module _ (test : List ℕ → Bool) (x : List ℕ) (fails : test x ≡ false) where
  apart : (name : List ℕ) → test name ≡ true → (t : Bool) → same_name x name ≡ t → t ≡ false
  apart name holds true e = absurd (false≢true (sym fails ∙ ap test (same-name x name e) ∙ holds))
  apart name holds false e = refl

  none-of : (names : List (List ℕ)) → all test names ≡ true → any (same_name x) names ≡ false
  unfolding all any
  none-of [] holds = refl
  none-of (name ∷ names) holds = rw (apart name (parts (test name) holds).0 (same_name x name) refl)
      (none-of names (parts (test name) holds).1)
    where
      parts : (t : Bool) {u : Bool} → t && u ≡ true → (t ≡ true) × (u ≡ true)
      parts true e = (refl, e)
      parts false e = absurd (false≢true e)

-- ---- by the length

long_enough : ℕ → Bool
long_enough n = eqb n 6 || leb 9 n && leb n 13

not-between : (n : ℕ) → (9 ≤ n → n ≤ 13 → ⊥) → (a b : Bool) → leb 9 n ≡ a → leb n 13 ≡ b → leb 9 n && leb n 13 ≡ false
not-between n h false b e f = rw e
not-between n h true false e f = rw (e, f)
not-between n h true true e f = absurd (h (leb-true 9 n e) (leb-true n 13 f))

pub none-as-long : (x : List ℕ) → (length x ≡ 6 → ⊥) → (9 ≤ length x → length x ≤ 13 → ⊥)
    → any (same_name (lower_case x)) spatial_names ≡ false
unfolding spatial_names ascii all long_enough
none-as-long x six others = none-of (λ name. long_enough (length name)) (lower_case x)
    (ap long_enough (small-length x) ∙ rw (ne_eqb (length x) 6 six) (not-between (length x) others _ _ refl refl)) spatial_names refl

-- ---- by the last letter

last : List ℕ → ℕ
last name = get_or name (length name - 1) 0

ends_so : ℕ → Bool
ends_so b = eqb b 110 || (eqb b 115 || eqb b 121)

pub none-ends-so : (x : List ℕ) (b : ℕ) → b ≡ letter (get_or x (length x - 1) 0) → (b ≡ 110 → ⊥) → (b ≡ 115 → ⊥) → (b ≡ 121 → ⊥)
    → any (same_name (lower_case x)) spatial_names ≡ false
unfolding spatial_names ascii all ends_so last
none-ends-so x b is n s y = none-of (λ name. ends_so (last name)) (lower_case x)
    (ap (λ (k : ℕ). ends_so (get_or (lower_case x) (k - 1) 0)) (small-length x)
    ∙ ap ends_so (small_at x (length x - 1) ∙ sym is) ∙ rw (ne_eqb b 110 n, ne_eqb b 115 s, ne_eqb b 121 y)) spatial_names refl
