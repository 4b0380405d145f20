-- A list whose first elements are overwritten, one after another, by those of another list under a function.
use mathlib.Core.Path.{◌≡◌, refl, sym, ap, ◌∙◌}
use Prim.Native.Nat.{ℕ, zero, suc, ◌<◌, ◌≤◌}
use native.Mathlib.Omega.{arith}
use mathlib.Core.List.{List, [], ◌∷◌, ◌++◌, map}
use lib.ListN.{length, get_or, take, drop, length-map, length-take, get_or-map}
use Rattle.std.proofs.lemmas.List.{ext_get_or, get_or-take, get_or_default}

module _ {A B : Type 0} (f : A → B) (xs : List A) (ys : List B) where
  -- the list after i elements were overwritten
  abbrev pub filled : ℕ → List B
  filled i = take i (map f xs) ++ drop i ys

pub map-take : {A B : Type 0} (f : A → B) (n : ℕ) (xs : List A) → map f (take n xs) ≡ take n (map f xs)
map-take f zero xs = refl
map-take f (suc n) [] = refl
map-take f (suc n) (x ∷ xs) = ap (λ (l : List _). f x ∷ l) (map-take f n xs)

pub map-drop : {A B : Type 0} (f : A → B) (n : ℕ) (xs : List A) → map f (drop n xs) ≡ drop n (map f xs)
map-drop f zero xs = refl
map-drop f (suc n) [] = refl
map-drop f (suc n) (x ∷ xs) = map-drop f n xs

-- What stands at a place of the first elements under f is f of what stands there.
pub get_or-first : {A B : Type 0} (f : A → B) (d : A) (e : B) (n : ℕ) (xs : List A) → n ≤ length xs → (i : ℕ) → i < n
    → get_or (take n (map f xs)) i e ≡ f (get_or xs i d)
get_or-first f d e n xs within i h =
    get_or-take n (map f xs) i e h ∙ get_or_default (map f xs) i e (f d) (omega (arith, length-map xs f)) ∙ get_or-map f xs i d

-- Elements that are each f of another list's at its place are f of that list's first.
pub by-places : {A B : Type 0} (f : A → B) (d : A) (e : B) (n : ℕ) (xs : List A) (ys : List B) → length ys ≡ n → n ≤ length xs
    → ((i : ℕ) → i < n → get_or ys i e ≡ f (get_or xs i d)) → ys ≡ take n (map f xs)
by-places f d e n xs ys long within are =
    ext_get_or e ys (take n (map f xs)) (omega (arith, length-take n (map f xs), length-map xs f))
    (λ i h. are i (omega arith) ∙ sym (get_or-first f d e n xs within i (omega arith)))
