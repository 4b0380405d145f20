-- Laws of the place of an item: one item more, and what an item found among the first says of the whole list.
use Rattle.std.specs.Prelude.{if◌then◌else◌}
use Prim.Native.Nat.{ℕ, suc, ◌+◌, ◌-◌, ◌≤◌, ◌<◌}
use native.Mathlib.Omega.{arith}
use native.Mathlib.Numerals.{add-one}
use mathlib.Core.Path.{◌≡◌, refl, sym, ap, ◌∙◌, subst}
use mathlib.Core.Bool.{Bool, true, false, ◌||◌}
use mathlib.Core.List.{List, [], ◌∷◌, ◌++◌}
use mathlib.Core.Option.{Option, none, some, map}
use lib.ListN.{length, take, drop, get_or, length-drop, take-append-drop}
use lib.Seq.{take-suc, take_all, take-add, length-take-le}
use lib.Dec.{eqb, ltb}
use borrow.Author.Tests.{eq-eqb, ne_eqb, lt-ltb, le-ltb, ltb-true, ltb-false}
use Rattle.definitions.specs.Filter.Project.{place_in, is_place}
use Rattle.byte_writer.proofs.Written.{behind}
use Rattle.std.specs.Prelude as optional
use Rattle.std.specs.Prelude.{cond, ◌==◌, position, is_some, Some, None}
use Rattle.std.specs.List.{position_or_len}
use Rattle.projection.specs.Chains.{place_of}

-- The first of two that there is.
abbrev either : (first second : Option ℕ) → Option ℕ
either (some place) second = some place
either none second = second

-- ---- a search of the list

one_further : (b c : Bool) (m : ℕ) (p : Option ℕ) → b ≡ c → place_of (cond b (Some m) None) ≡ p
    → place_of (cond c (Some (1 + m)) None) ≡ map suc p
one_further true true m p e f = let next : 1 + m ≡ suc m = omega arith in rw next (ap (map suc) f)
one_further false false m p e f = ap (map suc) f
one_further true false m p e f = absurd (let z : ◌≡◌ {A = ℕ} 0 1 = cc in omega arith)
one_further false true m p e f = absurd (let z : ◌≡◌ {A = ℕ} 0 1 = cc in omega arith)

below-one-more : (m n : ℕ) → ltb m n ≡ ltb (1 + m) (suc n)
below-one-more m n = told (ltb m n) refl
  where
    told : (t : Bool) → ltb m n ≡ t → ltb m n ≡ ltb (1 + m) (suc n)
    told true e = e ∙ sym (lt-ltb (1 + m) (suc n) (omega (arith, ltb-true m n e)))
    told false e = e ∙ sym (le-ltb (1 + m) (suc n) (omega (arith, ltb-false m n e)))

pub position-is : (items : List ℕ) (index : ℕ) → place_of (position (λ item. item == index) items) ≡ place_in items index
unfolding place_in
position-is [] index = refl
position-is (item ∷ items) index = by_test (position-is items index) (eqb item index) refl
  where
    by_test : place_of (position (λ other. other == index) items) ≡ place_in items index → (t : Bool) → eqb item index ≡ t
        → place_of (position (λ other. other == index) (item ∷ items)) ≡ (if eqb item index then some 0 else map suc (place_in items index))
    by_test rest true e = rw (e, lt-ltb 0 (suc (length items)) (omega arith)) refl
    by_test rest false e =
        let m : ℕ = position_or_len (λ other. other == index) items in
        rw e
        (one_further (ltb m (length items)) (ltb (1 + m) (suc (length items))) m (place_in items index)
        (below-one-more m (length items)) rest)

-- An answer that is none, and one that is not.
pub is-missing : (answer : optional.Option ℕ) {p : Option ℕ} → place_of answer ≡ p → is_some answer ≡ false → none ≡ p
is-missing None e f = e
is-missing (Some place) e f = absurd (let z : ◌≡◌ {A = ℕ} 0 1 = cc in omega arith)

pub is-there : (answer : optional.Option ℕ) {p : Option ℕ} → place_of answer ≡ p → is_some answer ≡ true → (place : ℕ) × (some place ≡ p)
is-there (Some place) e f = (place, e)
is-there None e f = absurd (let z : ◌≡◌ {A = ℕ} 0 1 = cc in omega arith)

-- ---- one item more

one_more : (t u : Bool) (p : Option ℕ) (n : ℕ)
    → (if t then some 0 else map suc (either p (if u then some n else none)))
    ≡ either (if t then some 0 else map suc p) (if u then some (suc n) else none)
one_more true u p n = refl
one_more false u (some place) n = refl
one_more false true none n = refl
one_more false false none n = refl

place-snoc : (x : List ℕ) (a item : ℕ)
    → place_in (x ++ (a ∷ [])) item ≡ either (place_in x item) (if eqb a item then some (length x) else none)
unfolding place_in
place-snoc [] a item = refl
place-snoc (b ∷ x) a item =
    ap (λ (p : Option ℕ). if eqb b item then some 0 else map suc p) (place-snoc x a item)
    ∙ one_more (eqb b item) (eqb a item) (place_in x item) (length x)

either-has : (p : Option ℕ) (t : Bool) (n : ℕ) → is_place (either p (if t then some n else none)) ≡ (is_place p || t)
unfolding is_place
either-has (some place) t n = refl
either-has none true n = refl
either-has none false n = refl

module _ (items : List ℕ) (k item : ℕ) (inside : k < length items) where
  place-next : place_in (take (k + 1) items) item
      ≡ either (place_in (take k items) item) (if eqb (get_or items k 0) item then some k else none)
  place-next =
      ap (λ (x : List ℕ). place_in x item) (ap (λ (n : ℕ). take n items) (add-one k) ∙ take-suc items k 0 inside)
      ∙ place-snoc (take k items) (get_or items k 0) item
      ∙ ap (λ (n : ℕ). either (place_in (take k items) item) (if eqb (get_or items k 0) item then some n else none))
      (length-take-le k items (omega arith))

  -- Another item changes nothing,
  pub place-passed : (get_or items k 0 ≡ item → ⊥) → place_in (take (k + 1) items) item ≡ place_in (take k items) item
  place-passed other = place-next ∙ rw (ne_eqb (get_or items k 0) item other) (nothing (place_in (take k items) item))
    where
      nothing : (p : Option ℕ) → either p none ≡ p
      nothing (some place) = refl
      nothing none = refl

  -- nor does one that is found already,
  pub place-stays : (place : ℕ) → place_in (take k items) item ≡ some place
      → place_in (take (k + 1) items) item ≡ place_in (take k items) item
  place-stays place e = place-next ∙ rw e refl

  -- and a new one stands at its end.
  pub place-new : place_in (take k items) item ≡ none → get_or items k 0 ≡ item → place_in (take (k + 1) items) item ≡ some k
  place-new e same = place-next ∙ rw (e, eq-eqb (get_or items k 0) item same) refl

  -- Whether it is found then.
  pub has_next : is_place (place_in (take (k + 1) items) item) ≡ (is_place (place_in (take k items) item) || eqb (get_or items k 0) item)
  has_next = ap is_place place-next ∙ either-has (place_in (take k items) item) (eqb (get_or items k 0) item) k

-- ---- behind items that lack it

same_places : (q : Option ℕ) → map (λ n. 0 + n) q ≡ q
same_places none = refl
same_places (some n) = let same : 0 + n ≡ n = omega arith in ap some same

one_before : (t : Bool) (p q : Option ℕ) (m : ℕ)
    → (if t then some 0 else map suc (either p (map (λ n. m + n) q)))
    ≡ either (if t then some 0 else map suc p) (map (λ n. suc m + n) q)
one_before true p q m = refl
one_before false (some place) q m = refl
one_before false none none m = refl
one_before false none (some n) m = let next : suc (m + n) ≡ suc m + n = omega arith in ap some next

place-append : (x y : List ℕ) (item : ℕ) → place_in (x ++ y) item ≡ either (place_in x item) (map (λ n. length x + n) (place_in y item))
unfolding place_in
place-append [] y item = sym (same_places (place_in y item))
place-append (b ∷ x) y item =
    ap (λ (p : Option ℕ). if eqb b item then some 0 else map suc p) (place-append x y item)
    ∙ one_before (eqb b item) (place_in x item) (place_in y item) (length x)

pub no-place : (p : Option ℕ) → is_place p ≡ false → p ≡ none
unfolding is_place
no-place none e = refl
no-place (some place) e = absurd (let z : ◌≡◌ {A = ℕ} 0 1 = cc in omega arith)

module _ (items : List ℕ) (item start : ℕ) (lacks : place_in (take start items) item ≡ none) where
  pub lacks-more : (n end : ℕ) → end ≡ start + n → place_in (take n (drop start items)) item ≡ none → place_in (take end items) item ≡ none
  lacks-more n end is lacks_too =
      ap (λ (l : List ℕ). place_in l item) (ap (λ (m : ℕ). take m items) is ∙ take-add start n items)
      ∙ place-append (take start items) (take n (drop start items)) item
      ∙ rw (lacks, lacks_too) refl

  -- The whole list, once its part from `start` on is lent.
  place-behind : start ≤ length items → place_in items item ≡ map (λ n. start + n) (place_in (behind start items) item)
  place-behind within =
      let rest : behind start items ≡ drop start items =
      take_all (length items - start) (drop start items) (omega (arith, length-drop start items)) in
      ap (λ (l : List ℕ). place_in l item) (sym (take-append-drop start items))
      ∙ place-append (take start items) (drop start items) item
      ∙ rw (lacks, length-take-le start items within, rest) refl

  -- What a search of that part says.
  pub place-from : start ≤ length items → (p : optional.Option ℕ) → p ≡ position (λ other. other == item) (behind start items)
      → map (λ n. start + n) (place_of p) ≡ place_in items item
  place-from within p e = ap (λ (q : optional.Option ℕ). map (λ n. start + n) (place_of q)) e
      ∙ ap (map (λ n. start + n)) (position-is (behind start items) item) ∙ sym (place-behind within)

-- ---- a place is one of the list

abbrev Within : (size : ℕ) → Option ℕ → Type 0
Within size none = Unit {0}
Within size (some place) = place < size

within_by : (t : Bool) (size : ℕ) (p : Option ℕ) → Within size p → Within (suc size) (if t then some 0 else map suc p)
within_by true size p h = omega arith
within_by false size none h = tt
within_by false size (some place) h = omega arith

within : (items : List ℕ) (item : ℕ) → Within (length items) (place_in items item)
unfolding place_in
within [] item = tt
within (b ∷ items) item = within_by (eqb b item) (length items) (place_in items item) (within items item)

pub place-within : (items : List ℕ) (item place : ℕ) → some place ≡ place_in items item → place < length items
place-within items item place e = subst (Within (length items)) (sym e) (within items item)
