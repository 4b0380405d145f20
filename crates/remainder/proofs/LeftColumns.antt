-- The columns of what is left of an expression without an AND-leaf: those of its columns that stand outside the leaf, moved.
use Rattle.std.specs.Prelude.{if◌then◌else◌, fold}
use Prim.Native.Nat.{ℕ, ◌+◌, ◌-◌, ◌≤◌, ◌<◌}
use native.Mathlib.Omega.{arith}
use mathlib.Core.Path.{◌≡◌, refl, ap, ap₂, ◌∙◌}
use mathlib.Core.Bool.{Bool, true, false, or-true}
use mathlib.Core.List.{List, [], ◌∷◌, ◌++◌, map, map-append, append-nil}
use lib.ListN.{length}
use lib.Dec.{ltb}
use borrow.Author.Tests.{lt-ltb, le-ltb, le-leb, lt-leb, leb-true}
use Rattle.definitions.specs.Words.Basics.{keep}
use Rattle.definitions.specs.Words.Expression.{Expr, and}
use Rattle.definitions.specs.Bytes.Encode.{expr_bytes}
use Rattle.definitions.specs.Bytes.Decode.{Columns}
use Rattle.definitions.specs.Words.References.{columns_of}
use Rattle.definitions.specs.Bytes.Good.{All}
use Rattle.theorems.proofs.Columns.{all_both}
use Rattle.expression.specs.Nodes.{left_of, right_of, Stands}
use Rattle.expression.specs.declared.cuts.Cut.{Cut}
use Rattle.expression.proofs.Standing.{first-stands}
use Rattle.filter_tree.proofs.ColumnPlaces.{columns_at, index_in, columns-read, columns-within, Moves, columns-moved, and-row, second}
use Rattle.remainder.specs.Around.{outside, moved}
use Rattle.remainder.proofs.CutLaws.{LeftOf, first_goes, second_goes, in_first, in_second, left-spans, left-size}

-- ---- those of a list that pass a test

module _ (test : ℕ → Bool) where
  keep-first : (x : ℕ) (xs ys : List ℕ) (b : Bool) → keep test (xs ++ ys) ≡ keep test xs ++ keep test ys
      → (if b then x ∷ keep test (xs ++ ys) else keep test (xs ++ ys)) ≡ (if b then x ∷ keep test xs else keep test xs) ++ keep test ys
  keep-first x xs ys true e = ap (λ (l : List ℕ). x ∷ l) e
  keep-first x xs ys false e = e

  keep_append : (xs ys : List ℕ) → keep test (xs ++ ys) ≡ keep test xs ++ keep test ys
  unfolding keep
  keep_append [] ys = refl
  keep_append (x ∷ xs) ys = keep-first x xs ys (test x) (keep_append xs ys)

  keep_all : (xs : List ℕ) → All (λ x. test x ≡ true) xs → keep test xs ≡ xs
  unfolding keep
  keep_all [] h = refl
  keep_all (x ∷ xs) h = rw h.0 (ap (λ (l : List ℕ). x ∷ l) (keep_all xs h.1))

  keep_none : (xs : List ℕ) → All (λ x. test x ≡ false) xs → keep test xs ≡ []
  unfolding keep
  keep_none [] h = refl
  keep_none (x ∷ xs) h = rw h.0 (keep_none xs h.1)

  -- What holds of all that are kept holds of all that pass; a change at those alone is one of those that are kept.
  pub all-kept : (P : ℕ → Type 0) (xs : List ℕ) → All P (keep test xs) → All (λ x. test x ≡ true → P x) xs
  unfolding keep
  all-kept P [] h = tt
  all-kept P (x ∷ xs) h = elim (test x) as (λ b. test x ≡ b → All P (if b then x ∷ keep test xs else keep test xs)
      → (test x ≡ true → P x) × All (λ x. test x ≡ true → P x) xs) [
        | true ↦ λ e k. ((λ z. k.0), all-kept P xs k.1)
        | false ↦ λ e k. ((λ z. absurd (cc)), all-kept P xs k)
      ] refl h

  pub fold-kept : {A : Type 0} (f : A → ℕ → A) (a : A) (xs : List ℕ)
      → fold (λ a x. if test x then f a x else a) a xs ≡ fold f a (keep test xs)
  unfolding keep
  fold-kept f a [] = refl
  fold-kept {A} f a (x ∷ xs) = elim (test x) as (λ b. fold (λ a x. if test x then f a x else a) (if b then f a x else a) xs
      ≡ fold f a (if b then x ∷ keep test xs else keep test xs)) [
        | true ↦ fold-kept f (f a x) xs
        | false ↦ fold-kept f a xs
      ]

pub all-mapped : (f : ℕ → ℕ) (P : ℕ → Type 0) (xs : List ℕ) → All P (map f xs) → All (λ x. P (f x)) xs
all-mapped f P [] h = tt
all-mapped f P (x ∷ xs) h = (h.0, all-mapped f P xs h.1)

-- ---- where a place is moved

module _ (cut : Cut) {place : ℕ} where
  before-leaf : place < cut.leaf → outside cut place ≡ true
  before-leaf h = rw (lt-ltb place cut.leaf h)

  behind-leaf : cut.end ≤ place → outside cut place ≡ true
  behind-leaf h = rw (le-leb cut.end place h) (or-true (ltb place cut.leaf))

  in-leaf : cut.leaf ≤ place → place < cut.end → outside cut place ≡ false
  in-leaf h k = rw (le-ltb place cut.leaf h, lt-leb cut.end place k)

  pub not-in-leaf : outside cut place ≡ true → cut.leaf ≤ place → cut.end ≤ place
  not-in-leaf out h = leb-true cut.end place (rw (le-ltb place cut.leaf h) at out)

  pub moved-before : (at : ℕ) → place < cut.parent + 2 → moved cut at place ≡ place - at
  moved-before at h = rw (lt-ltb place (cut.parent + 2) h)

  pub moved-between : (at : ℕ) → cut.parent + 2 ≤ place → place < cut.leaf → moved cut at place ≡ place - at - 2
  moved-between at h k = rw (le-ltb place (cut.parent + 2) h, lt-ltb place cut.leaf k)

  pub moved-behind : (at : ℕ) → cut.parent + 2 ≤ place → cut.leaf ≤ place → moved cut at place ≡ place - at - 2 - (cut.end - cut.leaf)
  moved-behind at h k = rw (le-ltb place (cut.parent + 2) h, le-ltb place cut.leaf k)

-- ---- the columns that are left

-- They are the columns of e at o, and have its indexes.
pub record LeftColumns (cut : Cut) (s : List ℕ) (root at o : ℕ) (t e : Expr) : Type 0 where
  pub places : map (moved cut root) (keep (outside cut) (columns_at at t)) ≡ columns_at o e
  pub indexes : map (index_in s) (keep (outside cut) (columns_at at t)) ≡ columns_of e

-- None of an expression in the leaf, and those of both sides of an And.
module _ (cut : Cut) where
  none-left : (at : ℕ) (t : Expr) → ((p : ℕ) → at ≤ p → p < at + length (expr_bytes t) → outside cut p ≡ false)
      → keep (outside cut) (columns_at at t) ≡ []
  none-left at t gone =
      let here = columns-within at (at + length (expr_bytes t)) at t (omega arith) (omega arith) in
      keep_none (outside cut) (columns_at at t)
      (all_both _ _ (λ p. outside cut p ≡ false) (λ p k z. gone p k.0 (omega (arith, k.1))) (columns_at at t) here here)

  split : (at : ℕ) (l r : Expr) → keep (outside cut) (columns_at at (and l r))
      ≡ keep (outside cut) (columns_at (left_of at) l) ++ keep (outside cut) (columns_at (right_of at l) r)
  unfolding columns_at
  split at l r = keep_append (outside cut) (columns_at (left_of at) l) (columns_at (right_of at l) r)

  both-left : (s : List ℕ) (root at o : ℕ) (l r a b : Expr) → LeftColumns cut s root (left_of at) (left_of o) l a
      → LeftColumns cut s root (right_of at l) (right_of o a) r b → LeftColumns cut s root at o (and l r) (and a b)
  unfolding columns_at columns_of
  both-left s root at o l r a b x y =
      let first : List ℕ = keep (outside cut) (columns_at (left_of at) l) in
      let second : List ℕ = keep (outside cut) (columns_at (right_of at l) r) in
      record {
        places = ap (map (moved cut root)) (split at l r) ∙ map-append (moved cut root) first second ∙ ap₂ ◌++◌ x.places y.places;
        indexes = ap (map (index_in s)) (split at l r) ∙ map-append (index_in s) first second ∙ ap₂ ◌++◌ x.indexes y.indexes;
      }

module _ {cut : Cut} {c : Columns} {s : List ℕ} (root : ℕ) where
  -- All of an expression outside the leaf.
  all-left : (at o : ℕ) {t : Expr} → Stands c s at t → ((p : ℕ) → at ≤ p → p < at + length (expr_bytes t) → outside cut p ≡ true)
      → Moves (moved cut root) at o (length (expr_bytes t)) → LeftColumns cut s root at o t t
  all-left at o {t} h out moves =
      let here = columns-within at (at + length (expr_bytes t)) at t (omega arith) (omega arith) in
      let all : keep (outside cut) (columns_at at t) ≡ columns_at at t =
      keep_all (outside cut) (columns_at at t)
      (all_both _ _ (λ p. outside cut p ≡ true) (λ p k z. out p k.0 (omega (arith, k.1))) (columns_at at t) here here) in
      record {
        places = ap (map (moved cut root)) all ∙ columns-moved (moved cut root) at o t moves;
        indexes = ap (map (index_in s)) all ∙ columns-read at t h;
      }

  -- The law.
  pub left-columns : {at : ℕ} {t e : Expr} → LeftOf cut at t e → (o : ℕ) → o + root ≡ at → Stands c s at t
      → LeftColumns cut s root at o t e
  left-columns {at} (first_goes {l = l} {r = r} parent leaf end) o is h =
      let other = all-left (right_of at l) o (second at (and-row l r h)) (λ p a b. behind-leaf cut (omega arith))
      (λ p a b. omega (arith, moved-behind cut {place = p} root (omega arith) (omega arith))) in
      let gone = split cut at l r ∙ ap (λ (x : List ℕ). x ++ keep (outside cut) (columns_at (right_of at l) r))
      (none-left cut (left_of at) l (λ p a b. in-leaf cut (omega arith) (omega arith))) in
      record { places = ap (map (moved cut root)) gone ∙ other.places; indexes = ap (map (index_in s)) gone ∙ other.indexes }
  left-columns {at} (second_goes {l = l} {r = r} parent leaf end) o is h =
      let other = all-left (left_of at) o (first-stands (and-row l r h)) (λ p a b. before-leaf cut (omega arith))
      (λ p a b. omega (arith, moved-between cut {place = p} root (omega arith) (omega arith))) in
      let gone = split cut at l r ∙ ap (λ (x : List ℕ). keep (outside cut) (columns_at (left_of at) l) ++ x)
      (none-left cut (right_of at l) r (λ p a b. in-leaf cut (omega arith) (omega arith)))
      ∙ append-nil (keep (outside cut) (columns_at (left_of at) l)) in
      record { places = ap (map (moved cut root)) gone ∙ other.places; indexes = ap (map (index_in s)) gone ∙ other.indexes }
  left-columns {at} (in_first {l = l} {r = r} {e = e} k) o is h =
      let k-spans = left-spans k in
      both-left cut s root at o l r e r (left-columns k (left_of o) (omega arith) (first-stands (and-row l r h)))
      (all-left (right_of at l) (right_of o e) (second at (and-row l r h))
      (λ p a b. behind-leaf cut (omega (arith, k-spans.end)))
      (λ p a b. omega (
        arith,
        k-spans.parent,
        k-spans.leaf,
        k-spans.some,
        k-spans.end,
        left-size k,
        moved-behind cut {place = p} root (omega (arith, k-spans.leaf, k-spans.some, k-spans.end))
            (omega (arith, k-spans.some, k-spans.end)),
      )))
  left-columns {at} (in_second {l = l} {r = r} {e = e} k) o is h =
      let k-spans = left-spans k in
      both-left cut s root at o l r l e
      (all-left (left_of at) (left_of o) (first-stands (and-row l r h))
      (λ p a b. before-leaf cut (omega (arith, k-spans.parent, k-spans.leaf)))
      (λ p a b. omega (arith, moved-before cut {place = p} root (omega (arith, k-spans.parent)))))
      (left-columns k (right_of o l) (omega arith) (second at (and-row l r h)))
