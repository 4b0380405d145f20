-- A whole frame: its length and first byte, its body, its end, and what is tested last.
use Prim.Native.Nat.{ℕ, ◌≤◌, ◌<◌}
use native.Mathlib.Omega.{arith}
use mathlib.Core.Path.{◌≡◌, refl, sym, ap, ◌∙◌}
use mathlib.Core.Bool.{Bool, true, false}
use mathlib.Core.List.{List, [], ◌∷◌}
use lib.ListN.{length, drop, length-drop, drop_of_length-le}
use lib.Dec.{eqb}
use borrow.Author.Tests.{eqb-true, eqb-false}
use Rattle.definitions.specs.Bytes.Readers.{Read, read, stopped, Reader, continue, ◌>>=◌, ◌>>◌, require, byte, require_length, none_left, at_end}
use Rattle.theorems.proofs.ReaderLaws.{after, halts, passes, fails, step}
use Rattle.std.specs.Prelude.{Result, Ok, Err}
use Rattle.std.proofs.Common.{◌⊎◌, inl, inr}
use Rattle.terms.specs.declared.refusals.Refusal.{Refusal}
use Rattle.node_reader.specs.Fields.{FieldIs}
use Rattle.frame_reader.specs.Frames.{first_of, opening}
use Rattle.node_reader.proofs.Reading.{within, outside}

-- ---- the length

module _ (s : List ℕ) {empty : Bool} (is : empty ≡ eqb (length s) 0) where
  some : empty ≡ false → 1 ≤ length s
  some e = omega (arith, eqb-false (length s) 0 (sym is ∙ e))

  pub length-refused : (empty ≡ true) ⊎ (empty ≡ false × 16384 < length s) → (n : ℕ) → first_of n s ≡ stopped 1
  unfolding first_of require_length
  length-refused (inl none) n = fails 1 byte n s (outside 1 (length s) 16384 (inl (omega (arith, eqb-true (length s) 0 (sym is ∙ none)))))
  length-refused (inr many) n = fails 1 byte n s (outside 1 (length s) 16384 (inr (some many.0, many.1)))

  pub length-passes : empty ≡ false → length s ≤ 16384 → (r : Result (ℕ × ℕ) Refusal) → FieldIs s 0 r byte → FieldIs s 0 r first_of
  unfolding first_of require_length
  length-passes l h (Ok first) field = (field.0, λ n. passes 1 byte n s (within 1 (length s) 16384 (some l) h) ∙ field.1 n)
  length-passes l h (Err why) field = λ n. passes 1 byte n s (within 1 (length s) 16384 (some l) h) ∙ field n

-- Three steps, grouped from the left or from the right.
pub regroup : {A B C : Type 0} (r : Read A) (f : A → Reader B) (g : B → Reader C)
    → continue (continue r f) g ≡ continue r (λ a. f a >>= g)
regroup (read a n s) f g = refl
regroup (stopped number) f g = refl

-- ---- the end

module _ (s : List ℕ) (next : ℕ) where
  pub none_after : next ≡ length s → none_left (drop next s) ≡ true
  unfolding none_left
  none_after h = ap none_left (drop_of_length-le s {i = next} (omega arith))

  more : (l : List ℕ) → 0 < length l → none_left l ≡ false
  unfolding none_left
  more [] h = absurd (omega arith)
  more (b ∷ l) h = refl

  pub some_after : next ≤ length s → (next ≡ length s → ⊥) → none_left (drop next s) ≡ false
  some_after low h = more (drop next s) (simp length-drop (omega arith))

-- ---- a frame of a sort: 1, 2, its body, 7, and then what is left to do

module _ {A B : Type 0} (sort : ℕ) (body : Reader A) (last : A → Reader B) where
  abbrev pub whole : Reader B
  whole = do
    require_length
    first ← byte
    require 2 (eqb first sort)
    a ← body
    at_end
    last a

  abbrev rest : Reader B
  rest = body >>= λ a. at_end >> last a

  sorted : (n : ℕ) (r : Read ℕ)
      → continue r (λ first. require 2 (eqb first sort) >> rest) ≡ continue (continue r (λ first. require 2 (eqb first sort))) (λ t. rest)
  sorted n (read first m t) = refl
  sorted n (stopped number) = refl

  grouped : (s : List ℕ) → whole 0 s ≡ continue (opening sort 0 s) (λ t. rest)
  unfolding first_of opening
  grouped s =
      sym (regroup (require_length 0 s) (λ b. byte) (λ first. require 2 (eqb first sort) >> rest))
      ∙ sorted 0 (continue (require_length 0 s) (λ b. byte))

  module _ (s : List ℕ) where
    pub unopened : {number : ℕ} → opening sort 0 s ≡ stopped number → whole 0 s ≡ stopped number
    unopened e = grouped s ∙ halts _ e

    module _ (at : ℕ) (t : Bool) (e : opening sort 0 s ≡ read t 0 (drop at s)) where
      pub body-stops : {number : ℕ} → body 0 (drop at s) ≡ stopped number → whole 0 s ≡ stopped number
      body-stops f = grouped s ∙ after _ e ∙ halts _ f

      -- A whole that was read has a body that was, and what was left to do was done.
      pub body-was : {G : Type 0} {b : B} {m : ℕ} {u : List ℕ} → whole 0 s ≡ read b m u
          → ((a : A) (n : ℕ) (v : List ℕ) → body 0 (drop at s) ≡ read a n v → (at_end >> last a) n v ≡ read b m u → G) → G
      body-was is go = step (body 0 (drop at s)) _ (sym (grouped s ∙ after _ e) ∙ is) go

      module _ (a : A) (next count : ℕ) (f : body 0 (drop at s) ≡ read a count (drop next s)) where
        pub ends : next ≡ length s → whole 0 s ≡ last a count (drop next s)
        unfolding at_end
        ends z = grouped s ∙ after _ e ∙ after _ f ∙ passes 7 _ count _ (none_after s next z)

        pub goes_on : next ≤ length s → (next ≡ length s → ⊥) → whole 0 s ≡ stopped 7
        unfolding at_end
        goes_on low z = grouped s ∙ after _ e ∙ after _ f ∙ fails 7 _ count _ (some_after s next low z)
