-- A whole input: what is written for it as one piece, and at its end, is what the definition says; and a piece may be cut.
use Prim.Native.Nat.{ℕ}
use mathlib.Core.Path.{◌≡◌, refl, sym, ap, ◌∙◌, subst}
use mathlib.Core.Bool.{Bool, true, false}
use mathlib.Core.List.{List, [], ◌∷◌, ◌++◌, append_assoc, append-nil}
use lib.Dec.{eqb}
use borrow.Author.Tests.{eqb-true, eqb-false, ne_eqb}
use Rattle.definitions.specs.Lists.Program.{Kept, into_first, lines_of, output_from, output}
use Rattle.lines.specs.Pieces.{InputSession, InputStep, end_line, join, character, piece, input_end, fresh_session}

-- ---- lines

-- A line that has begun has no line feed.
data NoFeed : List ℕ → Type 0 where
  none : NoFeed []
  one : {c : ℕ} {line : List ℕ} → (c ≡ 10 → ⊥) → NoFeed line → NoFeed (c ∷ line)

one_more : {line : List ℕ} {c : ℕ} → NoFeed line → (c ≡ 10 → ⊥) → NoFeed (line ++ (c ∷ []))
one_more none h = one h none
one_more (one k n) h = one k (one_more n h)

into-first : (c : ℕ) (s : List ℕ) → (c ≡ 10 → ⊥) → lines_of (c ∷ s) ≡ into_first c (lines_of s)
unfolding lines_of
into-first c s h = simp (ne_eqb c 10 h)

-- A line feed ends it.
line-ended : {line : List ℕ} (others : List ℕ) → NoFeed line → lines_of (line ++ 10 ∷ others) ≡ line ∷ lines_of others
unfolding lines_of into_first
line-ended others none = refl
line-ended others (one {c = c} {line = line} h n) = into-first c (line ++ 10 ∷ others) h ∙ ap (into_first c) (line-ended others n)

-- Without one it is the last line.
last_line : {c : ℕ} {line : List ℕ} → NoFeed (c ∷ line) → lines_of (c ∷ line) ≡ (c ∷ line) ∷ []
unfolding lines_of into_first
last_line (one {c = c} h none) = into-first c [] h
last_line (one {c = c} h (one {c = d} {line = line} k n)) = into-first c (d ∷ line) h ∙ ap (into_first c) (last_line (one k n))

-- ---- one piece

-- What is still to be written when the input goes on with these characters, and what a piece of them makes of it.
abbrev left : InputSession → List ℕ → List ℕ
left s input = output_from s.kept (lines_of (s.begun ++ input))

abbrev at_end : InputSession → List ℕ
at_end s = input_end s.kept s.begun

Whole : List ℕ → Type 0
Whole input = (s : InputSession) → NoFeed s.begun → left s input ≡ (piece s input).out ++ at_end (piece s input).after

line-at-end : (kept : Kept) {begun : List ℕ} → NoFeed begun → output_from kept (lines_of begun) ≡ input_end kept begun
unfolding input_end output_from end_line lines_of
line-at-end kept none = refl
line-at-end kept (one {c = c} {line = line} h n) = ap (output_from kept) (last_line (one h n)) ∙ append-nil _

whole-none : Whole []
unfolding Whole piece
whole-none s n = ap (λ (l : List ℕ). output_from s.kept (lines_of l)) (append-nil s.begun) ∙ line-at-end s.kept n

whole-feed : (input : List ℕ) → Whole input → Whole (10 ∷ input)
unfolding Whole piece character end_line output_from
whole-feed input ih s n =
    ap (output_from s.kept) (line-ended input n)
    ∙ ap (λ (l : List ℕ). (end_line s).out ++ l) (ih (end_line s).after none)
    ∙ sym (append_assoc (end_line s).out _ _)

joins : (s : InputSession) (c : ℕ) → (c ≡ 10 → ⊥) → join s (c ∷ []) ≡ character s c
unfolding character
joins s c h = simp (ne_eqb c 10 h)

whole-more : (c : ℕ) (input : List ℕ) → (c ≡ 10 → ⊥) → Whole input → Whole (c ∷ input)
unfolding Whole piece join
whole-more c input h ih s n =
    subst (λ (one : InputStep). left s (c ∷ input) ≡ (one.out ++ (piece one.after input).out) ++ at_end (piece one.after input).after)
    (joins s c h)
    (ap (λ (l : List ℕ). output_from s.kept (lines_of l)) (sym (append_assoc s.begun (c ∷ []) input))
    ∙ ih (join s (c ∷ [])).after (one_more n h))

whole-one : (c : ℕ) (input : List ℕ) (b : Bool) → eqb c 10 ≡ b → Whole input → Whole (c ∷ input)
whole-one c input true e ih = rw (eqb-true c 10 e) (whole-feed input ih)
whole-one c input false e ih = whole-more c input (eqb-false c 10 e) ih

whole : (input : List ℕ) → Whole input
whole [] = whole-none
whole (c ∷ input) = whole-one c input (eqb c 10) refl (whole input)

-- ---- a piece that is cut

pub piece-append : (s : InputSession) (p q : List ℕ)
    → ((piece s (p ++ q)).out ≡ (piece s p).out ++ (piece (piece s p).after q).out) ×
    ((piece s (p ++ q)).after ≡ (piece (piece s p).after q).after)
unfolding piece
piece-append s [] q = (refl, refl)
piece-append s (c ∷ p) q =
    let one = piece-append (character s c).after p q in (
      ap (λ (l : List ℕ). (character s c).out ++ l) one.0 ∙ sym (append_assoc (character s c).out _ _),
      one.1,
    )

-- ---- the program

pub whole-input : (input : List ℕ)
    → (let last = piece fresh_session input in last.out ++ input_end last.after.kept last.after.begun ≡ output input)
unfolding fresh_session output Whole
whole-input input = sym (whole input fresh_session none)
