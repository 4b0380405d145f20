-- A piece up to its first line feed: how much that is, and what it does to a session.
use Prim.Native.Nat.{ℕ, suc, ◌≤◌, ◌<◌}
use native.Mathlib.Omega.{arith}
use mathlib.Core.Path.{◌≡◌, refl, sym, ap, ◌∙◌}
use mathlib.Core.Bool.{Bool, true, false}
use mathlib.Core.List.{List, [], ◌∷◌, ◌++◌, append_assoc, append-nil}
use lib.ListN.{length, take}
use lib.Dec.{eqb}
use borrow.Author.Tests.{eqb-true, eqb-false, ne_eqb}
use Rattle.lines.specs.Pieces.{InputSession, InputStep, end_line, join, character, piece, first_line, has_feed}
use Rattle.lines.specs.Collecting.{taken_characters}
use Rattle.lines.proofs.CollectLaws.{no-feed}

abbrev pub joined : InputSession → (characters : List ℕ) → InputSession
joined s characters = record { kept = s.kept; begun = s.begun ++ characters }

-- A line feed ends the line; else the session goes on.
abbrev pub stopped : (feed : Bool) → InputSession → InputStep
stopped true s = end_line s
stopped false s = record { out = []; after = s }

joined-none : (s : InputSession) → s ≡ joined s []
joined-none s = ap (λ (l : List ℕ). record { kept = s.kept; begun = l }) (sym (append-nil s.begun))

joined-more : (s : InputSession) (c : ℕ) (more : List ℕ) → joined (joined s (c ∷ [])) more ≡ joined s (c ∷ more)
joined-more s c more = ap (λ (l : List ℕ). record { kept = s.kept; begun = l }) (append_assoc s.begun (c ∷ []) more)

-- What holds of the characters up to a line feed, by the first of them.
pub record Upto (p : List ℕ) : Type 0 where
  pub within : taken_characters p ≤ length p
  pub some : 0 < length p → 0 < taken_characters p
  pub steps : (s : InputSession) → piece s (take (taken_characters p) p) ≡ stopped (has_feed p) (joined s (first_line p))

upto-none : Upto []
unfolding first_line has_feed piece
upto-none = record {
  within = omega arith;
  some = λ h. absurd (omega arith);
  steps = λ s. ap (stopped false) (joined-none s);
}

upto-feed : (p : List ℕ) → Upto (10 ∷ p)
unfolding first_line has_feed piece character end_line
upto-feed p = record {
  within = omega arith;
  some = λ h. omega arith;
  steps = λ s. ap (λ (l : List ℕ). record { out = l; after = (end_line s).after }) (append-nil (end_line s).out)
      ∙ ap end_line (joined-none s);
}

-- One character that is no line feed.
passes : (s : InputSession) (c : ℕ) (characters : List ℕ) → (c ≡ 10 → ⊥) → piece s (c ∷ characters) ≡ piece (joined s (c ∷ [])) characters
unfolding piece character join
passes s c characters h = simp (ne_eqb c 10 h)

upto-more : (c : ℕ) (p : List ℕ) → (c ≡ 10 → ⊥) → Upto p → Upto (c ∷ p)
upto-more c p h u =
    let same = no-feed c p h in
    let size : taken_characters (c ∷ p) ≡ suc (taken_characters p) = rw (same.0, same.1) (omega arith) in
    record {
      within = omega (arith, size, u.within);
      some = λ k. omega (arith, size);
      steps = λ s.
          ap (λ (k : ℕ). piece s (take k (c ∷ p))) size ∙ passes s c (take (taken_characters p) p) h ∙ u.steps (joined s (c ∷ []))
          ∙ rw (same.0, same.1) (ap (stopped (has_feed p)) (joined-more s c (first_line p)));
    }

upto-one : (c : ℕ) (p : List ℕ) (feed : Bool) → eqb c 10 ≡ feed → Upto p → Upto (c ∷ p)
upto-one c p true e u = rw (eqb-true c 10 e) (upto-feed p)
upto-one c p false e u = upto-more c p (eqb-false c 10 e) u

pub upto : (p : List ℕ) → Upto p
upto [] = upto-none
upto (c ∷ p) = upto-one c p (eqb c 10) refl (upto p)
