-- The same thing several times, by a loop: whatever is right for what is left is right for the whole.
use Prim.Native.Nat.{ℕ, suc, ◌+◌, ◌-◌, ◌≤◌, ◌<◌}
use native.Mathlib.Omega.{arith}
use mathlib.Core.Path.{◌≡◌, refl, ◌∙◌}
use mathlib.Core.List.{List, [], ◌∷◌}
use lib.ListN.{length, drop}
use Rattle.std.specs.Prelude.{Result, Ok, Err}
use Rattle.definitions.specs.Bytes.Readers.{read, stopped, Reader, repeat}
use Rattle.terms.specs.declared.refusals.Refusal.{Refusal}
use Rattle.terms.specs.Refusals.{number_of}
use Rattle.node_reader.specs.Fields.{SkippedIs}
use Rattle.theorems.proofs.ReaderLaws.{after, halts}

-- After `done` times.
abbrev pub Left : {A : Type 0} → List ℕ → (at times : ℕ) → Reader A → (next done : ℕ) → Type 0
Left s at times one next done =
    (r : Result ℕ Refusal) → SkippedIs s next r (repeat (times - done) one) → SkippedIs s at r (repeat times one)

module _ {A : Type 0} (s : List ℕ) (at times : ℕ) (one : Reader A) where
  -- One more in front of those that are right.
  in-front : (k next place : ℕ) (a : A) → ((n : ℕ) → one n (drop next s) ≡ read a n (drop place s))
      → (r : Result ℕ Refusal) → SkippedIs s place r (repeat k one) → SkippedIs s next r (repeat (suc k) one)
  unfolding repeat
  in-front k next place a e (Ok end) h = (h.0, (a ∷ h.1), λ n. after _ (e n) ∙ after _ (h.2 n))
  in-front k next place a e (Err why) h = λ n. after _ (e n) ∙ halts _ (h n)

  module _ (next done : ℕ) (inv : Left s at times one next done) where
    more : (k : ℕ) → times - done ≡ suc k → (r : Result ℕ Refusal) → SkippedIs s next r (repeat (suc k) one)
        → SkippedIs s at r (repeat times one)
    more k e r h = inv r (rw e h)

    pub one_fewer : done < times → (place : ℕ) (a : A) → ((n : ℕ) → one n (drop next s) ≡ read a n (drop place s))
        → Left s at times one place (done + 1)
    one_fewer h place a e r p = more (times - (done + 1)) (omega arith) r (in-front (times - (done + 1)) next place a e r p)

    pub one-stops : done < times → (why : Refusal) → ((n : ℕ) → one n (drop next s) ≡ stopped (number_of why))
        → SkippedIs s at (Err why) (repeat times one)
    unfolding repeat
    one-stops h why e = more (times - (done + 1)) (omega arith) (Err why) (λ n. halts _ (e n))

    pub none-left : times ≤ done → next ≤ length s → SkippedIs s at (Ok next) (repeat times one)
    unfolding repeat
    none-left h w =
        let e : times - done ≡ 0 = omega arith in
        inv (Ok next) (rw e (w, [], λ n. refl))
