-- Whether the bytes of a queue, and of both, are good: length by length, part by part.
use Prim.Native.Nat.{ℕ, zero, suc, ◌+◌, ◌-◌, ◌*◌, ◌≤◌, ◌<◌}
use native.Mathlib.Omega.{arith}
use native.Mathlib.Nat.{sub-zero, mul-add, mul-one}
use mathlib.Core.Path.{◌≡◌, refl, ap, ap₂, ◌∙◌}
use mathlib.Core.Logic.{◌⊎◌, inl, inr}
use mathlib.Core.Bool.{Bool, true, false, and-false}
use mathlib.Core.List.{List, [], ◌∷◌}
use lib.ListN.{length, take, drop, get_or}
use lib.Seq.{drop-drop, get_or-drop, get_or-take}
use Rattle.std.specs.Simd.{first_chunks}
use lib.Dec.{leb}
use borrow.Author.Tests.{le-leb, lt-leb, ne_eqb, eq-eqb}
use Rattle.definitions.specs.Words.Basics.{ok, refused}
use Rattle.definitions.specs.Calls.Queues.{chassis, fixed_unit, Mark}
use Rattle.definitions.specs.Calls.QueueBytes.{part_of, lengths_of, places_of, short, is_length, mark_of, frames_of, queue_of, state_of}
use Rattle.theorems.proofs.QueueFrames.{range-in}
use Rattle.expression.specs.Places.{short_at}
use Rattle.queues.specs.Held.{GoodIs}
use Rattle.queues.proofs.Shifting.{length-there}

-- ---- one queue

-- Where the lengths are cut into two bytes each, those at an index are the length.
in_twos : (n : ℕ) (xs : List ℕ) (i k : ℕ) → i < n → k < 2 → get_or (get_or (first_chunks 2 n xs) i []) k 0 ≡ get_or xs (2 * i + k) 0
in_twos zero xs i k h two = absurd (omega arith)
in_twos (suc n) xs zero k h two = get_or-take 2 xs k 0 two ∙ ap (λ (j : ℕ). get_or xs j 0) (let e : k ≡ 2 * 0 + k = omega arith in e)
in_twos (suc n) xs (suc i) k h two =
    in_twos n (drop 2 xs) i k (omega arith) two ∙ get_or-drop 2 xs (2 * i + k) 0
    ∙ ap (λ (j : ℕ). get_or xs j 0) (let e : 2 + (2 * i + k) ≡ 2 * suc i + k = omega arith in e)

pub length-cut : (part : List ℕ) (n count i : ℕ) → i < count → count ≤ n → n ≤ 16
    → short_at (get_or (take count (first_chunks 2 n (lengths_of part))) i []) 0 ≡ short_at part (1 + 2 * i)
length-cut part n count i more few all =
    ap (λ (l : List ℕ). short_at l 0) (get_or-take count (first_chunks 2 n (lengths_of part)) i [] more)
    ∙ ap₂ (λ (a b : ℕ). a * 256 + b) (byte 0 (1 + 2 * i) (omega arith) (omega arith)) (byte 1 (1 + 2 * i + 1) (omega arith) (omega arith))
  where
    byte : (k at : ℕ) → k < 2 → 1 + (2 * i + k) ≡ at → get_or (get_or (first_chunks 2 n (lengths_of part)) i []) k 0 ≡ get_or part at 0
    byte k at two e =
        in_twos n (lengths_of part) i k (omega arith) two ∙ get_or-take 32 (drop 1 part) (2 * i + k) 0 (omega arith)
        ∙ get_or-drop 1 part (2 * i + k) 0 ∙ ap (λ (j : ℕ). get_or part j 0) e

-- What is left to read after i lengths decides.
pub record Read (part : List ℕ) (i : ℕ) : Type 0 where
  pub below : i ≤ get_or part 0 0
  pub decides : (good : Bool) → GoodIs good
      (frames_of (get_or part 0 0 - i) (drop (2 * i) (lengths_of part)) (drop (1024 * i) (places_of part)))
      → GoodIs good (queue_of part)

pub count-bad : (part : List ℕ) → 16 < get_or part 0 0 → GoodIs false (queue_of part)
unfolding queue_of
count-bad part h = rw (lt-leb (get_or part 0 0) 16 h) refl

frames-next : (n : ℕ) (L P : List ℕ) (good : Bool) → is_length (short L) ≡ true → GoodIs good (frames_of n (drop 2 L) (drop 1024 P))
    → GoodIs good (frames_of (suc n) L P)
unfolding frames_of
frames-next n L P true range h = (take (short L) P ∷ h.0, rw (range, h.1))
frames-next n L P false range h = rw (range, h)

out_of-range : (n : ℕ) → (n < 1) ⊎ ((1 ≤ n) × (1024 < n)) → is_length n ≡ false
out_of-range n (inl short) = rw (lt-leb 1 n short)
out_of-range n (inr long) = rw (lt-leb n 1024 long.1) (and-false (leb 1 n))

module _ (part : List ℕ) (few : get_or part 0 0 ≤ 16) where
  pub none_read : Read part 0
  unfolding queue_of
  none_read = record {
    below = omega arith;
    decides = λ good h. rw (le-leb (get_or part 0 0) 16 few) (rw (sub-zero (get_or part 0 0)) at h);
  }

  module _ (i : ℕ) (more : i < get_or part 0 0) (r : Read part i) where
    left : get_or part 0 0 - i ≡ suc (get_or part 0 0 - (i + 1))
    left = omega arith

    -- A length out of range.
    pub length-bad : (n : ℕ) → n ≡ short_at part (1 + 2 * i) → (n < 1) ⊎ ((1 ≤ n) × (1024 < n)) → GoodIs false (queue_of part)
    unfolding frames_of
    length-bad n e bad = r.decides false (rw (left, length-there part i (omega arith), ← e, out_of-range n bad) refl)

    -- A length in range leaves the decision to those behind it.
    pub one-read : (n : ℕ) → n ≡ short_at part (1 + 2 * i) → 1 ≤ n → n ≤ 1024 → Read part (i + 1)
    one-read n e low high = record {
      below = omega arith;
      decides = λ good h.
          r.decides good
          (rw left
          (frames-next (get_or part 0 0 - (i + 1)) (drop (2 * i) (lengths_of part)) (drop (1024 * i) (places_of part)) good
          (rw (length-there part i (omega arith), ← e) (range-in n low high))
          (rw (drop-drop 2 (2 * i) (lengths_of part), drop-drop 1024 (1024 * i) (places_of part), ← after 2, ← after 1024) h)));
    } where
      after : (w : ℕ) → w * (i + 1) ≡ w * i + w
      after w = mul-add w i 1 ∙ ap (λ (n : ℕ). w * i + n) (mul-one w)

  pub all_read : (i : ℕ) → get_or part 0 0 ≤ i → Read part i → GoodIs true (queue_of part)
  unfolding frames_of
  all_read i done r =
      let none : get_or part 0 0 - i ≡ 0 = omega arith in
      r.decides true ([], rw none refl)

-- ---- both

module _ (b : List ℕ) where
  pub length-other : (length b ≡ 32835 → ⊥) → GoodIs false (state_of b)
  unfolding state_of
  length-other h = rw (ne_eqb (length b) 32835 h) refl

  mark-good : (n : ℕ) → n ≤ 2 → (m : Mark) × (mark_of n ≡ ok m)
  unfolding mark_of
  mark-good zero h = (_, refl)
  mark-good (suc zero) h = (_, refl)
  mark-good (suc (suc zero)) h = (_, refl)
  mark-good (suc (suc (suc n))) h = absurd (omega arith)

  mark-over : (n : ℕ) → 2 < n → mark_of n ≡ refused 10
  unfolding mark_of
  mark-over zero h = absurd (omega arith)
  mark-over (suc zero) h = absurd (omega arith)
  mark-over (suc (suc zero)) h = absurd (omega arith)
  mark-over (suc (suc (suc n))) h = refl

  module _ (long : length b ≡ 32835) where
    pub mark-bad : 2 < get_or b 0 0 → GoodIs false (state_of b)
    unfolding state_of
    mark-bad h = rw (eq-eqb (length b) 32835 long, mark-over (get_or b 0 0) h) refl

    module _ (low : get_or b 0 0 ≤ 2) where
      pub first-bad : GoodIs false (queue_of (part_of chassis b)) → GoodIs false (state_of b)
      unfolding state_of
      first-bad h = rw (eq-eqb (length b) 32835 long, (mark-good (get_or b 0 0) low).1, h) refl

      pub second-decides : (good : Bool) → GoodIs true (queue_of (part_of chassis b)) → GoodIs good (queue_of (part_of fixed_unit b))
          → GoodIs good (state_of b)
      unfolding state_of
      second-decides true h k = (
        record { mark = (mark-good (get_or b 0 0) low).0; of_chassis = h.0; of_fixed_unit = k.0 },
        rw
            (eq-eqb (length b) 32835 long, (mark-good (get_or b 0 0) low).1, h.1, k.1),
      )
      second-decides false h k = rw (eq-eqb (length b) 32835 long, (mark-good (get_or b 0 0) low).1, h.1, k) refl
