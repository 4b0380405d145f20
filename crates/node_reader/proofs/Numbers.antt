-- Numbers of any width: the loop's turn, its end and its refusal.
use Prim.Native.Nat.{ℕ, zero, suc, ◌+◌, ◌*◌, ◌-◌, ◌^◌, ◌≤◌, ◌<◌}
use native.Mathlib.Nat.{pow-le-pow_right, add_assoc, add-zero, sub-zero, pow-suc}
use native.Mathlib.Numerals.{add-one}
use native.Mathlib.Omega.{arith}
use mathlib.Core.Path.{◌≡◌, refl, ap, ◌∙◌}
use mathlib.Core.List.{List, [], ◌∷◌}
use lib.ListN.{length, take, drop, get_or, length-drop}
use Rattle.std.proofs.lemmas.List.{get_or-take, get_or-drop}
use lib.Dec.{lit<}
use Rattle.definitions.specs.Bytes.Readers.{read, stopped, number_after, number}
use Rattle.theorems.proofs.ReaderLaws.{after}
use Rattle.node_reader.proofs.Reading.{there}

too_short : (high width n : ℕ) (l : List ℕ) → length l < width → number_after high width n l ≡ stopped 3
unfolding number_after
too_short high zero n l h = absurd (omega arith)
too_short high (suc w) n [] h = refl
too_short high (suc w) n (b ∷ l) h = too_short (high * 256 + b) w n l (omega arith)

pub number-ends : (s : List ℕ) (at width n : ℕ) → length s - at < width → number width n (drop at s) ≡ stopped 3
unfolding number
number-ends s at width n h = too_short 0 width n (drop at s) (simp length-drop h)

-- What the loop keeps: the digits so far, and what is left to read at the place reached.
pub record Digits (s : List ℕ) (at width value i : ℕ) : Type 0 where
  pub within : i ≤ width
  pub small : value < 256 ^ i
  pub left : (n : ℕ) → number width n (drop at s) ≡ number_after value (width - i) n (drop (at + i) s)

pub digits-none : (s : List ℕ) (at width : ℕ) → Digits s at width 0 0
unfolding number
digits-none s at width = record { within = omega arith; small = lit< tt; left = λ n. rw (sub-zero, add-zero) }

-- One digit more.
pub digit : (s : List ℕ) (at value fewer more b n : ℕ) → at < length s → more ≡ suc fewer → b ≡ get_or s at 0
    → number_after value more n (drop at s) ≡ number_after (value * 256 + b) fewer n (drop (at + 1) s)
unfolding number_after
digit s at value fewer more b n h m e = rw m (after _ (there s at b n h e))

pub digits_more : (s : List ℕ) (at width value i b : ℕ) → Digits s at width value i → at + width ≤ length s → i < width
    → b ≡ get_or s (at + i) 0 → b < 256 → Digits s at width (value * 256 + b) (i + 1)
digits_more s at width value i b d fits h e small = record {
  within = omega arith;
  small = rw (add-one, pow-suc 256 i) (omega (arith, d.small));
  left =
      λ n. d.left n ∙ digit s (at + i) value (width - (i + 1)) (width - i) b n (omega arith) (omega arith) e
      ∙ ap (λ (k : ℕ). number_after (value * 256 + b) (width - (i + 1)) n (drop k s)) (add_assoc at i 1);
}

pub digits-fit : (value i : ℕ) → value < 256 ^ i → i < 8 → value * 256 + 256 ≤ 2 ^ 64
digits-fit value i h l = omega (arith, pow-le-pow_right {n = 256} (lit< tt) {i = i} {j = 7} (omega arith))

pub digits-all : (s : List ℕ) (at width value i : ℕ) → Digits s at width value i → width ≤ i → (n : ℕ)
    → number width n (drop at s) ≡ read value n (drop (at + width) s)
unfolding number_after
digits-all s at width value i d h n =
    let e : i ≡ width = omega (arith, d.within) in
    let z : width - i ≡ 0 = omega arith in
    d.left n ∙ rw (z, e)

-- A byte of a part is one of the whole.
pub of-part : (s : List ℕ) (at width i : ℕ) → i < width → get_or (take (at + width - at) (drop at s)) i 0 ≡ get_or s (at + i) 0
of-part s at width i h = get_or-take (at + width - at) (drop at s) i 0 (omega arith) ∙ get_or-drop at s i 0
