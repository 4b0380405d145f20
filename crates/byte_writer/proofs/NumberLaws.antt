-- A number written from its last place to its first, to any base.
use Prim.Native.Nat.{ℕ, zero, suc, ◌+◌, ◌-◌, ◌/◌, ◌%◌, ◌^◌, ◌≤◌, ◌<◌}
use native.Mathlib.Omega.{arith}
use native.Mathlib.Nat.{add-zero, div-div-eq-div-mul, div-one, pow-zero, pow-suc}
use mathlib.Core.Path.{◌≡◌, refl, sym, ap, ap₂, ◌∙◌}
use mathlib.Core.List.{List, ◌∷◌, ◌++◌}
use lib.ListN.{length, take, drop, get_or, set, length-set, take-append-drop}
use lib.Seq.{take-suc, append_snoc, set_at, length-take-le}
use Rattle.definitions.specs.Words.Basics.{big_endian}
use Rattle.theorems.proofs.Figures.{digit-small}
use Rattle.definitions.specs.Bytes.Printed.{figures}
use Rattle.byte_writer.specs.Numerals.{places}

places-length : (base : ℕ) (sign : ℕ → ℕ) (width v : ℕ) → length (places base sign width v) ≡ width
unfolding places
places-length base sign zero v = refl
places-length base sign (suc w) v = ap suc (places-length base sign w v)

-- Bytes are places to base 256, and decimal digits to base 10, where 0 is written as 48.
pub bytes-are : (width v : ℕ) → places 256 (λ d. d + 0) width v ≡ big_endian width v
unfolding places big_endian
bytes-are zero v = refl
bytes-are (suc w) v = ap₂ ◌∷◌ (add-zero (v / 256 ^ w % 256)) (bytes-are w v)

pub figures-are : (width v : ℕ) → places 10 (λ d. d + 48) width v ≡ figures width v
unfolding places figures
figures-are zero v = refl
figures-are (suc w) v = ap₂ ◌∷◌ (sym (digit-small (v / 10 ^ w % 10) (omega arith))) (figures-are w v)

pub number-length : (width v : ℕ) → length (big_endian width v) ≡ width
number-length width v = ap length (sym (bytes-are width v)) ∙ places-length 256 (λ d. d + 0) width v

-- One place more, before the last k.
place-more : (base : ℕ) (sign : ℕ → ℕ) (v : ℕ) (before out : List ℕ) (p k end : ℕ) → p < length before
    → out ≡ take (suc p) before ++ (places base sign k v ++ drop end before)
    → set out p (sign (v / base ^ k % base)) ≡ take p before ++ (places base sign (suc k) v ++ drop end before)
unfolding places
place-more base sign v before out p k end room e =
    let tail : List ℕ = places base sign k v ++ drop end before in
    ap (λ (l : List ℕ). set l p (sign (v / base ^ k % base)))
    (e ∙ ap (λ (l : List ℕ). l ++ tail) (take-suc before p 0 room) ∙ append_snoc (take p before) (get_or before p 0) tail)
    ∙ set_at (take p before) (get_or before p 0) tail (sign (v / base ^ k % base)) p (length-take-le p before (omega arith))

-- All but the first i places are written.
pub record Written (base : ℕ) (sign : ℕ → ℕ) (v : ℕ) (before : List ℕ) (w width : ℕ) (out : List ℕ) (i rest : ℕ) : Type 0 where
  pub below : i ≤ width
  pub long : length out ≡ length before
  pub left : rest ≡ v / base ^ (width - i)
  pub bytes : out ≡ take (w + i) before ++ (places base sign (width - i) v ++ drop (w + width) before)

module _ (base : ℕ) (sign : ℕ → ℕ) (v : ℕ) (before : List ℕ) (w width : ℕ) where
  pub none_written : Written base sign v before w width before width v
  unfolding places
  none_written =
      let none : 0 ≡ width - width = omega arith in
      record {
        below = omega arith;
        long = refl;
        left = sym (div-one v) ∙ ap (λ (n : ℕ). v / n) (sym (pow-zero base)) ∙ ap (λ (k : ℕ). v / base ^ k) none;
        bytes =
            sym (take-append-drop (w + width) before)
            ∙ ap (λ (k : ℕ). take (w + width) before ++ (places base sign k v ++ drop (w + width) before)) none;
      }

  pub one_written : w + width ≤ length before → (out : List ℕ) (i rest : ℕ) → 0 < i → Written base sign v before w width out i rest
      → Written base sign v before w width (set out (w + (i - 1)) (sign (rest % base))) (i - 1) (rest / base)
  one_written room out i rest some h =
      let k : ℕ = width - i in
      let more : suc k ≡ width - (i - 1) = omega (arith, h.below) in
      let place : w + i ≡ suc (w + (i - 1)) = omega arith in
      record {
        below = omega (arith, h.below);
        long = simp length-set h.long;
        left =
            ap (λ (n : ℕ). n / base) h.left ∙ div-div-eq-div-mul v (base ^ k) base ∙ ap (λ (n : ℕ). v / n) (sym (pow-suc base k))
            ∙ ap (λ (n : ℕ). v / base ^ n) more;
        bytes = ap (λ (n : ℕ). set out (w + (i - 1)) (sign (n % base))) h.left
            ∙ place-more base sign v before out (w + (i - 1)) k (w + width) (omega (arith, h.below))
            (h.bytes ∙ ap (λ (n : ℕ). take n before ++ (places base sign k v ++ drop (w + width) before)) place)
            ∙ ap (λ (n : ℕ). take (w + (i - 1)) before ++ (places base sign n v ++ drop (w + width) before)) more;
      }
