-- Numbers in decimal, alone and between two characters.
use Prim.Native.Nat.{ℕ, ◌+◌, ◌/◌, ◌%◌, ◌≤◌, ◌<◌}
use native.Mathlib.Omega.{arith}
use mathlib.Core.Path.{◌≡◌, refl, sym, ap, ap₂, ◌∙◌, subst}
use mathlib.Core.List.{List, [], ◌∷◌, ◌++◌}
use lib.ListN.{length, set, take, drop}
use borrow.Author.Tests.{lt-ltb, le-ltb}
use Rattle.definitions.specs.Words.Basics.{digit}
use Rattle.definitions.specs.Bytes.Printed.{figures, decimal_width, decimal}
use Rattle.theorems.proofs.Figures.{decimal-length}
use Rattle.byte_writer.specs.Written.{WroteAt}
use Rattle.byte_writer.proofs.Written.{store, two-stores}
use Rattle.printing.specs.Marks.{TextFits, marked_number}
use Rattle.printing.proofs.Sequences.{second_fits, both-written, mark-written, after-fits, after-written}

pub figures-fit : (n width : ℕ) {w : ℕ} {out : List ℕ} → width ≡ decimal_width n → TextFits w (decimal n) out → w + width ≤ length out
figures-fit n width e fits = omega (arith, fits.room, decimal-length n)

pub figures-put : (n w width : ℕ) {before after : List ℕ} {r : ℕ} → width ≡ decimal_width n → WroteAt w (figures width n) before after r
    → WroteAt w (decimal n) before after r
unfolding decimal
figures-put n w width {before} {after} {r} e put = rw e at put

-- One digit, and two.
digit-is : (d : ℕ) → d < 10 → digit d ≡ d + 48
unfolding digit
digit-is d h = rw (lt-ltb d 10 h) refl

one-digit : (n : ℕ) → n < 10 → decimal n ≡ (n + 48) ∷ []
unfolding decimal figures decimal_width
one-digit n h =
    let width : decimal_width n ≡ 1 = rw (lt-ltb n 10 h) refl in
    ap (λ (w : ℕ). figures w n) width ∙ ap (λ (d : ℕ). digit d ∷ []) (omega (arith, h)) ∙ ap (λ (d : ℕ). d ∷ []) (digit-is n h)

two-digits : (n : ℕ) → 10 ≤ n → n < 100 → decimal n ≡ (n / 10 + 48) ∷ (n % 10 + 48) ∷ []
unfolding decimal figures decimal_width
two-digits n h k =
    let width : decimal_width n ≡ 2 = rw (le-ltb n 10 h, lt-ltb n 100 k) refl in
    ap (λ (w : ℕ). figures w n) width
    ∙ ap₂ (λ (d e : ℕ). digit d ∷ digit e ∷ []) (omega (arith, k)) (omega (arith, k))
    ∙ ap₂ (λ (d e : ℕ). d ∷ e ∷ []) (digit-is (n / 10) (omega (arith, k))) (digit-is (n % 10) (omega arith))

module _ (n : ℕ) {w : ℕ} {before : List ℕ} (fits : TextFits w (decimal n) before) where
  module _ (small : n < 10) where
    pub one-fits : w < length before
    one-fits = omega (arith, fits.room, ap length (one-digit n small))

    pub one-put : WroteAt w (decimal n) before (set before w (n + 48)) (w + 1)
    one-put = subst (λ (x : List ℕ). WroteAt w x before (set before w (n + 48)) (w + 1)) (sym (one-digit n small))
        (store before w (n + 48) one-fits)

  module _ (low : 10 ≤ n) (high : n < 100) where
    pub two-fit : w + 2 ≤ length before
    two-fit = omega (arith, fits.room, ap length (two-digits n low high))

    pub two-put : {after : List ℕ} → after ≡ set (set before w (n / 10 + 48)) (w + 1) (n % 10 + 48)
        → WroteAt w (decimal n) before after (w + 2)
    two-put {after} e =
        let both = two-stores before w (n / 10 + 48) (n % 10 + 48) two-fit in
        record {
          ends = omega (arith, both.ends, ap length (two-digits n low high));
          out = e ∙ both.out ∙ ap (λ (x : List ℕ). take w before ++ (x ++ drop (w + length x) before)) (sym (two-digits n low high));
        }

module _ (first n last : ℕ) {w : ℕ} {before : List ℕ} (fits : TextFits w (marked_number first n last) before) where
  rest-fits : TextFits (w + 1) (decimal n ++ (last ∷ [])) (set before w first)
  rest-fits = after-fits first (decimal n ++ (last ∷ [])) fits

  module _ {v : ℕ} {middle : List ℕ} (put : WroteAt (w + 1) (decimal n) (set before w first) middle v)
      (kept : length middle ≡ length (set before w first)) where
    last_fits : TextFits v (last ∷ []) middle
    last_fits = second_fits (decimal n) (last ∷ []) rest-fits put kept

    pub marked-put : WroteAt w (marked_number first n last) before (set middle v last) (v + 1)
    marked-put =
        after-written first (decimal n ++ (last ∷ [])) fits
        (both-written (decimal n) (last ∷ []) rest-fits put (mark-written last last_fits))
