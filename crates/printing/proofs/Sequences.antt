-- Two texts one after the other: room for both, and both written.
use Prim.Native.Nat.{ℕ, ◌+◌, ◌<◌}
use native.Mathlib.Omega.{arith}
use mathlib.Core.Path.{◌≡◌, ap}
use mathlib.Core.List.{List, [], ◌∷◌, ◌++◌}
use lib.ListN.{length, set, length-set, length-append}
use Rattle.definitions.specs.Words.Expression.{Expr}
use Rattle.byte_writer.specs.Written.{WroteAt}
use Rattle.byte_writer.specs.Writing.{Room, PutsAt}
use Rattle.byte_writer.proofs.Written.{store, chain}
pub use Rattle.byte_writer.proofs.Written.{nothing-wrote as nothing_written}
use Rattle.printing.specs.Marks.{TextFits, PhysicalAt}

module _ (x y : List ℕ) {w : ℕ} {before : List ℕ} (fits : TextFits w (x ++ y) before) where
  module _ {v : ℕ} {middle : List ℕ} (first : WroteAt w x before middle v) where
    pub second_fits : length middle ≡ length before → TextFits v y middle
    second_fits kept = record { room = omega (arith, fits.room, length-append x y, first.ends) }

    pub both-written : {r : ℕ} {after : List ℕ} → WroteAt v y middle after r → WroteAt w (x ++ y) before after r
    both-written second = chain (omega (arith, fits.room)) first second

-- One character; and a text after it.
module _ (b : ℕ) {w : ℕ} {before : List ℕ} where
  pub mark-fits : TextFits w (b ∷ []) before → w < length before
  mark-fits fits = omega (arith, fits.room)

  pub mark-written : TextFits w (b ∷ []) before → WroteAt w (b ∷ []) before (set before w b) (w + 1)
  mark-written fits = store before w b (mark-fits fits)

  module _ (y : List ℕ) (fits : TextFits w (b ∷ y) before) where
    pub begins-within : w < length before
    begins-within = omega (arith, fits.room)

    begun : WroteAt w (b ∷ []) before (set before w b) (w + 1)
    begun = store before w b begins-within

    pub after-fits : TextFits (w + 1) y (set before w b)
    after-fits = second_fits (b ∷ []) y fits begun (length-set before w b)

    pub after-written : {r : ℕ} {after : List ℕ} → WroteAt (w + 1) y (set before w b) after r → WroteAt w (b ∷ y) before after r
    after-written rest = both-written (b ∷ []) y fits begun rest

-- ---- the text of what stands at a place, once it is known

module _ {s : List ℕ} {at : ℕ} {text_of : Expr → List ℕ} {x : List ℕ} (known : (t : Expr) → PhysicalAt s at t → text_of t ≡ x) where
  pub known-fits : {w : ℕ} {out : List ℕ} → Room (PhysicalAt s at) text_of w out → TextFits w x out
  known-fits p = record { room = omega (arith, p.room, ap length (known p.it p.stands)) }

  pub known-puts : {w r : ℕ} {before after : List ℕ} → WroteAt w x before after r → PutsAt (PhysicalAt s at) text_of w before after r
  known-puts put = record { wrote = λ t h. rw (known t h) put }
