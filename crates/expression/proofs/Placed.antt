-- Laws of bytes at a place.
use Prim.Native.Nat.{ℕ, ◌+◌, ◌-◌, ◌≤◌, ◌<◌}
use native.Mathlib.Omega.{arith}
use mathlib.Core.Path.{◌≡◌, sym, ap, ◌∙◌}
use mathlib.Core.List.{List, [], ◌∷◌, ◌++◌, append_assoc}
use lib.ListN.{length, drop, get_or, length-append, length-drop, get_or-append}
use lib.Seq.{drop-drop, drop-append_seam, get_or-drop}
use native.Mathlib.Nat.{add-zero}
use Rattle.expression.specs.Places.{Holds}

-- They end within s.
pub fits : {s x : List ℕ} {at : ℕ} → Holds s at x → at + length x ≤ length s
fits {s} {x} {at} h =
    let sizes : length s - at ≡ length x + length h.rest = rw (← length-drop, ← length-append) (ap length h.bytes) in
    omega (arith, h.within)

-- The byte that stands i places on.
pub byte_at : {s x : List ℕ} {at : ℕ} → Holds s at x → (i : ℕ) → i < length x → get_or s (at + i) 0 ≡ get_or x i 0
byte_at {s} {x} {at} h i b = sym (get_or-drop at s i 0) ∙ ap (λ (l : List ℕ). get_or l i 0) h.bytes ∙ get_or-append x h.rest 0 i b

pub first : {s x : List ℕ} {at b : ℕ} → Holds s at (b ∷ x) → get_or s at 0 ≡ b
first {s} {x} {at} {b} h = rw add-zero at (byte_at h 0 (omega arith))

-- Of two parts in a row, the first stands there, and the second where the first ends.
pub front : (x y : List ℕ) {s : List ℕ} {at : ℕ} → Holds s at (x ++ y) → Holds s at x
front x y {s} {at} h = record { rest = y ++ h.rest; bytes = h.bytes ∙ append_assoc x y h.rest; within = h.within }

pub back : (x y : List ℕ) {s : List ℕ} {at : ℕ} → Holds s at (x ++ y) → (p : ℕ) → p ≡ at + length x → Holds s p y
back x y {s} {at} h p e = record {
  rest = h.rest;
  bytes = ap (λ (k : ℕ). drop k s) e ∙ sym (drop-drop (length x) at s) ∙ ap (drop (length x)) (h.bytes ∙ append_assoc x y h.rest)
      ∙ drop-append_seam x (y ++ h.rest);
  within = omega (arith, e, fits (front x y h));
}

-- One byte on.
pub next : {s x : List ℕ} {at b : ℕ} → Holds s at (b ∷ x) → (p : ℕ) → p ≡ at + 1 → Holds s p x
next {s} {x} {at} {b} h p e = back (b ∷ []) x h p e
