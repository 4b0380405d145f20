-- Bytes between two places, and `copy_at`: what its call requires, and what it wrote.
use Prim.Native.Nat.{ℕ, ◌+◌, ◌-◌, ◌≤◌}
use native.Mathlib.Omega.{arith}
use mathlib.Core.Path.{◌≡◌}
use mathlib.Core.List.{List, ◌++◌}
use lib.ListN.{length, take, drop}
use Rattle.expression.specs.Places.{Holds, Between}
use Rattle.byte_writer.proofs.Written.{behind, together, behind-length, part-wrote, copied-wrote}
use Rattle.byte_writer.specs.Writing.{Room, PutsAt, same}

pub there : {s x : List ℕ} {at end : ℕ} → Between s at end x → Holds s at x
there {s} {x} {at} {end} h = record { rest = drop end s; bytes = h.bytes; within = omega (arith, h.ends, h.within) }

module _ {s : List ℕ} {at end w : ℕ} where
  pub span_fits : {out : List ℕ} → Room (Between s at end) same w out → (at + (end - at) ≤ length s) × (end - at ≤ length (behind w out))
  span_fits {out} room =
      let h = room.stands in
      (omega (arith, h.ends, h.within), omega (arith, h.ends, room.room, behind-length w out))

  pub span-put : (out part : List ℕ) → part ≡ take (end - at) (drop at s) ++ drop (end - at) (behind w out)
      → PutsAt (Between s at end) same w out (together w out part) (w + (end - at))
  span-put out part e = record {
    wrote = λ x h.
        let n : ℕ = end - at in
        let size : n ≡ length x = omega (arith, h.ends) in
        part-wrote x out part w (copied-wrote (behind w out) n (there h) size e) n size;
  }
