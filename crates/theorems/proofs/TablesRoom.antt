-- A good frame has at most 1,024 nodes, and so has a merged one within the limits: a table of 1,024 records is never too short.
use Prim.Native.Nat.{ℕ}
use native.Mathlib.Omega.{arith}
use mathlib.Core.Path.{◌≡◌, refl, sym, ap, ◌∙◌}
use mathlib.Core.Bool.{Bool, false, false≢true}
use mathlib.Core.List.{List}
use lib.ListN.{length}
use lib.Dec.{eqb}
use Rattle.definitions.specs.Words.Basics.{Result, ok, refused}
use Rattle.definitions.specs.Bytes.Encode.{frame_bytes}
use Rattle.definitions.specs.Bytes.Plans.{physical_frame, frame_of}
use Rattle.definitions.specs.Calls.Base.{load, held_plan}
use Rattle.definitions.specs.Bytes.Good.{plan_nodes}
use Rattle.definitions.specs.Calls.Merge.{new_after_merge, with_table, merge}
use Rattle.definitions.specs.Claims.Table.{NeverTooShort}
use Rattle.theorems.proofs.InverseFrame.{frame_back}
use Rattle.theorems.proofs.Merged.{within-limits}
use Rattle.theorems.proofs.RefusalNumbers.{Refuses, physical-only, result-only, map-only, loaded-only, finish-only, tabled-enough, load-only, merge-only}

-- Any number but 17.
abbrev Not17 : ℕ → Type 0
Not17 number = eqb number 17 ≡ false

-- Whether an answer is 17.
abbrev is-17 : {A : Type 0} → Result A → Bool
is-17 (ok a) = false
is-17 (refused number) = eqb number 17

not-17 : {A : Type 0} (r : Result A) → Refuses Not17 r → r ≡ refused 17 → ⊥
not-17 r h e = false≢true (sym (none r h) ∙ ap is-17 e)
  where
    none : {A : Type 0} (r : Result A) → Refuses Not17 r → is-17 r ≡ false
    none (ok a) h = refl
    none (refused number) h = h

frame-not-17 : (frame : List ℕ) → Refuses Not17 (frame_of frame)
unfolding frame_of
frame-not-17 frame =
    result-only Not17 (physical_frame 0 frame) (physical-only Not17 refl refl refl refl refl refl refl refl 0 frame)

pub never-too-short-by : NeverTooShort
unfolding load merge with_table plan_nodes
never-too-short-by = (
  λ frame n buffer table bytes room e.
      not-17 _ (loaded-only Not17 frame n buffer table _
      (load-only Not17 frame (length buffer) (length table) (frame_of frame) (frame-not-17 frame) refl
      (λ F is. tabled-enough Not17 (length table) F (omega (arith, room, (frame_back frame F bytes is).1.few_nodes))))) e,
  λ frame n buffer scratch table room e.
      not-17 _ (finish-only Not17 n buffer scratch _ (map-only Not17 frame_bytes
      (new_after_merge n (length scratch) (length buffer) (length table) (frame_of frame) (held_plan n buffer))
      (merge-only Not17 refl refl refl n (length buffer) refl refl (length scratch) (length table)
      (λ M under. tabled-enough Not17 (length table) M (omega (arith, room, (within-limits M under).1)))
      (frame_of frame) (frame-not-17 frame) (held_plan n buffer)))) e,
)
