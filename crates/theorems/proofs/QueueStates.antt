-- A state is read from the bytes of its queues and its mark, and written there.
use Prim.Native.Nat.{ℕ, zero, suc, ◌≤◌}
use native.Mathlib.Omega.{arith}
use mathlib.Core.Path.{◌≡◌, refl, sym, ap, ap₂, ◌∙◌, subst}
use mathlib.Core.List.{List, [], ◌∷◌, ◌++◌, map, append-nil}
use lib.ListN.{length, take, drop, get_or, length-append, length-drop, take-append-drop, drop_of_length-le}
use lib.Seq.{take_at, drop_at, take_all, length-take-le, take-add, drop-drop}
use lib.Dec.{leb, eqb}
use borrow.Author.Tests.{le-leb, leb-true, eq-eqb, eqb-true}
use Rattle.definitions.specs.Words.Basics.{ok}
use Rattle.definitions.specs.Bytes.Good.{AllBytes}
use Rattle.definitions.specs.Calls.Queues.{Queue, chassis, fixed_unit, Mark, nobody, last, Frames, State, waiting, with_frames}
use Rattle.definitions.specs.Calls.QueueBytes.{start, part_of, lengths_of, places_of, mark_of, queue_of, state_of, mark_byte, in_slots, length_bytes, queue_over, state_over}
use Rattle.definitions.specs.Claims.Queues.{FramesFit, QueuesFit, StateReadBack, StateHeld}
use Rattle.theorems.proofs.Slots.{slots_length}
use Rattle.theorems.proofs.Tools.{bytes-from}
use Rattle.theorems.proofs.InverseFrame.{refused_not_ok, same_ok}
use Rattle.theorems.proofs.Lengths.{bytes-up-to}
use Rattle.theorems.proofs.QueueFrames.{passed, came, Row, row_of, row_count, row_fits, same-lengths, same-places, lengths-slotted, places-slotted, frames-back}

first_byte : (s : List ℕ) → 1 ≤ length s → take 1 s ≡ get_or s 0 0 ∷ []
first_byte [] some = absurd (omega arith)
first_byte (b ∷ s) some = refl

-- ---- one queue

pub whole : (part : List ℕ) (count : ℕ) → get_or part 0 0 ≡ count → 1 ≤ length part → count ∷ (lengths_of part ++ places_of part) ≡ part
whole [] count e some = absurd (omega arith)
whole (c ∷ s) count e some = ap₂ (λ (n : ℕ) (l : List ℕ). n ∷ l) (sym e) (take-append-drop 32 s)

-- A queue's bytes hold these frames.
pub record Holds (part : List ℕ) (fs : Frames) : Type 0 where
  pub count : get_or part 0 0 ≡ length fs
  pub few : length fs ≤ 16
  pub row : Row (length fs) (lengths_of part) (places_of part) fs

module _ (part : List ℕ) (size : length part ≡ 16417) where
  pub lengths-long : length (lengths_of part) ≡ 32
  lengths-long = length-take-le 32 (drop 1 part) (simp length-drop (omega arith))

  pub places-long : length (places_of part) ≡ 16384
  places-long = length-drop 33 part ∙ omega arith

  pub queue-holds : (fs : Frames) → queue_of part ≡ ok fs → Holds part fs
  unfolding queue_of
  queue-holds fs e =
      let checked = passed 10 (leb (get_or part 0 0) 16) _ e in
      let row = row_of (get_or part 0 0) (lengths_of part) (places_of part) fs checked.1 in
      let count = sym (row_count row) in
      record {
        count = count;
        few = omega (arith, leb-true (get_or part 0 0) 16 checked.0);
        row = subst (λ (n : ℕ). Row n (lengths_of part) (places_of part) fs) count row;
      }

  pub queue-fits : {fs : Frames} → Holds part fs → FramesFit fs
  queue-fits h = row_fits h.row (omega (arith, h.few, places-long))

  pub queue-same : {fs : Frames} → AllBytes part → Holds part fs → queue_over fs part ≡ part
  unfolding queue_over
  queue-same {fs} bytes h =
      ap₂ (λ (L P : List ℕ). length fs ∷ (L ++ P))
      (same-lengths h.row (bytes-up-to 32 (drop 1 part) (bytes-from 1 part bytes)) (omega (arith, h.few, lengths-long))
      (omega (arith, h.few, places-long)))
      (same-places h.row (omega (arith, h.few, places-long)))
      ∙ whole part (length fs) h.count (omega arith)

  module _ (fs : Frames) (few : length fs ≤ 16) (fit : FramesFit fs) where
    lengths-size : length (in_slots 2 (map length_bytes fs) (lengths_of part)) ≡ 32
    lengths-size =
        slots_length 2 (map length_bytes fs) (lengths_of part) (lengths-slotted fs (lengths_of part) (omega (arith, lengths-long)))
        ∙ lengths-long

    places-size : length (in_slots 1024 fs (places_of part)) ≡ 16384
    places-size =
        slots_length 1024 fs (places_of part) (places-slotted fs (places_of part) fit (omega (arith, places-long))) ∙ places-long

    pub over-long : length (queue_over fs part) ≡ 16417
    unfolding queue_over
    over-long =
        ap suc
        (length-append (in_slots 2 (map length_bytes fs) (lengths_of part)) (in_slots 1024 fs (places_of part))
        ∙ omega (arith, lengths-size, places-size))

    pub queue-back : queue_of (queue_over fs part) ≡ ok fs
    unfolding queue_of queue_over
    queue-back =
        let L : List ℕ = in_slots 2 (map length_bytes fs) (lengths_of part) in
        let P : List ℕ = in_slots 1024 fs (places_of part) in
        rw (le-leb (length fs) 16 few, take_at L P 32 lengths-size, drop_at L P 32 lengths-size)
        (frames-back fs (lengths_of part) (places_of part) fit (omega (arith, lengths-long)) (omega (arith, places-long)))

-- ---- both

pub mark-back : (m : Mark) → mark_of (mark_byte m) ≡ ok m
unfolding mark_of
mark-back nobody = refl
mark-back (last chassis) = refl
mark-back (last fixed_unit) = refl

pub mark-same : (n : ℕ) (m : Mark) → mark_of n ≡ ok m → mark_byte m ≡ n
unfolding mark_of
mark-same zero m e = ap mark_byte (sym (same_ok _ _ e))
mark-same (suc zero) m e = ap mark_byte (sym (same_ok _ _ e))
mark-same (suc (suc zero)) m e = ap mark_byte (sym (same_ok _ _ e))
mark-same (suc (suc (suc n))) m e = absurd (refused_not_ok _ _ e)

pub part-long : (q : Queue) (b : List ℕ) → length b ≡ 32835 → length (part_of q b) ≡ 16417
part-long chassis b size = length-take-le 16417 (drop 1 b) (simp length-drop (omega arith))
part-long fixed_unit b size = length-take-le 16417 (drop 16418 b) (simp length-drop (omega arith))

-- A buffer holds a state.
pub record HeldIn (b : List ℕ) (S : State) : Type 0 where
  pub long : length b ≡ 32835
  pub mark : mark_of (get_or b 0 0) ≡ ok S.mark
  pub queue : (q : Queue) → queue_of (part_of q b) ≡ ok (waiting q S)

pub held_in : (b : List ℕ) (S : State) → state_of b ≡ ok S → HeldIn b S
unfolding state_of
held_in b S e =
    let long = passed 10 (eqb (length b) 32835) _ e in
    let mark = came (mark_of (get_or b 0 0)) _ long.1 in
    let one = came (queue_of (part_of chassis b)) _ mark.2 in
    let two = came (queue_of (part_of fixed_unit b)) _ one.2 in
    subst (HeldIn b) (same_ok _ _ two.2) (record {
      long = eqb-true (length b) 32835 long.0;
      mark = mark.1;
      queue = elim [ chassis ↦ one.1 | fixed_unit ↦ two.1 ];
    })

pub in_held : (b : List ℕ) (S : State) → HeldIn b S → state_of b ≡ ok S
unfolding state_of
in_held b S h = rw (eq-eqb (length b) 32835 h.long, h.mark, h.queue chassis, h.queue fixed_unit)

module _ (S : State) (b : List ℕ) (fits : QueuesFit S) (long : length b ≡ 32835) where
  over-part : (q : Queue) → length (queue_over (waiting q S) (part_of q b)) ≡ 16417
  over-part q = over-long (part_of q b) (part-long q b long) (waiting q S) (fits q).0 (fits q).1

  part-over : (q : Queue) → part_of q (state_over S b) ≡ queue_over (waiting q S) (part_of q b)
  unfolding state_over
  part-over chassis =
      take_at (queue_over S.of_chassis (part_of chassis b)) (queue_over S.of_fixed_unit (part_of fixed_unit b)) 16417 (over-part chassis)
  part-over fixed_unit =
      ap (take 16417)
      (drop_at (queue_over S.of_chassis (part_of chassis b)) (queue_over S.of_fixed_unit (part_of fixed_unit b)) 16417 (over-part chassis))
      ∙ take_all 16417 (queue_over S.of_fixed_unit (part_of fixed_unit b)) (omega (arith, over-part fixed_unit))

  pub state-long : length (state_over S b) ≡ 32835
  unfolding state_over
  state-long =
      ap suc (length-append (queue_over S.of_chassis (part_of chassis b)) _ ∙ omega (arith, over-part chassis, over-part fixed_unit))

  pub held-over : HeldIn (state_over S b) S
  unfolding state_over
  held-over = record {
    long = state-long;
    mark = mark-back S.mark;
    queue = λ q. ap queue_of (part-over q) ∙ queue-back (part_of q b) (part-long q b long) (waiting q S) (fits q).0 (fits q).1;
  }

pub state-back : StateReadBack
state-back S b fits long = in_held (state_over S b) S (held-over S b fits long)

module _ (S : State) (b : List ℕ) (h : HeldIn b S) where
  pub part-holds : (q : Queue) → Holds (part_of q b) (waiting q S)
  part-holds q = queue-holds (part_of q b) (part-long q b h.long) (waiting q S) (h.queue q)

  pub held_fits : QueuesFit S
  held_fits q = ((part-holds q).few, queue-fits (part_of q b) (part-long q b h.long) (part-holds q))

-- ---- a queue's bytes replaced

-- The buffer with these bytes for a queue's.
abbrev pub with_part : Queue → (part b : List ℕ) → List ℕ
with_part q part b = take (start q) b ++ (part ++ drop 16417 (drop (start q) b))

module _ (S : State) (b : List ℕ) (bytes : AllBytes b) (h : HeldIn b S) where
  part_same : (q : Queue) → queue_over (waiting q S) (part_of q b) ≡ part_of q b
  part_same q =
      queue-same (part_of q b) (part-long q b h.long) (bytes-up-to 16417 (drop (start q) b) (bytes-from (start q) b bytes))
      (part-holds S b h q)

  -- The mark stays, and so does the other queue.
  pub frames-over : (q : Queue) (fs : Frames) → state_over (with_frames q fs S) b ≡ with_part q (queue_over fs (part_of q b)) b
  unfolding state_over
  frames-over chassis fs =
      let end : take 16417 (drop 16418 b) ≡ drop 16418 b = take_all 16417 (drop 16418 b) (simp length-drop (omega (arith, h.long))) in
      ap₂ (λ (m : ℕ) (l : List ℕ). m ∷ (queue_over fs (part_of chassis b) ++ l)) (mark-same (get_or b 0 0) S.mark h.mark)
      (part_same fixed_unit ∙ end)
      ∙ ap₂ (λ (x y : List ℕ). x ++ (queue_over fs (part_of chassis b) ++ y)) (sym (first_byte b (omega (arith, h.long))))
      (sym (drop-drop 16417 1 b))
  frames-over fixed_unit fs =
      let x : List ℕ = queue_over fs (part_of fixed_unit b) in
      let nothing : drop 16417 (drop 16418 b) ≡ [] =
      drop_of_length-le (drop 16418 b) {i = 16417} (simp length-drop (omega (arith, h.long))) in
      ap₂ (λ (m : ℕ) (l : List ℕ). m ∷ (l ++ x)) (mark-same (get_or b 0 0) S.mark h.mark) (part_same chassis)
      ∙ ap₂ ◌++◌ (sym (take-add 1 16417 b ∙ ap (λ (l : List ℕ). l ++ take 16417 (drop 1 b)) (first_byte b (omega (arith, h.long)))))
      (sym (append-nil x) ∙ ap (λ (l : List ℕ). x ++ l) (sym nothing))

pub state-held : StateHeld
state-held S b bytes e = let h = held_in b S e in (held_fits S b h, held_same S b bytes h) where
  held_same : (S : State) (b : List ℕ) (bytes : AllBytes b) → HeldIn b S → state_over S b ≡ b
  held_same S b bytes h =
      frames-over S b bytes h chassis S.of_chassis
      ∙ ap (λ (x : List ℕ). with_part chassis x b) (part_same S b bytes h chassis)
      ∙ ap (λ (x : List ℕ). take 1 b ++ x) (take-append-drop 16417 (drop 1 b))
      ∙ take-append-drop 1 b
