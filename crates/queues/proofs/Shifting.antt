-- The oldest frame is taken out: the later ones move down, one after the other.
use Prim.Native.Nat.{ℕ, zero, suc, ◌+◌, ◌-◌, ◌*◌, ◌≤◌, ◌<◌}
use native.Mathlib.Omega.{arith}
use native.Mathlib.Numerals.{add-one}
use mathlib.Core.Path.{◌≡◌, refl, sym, ap, ap₂, ◌∙◌}
use mathlib.Core.List.{List, [], ◌∷◌, ◌++◌, map}
use lib.ListN.{length, take, drop, get_or, set, length-map}
use lib.Seq.{take_at, drop_at, take-suc, take_all, length-take-le, drop-drop, get_or-drop, get_or-take}
use Rattle.definitions.specs.Words.Basics.{ok}
use Rattle.definitions.specs.Calls.Queues.{Frames}
use Rattle.definitions.specs.Calls.QueueBytes.{short, lengths_of, places_of, queue_of, in_slots, length_bytes, queue_over}
use Rattle.definitions.specs.Claims.Queues.{FramesFit}
use Rattle.theorems.proofs.Slots.{Slotted, slots_length, slots-behind}
use Rattle.theorems.proofs.QueueFrames.{At, row_at, lengths-slotted, places-slotted}
use Rattle.theorems.proofs.QueueStates.{Holds, queue-holds, queue-fits, lengths-long, places-long, whole}
use Rattle.expression.specs.Places.{short_at}
use Rattle.queues.specs.Parts.{Put, next_frame, HasNext, HasFirst}
use Rattle.queues.proofs.QueueLaws.{frames_over, one-put}

-- ---- a length and a place, as the code finds them

length-byte : (part : List ℕ) (j d : ℕ) → 2 * j + d < 32 → get_or (drop (2 * j) (lengths_of part)) d 0 ≡ get_or part (1 + 2 * j + d) 0
length-byte part j d below =
    let place : 1 + (2 * j + d) ≡ 1 + 2 * j + d = omega arith in
    get_or-drop (2 * j) (lengths_of part) d 0 ∙ get_or-take 32 (drop 1 part) (2 * j + d) 0 below ∙ get_or-drop 1 part (2 * j + d) 0
    ∙ ap (λ (n : ℕ). get_or part n 0) place

pub length-there : (part : List ℕ) (j : ℕ) → j < 16 → short (drop (2 * j) (lengths_of part)) ≡ short_at part (1 + 2 * j)
length-there part j below =
    let place : 1 + 2 * j + 0 ≡ 1 + 2 * j = omega arith in
    ap₂ (λ (a b : ℕ). a * 256 + b) (length-byte part j 0 (omega arith) ∙ ap (λ (n : ℕ). get_or part n 0) place)
    (length-byte part j 1 (omega arith))

behind_more : (a b : List ℕ) (n m : ℕ) → n ≤ m → drop n a ≡ drop n b → drop m a ≡ drop m b
behind_more a b n m le e =
    let place : n + (m - n) ≡ m = omega arith in
    ap (λ (k : ℕ). drop k a) (sym place) ∙ sym (drop-drop (m - n) n a) ∙ ap (drop (m - n)) e ∙ drop-drop (m - n) n b
    ∙ ap (λ (k : ℕ). drop k b) place

fit-take : (k : ℕ) (fs : Frames) → FramesFit fs → FramesFit (take k fs)
fit-take zero fs h = tt
fit-take (suc k) [] h = tt
fit-take (suc k) (f ∷ fs) h = (h.0, h.1, fit-take k fs h.2)

-- ---- one frame moves down

module _ (part : List ℕ) (long : length part ≡ 16417) (first : List ℕ) (later : Frames) (h : Holds part (first ∷ later)) where
  fits : FramesFit later
  fits = (queue-fits part long h).2

  -- The queue with k frames moved.
  abbrev pub moved : ℕ → List ℕ
  moved k = frames_over (suc (length later)) (take k later) part

  module _ (k : ℕ) (below : k < length later) where
    taken : length (take k later) ≡ k
    taken = length-take-le k later (omega arith)

    sizes-slotted : Slotted 2 (map length_bytes (take k later)) (lengths_of part)
    sizes-slotted = lengths-slotted (take k later) (lengths_of part) (omega (arith, taken, h.few, lengths-long part long))

    frames-slotted : Slotted 1024 (take k later) (places_of part)
    frames-slotted =
        places-slotted (take k later) (places_of part) (fit-take k later fits) (omega (arith, taken, h.few, places-long part long))

    sizes-long : length (in_slots 2 (map length_bytes (take k later)) (lengths_of part)) ≡ 32
    sizes-long = slots_length 2 (map length_bytes (take k later)) (lengths_of part) sizes-slotted ∙ lengths-long part long

    -- The next frame is behind those that moved, so it is as it was.
    pub there : At (lengths_of part) (places_of part) (suc k) (get_or later k [])
    there = row_at h.row (omega (arith, h.few, places-long part long)) (suc k) (omega arith)

    pub size : short_at (moved k) (3 + 2 * k) ≡ length (get_or later k [])
    size =
        let place : 3 + 2 * k ≡ 1 + 2 * suc k = omega arith in
        let xs : List (List ℕ) = map length_bytes (take k later) in
        ap (short_at (moved k)) place ∙ sym (length-there (moved k) (suc k) (omega (arith, h.few)))
        ∙ ap (λ (l : List ℕ). short (drop (2 * suc k) l)) (take_at (in_slots 2 xs (lengths_of part)) _ 32 sizes-long)
        ∙ ap short
        (behind_more (in_slots 2 xs (lengths_of part)) (lengths_of part) (2 * length xs) (2 * suc k)
        (omega (arith, length-map (take k later) length_bytes, taken))
        (slots-behind 2 xs (lengths_of part) sizes-slotted))
        ∙ there.size

    bytes : drop (1057 + 1024 * k) (moved k) ≡ drop (1024 * suc k) (places_of part)
    bytes =
        let place : 1057 + 1024 * k ≡ 33 + 1024 * suc k = omega arith in
        let xs : List (List ℕ) = map length_bytes (take k later) in
        ap (λ (n : ℕ). drop n (moved k)) place ∙ sym (drop-drop (1024 * suc k) 33 (moved k))
        ∙ ap (drop (1024 * suc k)) (drop_at (in_slots 2 xs (lengths_of part)) (in_slots 1024 (take k later) (places_of part)) 32 sizes-long)
        ∙ behind_more _ (places_of part) (1024 * length (take k later)) (1024 * suc k) (omega (arith, taken))
        (slots-behind 1024 (take k later) (places_of part) frames-slotted)

    pub next-is : next_frame (moved k) k ≡ get_or later k []
    next-is = ap₂ take size bytes ∙ there.bytes

    pub one_more : {after : List ℕ} → Put (moved k) k (next_frame (moved k) k) after → after ≡ moved (k + 1)
    one_more {after} put =
        let next : take k later ++ (get_or later k [] ∷ []) ≡ take (k + 1) later =
        sym (take-suc later k [] below) ∙ ap (λ (n : ℕ). take n later) (sym (add-one k)) in
        let few : length (take (k + 1) later) ≤ 16 = omega (arith, length-take-le (k + 1) later (omega arith), h.few) in
        one-put part long (take k later) (get_or later k []) (rw next few) (rw next (fit-take (k + 1) later fits)) (suc (length later)) k
        (sym taken) refl (rw next-is at put)
        ∙ ap (λ (fs : Frames). frames_over (suc (length later)) fs part) next

-- ---- the loop

-- k frames are moved.
pub record Shifting (part : List ℕ) (last : ℕ) (s : List ℕ) (k : ℕ) : Type 0 where
  pub below : k ≤ last
  pub same : length s ≡ length part
  pub bytes : (first : List ℕ) (later : Frames) → queue_of part ≡ ok (first ∷ later)
      → s ≡ frames_over (suc (length later)) (take k later) part

module _ (part : List ℕ) (h : HasFirst part) where
  holds : Holds part (h.first ∷ h.later)
  holds = queue-holds part h.long (h.first ∷ h.later) h.holds

  pub count-is : get_or part 0 0 ≡ suc (length h.later)
  count-is = holds.count

  pub few-later : length h.later ≤ 15
  few-later = omega (arith, holds.few)

  pub begins : (last : ℕ) → Shifting part last part 0
  unfolding in_slots
  begins last = record {
    below = omega arith;
    same = refl;
    bytes =
        λ first later is. sym
        (whole part (suc (length later)) (queue-holds part h.long (first ∷ later) is).count (omega (arith, h.long)));
  }

  module _ (last k : ℕ) (s : List ℕ) (is : last ≡ length h.later) (more : k < last) (inv : Shifting part last s k) where
    now-is : s ≡ frames_over (suc (length h.later)) (take k h.later) part
    now-is = inv.bytes h.first h.later h.holds

    pub has-next : HasNext s k
    has-next = record {
      long = inv.same ∙ h.long;
      few = omega (arith, few-later);
      fits =
          rw now-is (omega (
            arith,
            size part h.long h.first h.later holds k (omega arith),
            (there part h.long h.first h.later holds k
                (omega arith)).high,
          ));
    }

    pub goes_on : (after : List ℕ) → length after ≡ length s → Put s k (next_frame s k) after → Shifting part last after (k + 1)
    goes_on after same put = record {
      below = omega arith;
      same = same ∙ inv.same;
      bytes = λ first later e.
          let one : Holds part (first ∷ later) = queue-holds part h.long (first ∷ later) e in
          one_more part h.long first later one k (omega (arith, one.count, count-is)) (rw (inv.bytes first later e) at put);
    }

  pub ends : (last k : ℕ) (s : List ℕ) → last ≡ length h.later → last ≤ k → Shifting part last s k
      → (first : List ℕ) (later : Frames) → queue_of part ≡ ok (first ∷ later) → set s 0 last ≡ queue_over later part
  unfolding queue_over
  ends last k s is done inv first later e =
      let one : Holds part (first ∷ later) = queue-holds part h.long (first ∷ later) e in
      let all : take k later ≡ later = take_all k later (omega (arith, one.count, count-is)) in
      let count : last ≡ length later = omega (arith, one.count, count-is) in
      ap (λ (l : List ℕ). set l 0 last) (inv.bytes first later e)
      ∙ ap₂ (λ (n : ℕ) (fs : Frames). n ∷
      (in_slots 2 (map length_bytes fs) (lengths_of part) ++ in_slots 1024 fs (places_of part))) count all
