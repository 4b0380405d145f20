-- The bytes of a queue with one frame more, and with the later frames moved down.
use Prim.Native.Nat.{ℕ, suc, ◌+◌, ◌*◌, ◌≤◌, ◌<◌}
use native.Mathlib.Omega.{arith}
use mathlib.Core.Path.{◌≡◌, refl, sym, ap, ap₂, ◌∙◌}
use mathlib.Core.List.{List, [], ◌∷◌, ◌++◌, map, append-nil}
use lib.ListN.{length, take, drop, set, length-append, length-map, length-drop}
use lib.Seq.{length-take-le}
use Rattle.definitions.specs.Words.Basics.{big_endian}
use Rattle.definitions.specs.Bytes.Good.{AllBytes}
use Rattle.definitions.specs.Calls.Queues.{Frames}
use Rattle.definitions.specs.Calls.QueueBytes.{lengths_of, places_of, in_slots, length_bytes, queue_over}
use Rattle.definitions.specs.Claims.Queues.{FramesFit}
use Rattle.theorems.proofs.Slots.{Slotted, slots_length, slotted-front, slots-more}
use Rattle.theorems.proofs.QueueFrames.{lengths-slotted, places-slotted}
use Rattle.theorems.proofs.QueueStates.{Holds, queue-holds, queue-fits, queue-same, lengths-long, places-long}
use Rattle.theorems.proofs.QueueChanges.{fit-more}
use Rattle.expression.specs.Places.{short_at}
use Rattle.byte_writer.specs.Written.{WroteAt}
use Rattle.byte_writer.proofs.NumberLaws.{number-length}
use Rattle.queues.specs.Parts.{Put, HasRoom, FrameAdded, next_frame, HasNext, FrameMoved}
use Rattle.queues.proofs.Moving.{wrote-in, kept-behind}

-- A queue's bytes with these frames, under any count.
abbrev pub frames_over : (count : ℕ) → Frames → (part : List ℕ) → List ℕ
frames_over count frames part = count ∷ (in_slots 2 (map length_bytes frames) (lengths_of part) ++ in_slots 1024 frames (places_of part))

map_snoc : (fs : Frames) (f : List ℕ) → map length_bytes (fs ++ (f ∷ [])) ≡ map length_bytes fs ++ (length_bytes f ∷ [])
map_snoc [] f = refl
map_snoc (g ∷ fs) f = ap (λ (l : List (List ℕ)). length_bytes g ∷ l) (map_snoc fs f)

length-bytes : (f : List ℕ) → length (length_bytes f) ≡ 2
unfolding big_endian
length-bytes f = refl

module _ (part : List ℕ) (long : length part ≡ 16417) (fs : Frames) (f : List ℕ) (few : length (fs ++ (f ∷ [])) ≤ 16)
    (fit : FramesFit (fs ++ (f ∷ []))) where
  -- One length more, and one frame more.
  all-lengths : Slotted 2 (map length_bytes (fs ++ (f ∷ []))) (lengths_of part)
  all-lengths = lengths-slotted (fs ++ (f ∷ [])) (lengths_of part) (omega (arith, lengths-long part long))

  more-lengths : Slotted 2 (map length_bytes fs ++ (length_bytes f ∷ [])) (lengths_of part)
  more-lengths = rw map_snoc at all-lengths

  more-frames : Slotted 1024 (fs ++ (f ∷ [])) (places_of part)
  more-frames = places-slotted (fs ++ (f ∷ [])) (places_of part) fit (omega (arith, places-long part long))

  lengths-size : length (in_slots 2 (map length_bytes fs) (lengths_of part)) ≡ 32
  lengths-size =
      slots_length 2 _ _ (slotted-front 2 (map length_bytes fs) (length_bytes f) (lengths_of part) more-lengths) ∙ lengths-long part long

  places-size : length (in_slots 1024 fs (places_of part)) ≡ 16384
  places-size = slots_length 1024 _ _ (slotted-front 1024 fs f (places_of part) more-frames) ∙ places-long part long

  fewer : length fs < 16
  fewer = omega (arith, simp length-append at few)

  short-enough : length f ≤ 1024
  short-enough = last_fits fs fit where
    last_fits : (gs : Frames) → FramesFit (gs ++ (f ∷ [])) → length f ≤ 1024
    last_fits [] h = h.1
    last_fits (g ∷ gs) h = last_fits gs h.2

  -- The length and the bytes of a frame, written behind these, are those of one frame more.
  pub one-put : (count k : ℕ) {before after : List ℕ} → k ≡ length fs → before ≡ frames_over count fs part → Put before k f after
      → after ≡ frames_over count (fs ++ (f ∷ [])) part
  one-put count k {before} {after} at is put =
      let A : List ℕ = in_slots 2 (map length_bytes fs) (lengths_of part) in
      let B : List ℕ = in_slots 1024 fs (places_of part) in
      let C : List ℕ = in_slots 2 (map length_bytes (fs ++ (f ∷ []))) (lengths_of part) in
      let one : put.between ≡ (count ∷ C) ++ (B ++ []) =
      wrote-in (count ∷ []) A B (length_bytes f) 1 (2 * k) refl (omega (arith, fewer, length-bytes f, lengths-size)) is put.number
      ∙ ap (λ (l : List ℕ). count ∷ (l ++ B))
      (ap (λ (n : ℕ). take (2 * n) A ++ (length_bytes f ++ drop (2 * n + length (length_bytes f)) A)) (at
      ∙ sym (length-map fs length_bytes))
      ∙ sym (slots-more 2 (map length_bytes fs) (length_bytes f) (lengths_of part) more-lengths)
      ∙ ap (λ (xs : List (List ℕ)). in_slots 2 xs (lengths_of part)) (sym (map_snoc fs f)))
      ∙ ap (λ (l : List ℕ). (count ∷ C) ++ l) (sym (append-nil B)) in
      wrote-in (count ∷ C) B [] f 33 (1024 * k) (ap suc (slots_length 2 _ _ all-lengths ∙ lengths-long part long))
      (omega (arith, fewer, short-enough, places-size)) one put.bytes
      ∙ ap (λ (l : List ℕ). (count ∷ C) ++ l)
      (append-nil _ ∙ ap (λ (n : ℕ). take (1024 * n) B ++ (f ++ drop (1024 * n + length f) B)) at
      ∙ sym (slots-more 1024 fs f (places_of part) more-frames))

-- ---- a frame is added

pub frame-added : (part : List ℕ) (count : ℕ) (frame : List ℕ) → HasRoom part count frame → AllBytes part → {after : List ℕ}
    → Put part count frame after
    → FrameAdded part count frame (set after 0 (count + 1))
unfolding queue_over
frame-added part count frame h bytes put frames is size =
    let holds : Holds part frames = queue-holds part h.long frames is in
    let fit : FramesFit (frames ++ (frame ∷ [])) = fit-more frames frame (queue-fits part h.long holds) h.low h.high in
    let one : length (frames ++ (frame ∷ [])) ≡ count + 1 = length-append frames (frame ∷ []) ∙ ap (λ (n : ℕ). n + 1) size in
    ap (λ (l : List ℕ). set l 0 (count + 1))
    (one-put part h.long frames frame (omega (arith, h.few)) fit (length frames) count (sym size)
    (sym (queue-same part h.long bytes holds)) put)
    ∙ ap (λ (n : ℕ). frames_over n (frames ++ (frame ∷ [])) part) (sym one)

-- ---- a frame is moved

pub frame-moved : (part : List ℕ) (k n : ℕ) → HasNext part k → n ≡ short_at part (3 + 2 * k)
    → (between : List ℕ) (ended : ℕ) {after : List ℕ}
    → WroteAt (1 + 2 * k) (big_endian 2 n) part between ended
    → WroteAt (33 + 1024 * k) (take n (drop (1057 + 1024 * k) between)) between after (33 + 1024 * k + n) → FrameMoved part k after
frame-moved part k n h is between ended number bytes =
    let place : ℕ = 1057 + 1024 * k in
    let kept : drop place between ≡ drop place part =
    kept-behind number (omega (arith, h.long, h.few)) place (omega (arith, number-length 2 n)) in
    let next : take n (drop place between) ≡ next_frame part k = ap₂ take is kept in
    let size : length (next_frame part k) ≡ n =
    length-take-le _ (drop place part) (simp length-drop (omega (arith, h.long, h.few, h.fits))) ∙ sym is in
    record {
      between = between;
      ended = ended;
      number = rw size number;
      bytes = rw (size, ← next) bytes;
    }
