-- What a put is, once it is known whether a state is held and which check fails.
use Prim.Native.Nat.{ℕ, zero, suc, ◌+◌, ◌≤◌, ◌<◌}
use native.Mathlib.Omega.{arith}
use native.Mathlib.Nat.{add-zero}
use mathlib.Core.Path.{◌≡◌, refl, sym, ap, ap₂, ◌∙◌}
use mathlib.Core.List.{List, [], ◌∷◌, ◌++◌}
use lib.ListN.{length, take, drop, get_or}
use lib.Seq.{get_or-take, get_or-drop}
use borrow.Author.Tests.{lt-ltb, le-ltb, le-leb, lt-leb}
use Rattle.definitions.specs.Words.Basics.{Result, ok, refused, ◌>>=◌}
use Rattle.definitions.specs.Bytes.Good.{AllBytes}
use Rattle.definitions.specs.Calls.Queues.{Queue, chassis, fixed_unit, queue_number, Frames, State, waiting, with_frames, put_in}
use Rattle.definitions.specs.Calls.QueueBytes.{start, part_of, queue_of, state_of, queue_over, state_over, queue_numbered, put_done, put}
use Rattle.theorems.proofs.QueueStates.{HeldIn, held_in, part-long, part-holds, with_part, frames-over}
use Rattle.queues.specs.Held.{Held}
use Rattle.queues.specs.Parts.{HasRoom, FrameAdded}

-- ---- a state that is held

pub start-low : (q : Queue) → start q ≤ 16418
start-low chassis = omega arith
start-low fixed_unit = omega arith

-- A queue's bytes are in the buffer.
pub part-within : (b : List ℕ) → Held b → (q : Queue) (at : ℕ) → at ≡ start q → at + 16417 ≤ length b
part-within b h q at is = omega (arith, start-low q, (held_in b h.0 h.1).long)

-- The count of a queue stands at its start.
pub count-there : (b : List ℕ) (S : State) → HeldIn b S → (q : Queue) → get_or b (start q) 0 ≡ length (waiting q S)
count-there b S h q =
    ap (λ (n : ℕ). get_or b n 0) (sym (add-zero (start q))) ∙ sym (get_or-drop (start q) b 0 0)
    ∙ sym (get_or-take 16417 (drop (start q) b) 0 0 (omega arith))
    ∙ (part-holds S b h q).count

-- A part of a buffer that is a queue's, as a function is lent it and gives it back.
module _ (b : List ℕ) (q : Queue) (at n : ℕ) (is : at ≡ start q) (size : n ≡ 16417) where
  pub the-part : take n (drop at b) ≡ part_of q b
  the-part = ap₂ (λ (k m : ℕ). take k (drop m b)) size is

  module _ (S : State) (h : HeldIn b S) where
    pub part-size : length (take n (drop at b)) ≡ 16417
    part-size = ap length the-part ∙ part-long q b h.long

    pub part-frames : queue_of (take n (drop at b)) ≡ ok (waiting q S)
    part-frames = ap queue_of the-part ∙ h.queue q

    pub given_back : AllBytes b → (fs : Frames) (part : List ℕ) → part ≡ queue_over fs (take n (drop at b))
        → state_over (with_frames q fs S) b ≡ take at b ++ (part ++ drop n (drop at b))
    given_back bytes fs part e =
        frames-over S b bytes h q fs ∙ ap (λ (x : List ℕ). with_part q x b) (ap (queue_over fs) (sym the-part) ∙ sym e)
        ∙ ap₂ (λ (m k : ℕ). take m b ++ (part ++ drop k (drop m b))) (sym is) (sym size)

-- ---- put

module _ (b : List ℕ) (q : Queue) (f : List ℕ) where
  put_is : (r : Result State) → state_of b ≡ r → put b (queue_number q) f ≡ put_done b f (r >>= put_in q f)
  unfolding put queue_numbered
  put_is r e = by-queue q ∙ ap (λ (s : Result State). put_done b f (s >>= put_in q f)) e where
    by-queue : (p : Queue) → put b (queue_number p) f ≡ put_done b f (state_of b >>= put_in p f)
    by-queue chassis = refl
    by-queue fixed_unit = refl

  pub put-unheld : state_of b ≡ refused 10 → put b (queue_number q) f ≡ record { answer = refused 10; queues = b }
  unfolding put_done
  put-unheld e = put_is (refused 10) e

  module _ (h : Held b) where
    pub put-empty : length f < 1 → put b (queue_number q) f ≡ record { answer = refused 1; queues = b }
    unfolding put_done put_in
    put-empty short = put_is (ok h.0) h.1 ∙ rw (le-ltb 0 (length f) (omega arith)) refl

    module _ (low : 1 ≤ length f) where
      pub put-long : 1024 < length f → put b (queue_number q) f ≡ record { answer = refused 22; queues = b }
      unfolding put_done put_in
      put-long long = put_is (ok h.0) h.1 ∙ rw (lt-ltb 0 (length f) low, lt-leb (length f) 1024 long) refl

      module _ (high : length f ≤ 1024) (at : ℕ) (is : at ≡ start q) where
        count : get_or b at 0 ≡ length (waiting q h.0)
        count = ap (λ (n : ℕ). get_or b n 0) is ∙ count-there b h.0 (held_in b h.0 h.1) q

        pub put_full : 16 ≤ get_or b at 0 → put b (queue_number q) f ≡ record { answer = refused 23; queues = b }
        unfolding put_done put_in
        put_full full =
            put_is (ok h.0) h.1
            ∙ rw (lt-ltb 0 (length f) low, le-leb (length f) 1024 high, le-ltb (length (waiting q h.0)) 16 (omega (arith, count))) refl

        module _ (room : get_or b at 0 < 16) (n : ℕ) (size : n ≡ 16417) where
          pub has_room : HasRoom (take n (drop at b)) (get_or b at 0) f
          has_room =
              record { long = part-size b q at n is size h.0 (held_in b h.0 h.1); few = omega arith; low = low; high = high }

          pub put-adds : AllBytes b → (part : List ℕ) → FrameAdded (take n (drop at b)) (get_or b at 0) f part
              → put b (queue_number q) f ≡ record { answer = ok (length f); queues = take at b ++ (part ++ drop n (drop at b)) }
          unfolding put_done put_in
          put-adds bytes part added =
              let S : State = h.0 in
              let held = held_in b S h.1 in
              put_is (ok S) h.1
              ∙ rw (lt-ltb 0 (length f) low, le-leb (length f) 1024 high, lt-ltb (length (waiting q S)) 16 (omega (arith, count)))
              (ap (λ (l : List ℕ). record { answer = ok (length f); queues = l })
              (given_back b q at n is size S held bytes (waiting q S ++ (f ∷ [])) part
              (added (waiting q S) (part-frames b q at n is size S held) (sym count))))

pub put-nowhere : (b : List ℕ) (number : ℕ) (f : List ℕ) → 1 < number → put b number f ≡ record { answer = refused 21; queues = b }
unfolding put queue_numbered put_done
put-nowhere b zero f h = absurd (omega arith)
put-nowhere b (suc zero) f h = absurd (omega arith)
put-nowhere b (suc (suc n)) f h = refl
