-- Request 12 of document 02 by computation: whose turn it is, the refusals of put and serve in their order, and where each byte stands.
use Rattle.std.specs.Prelude.{ℕ, zero, suc, ◌+◌, ◌*◌, ◌≡◌, List, [], ◌∷◌, ◌++◌, map, length, replicate}
use Rattle.std.proofs.Math.Option.{none, some}
use Rattle.definitions.specs.Words.Basics.{Result, ok, refused, map_result}
use Rattle.definitions.specs.Words.Limits.{queue_places, place_bytes, queue_bytes, queues_bytes}
use Rattle.definitions.specs.Calls.Base.{written_over}
use Rattle.definitions.specs.Calls.Queues.{chassis, fixed_unit, Mark, nobody, last, Frames, State, put_in, Due, due}
use Rattle.definitions.specs.Calls.QueueBytes.{start, mark_of, frames_of, queue_of, mark_byte, queue_over, state_over, queue_numbered, put, Served, frame_from, both_empty, serve_due, serve}
use Rattle.definitions.specs.Lists.Queues.{made_put, made_serve, fresh_queues, served, added}

-- Frames of one, two and three bytes.
abbrev pub one : List ℕ
one = 7 ∷ []

abbrev pub two : List ℕ
two = 8 ∷ 8 ∷ []

abbrev pub three : List ℕ
three = 9 ∷ 9 ∷ 9 ∷ []

-- These wait.
abbrev pub waits : Mark → (of_chassis of_fixed_unit : Frames) → State
waits mark of_chassis of_fixed_unit = record { mark = mark; of_chassis = of_chassis; of_fixed_unit = of_fixed_unit }

-- Queue 0 is full.
abbrev pub full : State
full = waits nobody (replicate 16 one) []

-- The frame of three bytes is due, and nothing is left.
abbrev pub last_due : Due
last_due = record { queue = fixed_unit; frame = three; left = waits (last fixed_unit) [] [] }

-- What waits and who was served, step by step: on states, and on the bytes of one queue.
pub record QueueAnswers : Type 0 where
  -- from fresh queue 0 first; then the queue that was not served last; the other where that one is empty; none
  pub from-fresh : due (waits nobody (one ∷ two ∷ []) (three ∷ []))
      ≡ some (record { queue = chassis; frame = one; left = waits (last chassis) (two ∷ []) (three ∷ []) })
  pub after_first : due (waits (last chassis) (one ∷ []) (two ∷ three ∷ []))
      ≡ some (record { queue = fixed_unit; frame = two; left = waits (last fixed_unit) (one ∷ []) (three ∷ []) })
  pub after-second : due (waits (last fixed_unit) (one ∷ []) (two ∷ []))
      ≡ some (record { queue = chassis; frame = one; left = waits (last chassis) [] (two ∷ []) })
  pub first-again : due (waits (last chassis) (one ∷ two ∷ []) [])
      ≡ some (record { queue = chassis; frame = one; left = waits (last chassis) (two ∷ []) [] })
  pub second-from-fresh : due (waits nobody [] (one ∷ []))
      ≡ some (record { queue = fixed_unit; frame = one; left = waits (last fixed_unit) [] [] })
  pub nothing-due : due (waits (last chassis) [] []) ≡ none
  -- a put at the end of its queue, in the last place, of the longest frame
  pub put_first : put_in chassis three (waits (last chassis) (one ∷ two ∷ []) (one ∷ []))
      ≡ ok (waits (last chassis) (one ∷ two ∷ three ∷ []) (one ∷ []))
  pub put_second : put_in fixed_unit three (waits nobody [] (two ∷ [])) ≡ ok (waits nobody [] (two ∷ three ∷ []))
  pub last-place : put_in chassis one (waits nobody (replicate 15 one) []) ≡ ok full
  pub longest : put_in fixed_unit (replicate 1024 7) full ≡ ok (waits nobody (replicate 16 one) (replicate 1024 7 ∷ []))
  -- 21, 10, 1, 22, 23, each where all the later ones would do
  pub no-queue : put (5 ∷ []) 2 [] ≡ record { answer = refused 21; queues = 5 ∷ [] }
  pub put-unheld : put (5 ∷ []) 1 [] ≡ record { answer = refused 10; queues = 5 ∷ [] }
  pub empty-frame : put_in chassis [] full ≡ refused 1
  pub too_long : put_in chassis (replicate 1025 7) full ≡ refused 22
  pub queue-full : put_in chassis one full ≡ refused 23
  pub queue-numbers : queue_numbered 0 ∷ queue_numbered 1 ∷ [] ≡ ok chassis ∷ ok fixed_unit ∷ []
  -- the frame at the output's start and the bytes after it kept; just enough output; 9 and both empty change nothing; 10 before 9
  pub given_out : (serve_due [] (1 ∷ 2 ∷ 3 ∷ 4 ∷ []) (some last_due)).out ≡ 9 ∷ 9 ∷ 9 ∷ 4 ∷ []
  pub given-left : (serve_due (5 ∷ []) three (some last_due)).queues ≡ state_over (waits (last fixed_unit) [] []) (5 ∷ [])
  pub just_enough : (serve_due [] (1 ∷ 2 ∷ 3 ∷ []) (some last_due)).answer ≡ ok (frame_from fixed_unit 3)
  pub short-output : serve_due (5 ∷ 6 ∷ []) (1 ∷ 2 ∷ []) (some last_due)
      ≡ record { answer = refused 9; queues = 5 ∷ 6 ∷ []; out = 1 ∷ 2 ∷ [] }
  pub both-empty : serve_due (5 ∷ 6 ∷ []) (1 ∷ 2 ∷ []) none
      ≡ record { answer = ok both_empty; queues = 5 ∷ 6 ∷ []; out = 1 ∷ 2 ∷ [] }
  pub serve-unheld : serve (5 ∷ []) one ≡ record { answer = refused 10; queues = 5 ∷ []; out = one }
  -- marks 0 to 2, and 3
  pub marks : mark_of 0 ∷ mark_of 1 ∷ mark_of 2 ∷ mark_of 3 ∷ [] ≡ ok nobody ∷ ok (last chassis) ∷ ok (last fixed_unit) ∷ refused 10 ∷ []
  pub mark-bytes : map mark_byte (nobody ∷ last chassis ∷ last fixed_unit ∷ []) ≡ 0 ∷ 1 ∷ 2 ∷ []
  -- lengths from 1 to 1,024; 16 frames, and 17; bytes past a length, and lengths past a count, are free
  pub length-0 : frames_of 1 (0 ∷ 0 ∷ []) one ≡ refused 10
  pub length-1025 : frames_of 1 (4 ∷ 1 ∷ []) one ≡ refused 10
  pub length-1024 : frames_of 1 (4 ∷ 0 ∷ []) one ≡ ok (one ∷ [])
  pub second-bad : frames_of 2 (0 ∷ 1 ∷ 0 ∷ 0 ∷ []) one ≡ refused 10
  pub second-place : frames_of 2 (0 ∷ 1 ∷ 0 ∷ 2 ∷ []) (written_over one (replicate 1024 0) ++ (8 ∷ 8 ∷ 5 ∷ [])) ≡ ok (one ∷ two ∷ [])
  pub sixteen : map_result length (queue_of (16 ∷ replicate 32 1)) ≡ ok 16
  pub seventeen : queue_of (17 ∷ replicate 34 1) ≡ refused 10
  pub free-lengths : queue_of (1 ∷ 0 ∷ 2 ∷ (replicate 30 255 ++ (8 ∷ 8 ∷ 5 ∷ []))) ≡ ok (two ∷ [])
  -- a frame written: its count, its length, high byte first, its bytes; free bytes kept
  pub one_written : queue_over (two ∷ []) (9 ∷ (replicate 32 255 ++ (1 ∷ 2 ∷ 3 ∷ 4 ∷ [])))
      ≡ 1 ∷ 0 ∷ 2 ∷ (replicate 30 255 ++ (8 ∷ 8 ∷ 3 ∷ 4 ∷ []))
  -- the mark, then queue 0, then queue 1, and no byte after them
  pub first-starts : start chassis ≡ 1
  pub second-starts : start fixed_unit ≡ start chassis + queue_bytes
  pub queue-size : queue_bytes ≡ 1 + 2 * queue_places + place_bytes * queue_places
  pub whole-size : queues_bytes ≡ start fixed_unit + queue_bytes
  -- a refused serve is not counted, one that finds both empty is; a refused put adds nothing
  pub serves-counted :
      served
      (made_serve (refused 9) one ∷ made_serve (ok both_empty) one ∷ made_put 0 one (ok 1)
      ∷ made_serve (ok (frame_from chassis 2)) three ∷ [])
      ≡ none ∷ some (record { queue = chassis; frame = 9 ∷ 9 ∷ [] }) ∷ []
  pub puts-counted :
      added chassis (made_put 0 one (ok 1) ∷ made_put 1 two (ok 2) ∷ made_put 0 three (refused 23) ∷ made_put 0 two (ok 2) ∷ [])
      ≡ one ∷ two ∷ []

-- ---- whole buffers

-- A buffer with these bytes at its start, zero after them.
abbrev pub from : (bytes : List ℕ) → List ℕ
from bytes = written_over bytes fresh_queues

-- n lengths of 1.
abbrev pub ones : ℕ → List ℕ
ones zero = []
ones (suc n) = 0 ∷ 1 ∷ ones n

-- Queue 0 holds n frames of one byte each.
abbrev pub holding : ℕ → List ℕ
holding n = from (0 ∷ n ∷ ones n)

-- A buffer, a queue and a frame, and the answer of a put.
abbrev pub put_rows : List (List ℕ × ℕ × List ℕ × Result ℕ)
put_rows =
    (fresh_queues, 1, [], refused 1) ∷ (holding 16, 0, replicate 1025 7, refused 22) ∷ (holding 16, 0, one, refused 23) ∷
    (holding 16, 1, one, ok 1) ∷ (holding 15, 0, one, ok 1) ∷ (fresh_queues, 0, replicate 1024 7, ok 1024) ∷ []

-- A buffer and an output, and the answer of a serve.
abbrev pub serve_rows : List (List ℕ × List ℕ × Result Served)
serve_rows =
    -- 10: a byte too many, mark, count, lengths, the second queue's count
    (0 ∷ fresh_queues, [], refused 10) ∷ (from (3 ∷ []), [], refused 10) ∷ (holding 17, [], refused 10) ∷
    (from (0 ∷ 1 ∷ []), [], refused 10) ∷ (from (0 ∷ 1 ∷ 4 ∷ 1 ∷ []), [], refused 10) ∷
    (from (replicate 16418 0 ++ (17 ∷ [])), [], refused 10) ∷
    -- just enough output and 9; both empty with and without a mark; the second queue's frame
    (from (0 ∷ 1 ∷ 4 ∷ 0 ∷ []), replicate 1024 0, ok (frame_from chassis 1024)) ∷
    (from (0 ∷ 1 ∷ 4 ∷ 0 ∷ []), replicate 1023 0, refused 9) ∷
    (fresh_queues, [], ok both_empty) ∷ (from (2 ∷ []), [], ok both_empty) ∷
    (from (replicate 16418 0 ++ (1 ∷ 0 ∷ 2 ∷ [])), three, ok (frame_from fixed_unit 2)) ∷ []

-- And whole buffers.
pub record QueueRows : Type 0 where
  pub answers : QueueAnswers
  pub puts : map (λ r. (put r.0 r.1 r.2).answer) put_rows ≡ map (λ r. r.3) put_rows
  pub serves : map (λ r. (serve r.0 r.1).answer) serve_rows ≡ map (λ r. r.2) serve_rows
  pub one-put : (put fresh_queues 1 two).queues ≡ from (replicate 16418 0 ++ (1 ∷ 0 ∷ 2 ∷ (replicate 30 0 ++ two)))
