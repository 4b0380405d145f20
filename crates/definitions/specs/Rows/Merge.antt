-- Request 2 of document 02 by computation: merged frames, the refusals of merge in their order, both sides of each limit.
use Rattle.std.specs.Prelude.{ℕ, zero, suc, ◌≡◌, true, false, List, [], ◌∷◌, ◌++◌, length, take, replicate}
use Rattle.definitions.specs.Words.Basics.{Result, ok, refused, ascii}
use Rattle.definitions.specs.Words.Expression.{left, Expr, column, and, call, other, Exprs, nil, cons, Frame}
use Rattle.definitions.specs.Bytes.Encode.{frame_bytes}
use Rattle.definitions.specs.Bytes.NodeTable.{node_table, blank}
use Rattle.definitions.specs.Filter.Merge.{merge_frames, over_limits}
use Rattle.definitions.specs.Calls.Base.{Outcome, extract}
use Rattle.definitions.specs.Calls.Merge.{MergeOutcome, merge}
use Rattle.definitions.specs.Rows.Refusals.{ands, tree, over, matching_frame, matching_bytes}

-- A frame over so many equal records.
abbrev pub frame_over : (records : ℕ) → Expr → Frame
frame_over records e = record { records = replicate records (record { side = left; child = 0; tag = 0 }); expr = e }

-- A frame of 7 bytes.
abbrev pub small : Frame
small = frame_over 0 (other 12 nil)

-- n calls, each with a name of 32 bytes.
abbrev pub named_calls : ℕ → Exprs
named_calls zero = nil
named_calls (suc n) = cons (call (replicate 32 97) nil) (named_calls n)

-- n nodes with 16 such calls each, and then others.
abbrev pub groups : (others : Exprs) → ℕ → Exprs
groups others zero = others
groups others (suc n) = cons (other 0 (named_calls 16)) (groups others n)

-- A frame of 7,903 bytes.
abbrev pub large : Frame
large = frame_over 0 (other 0 (groups nil 14))

-- One of 8,470 bytes and a name of this length.
abbrev pub larger : (name : ℕ) → Frame
larger name = frame_over 0 (other 0 (groups (cons (call (replicate name 97) nil) nil) 15))

-- A merge into a plan buffer of `room` bytes that starts with a frame, with so many bytes of scratch and a table of `places` records.
abbrev pub into_table : Frame → (new : List ℕ) → (room scratch places : ℕ) → MergeOutcome
into_table old new room scratch places =
    merge new (length (frame_bytes old)) (take room (frame_bytes old ++ replicate room 9)) (replicate scratch 7) (replicate places blank)

-- With a table that has room.
abbrev pub into : Frame → (new : List ℕ) → (room scratch : ℕ) → MergeOutcome
into old new room scratch = into_table old new room scratch 1024

-- Its answer.
abbrev pub answer_into : (old new : Frame) → (room scratch : ℕ) → Result ℕ
answer_into old new room scratch = (into old (frame_bytes new) room scratch).answer

-- A merge into the extraction of `matching_bytes`, without scratch.
abbrev pub into_extraction : MergeOutcome
into_extraction =
    let o : Outcome = extract (length matching_bytes) matching_bytes (replicate 64 0) (node_table matching_frame) in
    merge (frame_bytes small) o.n o.buffer [] []

-- Merged frames, the refusals in their order, and one over each limit.
pub record MergeAnswers : Type 0 where
  -- the held filter on the left, three equal records kept, column 1 of the new filter raised by one held record
  pub merged : merge_frames (frame_over 1 (column 0 7)) (frame_over 2 (column 1 8)) ≡ frame_over 3 (and (column 0 7) (column 2 8))
  -- the old plan in the scratch, the merged frame's three records in the table; bytes and records after them kept
  pub written :
      into_table small (frame_bytes small) 16 9 5
      ≡ record {
        answer = ok 13;
        n = 13;
        buffer = frame_bytes (frame_over 0 (and (other 12 nil) (other 12 nil))) ++ (9 ∷ 9 ∷ 9 ∷ []);
        scratch = frame_bytes small ++ (7 ∷ 7 ∷ []);
        table = node_table (frame_over 0 (and (other 12 nil) (other 12 nil))) ++ (blank ∷ blank ∷ []);
      }
  -- 1 to 8 of the new frame before 10; 11 with nothing held, 12 with an extraction, before 9
  pub bad-first : (merge (2 ∷ []) 5 [] [] []).answer ≡ refused 2
  pub bad-arity : (merge (frame_bytes (frame_over 0 (call (ascii "st_within") nil))) 5 [] [] []).answer ≡ refused 8
  pub bad-plan : (merge (frame_bytes small) 5 [] [] []).answer ≡ refused 10
  pub no-plan : (merge (frame_bytes small) 0 [] [] []).answer ≡ refused 11
  pub held-extraction : into_extraction.answer ≡ refused 12
  -- 9 for a scratch or a plan buffer that is a byte short; both just long enough
  pub short-scratch : answer_into small small 13 6 ≡ refused 9
  pub short-buffer : answer_into small small 12 7 ≡ refused 9
  pub just_enough : answer_into small small 13 7 ≡ ok 13
  -- 257 records, 16 before 9; depth 65; 1,025 nodes; 16,385 bytes
  pub records-over : answer_into (frame_over 200 (other 0 nil)) (frame_over 57 (other 0 nil)) 1293 0 ≡ refused 16
  pub depth-over : answer_into small (frame_over 0 (ands 63)) 1000 7 ≡ refused 16
  pub nodes-over : over_limits (merge_frames (frame_over 0 (tree 9)) (frame_over 0 (other 0 nil))) ≡ true
  pub bytes-over : over_limits (merge_frames large (larger 13)) ≡ true

-- Merges that come up to each limit: 256 records, depth 64, 1,024 nodes, 16,384 bytes.
pub record MergeLimits : Type 0 where
  pub records-within : answer_into (frame_over 200 (other 0 nil)) (frame_over 56 (other 0 nil)) 1293 1008 ≡ ok 1293
  pub depth-within : answer_into small (frame_over 0 (ands 62)) 1000 7 ≡ ok 763
  pub nodes-within : over_limits (merge_frames (frame_over 0 (over (tree 8))) (frame_over 0 (tree 8))) ≡ false
  pub bytes-at : length (frame_bytes (merge_frames large (larger 12))) ≡ 16384
  pub bytes-within : over_limits (merge_frames large (larger 12)) ≡ false

-- Both.
pub record MergeRows : Type 0 where
  pub answers : MergeAnswers
  pub limits : MergeLimits
