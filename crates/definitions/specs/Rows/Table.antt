-- Request 6 of document 02 by computation: tables of small frames, what load and merge leave in a table, and what extract takes.
use Rattle.std.specs.Prelude.{ℕ, ◌≡◌, List, [], ◌∷◌, ◌++◌, length, replicate}
use Rattle.definitions.specs.Words.Basics.{Result, ok, refused, ascii}
use Rattle.definitions.specs.Words.Expression.{literal, binary, call, other, nil, cons, Frame}
use Rattle.definitions.specs.Bytes.Encode.{frame_bytes}
use Rattle.definitions.specs.Bytes.NodeTable.{NodeRecord, node_table, blank}
use Rattle.definitions.specs.Calls.Base.{LoadOutcome, load, Outcome, extract}
use Rattle.definitions.specs.Rows.Ten.{worked_frame}
use Rattle.definitions.specs.Rows.Refusals.{matching_frame, matching_bytes}
use Rattle.definitions.specs.Rows.Merge.{small, into_table}

-- A record of a table.
abbrev pub entry : (kind start end : ℕ) → NodeRecord
entry kind start end = record { kind = kind; start = start; end = end }

-- A node with two children, the second without any.
abbrev pub parents : Frame
parents = record { records = []; expr = other 7 (cons (call (ascii "f") (cons (literal 0 0) nil)) (cons (other 8 nil) nil)) }

-- A load of `parents`, 25 bytes and 4 nodes, with so many bytes of plan buffer and records of table.
abbrev pub parents_in : (room places : ℕ) → LoadOutcome
parents_in room places = load (frame_bytes parents) 0 (replicate room 9) (replicate places blank)

-- The answer of an extract from `matching_bytes` with this table.
abbrev pub extract_beside : (table : List NodeRecord) → Result ℕ
extract_beside table = (extract (length matching_bytes) matching_bytes (replicate 64 0) table).answer

-- That of a second one, with this table.
abbrev pub second_beside : (table : List NodeRecord) → Result ℕ
second_beside table =
    let o : Outcome = extract (length matching_bytes) matching_bytes (replicate 64 0) (node_table matching_frame) in
    (extract o.n o.buffer [] table).answer

pub record TableRows : Type 0 where
  -- the worked run's filter: And, st_within and its two columns, a column; 42 bytes
  pub worked : node_table worked_frame ≡ entry 2 13 42 ∷ entry 3 15 37 ∷ entry 0 27 32 ∷ entry 0 32 37 ∷ entry 0 37 42 ∷ []
  -- a child's children before the next child
  pub prefix-order : node_table parents ≡ entry 4 3 25 ∷ entry 3 7 21 ∷ entry 1 11 21 ∷ entry 4 21 25 ∷ []
  -- a binary node that is no And
  pub binary-node : node_table (record { records = []; expr = binary 5 (other 0 nil) (literal 0 0) })
      ≡ entry 2 3 19 ∷ entry 4 5 9 ∷ entry 1 9 19 ∷ []
  -- a load fills the table and keeps the records past the frame's; 17 where it is shorter, after 9; a refusal changes none
  pub loaded : (parents_in 25 6).table ≡ node_table parents ++ (blank ∷ blank ∷ [])
  pub just_enough : (parents_in 25 4).answer ≡ ok 25
  pub short-table : parents_in 25 3 ≡ record { answer = refused 17; n = 0; buffer = replicate 25 9; table = replicate 3 blank }
  pub buffer-first : (parents_in 24 3).answer ≡ refused 9
  -- so does a merge, here of two frames of a node each
  pub merge-enough : (into_table small (frame_bytes small) 13 7 3).answer ≡ ok 13
  pub merge-short : (into_table small (frame_bytes small) 13 7 2).answer ≡ refused 17
  pub merge-kept : (into_table small (frame_bytes small) 13 7 2).table ≡ replicate 2 blank
  pub merge-buffer-first : (into_table small (frame_bytes small) 12 7 2).answer ≡ refused 9
  -- extract takes a table that begins with the frame's records, 10 for any other, before 9
  pub fitting : extract_beside (node_table matching_frame ++ (blank ∷ [])) ≡ ok 15
  pub too_short : extract_beside (entry 3 13 35 ∷ entry 0 25 30 ∷ []) ≡ refused 10
  pub other-kind : extract_beside (entry 3 13 35 ∷ entry 1 25 30 ∷ entry 0 30 35 ∷ []) ≡ refused 10
  pub other-start : extract_beside (entry 3 13 35 ∷ entry 0 25 30 ∷ entry 0 29 35 ∷ []) ≡ refused 10
  pub other-end : extract_beside (entry 3 13 35 ∷ entry 0 25 30 ∷ entry 0 30 34 ∷ []) ≡ refused 10
  pub before-9 : (extract (length matching_bytes) matching_bytes [] []).answer ≡ refused 10
  -- with an extraction held it is 12 whatever the table, with nothing 11
  pub second : second_beside (node_table matching_frame) ≡ refused 12
  pub second-without : second_beside [] ≡ refused 12
  pub nothing-held : (extract 0 [] [] []).answer ≡ refused 11
