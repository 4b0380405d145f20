-- Request 4 of document 02 by computation: the position of the leaf that was taken, in an extraction's bytes.
use Rattle.std.specs.Prelude.{ℕ, ◌≡◌, List, [], ◌∷◌, length, take, replicate}
use Rattle.std.proofs.Math.Option.{none, some, map}
use Rattle.definitions.specs.Words.Basics.{Result, ok, ascii, map_result}
use Rattle.definitions.specs.Words.Expression.{within, contains, and, binary, call, Frame, relation, Extraction, extracted}
use Rattle.definitions.specs.Bytes.Encode.{frame_bytes, extraction_bytes}
use Rattle.definitions.specs.Bytes.Plans.{plan_of}
use Rattle.definitions.specs.Filter.Extract.{extraction}
use Rattle.definitions.specs.Calls.Base.{exchange}
use Rattle.definitions.specs.Rows.Ten.{plan_or_refusal, extract_after, exchange_after, extract_of, worked_frame, L, R, on_both, pair}
use Rattle.definitions.specs.Rows.Refusals.{tree}

-- First byte and position of a plan.
abbrev pub first_three : Result (List ℕ) → Result (List ℕ)
first_three plan = map_result (take 3) plan

-- A relation and then a KNN, which is taken.
abbrev pub knn_second : Frame
knn_second = on_both (and (call (ascii "st_intersects") (pair L R)) (call (ascii "st_knn") (pair L R)))

-- A KNN of two arguments beside a leaf that keeps both records.
abbrev pub tight_frame : Frame
tight_frame = on_both (and (call (ascii "st_knn") (pair L R)) (binary 5 L R))

-- 256 leaves that do not match, and then one that does.
abbrev pub many_leaves : Frame
many_leaves = on_both (and (tree 8) (call (ascii "st_within") (pair L R)))

-- A relation without remainder, at this position of whatever frame.
abbrev pub placed_at : (position : ℕ) → Extraction
placed_at position = record { position = position; predicate = relation within L R; remainder = none }

-- The same exchanged.
abbrev pub placed_exchanged : (position : ℕ) → Extraction
placed_exchanged position = record { position = position; predicate = relation contains R L; remainder = none }

pub record PositionRows : Type 0 where
  -- from 0, after the first byte; exchange keeps it
  pub first : first_three (extract_of worked_frame) ≡ ok (0x11 ∷ 0 ∷ 0 ∷ [])
  pub second : first_three (extract_of knn_second) ≡ ok (0x13 ∷ 0 ∷ 1 ∷ [])
  pub second-exchanged : first_three (plan_or_refusal (exchange_after (extract_after (frame_bytes knn_second)))) ≡ ok (0x13 ∷ 0 ∷ 1 ∷ [])
  -- the high byte first, written and read
  pub high-first : map (λ X. take 3 (extraction_bytes X)) (extraction many_leaves) ≡ some (0x11 ∷ 1 ∷ 0 ∷ [])
  pub read_back : plan_of (0x11 ∷ 1 ∷ 2 ∷ 2 ∷ 0 ∷ 0 ∷ 0 ∷ 0 ∷ 7 ∷ 0 ∷ 0 ∷ 1 ∷ 0 ∷ 8 ∷ 0 ∷ []) ≡ ok (extracted (placed_at 258))
  -- a held one of any value is good, and exchange keeps it
  pub any_held : plan_or_refusal (exchange 15 (extraction_bytes (placed_at 65535)) (replicate 15 0))
      ≡ ok (extraction_bytes (placed_exchanged 65535))
  -- the tight frame: its extraction is one byte shorter
  pub tight-frame : length (frame_bytes tight_frame) ≡ 46
  pub tight-extraction : map_result length (extract_of tight_frame) ≡ ok 45
