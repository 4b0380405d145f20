-- Request 8 of document 02 by computation: which distances match, by the columns of their bound.
use Rattle.std.specs.Prelude.{ℕ, ◌≡◌, List, [], ◌∷◌, map, replicate}
use Rattle.std.proofs.Math.Option.{Option, none, some}
use Rattle.definitions.specs.Words.Basics.{ok, ascii}
use Rattle.definitions.specs.Words.Expression.{Side, left, right, no_side, Expr, column, literal, binary, call, other, cons, nil, Record, Frame, Predicate, distance, Extraction}
use Rattle.definitions.specs.Bytes.Encode.{extraction_bytes}
use Rattle.definitions.specs.Filter.Extract.{matches_of}
use Rattle.definitions.specs.Filter.Merge.{merge_frames}
use Rattle.definitions.specs.Calls.Base.{exchange}
use Rattle.definitions.specs.Calls.Project.{project}
use Rattle.definitions.specs.Claims.Values.{marked_frame}

-- A record of this side and child index.
abbrev pub on : Side → (child : ℕ) → Record
on side child = record { side = side; child = child; tag = 0 }

-- A left column, a right one and two mark columns, with child indexes 5, 0, 9 and 8.
abbrev pub with_marks : Expr → Frame
with_marks e = record { records = on left 5 ∷ on right 0 ∷ on no_side 9 ∷ on no_side 8 ∷ []; expr = e }

-- `st_dwithin` of the left and the right column with this bound.
abbrev pub near_bound : (bound : Expr) → Frame
near_bound bound = with_marks (call (ascii "st_dwithin") (cons (column 0 0) (cons (column 1 0) (cons bound nil))))

-- `st_distance` of both, compared with this bound by Lt.
abbrev pub below : (bound : Expr) → Frame
below bound = with_marks (binary 1 (call (ascii "st_distance") (cons (column 0 0) (cons (column 1 0) nil))) bound)

-- A bound of two columns.
abbrev pub both : (one two : ℕ) → Expr
both one two = binary 5 (column one 0) (column two 0)

-- The match of `near_bound`: a distance of this side with this bound.
abbrev pub within_bound : Side → (bound : Expr) → List (Option Predicate)
within_bound side bound = some (distance 0 side (column 5 0) (column 0 0) bound) ∷ []

-- A held distance of side none whose bound has a column.
abbrev pub held_mark : Extraction
held_mark = record { position = 0; predicate = distance 0 no_side (column 5 0) (column 0 0) (column 2 0); remainder = none }

pub record BoundRows : Type 0 where
  -- a bound of left or of right columns is put on its child, one without columns is copied
  pub of-left : matches_of (near_bound (column 0 0)) ≡ within_bound left (column 5 0)
  pub of-right : matches_of (near_bound (both 1 1)) ≡ within_bound right (both 0 0)
  pub of_none : matches_of (near_bound (literal 3 7)) ≡ within_bound no_side (literal 3 7)
  pub of-call : matches_of (near_bound (call (ascii "f") nil)) ≡ within_bound no_side (call (ascii "f") nil)
  -- one of mark columns does not match, nor one of columns that differ
  pub of-mark : matches_of (near_bound (column 2 0)) ≡ none ∷ []
  pub of-marks : map (λ bound. matches_of (near_bound bound)) (both 2 2 ∷ both 2 3 ∷ []) ≡ (none ∷ []) ∷ (none ∷ []) ∷ []
  pub of-two : map (λ bound. matches_of (near_bound bound)) (both 0 2 ∷ both 2 1 ∷ both 0 1 ∷ [])
      ≡ (none ∷ []) ∷ (none ∷ []) ∷ (none ∷ []) ∷ []
  -- a comparison likewise
  pub compared : matches_of (below (column 3 0)) ≡ none ∷ []
  pub compared-none : matches_of (below (other 7 nil))
      ≡ some (distance 1 no_side (column 5 0) (column 0 0) (other 7 nil)) ∷ []
  -- merged or not
  pub merged : matches_of (merge_frames (with_marks (other 0 nil)) marked_frame) ≡ none ∷ none ∷ []
  -- a held distance of side none with a column is a plan, and exchange and projection copy its bound
  pub held-plan : (exchange 21 (extraction_bytes held_mark) (replicate 21 0)).answer ≡ ok 21
  pub held-copied : (exchange 21 (extraction_bytes held_mark) (replicate 21 0)).buffer
      ≡ extraction_bytes (record {
        position = 0;
        predicate = distance 0 no_side (column 0 0) (column 5 0) (column 2 0);
        remainder = none;
      })
  pub held-projected : (project 21 (extraction_bytes held_mark) (replicate 21 0) (7 ∷ 5 ∷ []) (0 ∷ [])).buffer
      ≡ extraction_bytes (record {
        position = 0;
        predicate = distance 0 no_side (column 1 0) (column 0 0) (column 2 0);
        remainder = none;
      })
