-- Whole frames, extractions and held plans: what a list of bytes is, or its first refusal.
use Rattle.std.specs.Prelude.{ℕ, List, [], ◌∷◌, eqb, if◌then◌else◌}
use Rattle.definitions.specs.Words.Basics.{Result, ok, map_result}
use Rattle.definitions.specs.Words.Expression.{Expr, Frame, Extraction, Plan, empty, held, extracted}
use Rattle.definitions.specs.Words.Leaves.{arity}
use Rattle.definitions.specs.Bytes.Readers.{Reader, ◌>>=◌, ◌>>◌, give, require, byte, require_length, at_end, result_of}
use Rattle.definitions.specs.Bytes.Decode.{frame_body, extraction_body, expression, fields}

-- A physical frame: 1, 2, the first of 3 to 6, 7, 8.
unfoldable pub physical_frame : Reader Frame
physical_frame = do
  require_length
  first ← byte
  require 2 (eqb first 1)
  F ← frame_body
  at_end
  require 8 (arity F.expr)
  give F

-- A logical frame: 1, 2, the first of 3 to 5, 7.
unfoldable pub logical_frame : Reader Expr
logical_frame = do
  require_length
  first ← byte
  require 2 (eqb first 2)
  e ← expression fields
  at_end
  give e

-- An extraction, good under the same limits.
unfoldable pub whole_extraction : Reader Extraction
whole_extraction = do
  require_length
  first ← byte
  X ← extraction_body first
  at_end
  give X

-- The physical frame that bytes are.
unfoldable pub frame_of : List ℕ → Result Frame
frame_of bytes = result_of (physical_frame 0 bytes)

-- The expression of the logical frame that bytes are.
unfoldable pub logical_of : List ℕ → Result Expr
logical_of bytes = result_of (logical_frame 0 bytes)

-- The extraction that bytes are.
unfoldable pub extraction_of : List ℕ → Result Extraction
extraction_of bytes = result_of (whole_extraction 0 bytes)

-- The plan that bytes of this first byte are.
unfoldable pub plan_of_kind : (first : ℕ) → List ℕ → Result Plan
plan_of_kind first bytes = if eqb first 1 then map_result held (frame_of bytes) else map_result extracted (extraction_of bytes)

-- The plan that held bytes are: empty, a good physical frame or a good extraction.
unfoldable pub plan_of : List ℕ → Result Plan
plan_of [] = ok empty
plan_of (first ∷ rest) = plan_of_kind first (first ∷ rest)
