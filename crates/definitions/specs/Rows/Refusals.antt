-- Small inputs for each refusal, which of two comes first, and accepted ones.
use Rattle.std.specs.Prelude.{ℕ, zero, suc, ◌≡◌, List, [], ◌∷◌, ◌++◌, map, replicate}
use Rattle.definitions.specs.Words.Basics.{Result, ok, refused, ascii, map_result}
use Rattle.definitions.specs.Words.Expression.{left, right, Expr, column, literal, and, binary, call, other, field, nil, cons, Frame}
use Rattle.definitions.specs.Bytes.Encode.{frame_bytes, expr_bytes}
use Rattle.definitions.specs.Bytes.NodeTable.{blank}
use Rattle.definitions.specs.Calls.Base.{LoadOutcome, load}
use Rattle.definitions.specs.Calls.Logical.{logical, logical_bytes}
use Rattle.definitions.specs.Lists.Sessions.{Made, extract_with, exchange_with, calls_run}
use Rattle.definitions.specs.Lists.Program.{line_outcome, fresh_plan, output}

-- Inputs, each with its answer.
abbrev pub Rows : Type 0 → Type 0
Rows A = List (List ℕ × Result A)

-- Each input has its answer.
abbrev pub EachGiven : {A : Type 0} → (List ℕ → Result A) → Rows A → Type 0
EachGiven f rows = map (λ r. f r.0) rows ≡ map (λ r. r.1) rows

-- ---- physical frames

-- A frame without records.
abbrev pub frame : Expr → List ℕ
frame e = frame_bytes (record { records = []; expr = e })

-- The bytes of a frame without records up to its expression.
abbrev pub opening : List ℕ → List ℕ
opening bytes = 1 ∷ 0 ∷ 0 ∷ bytes

-- n And nodes, one in the other.
abbrev pub ands : ℕ → Expr
ands zero = literal 0 0
ands (suc n) = and (literal 0 0) (ands n)

-- Their bytes, the last right child not yet written.
abbrev pub open_ands : ℕ → List ℕ
open_ands zero = []
open_ands (suc n) = 2 ∷ 0 ∷ (expr_bytes (literal 0 0) ++ open_ands n)

-- A full tree of And nodes, n levels above its leaves.
abbrev pub tree : ℕ → Expr
tree zero = other 0 nil
tree (suc n) = and (tree n) (tree n)

-- A node with one child.
abbrev pub over : Expr → Expr
over e = other 0 (cons e nil)

-- The answer of a load into a buffer and a table that have room.
abbrev pub loads : List ℕ → Result ℕ
loads bytes = (load bytes 0 (replicate 16384 0) (replicate 1024 blank)).answer

-- Physical frames with their answers.
abbrev pub physical_rows : Rows ℕ
physical_rows =
    -- 1 and 2, by length
    ([], refused 1) ∷ (2 ∷ replicate 16384 0, refused 1) ∷ (2 ∷ replicate 16383 0, refused 2) ∷
    -- records: their count, a side before what is missing, a child index
    (1 ∷ 1 ∷ [], refused 3) ∷ (1 ∷ 1 ∷ 1 ∷ [], refused 4) ∷ (1 ∷ 1 ∷ 0 ∷ [], refused 3) ∷
    (1 ∷ 0 ∷ 1 ∷ 3 ∷ [], refused 4) ∷ (1 ∷ 0 ∷ 1 ∷ 2 ∷ 0 ∷ [], refused 3) ∷
    -- a kind; a column
    (opening [], refused 3) ∷ (frame (field 1 1), refused 4) ∷
    (opening (0 ∷ 0 ∷ 0 ∷ 0 ∷ []), refused 3) ∷ (frame (column 0 0), refused 6) ∷
    -- literals: type, Boolean, Int32, UInt32
    (opening (1 ∷ 7 ∷ []), refused 4) ∷ (opening (1 ∷ 1 ∷ replicate 7 255), refused 3) ∷ (opening (1 ∷ 1 ∷ replicate 8 255), refused 4) ∷
    (frame (literal 2 2147483648), refused 4) ∷ (frame (literal 2 18446744071562067968), ok 13) ∷
    (frame (literal 4 4294967296), refused 4) ∷
    -- an operator, a name's length, its bytes, a count of children
    (opening (2 ∷ 64 ∷ []), refused 4) ∷ (opening (3 ∷ 0 ∷ []), refused 4) ∷ (opening (3 ∷ 2 ∷ 32 ∷ []), refused 4) ∷
    (opening (3 ∷ 2 ∷ 97 ∷ []), refused 3) ∷ (opening (4 ∷ 0 ∷ 0 ∷ 17 ∷ []), refused 4) ∷
    -- depth 64 and 65, after 3 and 4; 1,024 and 1,025 nodes
    (frame (ands 63), ok 769) ∷ (frame (ands 64), refused 5) ∷
    (opening (open_ands 63 ++ (2 ∷ 0 ∷ [])), refused 3) ∷ (opening (open_ands 63 ++ (2 ∷ 0 ∷ 6 ∷ [])), refused 4) ∷
    (frame (over (tree 9)), ok 3077) ∷ (frame (over (over (tree 9))), refused 5) ∷
    -- 7 before 8; arity of a relation, of `st_dwithin`, of the side of a comparison that is read; not of the other, nor below a leaf
    (frame (call (ascii "st_within") nil) ++ (0 ∷ []), refused 7) ∷ (frame (call (ascii "st_within") (cons (literal 0 0) nil)), refused 8) ∷
    (frame (call (ascii "st_dwithin") (cons (literal 0 0) (cons (literal 0 0) nil))), refused 8) ∷
    (frame (binary 4 (literal 0 0) (call (ascii "st_distance") nil)), refused 8) ∷
    (frame (binary 4 (call (ascii "st_distance") nil) (literal 0 0)), ok 29) ∷ (frame (over (call (ascii "st_within") nil)), ok 19) ∷
    []

-- ---- logical frames

-- Logical frames with their answers.
abbrev pub logical_rows : Rows (List ℕ)
logical_rows =
    ([], refused 1) ∷ (frame (literal 0 0), refused 2) ∷ (2 ∷ [], refused 3) ∷ (2 ∷ 0 ∷ [], refused 4) ∷ (2 ∷ 5 ∷ 4 ∷ [], refused 4) ∷
    (2 ∷ expr_bytes (ands 64), refused 5) ∷ (2 ∷ (expr_bytes (literal 0 0) ++ (0 ∷ [])), refused 7) ∷
    -- arity is not asked
    (2 ∷ expr_bytes (call (ascii "ST_Within") nil), ok (0 ∷ 4 ∷ 1 ∷ 2 ∷ [])) ∷
    []

-- ---- calls

-- An extract with so many bytes of scratch.
abbrev pub extract_in : ℕ → Made
extract_in room = extract_with (replicate room 0)

-- An exchange with so many.
abbrev pub exchange_in : ℕ → Made
exchange_in room = exchange_with (replicate room 0)

-- `st_within` of a left and a right column: 35 bytes, its extraction 15.
abbrev pub matching_frame : Frame
matching_frame = record {
  records = record { side = left; child = 0; tag = 0 } ∷ record { side = right; child = 0; tag = 0 } ∷ [];
  expr = call (ascii "st_within") (cons (column 0 0) (cons (column 1 0) nil));
}

-- Its bytes.
abbrev pub matching_bytes : List ℕ
matching_bytes = frame_bytes matching_frame

-- The answers of calls after a frame was loaded into a buffer of 64 bytes and a table of 3 records.
abbrev pub calls_loaded : (frame : List ℕ) → List Made → List (Result ℕ)
calls_loaded frame calls =
    let o : LoadOutcome = load frame 0 (replicate 64 0) (replicate 3 blank) in
    (calls_run o.n o.buffer o.table calls).answers

-- ---- lines

-- Lines as an input or an output.
abbrev pub lines : List (List ℕ) → List ℕ
lines [] = []
lines (l ∷ ls) = l ++ (10 ∷ lines ls)

-- Each refusal, which of two comes first, and inputs that are accepted.
pub record RefusalTable : Type 0 where
  pub physical : EachGiven loads physical_rows
  pub buffer : (load (frame (literal 0 0)) 0 (replicate 12 0) (blank ∷ [])).answer ≡ refused 9
  pub arity-before-buffer : (load (frame (call (ascii "st_within") nil)) 0 [] []).answer ≡ refused 8
  pub logical : EachGiven (λ bytes. map_result logical_bytes (logical bytes)) logical_rows
  -- n over the buffer's length, and bytes that are no plan
  pub bad-plan : (calls_run 14 (frame (literal 0 0)) [] (extract_in 64 ∷ exchange_in 64 ∷ [])).answers ≡ refused 10 ∷ refused 10 ∷ []
  pub other-bytes : (calls_run 12 (frame (literal 0 0)) [] (extract_in 64 ∷ exchange_in 64 ∷ [])).answers ≡ refused 10 ∷ refused 10 ∷ []
  pub no-plan : (calls_run 0 (frame (literal 0 0)) [] (extract_in 64 ∷ exchange_in 64 ∷ [])).answers ≡ refused 11 ∷ refused 11 ∷ []
  -- a scratch that is too short and one that is not, for each call; a second extract, whatever its scratch
  pub calls :
      calls_loaded matching_bytes
      (extract_in 34 ∷ exchange_in 34 ∷ exchange_in 35 ∷ extract_in 35 ∷ extract_in 0 ∷ exchange_in 14 ∷ exchange_in 15 ∷ [])
      ≡ refused 9 ∷ refused 9 ∷ ok 35 ∷ ok 15 ∷ refused 12 ∷ refused 9 ∷ ok 15 ∷ []
  pub no-match : calls_loaded (frame (literal 0 0)) (extract_in 12 ∷ extract_in 13 ∷ []) ≡ refused 9 ∷ refused 13 ∷ []
  pub long-line : (line_outcome (replicate 32770 48) fresh_plan).answer ≡ refused 14
  pub program : output (lines (ascii "0" ∷ ascii "0A" ∷ [] ∷ ascii "03" ∷ ascii "2100" ∷ ascii "21" ∷ ascii "0205" ∷ []))
      ≡ lines (ascii "0e" ∷ ascii "0e" ∷ ascii "01" ∷ ascii "02" ∷ ascii "07" ∷ ascii "0b" ∷ ascii "03" ∷ [])
