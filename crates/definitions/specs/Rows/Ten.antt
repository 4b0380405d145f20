-- 01's worked run and its ten rows, the extractions with the position that request 4 adds, row 4 as request 5 has it.
use Rattle.std.specs.Prelude.{ℕ, ◌≤◌, ◌≡◌, List, [], ◌∷◌, ◌++◌, take, replicate}
use Rattle.std.proofs.Math.Option.{none, some}
use Rattle.definitions.specs.Words.Basics.{Result, ok, refused, ascii, map_result}
use Rattle.definitions.specs.Words.Expression.{Side, left, right, intersects, contains, within, Expr, column, literal, and, binary, call, field, Exprs, nil, cons, Record, Frame, Predicate, relation, knn}
use Rattle.definitions.specs.Bytes.Encode.{frame_bytes, extraction_bytes, expr_bytes}
use Rattle.definitions.specs.Bytes.NodeTable.{blank}
use Rattle.definitions.specs.Filter.Extract.{extraction}
use Rattle.definitions.specs.Calls.Base.{LoadOutcome, Outcome, load, extract, exchange}
use Rattle.definitions.specs.Calls.Logical.{logical, logical_bytes}
use Rattle.definitions.specs.Lists.Program.{output}

-- The worked run in 01's own characters: its input.
abbrev pub worked_input : List ℕ
worked_input =
    ascii "010002010003000700000000080200030973745f77697468696e02000000000700000100080000010008" ++
    (10 ∷ (ascii "21" ++ (10 ∷ (ascii "22" ++ (10 ∷ (ascii "21" ++ (10 ∷ [])))))))

-- Its output.
abbrev pub worked_output : List ℕ
worked_output =
    ascii "00010002010003000700000000080200030973745f77697468696e02000000000700000100080000010008" ++
    (10 ∷ (ascii "00110000010000000008000003000701000100000000080000000008" ++
    (10 ∷ (ascii "00110000020000030007000000000801000101000000080000000008" ++ (10 ∷ (ascii "0c" ++ (10 ∷ [])))))))

-- ---- rows

-- What a call leaves as plan, or its refusal.
abbrev pub plan_or_refusal : Outcome → Result (List ℕ)
plan_or_refusal o = map_result (λ n. take n o.buffer) o.answer

-- Load a frame into a buffer of 256 bytes and a table of 32 records, then extract.
abbrev pub extract_after : List ℕ → Outcome
extract_after frame =
    let loaded : LoadOutcome = load frame 0 (replicate 256 0xff) (replicate 32 blank) in
    extract loaded.n loaded.buffer (replicate 256 0xee) loaded.table

-- Then exchange.
abbrev pub exchange_after : Outcome → Outcome
exchange_after o = exchange o.n o.buffer (replicate 256 0xee)

-- The plan of a frame loaded and extracted, or the refusal.
abbrev pub extract_of : Frame → Result (List ℕ)
extract_of F = plan_or_refusal (extract_after (frame_bytes F))

-- The worked run's frame: two records, `st_within(column 0, column 1) AND column 1`.
abbrev pub worked_frame : Frame
worked_frame = record {
  records = record { side = right; child = 3; tag = 7 } ∷ record { side = left; child = 0; tag = 8 } ∷ [];
  expr = and (call (ascii "st_within") (cons (column 0 7) (cons (column 1 8) nil))) (column 1 8);
}

-- What is left of it, its column on this side.
abbrev pub worked_rest : Side → Frame
worked_rest side = record { records = record { side = side; child = 0; tag = 8 } ∷ []; expr = column 0 8 }

-- A left column; its record is the first of two.
abbrev pub L : Expr
L = column 0 7

-- A right column; its record is the second.
abbrev pub R : Expr
R = column 1 8

-- A frame over these two columns.
abbrev pub on_both : Expr → Frame
on_both e = record {
  records = record { side = left; child = 3; tag = 7 } ∷ record { side = right; child = 4; tag = 8 } ∷ [];
  expr = e;
}

-- The left column in a predicate: its child index.
abbrev pub child_l : Expr
child_l = column 3 7

-- The right column in a predicate.
abbrev pub child_r : Expr
child_r = column 4 8

-- Two arguments.
abbrev pub pair : Expr → Expr → Exprs
pair a b = cons a (cons b nil)

-- `st_knn` of both columns and this k.
abbrev pub knn_of : Expr → Expr
knn_of k = call (ascii "st_knn") (cons L (cons R (cons k nil)))

-- An Int32 with these eight bytes.
abbrev pub int32 : ℕ → Expr
int32 value = literal 2 value

-- An Int64.
abbrev pub int64 : ℕ → Expr
int64 value = literal 3 value

-- A predicate without remainder, as a plan: that of the only leaf.
abbrev pub alone : Predicate → Result (List ℕ)
alone p = ok (extraction_bytes (record { position = 0; predicate = p; remainder = none }))

-- The predicate of the leaf at a position, with a remainder, as a plan.
abbrev pub with_rest : (position : ℕ) → Predicate → Frame → Result (List ℕ)
with_rest position p F = ok (extraction_bytes (record { position = position; predicate = p; remainder = some F }))

-- Row 9: both of two records of one column stay where an expression has the second, and it has its place among those that stay.
abbrev pub RowNine : Type 0
RowNine =
    extract_of (record {
      records =
          record { side = left; child = 4; tag = 1 } ∷ record { side = left; child = 4; tag = 2 } ∷
          record { side = right; child = 0; tag = 3 } ∷ [];
      expr = and (call (ascii "st_intersects") (pair (column 0 1) (column 2 3))) (column 1 2);
    })
    ≡ with_rest 0 (relation intersects (column 4 1) (column 0 3)) (record {
      records = record { side = left; child = 4; tag = 1 } ∷ record { side = left; child = 4; tag = 2 } ∷ [];
      expr = column 1 2;
    })

-- The worked run and rows 1 to 10; the field names say the row.
pub record TenRows : Type 0 where
  pub worked-run : output worked_input ≡ worked_output
  pub row1 : extract_of worked_frame ≡ with_rest 0 (relation contains (column 0 8) (column 3 7)) (worked_rest left)
  pub row2 : plan_or_refusal (exchange_after (extract_after (frame_bytes worked_frame)))
      ≡ with_rest 0 (relation within (column 3 7) (column 0 8)) (worked_rest right)
  pub row3-matches : extract_of (on_both (knn_of (int64 4294967295))) ≡ alone (knn 4294967295 0 left 2 child_l child_r)
  pub row3-does-not : extract_of (on_both (knn_of (int64 4294967296))) ≡ refused 13
  pub row4-matches : extract_of (on_both (knn_of (int32 1))) ≡ alone (knn 1 0 left 2 child_l child_r)
  pub row4-does-not : extract_of (on_both (knn_of (int32 0))) ≡ refused 13
  pub row5 : extract_of (on_both (and (call (ascii "st_intersects") (pair L R)) (call (ascii "st_knn") (pair L R))))
      ≡ with_rest 1 (knn 1 0 left 2 child_l child_r) (on_both (call (ascii "st_intersects") (pair L R)))
  pub row6 : extract_of (on_both (and (call (ascii "st_knn") (pair L L)) (call (ascii "st_intersects") (pair L R))))
      ≡ with_rest 1 (relation intersects child_l child_r) (record {
        records = record { side = left; child = 3; tag = 7 } ∷ [];
        expr = call (ascii "st_knn") (pair L L);
      })
  pub row7 : extract_of (on_both (call (ascii "st_intersects") (pair L (literal 0 0)))) ≡ refused 13
  pub row8-first : extract_of (on_both (binary 5 (call (ascii "st_intersects") (pair L R)) (call (ascii "st_knn") (pair L R)))) ≡ refused 13
  pub row8-last : extract_of (on_both (binary 63 (call (ascii "st_intersects") (pair L R)) (call (ascii "st_knn") (pair L R)))) ≡ refused 13
  pub row8 : (operator : ℕ) → 5 ≤ operator → (records : List Record) (l r : Expr)
      → extraction (record { records = records; expr = binary operator l r }) ≡ none
  pub row9 : RowNine
  pub row10-physical : extract_of (on_both (call (ascii "ST_KNN") (pair L R))) ≡ refused 13
  pub row10-logical : map_result logical_bytes (logical (2 ∷ expr_bytes (call (ascii "ST_KNN") (pair (field 1 7) (field 2 8)))))
      ≡ ok (0x08 ∷ 0x00 ∷ 1 ∷ 0 ∷ [])
