-- Sentences of 01 that no other table has a row for: inverted types, KNN's flags, Int32, 10 before 9, the logical half, the last line.
use Rattle.std.specs.Prelude.{ℕ, ◌≡◌, List, [], ◌∷◌, ◌++◌, map, take, get_or, replicate}
use Prim.Native.String.{String}
use Rattle.std.proofs.Math.Option
use Rattle.std.proofs.Math.Option.{Option}
use Rattle.definitions.specs.Words.Basics.{Result, ok, refused, ascii, map_result}
use Rattle.definitions.specs.Words.Expression.{Expr, literal, and, binary, call, field, nil, cons, Extraction}
use Rattle.definitions.specs.Bytes.Encode.{expr_bytes}
use Rattle.definitions.specs.Bytes.NodeTable.{blank}
use Rattle.definitions.specs.Filter.Extract.{extraction}
use Rattle.definitions.specs.Filter.Exchange.{exchange_extraction}
use Rattle.definitions.specs.Calls.Base.{load, matched_bytes}
use Rattle.definitions.specs.Calls.Logical.{logical, logical_bytes}
use Rattle.definitions.specs.Lists.Sessions.{calls_run}
use Rattle.definitions.specs.Lists.Program.{output}
use Rattle.definitions.specs.Rows.Ten.{extract_of, L, R, on_both, pair, int32, int64}
use Rattle.definitions.specs.Rows.Refusals.{Rows, EachGiven, frame, extract_in, exchange_in, lines}

-- ---- relations

-- A name of each type with the number of that type's inverse: 1 and 2 are each other's, 3 and 4 too, and each other type is its own.
abbrev pub turned_types : Rows ℕ
turned_types =
    (ascii "st_intersects", ok 0) ∷ (ascii "st_contains", ok 2) ∷ (ascii "st_within", ok 1) ∷
    (ascii "st_covers", ok 4) ∷ (ascii "st_coveredby", ok 3) ∷
    (ascii "st_touches", ok 5) ∷ (ascii "st_crosses", ok 6) ∷ (ascii "st_overlaps", ok 7) ∷ (ascii "st_equals", ok 8) ∷ []

-- The type in a relation's bytes: after `11` and the position.
abbrev pub type_in : Option Extraction → Result ℕ
type_in X = map_result (λ bytes. get_or bytes 3 0) (matched_bytes X)

-- The type that is stored for a function of the right column and the left one.
abbrev pub turned : (name : List ℕ) → Result ℕ
turned name = type_in (extraction (on_both (call name (pair R L))))

-- The type that is stored for one of the left and the right column, after an exchange.
abbrev pub exchanged_once : (name : List ℕ) → Result ℕ
exchanged_once name = type_in (Option.map exchange_extraction (extraction (on_both (call name (pair L R)))))

-- ---- KNN

-- `st_knn` of both columns, a k of 2, and these flags: spheroid, then ties.
abbrev pub knn_flags : (spheroid ties : Expr) → Expr
knn_flags spheroid ties = call (ascii "st_knn") (cons L (cons R (cons (int32 2) (cons spheroid (cons ties nil)))))

-- The same without ties.
abbrev pub knn_spheroid : (spheroid : Expr) → Expr
knn_spheroid spheroid = call (ascii "st_knn") (cons L (cons R (cons (int32 2) (cons spheroid nil))))

-- True, as a literal.
abbrev pub yes : Expr
yes = literal 1 1

-- False.
abbrev pub no : Expr
no = literal 1 0

-- `13`, the position, k, spheroid, probe side and ties of the extraction of this leaf.
abbrev pub knn_head : Expr → Result (List ℕ)
knn_head leaf = map_result (take 10) (extract_of (on_both leaf))

-- The same of the first leaf with a k of 2 and left as probe side, and these flags.
abbrev pub head_of : (spheroid ties : ℕ) → Result (List ℕ)
head_of spheroid ties = ok (0x13 ∷ 0 ∷ 0 ∷ 0 ∷ 0 ∷ 0 ∷ 2 ∷ spheroid ∷ 0 ∷ ties ∷ [])

-- ---- Int32

-- The answer of a load into a buffer of 13 bytes and a table of one record.
abbrev pub loads_one : List ℕ → Result ℕ
loads_one bytes = (load bytes 0 (replicate 13 0) (blank ∷ [])).answer

-- 2,147,483,647 and one more; −2,147,483,648 and one less.
abbrev pub int32_rows : Rows ℕ
int32_rows =
    (frame (int32 2147483647), ok 13) ∷ (frame (int32 2147483648), refused 4) ∷
    (frame (int32 18446744071562067968), ok 13) ∷ (frame (int32 18446744071562067967), refused 4) ∷ []

-- ---- the logical half

-- The answer's bytes for a filter: mask, count, side.
abbrev pub found : Expr → Result (List ℕ)
found e = map_result logical_bytes (logical (2 ∷ expr_bytes e))

-- A function of a field that only the left schema has and one that only the right schema has.
abbrev pub of_fields : (name : String) → Expr
of_fields name = call (ascii name) (pair (field 1 7) (field 2 8))

-- Of the 15 names `st_dwithin` alone is found, and no side.
abbrev pub dwithin_found : Result (List ℕ)
dwithin_found = ok (0x04 ∷ 0x00 ∷ 1 ∷ 2 ∷ [])

-- No name is found, and no side.
abbrev pub nothing_found : Result (List ℕ)
nothing_found = ok (0x00 ∷ 0x00 ∷ 0 ∷ 2 ∷ [])

-- `st_knn` alone is found, and no side: the first call has none, though a later one has left.
abbrev pub knn_without_side : Result (List ℕ)
knn_without_side = ok (0x08 ∷ 0x00 ∷ 1 ∷ 2 ∷ [])

-- The bound of a comparison: 5.
abbrev pub five : Expr
five = int64 5

pub record GuardRows : Type 0 where
  -- a type is inverted where the left geometry is the second argument, and by exchange
  pub types-turned : EachGiven turned turned_types
  pub types-exchanged : EachGiven exchanged_once turned_types
  -- spheroid is the fourth argument and ties the fifth, and so they stand in the bytes; a single flag is spheroid
  pub spheroid-alone : knn_head (knn_flags yes no) ≡ head_of 1 0
  pub ties-alone : knn_head (knn_flags no yes) ≡ head_of 0 1
  pub single-flag : knn_head (knn_spheroid yes) ≡ head_of 1 2
  -- an Int32 is sign-extended: from −2,147,483,648 to 2,147,483,647
  pub int32-range : EachGiven loads_one int32_rows
  -- 10 comes before 9: for bytes that are no plan, and for an n over the buffer's length, where the scratch is empty
  pub no-plan-first : (calls_run 12 (frame (literal 0 0)) [] (extract_in 0 ∷ exchange_in 0 ∷ [])).answers ≡ refused 10 ∷ refused 10 ∷ []
  pub over_first : (calls_run 14 (frame (literal 0 0)) [] (extract_in 0 ∷ exchange_in 0 ∷ [])).answers ≡ refused 10 ∷ refused 10 ∷ []
  -- Lt and LtEq with `st_distance` on the left, Gt and GtEq with it on the right, count as `st_dwithin`; in any letter case
  pub compared-left : map (λ operator. found (binary operator (of_fields "st_distance") five)) (1 ∷ 2 ∷ 3 ∷ 4 ∷ 5 ∷ [])
      ≡ dwithin_found ∷ dwithin_found ∷ nothing_found ∷ nothing_found ∷ nothing_found ∷ []
  pub compared-right : map (λ operator. found (binary operator five (of_fields "st_distance"))) (1 ∷ 2 ∷ 3 ∷ 4 ∷ 5 ∷ [])
      ≡ nothing_found ∷ nothing_found ∷ dwithin_found ∷ dwithin_found ∷ nothing_found ∷ []
  pub compared-capitals : found (binary 1 (of_fields "ST_Distance") five) ≡ dwithin_found
  -- the first `st_knn` is asked for the side and no later one: here its first argument is in both schemas, or missing
  pub first-in-both : found (and (call (ascii "st_knn") (pair (field 3 7) (field 2 8))) (of_fields "st_knn")) ≡ knn_without_side
  pub first-without : found (and (call (ascii "st_knn") nil) (of_fields "st_knn")) ≡ knn_without_side
  -- the last line counts without a line feed; an empty input has no line
  pub last_line : output (ascii "21") ≡ lines (ascii "0b" ∷ [])
  pub last-of-two : output (lines (ascii "03" ∷ []) ++ ascii "21") ≡ lines (ascii "02" ∷ ascii "0b" ∷ [])
  pub no-line : output [] ≡ []
