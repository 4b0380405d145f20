-- Verdicts by computation: a leaf for each, and the call explain. (Ours, beyond document 02.)
use Rattle.std.specs.Prelude.{◌≡◌, List, [], ◌∷◌, map, replicate}
use Rattle.std.proofs.Math.Option.{none, some}
use Rattle.definitions.specs.Words.Basics.{ok, refused, ascii}
use Rattle.definitions.specs.Words.Expression.{left, right, no_side, Expr, column, literal, and, binary, call, other, Exprs, nil, cons, Record, Frame}
use Rattle.definitions.specs.Bytes.Encode.{frame_bytes}
use Rattle.definitions.specs.Filter.Settings.{Settings, default_settings}
use Rattle.definitions.specs.Filter.Verdicts.{Verdict, as_relation, as_distance, as_knn, other_case, other_side, other_operator, inside_another, nothing_of_ours, kind_left_out, too_few_arguments, too_many_arguments, first_without_columns, first_of_both, first_with_mark, second_without_columns, second_of_both, second_with_mark, both_left, both_right, bound_of_both, bound_with_mark, k_no_number, k_below_one, k_above_greatest, spheroid_no_flag, ties_no_flag, verdict_under, verdicts_under, named_by, explained, exchange_verdict}
use Rattle.definitions.specs.Calls.Explain.{explain}
use Rattle.definitions.specs.Rows.Ten.{pair, int32, int64}
use Rattle.definitions.specs.Rows.Settings.{with}

-- Two columns of the left child, two of the right, and a mark column.
abbrev pub five_columns : List Record
five_columns =
    record { side = left; child = 0; tag = 1 } ∷ record { side = right; child = 0; tag = 2 } ∷ record { side = left; child = 1; tag = 3 } ∷
    record { side = right; child = 1; tag = 4 } ∷ record { side = no_side; child = 0; tag = 5 } ∷ []

-- As the price list writes them.
abbrev pub L0 : Expr
L0 = column 0 1

abbrev pub R0 : Expr
R0 = column 1 2

abbrev pub L1 : Expr
L1 = column 2 3

abbrev pub R1 : Expr
R1 = column 3 4

abbrev pub M0 : Expr
M0 = column 4 5

-- a + b: operator 9 is any other.
abbrev pub plus : Expr → Expr → Expr
plus a b = binary 9 a b

-- Functions of two, of three, and of more arguments.
abbrev pub intersects_of : (a b : Expr) → Expr
intersects_of a b = call (ascii "st_intersects") (pair a b)

abbrev pub distance_of : (a b : Expr) → Expr
distance_of a b = call (ascii "st_distance") (pair a b)

abbrev pub dwithin_of : (a b bound : Expr) → Expr
dwithin_of a b bound = call (ascii "st_dwithin") (cons a (cons b (cons bound nil)))

abbrev pub knn_with : Exprs → Expr
knn_with more = call (ascii "st_knn") (cons L0 (cons R0 more))

-- The verdict under settings, and under those of the program.
abbrev pub said_under : Settings → Expr → Verdict
said_under S e = verdict_under S five_columns e

abbrev pub said : Expr → Verdict
said = said_under default_settings

-- A frame over the five columns.
abbrev pub on_five : Expr → Frame
on_five e = record { records = five_columns; expr = e }

-- A relation that does not match, a relation, KNN, another relation: the KNN is taken.
abbrev pub four_conjuncts : Frame
four_conjuncts = on_five (and (and (intersects_of L0 L1) (intersects_of L0 R0)) (and (knn_with nil) (intersects_of R0 L0)))

pub record VerdictRows : Type 0 where
  -- the three matches
  pub relation : said (intersects_of L0 R0) ≡ as_relation
  pub distance : said (binary 1 (distance_of R0 L0) L1) ≡ as_distance
  pub knn : said (knn_with nil) ≡ as_knn
  -- what the leaf is
  pub other-case : said (call (ascii "ST_Intersects") (pair L0 R0)) ≡ other_case
  pub other-case-compared : said (binary 1 (call (ascii "ST_Distance") (pair L0 R0)) (int32 5)) ≡ other_case
  pub other-side : map said (binary 1 (int32 5) (distance_of L0 R0) ∷ binary 4 (distance_of L0 R0) (int32 5) ∷ [])
      ≡ other_side ∷ other_side ∷ []
  pub other-operator : map said (binary 5 (distance_of L0 R0) (int32 5) ∷ binary 5 (int32 5) (distance_of L0 R0) ∷ [])
      ≡ other_operator ∷ other_operator ∷ []
  pub inside-another : map said (binary 6 (intersects_of L0 R0) (knn_with nil) ∷ other 1 (cons (intersects_of L0 R0) nil) ∷ [])
      ≡ inside_another ∷ inside_another ∷ []
  pub other-side-and-case : said (binary 1 (int32 5) (call (ascii "ST_Distance") (pair L0 R0))) ≡ other_side
  pub inside-and-case : said (binary 6 (call (ascii "ST_Intersects") (pair L0 R0)) L1) ≡ inside_another
  pub nothing-of-ours : map said (L0 ∷ call (ascii "region") (cons L1 nil) ∷ distance_of L0 R0 ∷ [])
      ≡ nothing_of_ours ∷ nothing_of_ours ∷ nothing_of_ours ∷ []
  -- the settings
  pub kind-left-out : map (said_under (with 2 1 9)) (intersects_of L0 R0 ∷ dwithin_of L0 R0 L1 ∷ knn_with nil ∷ [])
      ≡ kind_left_out ∷ as_distance ∷ kind_left_out ∷ []
  -- the number of arguments: a KNN of one, and of six
  pub too_few : said (call (ascii "st_knn") (cons L0 nil)) ≡ too_few_arguments
  pub too_many : said (knn_with (cons (int32 5) (cons (literal 1 1) (cons (literal 1 0) (cons (int32 7) nil))))) ≡ too_many_arguments
  -- the geometries
  pub first-without-columns : said (intersects_of (int32 5) R0) ≡ first_without_columns
  pub first-of-both : said (intersects_of (plus L0 R1) R0) ≡ first_of_both
  pub first-with-mark : map said (intersects_of M0 R0 ∷ intersects_of (plus L0 M0) R0 ∷ []) ≡ first_with_mark ∷ first_with_mark ∷ []
  pub second-without-columns : said (intersects_of L0 (literal 0 0)) ≡ second_without_columns
  pub second-of-both : said (dwithin_of L0 (plus R0 L1) (int32 5)) ≡ second_of_both
  pub second-with-mark : said (call (ascii "st_knn") (pair L0 (plus M0 R0))) ≡ second_with_mark
  pub both-left : said (intersects_of L0 L1) ≡ both_left
  pub both-right : said (intersects_of R0 R1) ≡ both_right
  -- the bound; one of the left child alone, or without columns, is fine
  pub bound-of-both : map said (dwithin_of L0 R0 (plus L1 R1) ∷ binary 3 (plus R1 L1) (distance_of L0 R0) ∷ [])
      ≡ bound_of_both ∷ bound_of_both ∷ []
  pub bound-with-mark : map said (dwithin_of L0 R0 M0 ∷ binary 2 (distance_of L0 R0) (plus M0 L1) ∷ [])
      ≡ bound_with_mark ∷ bound_with_mark ∷ []
  pub bound-fine : map said (dwithin_of L0 R0 (plus L1 L0) ∷ dwithin_of L0 R0 (int32 5) ∷ []) ≡ as_distance ∷ as_distance ∷ []
  -- k and the flags: no number, 0, -1, one above 32 bits, one above the settings' greatest, the greatest itself
  pub k-no-number : map said (knn_with (cons (literal 0 0) nil) ∷ knn_with (cons L1 nil) ∷ []) ≡ k_no_number ∷ k_no_number ∷ []
  pub k-below-one : map said (knn_with (cons (int32 0) nil) ∷ knn_with (cons (int32 18446744073709551615) nil) ∷ [])
      ≡ k_below_one ∷ k_below_one ∷ []
  pub k-above : said (knn_with (cons (int64 4294967296) nil)) ≡ k_above_greatest
  pub k-greatest : map (said_under (with 7 1 9)) (knn_with (cons (int32 10) nil) ∷ knn_with (cons (int32 9) nil) ∷ [])
      ≡ k_above_greatest ∷ as_knn ∷ []
  pub spheroid-no-flag : said (knn_with (cons (int32 5) (cons (int32 1) nil))) ≡ spheroid_no_flag
  pub ties-no-flag : said (knn_with (cons (int32 5) (cons (literal 1 1) (cons (int32 1) nil)))) ≡ ties_no_flag
  -- the first reason of several: kind before geometry, the first geometry before the second, geometry before k
  pub kind-first : said_under (with 2 1 9) (intersects_of L0 L1) ≡ kind_left_out
  pub first-first : said (intersects_of (int32 5) M0) ≡ first_without_columns
  pub geometry-first : said (call (ascii "st_knn") (cons L0 (cons L1 (cons (int32 0) nil)))) ≡ both_left
  -- what is read off, and the answer: the first three bytes of the plan, then the number of conjuncts
  pub verdicts : verdicts_under default_settings four_conjuncts ≡ both_left ∷ as_relation ∷ as_knn ∷ as_relation ∷ []
  pub taken-knn : named_by (0x56 ∷ 0x11 ∷ 0x13 ∷ 0x11 ∷ []) ≡ some (record { position = 2; line = 0x13 })
  pub taken-first : named_by (0x56 ∷ 0x12 ∷ 0x11 ∷ []) ≡ some (record { position = 1; line = 0x12 })
  pub taken_none : named_by (0x56 ∷ 0x20 ∷ []) ≡ none
  pub answer : explained (0x56 ∷ 0x11 ∷ 0x13 ∷ 0x11 ∷ []) ≡ 0x1300020004
  pub answer-none : explained (0x56 ∷ 0x20 ∷ []) ≡ 0x0000000002
  -- the call: a byte each, those after kept; 9 in a buffer one byte short; a frame's own refusal; 24 before all
  pub called : explain default_settings (frame_bytes four_conjuncts) (replicate 6 0xff)
      ≡ record { answer = ok 0x1300020004; buffer = 0x56 ∷ 0x11 ∷ 0x13 ∷ 0x11 ∷ 0xff ∷ 0xff ∷ [] }
  pub fits : (explain default_settings (frame_bytes four_conjuncts) (replicate 4 0xff)).answer ≡ ok 0x1300020004
  pub short : explain default_settings (frame_bytes four_conjuncts) (replicate 3 0xff)
      ≡ record { answer = refused 9; buffer = replicate 3 0xff }
  pub no-frame : explain default_settings [] (replicate 3 0xff) ≡ record { answer = refused 1; buffer = replicate 3 0xff }
  pub bad-settings : explain (with 8 1 9) [] (replicate 3 0xff) ≡ record { answer = refused 24; buffer = replicate 3 0xff }
  -- exchanged
  pub exchanged : map exchange_verdict (both_left ∷ both_right ∷ as_knn ∷ first_of_both ∷ [])
      ≡ both_right ∷ both_left ∷ as_knn ∷ first_of_both ∷ []
