-- Request 7 of document 02 by computation: the worked run projected, each sort of child index, the refusals of project in their order.
use Rattle.std.specs.Prelude.{ℕ, ◌≡◌, true, false, List, [], ◌∷◌, ◌++◌, map, length, replicate}
use Rattle.std.proofs.Math.Option.{Option, none, some}
use Rattle.definitions.specs.Words.Basics.{Result, ok, refused}
use Rattle.definitions.specs.Words.Expression.{Side, left, right, no_side, contains, Expr, column, literal, Record, Frame, Predicate, relation, distance, knn, Extraction}
use Rattle.definitions.specs.Bytes.Encode.{extraction_bytes}
use Rattle.definitions.specs.Filter.Extract.{extraction}
use Rattle.definitions.specs.Filter.Exchange.{exchange_extraction}
use Rattle.definitions.specs.Filter.Project.{place_in, projection}
use Rattle.definitions.specs.Calls.Base.{Outcome}
use Rattle.definitions.specs.Calls.Project.{project}
use Rattle.definitions.specs.Lists.Sessions.{fed, calls_run}
use Rattle.definitions.specs.Lists.OddMachine.{odd_run}
use Rattle.definitions.specs.Rows.Ten.{worked_frame}
use Rattle.definitions.specs.Rows.Refusals.{extract_in, exchange_in, matching_bytes}

-- A record of a side and a child index.
abbrev pub of : Side → (child : ℕ) → Record
of side child = record { side = side; child = child; tag = 8 }

-- A column.
abbrev pub column_at : (index : ℕ) → Expr
column_at index = column index 7

-- An extraction that took leaf 258.
abbrev pub taken_258 : Predicate → Option Frame → Extraction
taken_258 p R = record { position = 258; predicate = p; remainder = R }

-- A relation of a left and a right column, and a remainder over these records that names the first of them.
abbrev pub beside : (l r : ℕ) → List Record → Extraction
beside l r records = taken_258 (relation contains (column_at l) (column_at r)) (some (record { records = records; expr = column_at 0 }))

-- A projection by these lists.
abbrev pub by : (of_left of_right : List ℕ) → Extraction → Option Extraction
by of_left of_right X = projection (record { of_left = of_left; of_right = of_right }) X

-- The worked run's extraction, 27 bytes, with these child indices: of its left column, of its right one, and of its record.
abbrev pub worked_by : (l r child : ℕ) → Extraction
worked_by l r child = record {
  position = 0;
  predicate = relation contains (column l 8) (column r 7);
  remainder = some (record { records = of left child ∷ []; expr = column 0 8 });
}

-- Its bytes, as it was extracted.
abbrev pub worked_plan : List ℕ
worked_plan = extraction_bytes (worked_by 0 3 0)

-- The answer of a projection of a plan of these bytes, with so many bytes of scratch.
abbrev pub answer_by : (of_left of_right : List ℕ) → (plan : List ℕ) → (room : ℕ) → Result ℕ
answer_by of_left of_right plan room = (project (length plan) plan (replicate room 0) of_left of_right).answer

-- A list of 4,097 items.
abbrev pub long : List ℕ
long = replicate 4097 0

-- Projected extractions, the refusals in their order, and calls after a projection.
pub record ProjectAnswers : Type 0 where
  -- the first of two equal items, and no item
  pub first-equal : place_in (9 ∷ 3 ∷ 5 ∷ 3 ∷ []) 3 ≡ some 1
  pub no-equal : place_in (9 ∷ 3 ∷ []) 4 ≡ none
  -- the worked run: left 0 is at place 1 of its list, right 3 at the first of two; the old plan in the scratch, other bytes kept
  pub worked-run : extraction worked_frame ≡ some (worked_by 0 3 0)
  pub written :
      project 27 (worked_plan ++ (9 ∷ 9 ∷ [])) (replicate 29 7) (5 ∷ 0 ∷ []) (9 ∷ 8 ∷ 3 ∷ 3 ∷ [])
      ≡ record {
        answer = ok 27;
        n = 27;
        buffer = extraction_bytes (worked_by 1 2 1) ++ (9 ∷ 9 ∷ []);
        scratch = worked_plan ++ (7 ∷ 7 ∷ []);
      }
  -- exchanged first, and projected by the exchanged lists
  pub exchanged-first : by (9 ∷ 8 ∷ 3 ∷ 3 ∷ []) (5 ∷ 0 ∷ []) (exchange_extraction (worked_by 0 3 0))
      ≡ some (exchange_extraction (worked_by 1 2 1))
  -- KNN's first geometry by the probe side, its second by the other
  pub knn-left : by (4 ∷ 2 ∷ []) (9 ∷ 8 ∷ 7 ∷ []) (taken_258 (knn 1 0 left 2 (column_at 2) (column_at 7)) none)
      ≡ some (taken_258 (knn 1 0 left 2 (column_at 1) (column_at 2)) none)
  pub knn-right : by (4 ∷ 2 ∷ []) (9 ∷ 8 ∷ 7 ∷ []) (taken_258 (knn 1 0 right 2 (column_at 7) (column_at 2)) none)
      ≡ some (taken_258 (knn 1 0 right 2 (column_at 2) (column_at 1)) none)
  -- a distance by its own side; one of side none is copied
  pub bound-left : by (7 ∷ 2 ∷ []) (9 ∷ []) (taken_258 (distance 0 left (column_at 2) (column_at 9) (column_at 7)) none)
      ≡ some (taken_258 (distance 0 left (column_at 1) (column_at 0) (column_at 0)) none)
  pub bound-right : by (2 ∷ []) (9 ∷ 7 ∷ []) (taken_258 (distance 3 right (column_at 2) (column_at 9) (column_at 7)) none)
      ≡ some (taken_258 (distance 3 right (column_at 0) (column_at 0) (column_at 1)) none)
  pub bound-copied : by (2 ∷ []) (9 ∷ []) (taken_258 (distance 0 no_side (column_at 2) (column_at 9) (column_at 7)) none)
      ≡ some (taken_258 (distance 0 no_side (column_at 0) (column_at 0) (column_at 7)) none)
  -- records by their side, referenced or not; those of side none are copied
  pub records : by (1 ∷ 2 ∷ []) (9 ∷ 3 ∷ []) (beside 2 9 (of left 2 ∷ of right 3 ∷ of no_side 6 ∷ []))
      ≡ some (beside 1 0 (of left 1 ∷ of right 1 ∷ of no_side 6 ∷ []))
  pub unreferenced : by (2 ∷ []) (9 ∷ []) (beside 2 9 (of no_side 6 ∷ of right 3 ∷ [])) ≡ none
  -- a list may be empty where its side has no index
  pub empty-lists : by [] [] (taken_258 (relation contains (literal 0 0) (literal 0 0)) none)
      ≡ some (taken_258 (relation contains (literal 0 0) (literal 0 0)) none)
  -- 10, 11, 18, 19, 9, 20, each where all the later ones would do
  pub bad-plan : answer_by long [] (0x11 ∷ []) 0 ≡ refused 10
  pub no-plan : answer_by long [] [] 0 ≡ refused 11
  pub not-extracted : answer_by long [] matching_bytes 0 ≡ refused 18
  pub frame-held : answer_by (0 ∷ []) (0 ∷ []) matching_bytes 64 ≡ refused 18
  pub long-left : answer_by long [] worked_plan 0 ≡ refused 19
  pub long-right : answer_by [] long worked_plan 0 ≡ refused 19
  pub short-scratch : answer_by [] [] worked_plan 26 ≡ refused 9
  pub lacks-left : answer_by (1 ∷ []) (3 ∷ []) worked_plan 27 ≡ refused 20
  pub lacks-right : answer_by (0 ∷ []) (0 ∷ []) worked_plan 27 ≡ refused 20
  -- any table for the calls after it: extract gives 12, exchange 9 or the length, as the machine with the odd bit alone
  pub calls :
      (let o : Outcome = project 27 worked_plan (replicate 27 7) (5 ∷ 0 ∷ []) (9 ∷ 3 ∷ []) in
      (calls_run o.n o.buffer [] (extract_in 0 ∷ exchange_in 26 ∷ exchange_in 27 ∷ extract_in 27 ∷ [])).answers)
      ≡ refused 12 ∷ refused 9 ∷ ok 27 ∷ refused 12 ∷ []
  pub machine : odd_run (worked_by 1 1 1) false (map fed (extract_in 0 ∷ exchange_in 26 ∷ exchange_in 27 ∷ extract_in 27 ∷ []))
      ≡ record { answers = refused 12 ∷ refused 9 ∷ ok 27 ∷ refused 12 ∷ []; is_odd = true }

-- And both lists as long as they may be.
pub record ProjectRows : Type 0 where
  pub answers : ProjectAnswers
  -- lists of 4,096 items, and the last place of one
  pub longest : (project 27 worked_plan (replicate 27 7) (replicate 4096 0) (replicate 4095 1 ++ (3 ∷ []))).buffer
      ≡ extraction_bytes (worked_by 0 4095 0)
