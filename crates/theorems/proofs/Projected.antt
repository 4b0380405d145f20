-- A projected extraction has over the new columns the value that the extraction has over the old, and projection commutes with exchange.
use Rattle.std.specs.Prelude.{if◌then◌else◌}
use Prim.Native.Nat.{ℕ, zero, suc}
use native.Mathlib.Omega.{arith}
use mathlib.Core.Path.{◌≡◌, refl, sym, ap, ap₂, ◌∙◌, fun_ext}
use mathlib.Core.Bool.{Bool, true, false, ◌&&◌, and_comm}
use mathlib.Core.List.{List, [], ◌∷◌, map}
use mathlib.Core.Option
use mathlib.Core.Option.{Option, none, some}
use lib.ListN.{get_or, get_or-map}
use Rattle.definitions.specs.Words.Basics.{all}
use Rattle.definitions.specs.Words.Expression.{Side, left, right, no_side, Expr, Record, Frame, Predicate, relation, distance, knn, Extraction}
use Rattle.definitions.specs.Words.References.{columns_of, map_columns, record_at}
use Rattle.definitions.specs.Filter.Exchange.{negate, exchange_record, exchange_frame, exchange_predicate, exchange_extraction}
use Rattle.definitions.specs.Bytes.Good.{All}
use Rattle.definitions.specs.Meaning.Values.{Valuation, Meaning, value, frame_columns, frame_value, predicate_value, and_value, and_remainder, extraction_value}
use Rattle.definitions.specs.Filter.Project.{ChildLists, place_of, is_place, or_zero, new_place, has_place, project_expr, placed_expr, project_predicate, placed_predicate, project_record, placed_record, project_frame, placed_remainder, project_extraction, placed, projection}
use Rattle.definitions.specs.Claims.Project.{NewColumns, NewColumnsThere, ProjectionValue, exchange_lists, ProjectionExchanged}
use Rattle.theorems.proofs.Tools.{and-both}
use Rattle.theorems.proofs.Columns.{all_both}
use Rattle.theorems.proofs.Values.{map-value}
use Rattle.theorems.proofs.Places.{place_is, listed-value}

-- ---- values over the new columns

-- The values read off the lists.
listed_values : ChildLists → Valuation → Valuation
listed_values lists v left i = v left (get_or lists.of_left i 0)
listed_values lists v right i = v right (get_or lists.of_right i 0)
listed_values lists v no_side i = v no_side i

pub new-columns : NewColumnsThere
unfolding listed_values
new-columns lists v = (listed_values lists v, record { on_left = λ i k. refl; on_right = λ i k. refl; on_marks = λ i. refl })

-- Every element of a list that passes a test passes it.
all_true : (test : ℕ → Bool) (xs : List ℕ) → all test xs ≡ true → All (λ i. test i ≡ true) xs
unfolding all
all_true test [] e = tt
all_true test (x ∷ xs) e =
    let both : (test x ≡ true) × (all test xs ≡ true) = and-both (test x) (all test xs) e in (both.0, all_true test xs both.1)

module _ (lists : ChildLists) (v w : Valuation) (new : NewColumns lists v w) where
  place-value : (side : Side) (index : ℕ) → has_place lists side index ≡ true → v side index ≡ w side (new_place lists side index)
  unfolding has_place new_place place_of or_zero
  place-value left index e =
      listed-value (v left) (w left) lists.of_left index new.on_left _ (place_is lists.of_left index) e
  place-value right index e =
      listed-value (v right) (w right) lists.of_right index new.on_right _ (place_is lists.of_right index) e
  place-value no_side index e = sym (new.on_marks index)

  module _ (M : Meaning) where
    argument-value : (side : Side) (e : Expr) → placed_expr lists side e ≡ true
        → value M (v side) e ≡ value M (w side) (project_expr lists side e)
    unfolding placed_expr project_expr
    argument-value side e h =
        let found : All (λ i. has_place lists side i ≡ true) (columns_of e) = all_true (has_place lists side) (columns_of e) h in
        map-value M (v side) (w side) (new_place lists side) e
        (all_both (λ i. has_place lists side i ≡ true) (λ i. has_place lists side i ≡ true)
        (λ i. v side i ≡ w side (new_place lists side i))
        (λ i k _. place-value side i k) (columns_of e) found found)

    predicate-value : (p : Predicate) → placed_predicate lists p ≡ true
        → predicate_value M v p ≡ predicate_value M w (project_predicate lists p)
    unfolding placed_predicate project_predicate predicate_value
    predicate-value (relation type l r) h =
        let both : (placed_expr lists left l ≡ true) × (placed_expr lists right r ≡ true) = and-both _ _ h in
        ap₂ (M.relation_value type) (argument-value left l both.0) (argument-value right r both.1)
    predicate-value (distance form side l r bound) h =
        let both : (placed_expr lists left l ≡ true) × ((placed_expr lists right r && placed_expr lists side bound) ≡ true) =
        and-both _ _ h in
        let two : (placed_expr lists right r ≡ true) × (placed_expr lists side bound ≡ true) = and-both _ _ both.1 in
        rw (← (argument-value left l both.0), ← (argument-value right r two.0), ← (argument-value side bound two.1)) refl
    predicate-value (knn k spheroid probe ties l r) h =
        let both : (placed_expr lists probe l ≡ true) × (placed_expr lists (negate probe) r ≡ true) = and-both _ _ h in
        ap₂ (λ (a b : ℕ). M.knn_value a b k spheroid ties) (argument-value probe l both.0) (argument-value (negate probe) r both.1)

  -- Each record of a remainder, and what stands for one that is not there: that has side none, so it is copied.
  record-at : (rs : List Record) (i : ℕ) → record_at (map (project_record lists) rs) i ≡ project_record lists (record_at rs i)
  unfolding record_at project_record new_place place_of or_zero
  record-at rs i = get_or-map (project_record lists) rs i (record { side = no_side; child = 0; tag = 0 })

  placed_at : (rs : List Record) (i : ℕ) → all (placed_record lists) rs ≡ true → placed_record lists (record_at rs i) ≡ true
  unfolding record_at all placed_record has_place place_of is_place
  placed_at [] i e = refl
  placed_at (r ∷ rs) zero e = (and-both _ (all (placed_record lists) rs) e).0
  placed_at (r ∷ rs) (suc i) e = placed_at rs i (and-both (placed_record lists r) _ e).1

  columns-value : (rs : List Record) → all (placed_record lists) rs ≡ true → (i : ℕ)
      → frame_columns v rs i ≡ frame_columns w (map (project_record lists) rs) i
  unfolding frame_columns project_record placed_record
  columns-value rs e i =
      place-value (record_at rs i).side (record_at rs i).child (placed_at rs i e)
      ∙ ap (λ (r : Record). w r.side r.child) (sym (record-at rs i))

  module _ (M : Meaning) where
    remainder-value : (x : ℕ) (R : Option Frame) → placed_remainder lists R ≡ true
        → and_remainder M v x R ≡ and_remainder M w x (Option.map (project_frame lists) R)
    unfolding placed_remainder and_remainder frame_value project_frame
    remainder-value x none e = refl
    remainder-value x (some F) e =
        ap (λ (f : ℕ → ℕ). and_value x (value M f F.expr)) (fun_ext (columns-value F.records e))

    pub projected-value : (X : Extraction) → placed lists X ≡ true
        → extraction_value M w (project_extraction lists X) ≡ extraction_value M v X
    unfolding placed extraction_value project_extraction
    projected-value X h =
        let both : (placed_predicate lists X.predicate ≡ true) × (placed_remainder lists X.remainder ≡ true) = and-both _ _ h in
        sym (ap (λ (x : ℕ). and_remainder M v x X.remainder) (predicate-value M X.predicate both.0)
        ∙ remainder-value (predicate_value M w (project_predicate lists X.predicate)) X.remainder both.1)

-- A projection that there is, is of an extraction whose indexes all have places.
if-placed : (b : Bool) (X Y : Extraction) → (if b then some X else none) ≡ some Y → (b ≡ true) × (X ≡ Y)
if-placed true X Y e = (refl, cc)
if-placed false X Y e = let z : ◌≡◌ {A = ℕ} 0 1 = cc in absurd (omega arith)

pub projection-is : (lists : ChildLists) (X Y : Extraction) → projection lists X ≡ some Y
    → (placed lists X ≡ true) × (project_extraction lists X ≡ Y)
unfolding projection
projection-is lists X Y e = if-placed (placed lists X) (project_extraction lists X) Y e

pub projection-value : ProjectionValue
projection-value M lists v w X Y new e =
    let (found, same) = projection-is lists X Y e in
    ap (extraction_value M w) (sym same) ∙ projected-value lists v w new M X found

-- ---- the exchange

module _ (lists : ChildLists) where
  swapped : ChildLists
  swapped = exchange_lists lists

  place-swapped : (side : Side) (index : ℕ) → place_of swapped (negate side) index ≡ place_of lists side index
  unfolding place_of negate swapped
  place-swapped left index = refl
  place-swapped right index = refl
  place-swapped no_side index = refl

  expr-swapped : (side : Side) (e : Expr) → project_expr swapped (negate side) e ≡ project_expr lists side e
  unfolding project_expr new_place
  expr-swapped side e = ap (λ (f : ℕ → ℕ). map_columns f e) (fun_ext (λ i. ap or_zero (place-swapped side i)))

  has-swapped : (side : Side) (e : Expr) → placed_expr swapped (negate side) e ≡ placed_expr lists side e
  unfolding placed_expr has_place
  has-swapped side e = ap (λ (f : ℕ → Bool). all f (columns_of e)) (fun_ext (λ i. ap is_place (place-swapped side i)))

  predicate-swapped : (p : Predicate) → project_predicate swapped (exchange_predicate p) ≡ exchange_predicate (project_predicate lists p)
  unfolding project_predicate exchange_predicate negate
  predicate-swapped (relation type l r) = rw (expr-swapped right r, expr-swapped left l) refl
  predicate-swapped (distance form side l r bound) = rw (expr-swapped right r, expr-swapped left l, expr-swapped side bound) refl
  predicate-swapped (knn k spheroid probe ties l r) = rw (expr-swapped probe l, expr-swapped (negate probe) r) refl

  -- Both geometries, whichever is asked about first, and what else is asked.
  two-have : (l r : Expr) (more : Bool)
      → (placed_expr swapped left r && (placed_expr swapped right l && more))
      ≡ (placed_expr lists left l && (placed_expr lists right r && more))
  unfolding negate
  two-have l r more =
      rw (has-swapped right r, has-swapped left l) (three (placed_expr lists right r) (placed_expr lists left l)) where
        three : (a b : Bool) → (a && (b && more)) ≡ (b && (a && more))
        three true true = refl
        three true false = refl
        three false true = refl
        three false false = refl

  predicate-has : (p : Predicate) → placed_predicate swapped (exchange_predicate p) ≡ placed_predicate lists p
  unfolding placed_predicate exchange_predicate negate
  predicate-has (relation type l r) =
      rw (has-swapped right r, has-swapped left l) (and_comm (placed_expr lists right r) (placed_expr lists left l))
  predicate-has (distance form side l r bound) = rw (has-swapped side bound) (two-have l r (placed_expr lists side bound))
  predicate-has (knn k spheroid probe ties l r) = ap₂ ◌&&◌ (has-swapped probe l) (has-swapped (negate probe) r)

  record-swapped : (r : Record) → project_record swapped (exchange_record r) ≡ exchange_record (project_record lists r)
  unfolding project_record exchange_record new_place
  record-swapped r = rw (place-swapped r.side r.child) refl

  records-swapped : (rs : List Record)
      → map (project_record swapped) (map exchange_record rs) ≡ map exchange_record (map (project_record lists) rs)
  records-swapped [] = refl
  records-swapped (r ∷ rs) = ap₂ (λ (a : Record) (b : List Record). a ∷ b) (record-swapped r) (records-swapped rs)

  records-have : (rs : List Record) → all (placed_record swapped) (map exchange_record rs) ≡ all (placed_record lists) rs
  unfolding all placed_record has_place exchange_record
  records-have [] = refl
  records-have (r ∷ rs) = ap₂ ◌&&◌ (ap is_place (place-swapped r.side r.child)) (records-have rs)

  remainder-swapped : (R : Option Frame)
      → Option.map (project_frame swapped) (Option.map exchange_frame R) ≡ Option.map exchange_frame (Option.map (project_frame lists) R)
  unfolding project_frame exchange_frame
  remainder-swapped none = refl
  remainder-swapped (some F) =
      ap {B = Option Frame} (λ rs. some (record { records = rs; expr = F.expr })) (records-swapped F.records)

  remainder-has : (R : Option Frame) → placed_remainder swapped (Option.map exchange_frame R) ≡ placed_remainder lists R
  unfolding placed_remainder exchange_frame
  remainder-has none = refl
  remainder-has (some F) = records-have F.records

  extraction-swapped : (X : Extraction)
      → project_extraction swapped (exchange_extraction X) ≡ exchange_extraction (project_extraction lists X)
  unfolding project_extraction exchange_extraction
  extraction-swapped X =
      ap₂ (λ (p : Predicate) (R : Option Frame). record { position = X.position; predicate = p; remainder = R })
      (predicate-swapped X.predicate) (remainder-swapped X.remainder)

  extraction-has : (X : Extraction) → placed swapped (exchange_extraction X) ≡ placed lists X
  unfolding placed exchange_extraction
  extraction-has X = ap₂ ◌&&◌ (predicate-has X.predicate) (remainder-has X.remainder)

if-exchanged : (b : Bool) (X : Extraction)
    → (if b then some (exchange_extraction X) else none) ≡ Option.map exchange_extraction (if b then some X else none)
if-exchanged true X = refl
if-exchanged false X = refl

pub projection-exchange : ProjectionExchanged
unfolding projection swapped
projection-exchange lists X =
    ap₂ (λ (b : Bool) (Y : Extraction). if b then some Y else none) (extraction-has lists X) (extraction-swapped lists X)
    ∙ if-exchanged (placed lists X) (project_extraction lists X)
