-- Leaves whose columns are renumbered, over records that are the same there, get the verdicts that they got; so those of merged frames.
use Rattle.std.specs.Prelude.{if◌then◌else◌}
use Prim.Native.Nat.{ℕ, zero, suc, ◌+◌, ◌<◌}
use mathlib.Core.Path.{◌≡◌, refl, sym, ap, ap₂, ◌∙◌}
use mathlib.Core.Bool.{Bool, true, false, ◌&&◌, ◌||◌, not}
use mathlib.Core.List.{List, [], ◌∷◌, ◌++◌, map, map-append}
use mathlib.Core.Option
use mathlib.Core.Option.{Option, none, some}
use lib.ListN.{length}
use lib.Dec.{eqb}
use Rattle.definitions.specs.Words.Basics.{given◌then◌else◌, ascii, same_name}
use Rattle.definitions.specs.Words.Expression.{Side, left, right, Expr, column, literal, and, binary, call, other, field, Exprs, nil, cons, Record}
use Rattle.definitions.specs.Bytes.Decode.{index_below}
use Rattle.definitions.specs.Words.Leaves.{leaves, Comparison, compares, no_comparison, comparison, distance_arguments}
use Rattle.definitions.specs.Words.References.{record_at, map_columns, map_columns_all}
use Rattle.definitions.specs.Bytes.Good.{InRange, InRangeAll}
use Rattle.definitions.specs.Filter.Names.{function_name}
use Rattle.definitions.specs.Filter.Merge.{raised, merge_frames}
use Rattle.definitions.specs.Filter.Settings.{Settings}
use Rattle.definitions.specs.Filter.Verdicts.{Verdict, as_relation, as_distance, as_knn, other_case, other_side, other_operator, inside_another, nothing_of_ours, kind_left_out, too_few_arguments, too_many_arguments, first_without_columns, first_of_both, first_with_mark, second_without_columns, second_of_both, second_with_mark, both_left, both_right, bound_of_both, bound_with_mark, k_no_number, k_below_one, k_above_greatest, spheroid_no_flag, ties_no_flag, reasons, PriceLine, relation_line, distance_line, knn_line, no_line, line_compared, line_meant, is_no_line, is_distance_line, is_knn_line, with_bound, arguments_compared, arguments_of, argument_is, has_argument, measured_in_small, ours_in_small, is_distance_call, measured_other_side, measured_beside, distance_on_other_side, distance_beside_other, parts_of, some_of_ours, sides_of, none_of, of_both, of_mark, only_of, literal_whole, no_number, below_one, above, no_flag, lacks, geometry_is, bound_is, knn_literal_is, applies_by, applies, first_that, matches_as, verdict_under, verdicts_under}
use Rattle.definitions.specs.Claims.Verdicts.{VerdictsMerged}
use Rattle.theorems.proofs.Cases.{each}
use Rattle.theorems.proofs.Columns.{map_comparison, comparison-mapped}
use Rattle.theorems.proofs.Moved.{map-kept, arguments-mapped, bool-mapped, sides-moved}
use Rattle.theorems.proofs.Merged.{old-record, new-record}

-- ---- what a leaf with changed columns is

module _ (f : ℕ → ℕ) where
  distance-mapped : (e : Expr) → distance_arguments (map_columns f e) ≡ Option.map (map_columns_all f) (distance_arguments e)
  distance-mapped = arguments-mapped 1 f

  compared-line : (c : Comparison) → line_compared (map_comparison f c) ≡ line_compared c
  unfolding line_compared map_comparison
  compared-line no_comparison = refl
  compared-line (compares m d) =
      ap (λ (x : Option Exprs). given x then (λ es. distance_line) else no_line) (distance-mapped m) ∙ same (distance_arguments m)
    where
      same : (x : Option Exprs)
          → (given Option.map (map_columns_all f) x then (λ es. distance_line) else no_line)
          ≡ (given x then (λ es. distance_line) else no_line)
      same none = refl
      same (some es) = refl

  line-mapped : (e : Expr) → line_meant (map_columns f e) ≡ line_meant e
  unfolding line_meant map_columns
  line-mapped (column i t) = refl
  line-mapped (literal type v) = refl
  line-mapped (and l r) = refl
  line-mapped (binary o l r) = ap line_compared (comparison-mapped f o l r) ∙ compared-line (comparison o l r)
  line-mapped (call name es) = refl
  line-mapped (other tag es) = refl
  line-mapped (field b t) = refl

  with-mapped : (d : Expr) (es : Exprs) → with_bound (map_columns f d) (map_columns_all f es) ≡ map_columns_all f (with_bound d es)
  unfolding with_bound map_columns
  with-mapped d nil = refl
  with-mapped d (cons a nil) = refl
  with-mapped d (cons a (cons b more)) = refl

  compared-arguments : (c : Comparison) → arguments_compared (map_comparison f c) ≡ map_columns_all f (arguments_compared c)
  unfolding arguments_compared map_comparison map_columns
  compared-arguments no_comparison = refl
  compared-arguments (compares m d) =
      ap (λ (x : Option Exprs). given x then with_bound (map_columns f d) else nil) (distance-mapped m) ∙ same (distance_arguments m)
    where
      same : (x : Option Exprs)
          → (given Option.map (map_columns_all f) x then with_bound (map_columns f d) else nil)
          ≡ map_columns_all f (given x then with_bound d else nil)
      same none = refl
      same (some es) = with-mapped d es

  leaf-arguments : (e : Expr) → arguments_of (map_columns f e) ≡ map_columns_all f (arguments_of e)
  unfolding arguments_of map_columns
  leaf-arguments (column i t) = refl
  leaf-arguments (literal type v) = refl
  leaf-arguments (and l r) = refl
  leaf-arguments (binary o l r) = ap arguments_compared (comparison-mapped f o l r) ∙ compared-arguments (comparison o l r)
  leaf-arguments (call name es) = refl
  leaf-arguments (other tag es) = refl
  leaf-arguments (field b t) = refl

  -- ---- one that is meant for no line

  name-mapped : (e : Expr) → function_name (map_columns f e) ≡ function_name e
  unfolding function_name map_columns
  name-mapped = each (λ e. function_name (map_columns f e) ≡ function_name e)
      (λ i g. refl) (λ y v. refl) (λ l r. refl) (λ o l r. refl) (λ n ts. refl) (λ g ts. refl) (λ b g. refl)

  measured-mapped : (e : Expr) → is_distance_call (map_columns f e) ≡ is_distance_call e
  unfolding is_distance_call
  measured-mapped e = ap (λ (n : List ℕ). same_name n (ascii "st_distance")) (name-mapped e)

  small-compared : (c : Comparison) → measured_in_small (map_comparison f c) ≡ measured_in_small c
  unfolding measured_in_small map_comparison
  small-compared no_comparison = refl
  small-compared (compares m d) = measured-mapped m

  small-mapped : (e : Expr) → ours_in_small (map_columns f e) ≡ ours_in_small e
  unfolding ours_in_small map_columns
  small-mapped (column i t) = refl
  small-mapped (literal type v) = refl
  small-mapped (and l r) = refl
  small-mapped (binary o l r) = ap measured_in_small (comparison-mapped f o l r) ∙ small-compared (comparison o l r)
  small-mapped (call name es) = refl
  small-mapped (other tag es) = refl
  small-mapped (field b t) = refl

  other-mapped : (c : Comparison) → measured_other_side (map_comparison f c) ≡ measured_other_side c
  unfolding measured_other_side map_comparison
  other-mapped no_comparison = refl
  other-mapped (compares m d) = measured-mapped d

  side-mapped : (e : Expr) → distance_on_other_side (map_columns f e) ≡ distance_on_other_side e
  unfolding distance_on_other_side map_columns
  side-mapped (column i t) = refl
  side-mapped (literal type v) = refl
  side-mapped (and l r) = refl
  side-mapped (binary o l r) = ap measured_other_side (comparison-mapped f o l r) ∙ other-mapped (comparison o l r)
  side-mapped (call name es) = refl
  side-mapped (other tag es) = refl
  side-mapped (field b t) = refl

  beside-one : (l r : Expr) (c : Comparison)
      → measured_beside (map_columns f l) (map_columns f r) (map_comparison f c) ≡ measured_beside l r c
  unfolding measured_beside map_comparison
  beside-one l r no_comparison = ap₂ ◌||◌ (measured-mapped l) (measured-mapped r)
  beside-one l r (compares m d) = refl

  beside-mapped : (e : Expr) → distance_beside_other (map_columns f e) ≡ distance_beside_other e
  unfolding distance_beside_other map_columns
  beside-mapped (column i t) = refl
  beside-mapped (literal type v) = refl
  beside-mapped (and l r) = refl
  beside-mapped (binary o l r) =
      ap (measured_beside (map_columns f l) (map_columns f r)) (comparison-mapped f o l r) ∙ beside-one l r (comparison o l r)
  beside-mapped (call name es) = refl
  beside-mapped (other tag es) = refl
  beside-mapped (field b t) = refl

  some-mapped : (es : Exprs) → some_of_ours (map_columns_all f es) ≡ some_of_ours es
  unfolding some_of_ours map_columns
  some-mapped nil = refl
  some-mapped (cons e es) = ap₂ ◌||◌ (small-mapped e) (some-mapped es)

  inside-mapped : (e : Expr) → some_of_ours (parts_of (map_columns f e)) ≡ some_of_ours (parts_of e)
  unfolding parts_of map_columns
  inside-mapped (column i t) = refl
  inside-mapped (literal type v) = refl
  inside-mapped (and l r) = refl
  inside-mapped (binary o l r) = some-mapped (cons l (cons r nil))
  inside-mapped (call name es) = some-mapped es
  inside-mapped (other tag es) = some-mapped es
  inside-mapped (field b t) = refl

  -- ---- literals

  whole-mapped : (e : Expr) → literal_whole (map_columns f e) ≡ literal_whole e
  unfolding literal_whole map_columns
  whole-mapped = each (λ e. literal_whole (map_columns f e) ≡ literal_whole e)
      (λ i g. refl) (λ y v. refl) (λ l r. refl) (λ o l r. refl) (λ n ts. refl) (λ g ts. refl) (λ b g. refl)

  no-number-mapped : (e : Expr) → no_number (map_columns f e) ≡ no_number e
  unfolding no_number
  no-number-mapped e = rw (whole-mapped e) refl

  below-mapped : (e : Expr) → below_one (map_columns f e) ≡ below_one e
  unfolding below_one
  below-mapped e = rw (whole-mapped e) refl

  above-mapped : (greatest : ℕ) (e : Expr) → above greatest (map_columns f e) ≡ above greatest e
  unfolding above
  above-mapped greatest e = rw (whole-mapped e) refl

  flag-mapped : (e : Expr) → no_flag (map_columns f e) ≡ no_flag e
  unfolding no_flag
  flag-mapped e = rw (bool-mapped 1 f e) refl

  argument-mapped : (t : Expr → Bool) → ((e : Expr) → t (map_columns f e) ≡ t e) → (place : ℕ) (es : Exprs)
      → argument_is place t (map_columns_all f es) ≡ argument_is place t es
  unfolding argument_is map_columns
  argument-mapped t h place nil = refl
  argument-mapped t h zero (cons e es) = h e
  argument-mapped t h (suc place) (cons e es) = argument-mapped t h place es

  has-mapped : (place : ℕ) (es : Exprs) → has_argument place (map_columns_all f es) ≡ has_argument place es
  unfolding has_argument
  has-mapped place es = argument-mapped (λ e. true) (λ e. refl) place es

  lacks-mapped : (line : PriceLine) (es : Exprs) → lacks line (map_columns_all f es) ≡ lacks line es
  unfolding lacks
  lacks-mapped relation_line es = ap not (has-mapped 1 es)
  lacks-mapped distance_line es = ap not (has-mapped 2 es)
  lacks-mapped knn_line es = ap not (has-mapped 1 es)
  lacks-mapped no_line es = refl

  literal-mapped : (t : Expr → Bool) → ((e : Expr) → t (map_columns f e) ≡ t e) → (line : PriceLine) (es : Exprs) (place : ℕ)
      → knn_literal_is line (map_columns_all f es) place t ≡ knn_literal_is line es place t
  unfolding knn_literal_is
  literal-mapped t h line es place = ap (λ (b : Bool). is_knn_line line && b) (argument-mapped t h place es)

-- ---- arguments in range

with-range : (b : ℕ) (d : Expr) (es : Exprs) → InRange (index_below b) d → InRangeAll (index_below b) es
    → InRangeAll (index_below b) (with_bound d es)
unfolding with_bound
with-range b d nil h g = (h, tt)
with-range b d (cons x nil) h g = (g.0, (h, tt))
with-range b d (cons x (cons y more)) h g = (g.0, (g.1.0, (h, tt)))

compared-range : (b : ℕ) (m d : Expr) → InRange (index_below b) m → InRange (index_below b) d
    → InRangeAll (index_below b) (arguments_compared (compares m d))
unfolding arguments_compared distance_arguments
compared-range b (column i t) d h g = tt
compared-range b (literal type v) d h g = tt
compared-range b (and l r) d h g = tt
compared-range b (binary o l r) d h g = tt
compared-range b (call name es) d h g = cases (same_name name (ascii "st_distance"))
  where
    cases : (p : Bool) → InRangeAll (index_below b) (given (if p then some es else none) then with_bound d else nil)
    cases true = with-range b d es g h.4
    cases false = tt
compared-range b (other tag es) d h g = tt
compared-range b (field x t) d h g = tt

arguments-range : (b : ℕ) (e : Expr) → InRange (index_below b) e → InRangeAll (index_below b) (arguments_of e)
unfolding arguments_of comparison
arguments-range b (column i t) h = tt
arguments-range b (literal type v) h = tt
arguments-range b (and l r) h = tt
arguments-range b (binary o l r) h = cases (eqb o 1 || eqb o 2) (eqb o 3 || eqb o 4)
  where
    cases : (p q : Bool)
        → InRangeAll (index_below b) (arguments_compared (if p then compares l r else if q then compares r l else no_comparison))
    cases true q = compared-range b l r h.2 h.3
    cases false true = compared-range b r l h.3 h.2
    cases false false = unfold arguments_compared in tt
arguments-range b (call name es) h = h.4
arguments-range b (other tag es) h = tt
arguments-range b (field x t) h = tt

-- ---- the verdict

first-same : (t u : Verdict → Bool) (last : Verdict) → ((v : Verdict) → t v ≡ u v) → (vs : List Verdict)
    → first_that t last vs ≡ first_that u last vs
unfolding first_that
first-same t u last h [] = refl
first-same t u last h (v ∷ vs) = ap₂ (λ (b : Bool) (x : Verdict). if b then v else x) (h v) (first-same t u last h vs)

module _ (rs rs' : List Record) (f : ℕ → ℕ) (b : ℕ) (same : (i : ℕ) → i < b → record_at rs' (f i) ≡ record_at rs i) where
  argument-moved : (t : List Side → Bool) (place : ℕ) (es : Exprs) → InRangeAll (index_below b) es
      → argument_is place (λ e. t (sides_of rs' e)) (map_columns_all f es) ≡ argument_is place (λ e. t (sides_of rs e)) es
  unfolding argument_is map_columns sides_of
  argument-moved t place nil h = refl
  argument-moved t zero (cons e es) h = ap t (sides-moved rs rs' f b same e h.0)
  argument-moved t (suc place) (cons e es) h = argument-moved t place es h.1

  geometry-moved : (t : List Side → Bool) (line : PriceLine) (es : Exprs) → InRangeAll (index_below b) es → (place : ℕ)
      → geometry_is rs' line (map_columns_all f es) place t ≡ geometry_is rs line es place t
  unfolding geometry_is
  geometry-moved t line es h place = ap (λ (x : Bool). not (is_no_line line) && x) (argument-moved t place es h)

  bound-moved : (t : List Side → Bool) (line : PriceLine) (es : Exprs) → InRangeAll (index_below b) es
      → bound_is rs' line (map_columns_all f es) t ≡ bound_is rs line es t
  unfolding bound_is
  bound-moved t line es h = ap (λ (x : Bool). is_distance_line line && x) (argument-moved t 2 es h)

  module _ (S : Settings) (e : Expr) (range : InRange (index_below b) e) where
    by-moved : (line : PriceLine) (es : Exprs) → InRangeAll (index_below b) es → (v : Verdict)
        → applies_by S rs' (map_columns f e) line (map_columns_all f es) v ≡ applies_by S rs e line es v
    unfolding applies_by
    by-moved line es h as_relation = refl
    by-moved line es h as_distance = refl
    by-moved line es h as_knn = refl
    by-moved line es h other_case = ap (λ (x : Bool). is_no_line line && x) (small-mapped f e)
    by-moved line es h other_side = ap (λ (x : Bool). is_no_line line && x) (side-mapped f e)
    by-moved line es h other_operator = ap (λ (x : Bool). is_no_line line && x) (beside-mapped f e)
    by-moved line es h inside_another = ap (λ (x : Bool). is_no_line line && x) (inside-mapped f e)
    by-moved line es h nothing_of_ours = refl
    by-moved line es h kind_left_out = refl
    by-moved line es h too_few_arguments = lacks-mapped f line es
    by-moved line es h too_many_arguments = ap (λ (x : Bool). is_knn_line line && x) (has-mapped f 5 es)
    by-moved line es h first_without_columns = geometry-moved none_of line es h 0
    by-moved line es h first_of_both = geometry-moved of_both line es h 0
    by-moved line es h first_with_mark = geometry-moved of_mark line es h 0
    by-moved line es h second_without_columns = geometry-moved none_of line es h 1
    by-moved line es h second_of_both = geometry-moved of_both line es h 1
    by-moved line es h second_with_mark = geometry-moved of_mark line es h 1
    by-moved line es h both_left =
        ap₂ ◌&&◌ (geometry-moved (only_of left) line es h 0) (geometry-moved (only_of left) line es h 1)
    by-moved line es h both_right =
        ap₂ ◌&&◌ (geometry-moved (only_of right) line es h 0) (geometry-moved (only_of right) line es h 1)
    by-moved line es h bound_of_both = bound-moved of_both line es h
    by-moved line es h bound_with_mark = bound-moved of_mark line es h
    by-moved line es h k_no_number = literal-mapped f no_number (no-number-mapped f) line es 2
    by-moved line es h k_below_one = literal-mapped f below_one (below-mapped f) line es 2
    by-moved line es h k_above_greatest = literal-mapped f (above S.greatest_k) (above-mapped f S.greatest_k) line es 2
    by-moved line es h spheroid_no_flag = literal-mapped f no_flag (flag-mapped f) line es 3
    by-moved line es h ties_no_flag = literal-mapped f no_flag (flag-mapped f) line es 4

    applies-moved : (v : Verdict) → applies S rs' (map_columns f e) v ≡ applies S rs e v
    unfolding applies
    applies-moved v =
        ap₂ (λ (line : PriceLine) (es : Exprs). applies_by S rs' (map_columns f e) line es v) (line-mapped f e) (leaf-arguments f e)
        ∙ by-moved (line_meant e) (arguments_of e) (arguments-range b e range) v

    verdict-moved : verdict_under S rs' (map_columns f e) ≡ verdict_under S rs e
    unfolding verdict_under
    verdict-moved =
        first-same (applies S rs' (map_columns f e)) (applies S rs e) (matches_as (line_meant (map_columns f e))) applies-moved reasons
        ∙ ap (λ (line : PriceLine). first_that (applies S rs e) (matches_as line) reasons) (line-mapped f e)

  one-moved : (S : Settings) (e : Expr) → InRange (index_below b) e
      → map (verdict_under S rs') (map_columns f e ∷ []) ≡ map (verdict_under S rs) (e ∷ [])
  one-moved S e h = ap (λ (v : Verdict). v ∷ []) (verdict-moved S e h)

  leaves-moved : (S : Settings) (e : Expr) → InRange (index_below b) e
      → map (verdict_under S rs') (leaves (map_columns f e)) ≡ map (verdict_under S rs) (leaves e)
  unfolding leaves map_columns
  leaves-moved S (column i t) h = one-moved S (column i t) h
  leaves-moved S (literal type v) h = one-moved S (literal type v) h
  leaves-moved S (and l r) h = simp map-append (ap₂ ◌++◌ (leaves-moved S l h.0) (leaves-moved S r h.1))
  leaves-moved S (binary o l r) h = one-moved S (binary o l r) h
  leaves-moved S (call name es) h = one-moved S (call name es) h
  leaves-moved S (other tag es) h = one-moved S (other tag es) h
  leaves-moved S (field x t) h = absurd h

-- ---- a merged frame

old-leaves : (S : Settings) (rs rs' : List Record) (e : Expr) → InRange (index_below (length rs)) e
    → map (verdict_under S (rs ++ rs')) (leaves e) ≡ map (verdict_under S rs) (leaves e)
old-leaves S rs rs' e h =
    ap (λ (x : Expr). map (verdict_under S (rs ++ rs')) (leaves x)) (sym (map-kept e))
    ∙ leaves-moved rs (rs ++ rs') (λ i. i) (length rs) (λ i k. old-record rs rs' i k) S e h

pub verdicts-joined : VerdictsMerged
unfolding verdicts_under merge_frames raised leaves
verdicts-joined S old new g k =
    let rs : List Record = old.records in
    let rs' : List Record = new.records in
    map-append (verdict_under S (rs ++ rs')) (leaves old.expr) (leaves (map_columns (λ i. length rs + i) new.expr))
    ∙ ap₂ ◌++◌ (old-leaves S rs rs' old.expr g.readable.expr.in_range)
    (leaves-moved rs' (rs ++ rs') (λ i. length rs + i) (length rs') (λ i _. new-record rs rs' i) S
    new.expr k.readable.expr.in_range)
