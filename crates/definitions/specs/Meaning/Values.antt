-- Truth values of frames and extractions.
use Rattle.std.specs.Prelude.{ℕ, zero, suc, ◌≡◌, List, [], ◌∷◌, eqb, length, if◌then◌else◌}
use Rattle.std.proofs.Math.Option.{Option, none, some}
use Rattle.definitions.specs.Words.Basics.{ascii}
use Rattle.definitions.specs.Words.Expression.{Side, left, right, Relation, Expr, column, literal, and, binary, call, other, field, Exprs, nil, cons, Record, Frame, Predicate, relation, distance, knn, Extraction, Plan, empty, held, extracted, invert}
use Rattle.definitions.specs.Words.Leaves.{relation_named}
use Rattle.definitions.specs.Words.References.{record_at}
use Rattle.definitions.specs.Bytes.Decode.{index_below}
use Rattle.definitions.specs.Bytes.Good.{InRangeAll}
use Rattle.definitions.specs.Filter.Match.{match_leaf}
use Rattle.definitions.specs.Filter.Extract.{Matcher}
use Rattle.definitions.specs.Filter.Exchange.{negate}
use Rattle.definitions.specs.Filter.Settings.{Settings, match_under}

-- Values: 0 is false, 1 true, others unknown. And gives 0 if either is 0, 1 if both are 1, else 2.
unfoldable pub and_value : ℕ → ℕ → ℕ
and_value zero b = 0
and_value (suc a) zero = 0
and_value (suc zero) (suc zero) = 1
and_value (suc zero) (suc (suc b)) = 2
and_value (suc (suc a)) (suc b) = 2

-- The value of a child's column, by its side and its index in that child.
abbrev pub Valuation : Type 0
Valuation = Side → ℕ → ℕ

-- What nodes other than columns and And mean, and what predicates mean.
pub record Meaning : Type 0 where
  pub literal_value : (type value : ℕ) → ℕ
  pub binary_value : (operator : ℕ) → ℕ → ℕ → ℕ
  pub call_value : (name : List ℕ) → (arguments : List ℕ) → ℕ
  pub other_value : (tag : ℕ) → (children : List ℕ) → ℕ
  pub field_value : (bits tag : ℕ) → ℕ
  pub relation_value : Relation → ℕ → ℕ → ℕ
  pub distance_value : ℕ → ℕ → ℕ
  pub dwithin_value : ℕ → ℕ → (bound : ℕ) → ℕ
  pub knn_value : (query object k spheroid ties : ℕ) → ℕ

unfoldable mutual
  -- The value of an expression, given the values of its columns.
  pub value : Meaning → (ℕ → ℕ) → Expr → ℕ
  value M columns (column index tag) = columns index
  value M columns (literal type bytes) = M.literal_value type bytes
  value M columns (and l r) = and_value (value M columns l) (value M columns r)
  value M columns (binary operator l r) = M.binary_value operator (value M columns l) (value M columns r)
  value M columns (call name arguments) = M.call_value name (values M columns arguments)
  value M columns (other tag children) = M.other_value tag (values M columns children)
  value M columns (field bits tag) = M.field_value bits tag

  -- The values of several expressions.
  pub values : Meaning → (ℕ → ℕ) → Exprs → List ℕ
  values M columns nil = []
  values M columns (cons e es) = value M columns e ∷ values M columns es

-- A frame's columns have the values of their records.
unfoldable pub frame_columns : Valuation → List Record → ℕ → ℕ
frame_columns v records index = v (record_at records index).side (record_at records index).child

-- The truth value of a frame.
unfoldable pub frame_value : Meaning → Valuation → Frame → ℕ
frame_value M v F = value M (frame_columns v F.records) F.expr

-- The value of a distance predicate by its form, from the values of both geometries and the bound.
-- (Never seen above 4, because that byte is at most 4.)
unfoldable pub distance_by_form : Meaning → (form : ℕ) → (l r bound : ℕ) → ℕ
distance_by_form M form l r bound =
    if eqb form 0 then M.dwithin_value l r bound else
    if eqb form 1 then M.binary_value 1 (M.distance_value l r) bound else
    if eqb form 2 then M.binary_value 2 (M.distance_value l r) bound else
    if eqb form 3 then M.binary_value 3 bound (M.distance_value l r) else
    M.binary_value 4 bound (M.distance_value l r)

-- The value of a predicate; the columns of an argument are those of its side.
unfoldable pub predicate_value : Meaning → Valuation → Predicate → ℕ
predicate_value M v (relation type l r) = M.relation_value type (value M (v left) l) (value M (v right) r)
predicate_value M v (distance form side l r bound) =
    distance_by_form M form (value M (v left) l) (value M (v right) r) (value M (v side) bound)
predicate_value M v (knn k spheroid probe ties l r) =
    M.knn_value (value M (v probe) l) (value M (v (negate probe)) r) k spheroid ties

-- A predicate's value, ANDed with the remainder's if there is one.
unfoldable pub and_remainder : Meaning → Valuation → (predicate : ℕ) → Option Frame → ℕ
and_remainder M v p none = p
and_remainder M v p (some F) = and_value p (frame_value M v F)

-- The truth value of an extraction.
unfoldable pub extraction_value : Meaning → Valuation → Extraction → ℕ
extraction_value M v X = and_remainder M v (predicate_value M v X.predicate) X.remainder

-- The truth value of a plan; an empty one, of which 01 says nothing, is unknown (2).
unfoldable pub plan_value : Meaning → Valuation → Plan → ℕ
plan_value M v empty = 2
plan_value M v (held F) = frame_value M v F
plan_value M v (extracted X) = extraction_value M v X

-- The values of left and right columns exchanged.
unfoldable pub exchanged_values : Valuation → Valuation
exchanged_values v side child = v (negate side) child

-- A fair meaning; its leaves match with this matcher (request 13).
pub record FairBy (match : Matcher) (M : Meaning) : Type 0 where
  -- All names of one type agree; a relation reads two arguments and ignores further ones.
  pub relation_call : (name : List ℕ) (type : Relation) → relation_named name ≡ some type → (a b : ℕ) (more : List ℕ)
      → M.call_value name (a ∷ b ∷ more) ≡ M.relation_value type a b
  -- A relation equals its inverse on exchanged arguments.
  pub relation_inverse : (type : Relation) (a b : ℕ) → M.relation_value (invert type) b a ≡ M.relation_value type a b
  -- `st_distance` reads two arguments and ignores further ones,
  pub distance_call : (a b : ℕ) (more : List ℕ) → M.call_value (ascii "st_distance") (a ∷ b ∷ more) ≡ M.distance_value a b
  -- and is symmetric.
  pub distance_symmetric : (a b : ℕ) → M.distance_value a b ≡ M.distance_value b a
  -- `st_dwithin` reads three arguments and ignores further ones,
  pub dwithin_call : (a b bound : ℕ) (more : List ℕ)
      → M.call_value (ascii "st_dwithin") (a ∷ b ∷ bound ∷ more) ≡ M.dwithin_value a b bound
  -- and is symmetric in the first two.
  pub dwithin_symmetric : (a b bound : ℕ) → M.dwithin_value a b bound ≡ M.dwithin_value b a bound
  -- The value of every matching KNN leaf, its fields in their ranges, is one function of its query and object values, k, spheroid and ties.
  pub knn_leaf : (v : Valuation) (records : List Record) (name : List ℕ) (query object : Expr) (more : Exprs)
      → InRangeAll (index_below (length records)) (cons query (cons object more))
      → (k spheroid ties : ℕ) (probe : Side) (l r : Expr)
      → match records (call name (cons query (cons object more))) ≡ some (knn k spheroid probe ties l r)
      → value M (frame_columns v records) (call name (cons query (cons object more)))
      ≡ M.knn_value (value M (frame_columns v records) query) (value M (frame_columns v records) object) k spheroid ties

-- 01's, with `match_leaf`.
abbrev pub Fair : Meaning → Type 0
Fair = FairBy match_leaf

-- A meaning that is fair under settings: to the KNN leaves that match under them, with that default k.
abbrev pub FairUnder : Settings → Meaning → Type 0
FairUnder S = FairBy (match_under S)
