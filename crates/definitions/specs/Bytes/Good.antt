-- Good frames, extractions and plans: every field in its range, length, nodes and depth within the limits.
use Rattle.std.specs.Prelude.{ℕ, suc, ◌+◌, ◌≤◌, ◌<◌, max, ◌≡◌, true, ◌&&◌, List, [], ◌∷◌, length, leb, ltb}
use Rattle.std.proofs.Math.Option.{Option, none, some}
use Rattle.definitions.specs.Words.Limits.{most_bytes, most_nodes, most_levels, most_records, most_operator, most_name_bytes, first_name_byte, last_name_byte, most_children, two_bytes, eight_bytes}
use Rattle.definitions.specs.Words.Expression.{Side, left, right, no_side, Expr, column, literal, and, binary, call, other, field, Exprs, nil, cons, Record, Frame, Predicate, relation, distance, knn, Plan, empty, held, extracted, count}
use Rattle.definitions.specs.Words.Literals.{literal_in_range, is_k}
use Rattle.definitions.specs.Words.Leaves.{arity}
use Rattle.definitions.specs.Bytes.Encode.{plan_bytes}
use Rattle.definitions.specs.Bytes.Decode.{Columns, index_below, fields}

-- Every number of the list has the property.
abbrev pub All : (ℕ → Type 0) → List ℕ → Type 0
All P [] = Unit {0}
All P (x ∷ xs) = P x × All P xs

-- Every number is a byte.
abbrev pub AllBytes : List ℕ → Type 0
AllBytes s = All (λ b. b < 256) s

unfoldable mutual
  -- How many nodes an expression has.
  pub nodes : Expr → ℕ
  nodes (column index tag) = 1
  nodes (literal type bytes) = 1
  nodes (and l r) = suc (nodes l + nodes r)
  nodes (binary operator l r) = suc (nodes l + nodes r)
  nodes (call name arguments) = suc (nodes_all arguments)
  nodes (other tag children) = suc (nodes_all children)
  nodes (field bits tag) = 1

  -- How many several expressions have.
  pub nodes_all : Exprs → ℕ
  nodes_all nil = 0
  nodes_all (cons e es) = nodes e + nodes_all es

unfoldable mutual
  -- How many levels an expression has; the root is the first.
  pub depth : Expr → ℕ
  depth (column index tag) = 1
  depth (literal type bytes) = 1
  depth (and l r) = suc (max (depth l) (depth r))
  depth (binary operator l r) = suc (max (depth l) (depth r))
  depth (call name arguments) = suc (depth_all arguments)
  depth (other tag children) = suc (depth_all children)
  depth (field bits tag) = 1

  -- How many the deepest of several has.
  pub depth_all : Exprs → ℕ
  depth_all nil = 0
  depth_all (cons e es) = max (depth e) (depth_all es)

-- Two bytes hold it.
abbrev pub Short : ℕ → Type 0
Short n = n < two_bytes

-- Each byte of a name is from 33 to 126.
abbrev pub NameBytes : List ℕ → Type 0
NameBytes [] = Unit {0}
NameBytes (b ∷ s) = ((leb first_name_byte b && leb b last_name_byte) ≡ true) × NameBytes s

-- A physical column: index below the bound, two bytes each.
abbrev pub ColumnInRange : Columns → (index tag : ℕ) → Type 0
ColumnInRange (index_below bound) index tag = (ltb index bound ≡ true) × Short index × Short tag
ColumnInRange fields index tag = ⊥

-- A logical column: bits 0 to 3.
abbrev pub FieldInRange : Columns → (bits tag : ℕ) → Type 0
FieldInRange (index_below bound) bits tag = ⊥
FieldInRange fields bits tag = (bits ≤ 3) × Short tag

abbrev mutual
  -- Every field of the expression is in its range.
  pub InRange : Columns → Expr → Type 0
  InRange c (column index tag) = ColumnInRange c index tag
  InRange c (literal type bytes) = (type ≤ 6) × (bytes < eight_bytes) × (literal_in_range type bytes ≡ true)
  InRange c (and l r) = InRange c l × InRange c r
  InRange c (binary operator l r) = (1 ≤ operator) × (operator ≤ most_operator) × InRange c l × InRange c r
  InRange c (call name arguments) =
      (1 ≤ length name) × (length name ≤ most_name_bytes) × NameBytes name × (count arguments ≤ most_children) × InRangeAll c arguments
  InRange c (other tag children) = Short tag × (count children ≤ most_children) × InRangeAll c children
  InRange c (field bits tag) = FieldInRange c bits tag

  -- Every field of several expressions is.
  pub InRangeAll : Columns → Exprs → Type 0
  InRangeAll c nil = Unit {0}
  InRangeAll c (cons e es) = InRange c e × InRangeAll c es

-- An expression in range and of at most 64 levels.
pub record Readable (c : Columns) (e : Expr) : Type 0 where
  pub in_range : InRange c e
  pub shallow : depth e ≤ most_levels

-- Child index and field tag of each record are of two bytes.
abbrev pub RecordsInRange : List Record → Type 0
RecordsInRange [] = Unit {0}
RecordsInRange (r ∷ rs) = (Short r.child × Short r.tag) × RecordsInRange rs

-- A frame in range, without the limits on its bytes and nodes.
pub record ReadableFrame (F : Frame) : Type 0 where
  pub few : length F.records ≤ most_records
  pub records_in_range : RecordsInRange F.records
  pub expr : Readable (index_below (length F.records)) F.expr
  pub arity : arity F.expr ≡ true

-- A probe side is left or right.
abbrev pub OneOfTwo : Side → Type 0
OneOfTwo left = Unit {0}
OneOfTwo right = Unit {0}
OneOfTwo no_side = ⊥

-- A predicate in range; its columns have no bound but their width, and its k is one (request 5).
abbrev pub ReadablePredicate : Predicate → Type 0
ReadablePredicate (relation type l r) = Readable (index_below two_bytes) l × Readable (index_below two_bytes) r
ReadablePredicate (distance form side l r bound) =
    (form ≤ 4) × Readable (index_below two_bytes) l × Readable (index_below two_bytes) r × Readable (index_below two_bytes) bound
ReadablePredicate (knn k spheroid probe ties l r) =
    (is_k k ≡ true) × (spheroid ≤ 1) × OneOfTwo probe × (ties ≤ 2) × Readable (index_below two_bytes) l × Readable (index_below two_bytes) r

-- A remainder in range.
abbrev pub ReadableRemainder : Option Frame → Type 0
ReadableRemainder none = Unit {0}
ReadableRemainder (some F) = ReadableFrame F

-- How many nodes a predicate has.
unfoldable pub predicate_nodes : Predicate → ℕ
predicate_nodes (relation type l r) = nodes l + nodes r
predicate_nodes (distance form side l r bound) = nodes l + nodes r + nodes bound
predicate_nodes (knn k spheroid probe ties l r) = nodes l + nodes r

-- How many nodes a remainder has.
unfoldable pub remainder_nodes : Option Frame → ℕ
remainder_nodes none = 0
remainder_nodes (some F) = nodes F.expr

-- How many nodes a plan has over the whole.
unfoldable pub plan_nodes : Plan → ℕ
plan_nodes empty = 0
plan_nodes (held F) = nodes F.expr
plan_nodes (extracted X) = predicate_nodes X.predicate + remainder_nodes X.remainder

-- A plan in range; an extraction's position is any that two bytes hold (request 4).
abbrev pub ReadablePlan : Plan → Type 0
ReadablePlan empty = Unit {0}
ReadablePlan (held F) = ReadableFrame F
ReadablePlan (extracted X) = Short X.position × ReadablePredicate X.predicate × ReadableRemainder X.remainder

-- A good plan: in range, at most 1,024 nodes over the whole, at most 16,384 bytes.
pub record GoodPlan (p : Plan) : Type 0 where
  pub readable : ReadablePlan p
  pub few_nodes : plan_nodes p ≤ most_nodes
  pub few_bytes : length (plan_bytes p) ≤ most_bytes
