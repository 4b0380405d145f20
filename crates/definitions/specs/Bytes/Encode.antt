-- The bytes of frames, extractions and plans.
use Rattle.std.specs.Prelude.{ℕ, suc, List, [], ◌∷◌, ◌++◌, length, if◌then◌else◌}
use Rattle.std.proofs.Math.Bool.{decide}
use Rattle.std.proofs.Math.Option.{Option, none, some}
use Rattle.definitions.specs.Words.Basics.{big_endian}
use Rattle.definitions.specs.Words.Expression.{Side, left, right, no_side, Relation, same_relation, Named, relations, Expr, column, literal, and, binary, call, other, field, Exprs, nil, cons, count, Record, Frame, Predicate, relation, distance, knn, Extraction, Plan, empty, held, extracted}

-- Sides: 0 left, 1 right, 2 none.
unfoldable pub side_number : Side → ℕ
side_number left = 0
side_number right = 1
side_number no_side = 2

-- The position of a type in a list of them, from 0. (Never seen at the list's end, because every type is listed.)
unfoldable pub position_in : List Named → Relation → ℕ
position_in [] type = 0
position_in (one ∷ more) type = if decide (same_relation one.type type) then 0 else suc (position_in more type)

-- A type's number is its position in declaration order.
unfoldable pub relation_number : Relation → ℕ
relation_number type = position_in relations type

unfoldable mutual
  -- An expression in prefix order, children after their parent.
  pub expr_bytes : Expr → List ℕ
  expr_bytes (column index tag) = 0 ∷ (big_endian 2 index ++ big_endian 2 tag)
  expr_bytes (literal type bytes) = 1 ∷ type ∷ big_endian 8 bytes
  expr_bytes (and l r) = 2 ∷ 0 ∷ (expr_bytes l ++ expr_bytes r)
  expr_bytes (binary operator l r) = 2 ∷ operator ∷ (expr_bytes l ++ expr_bytes r)
  expr_bytes (call name arguments) = 3 ∷ length name ∷ (name ++ (count arguments ∷ exprs_bytes arguments))
  expr_bytes (other tag children) = 4 ∷ (big_endian 2 tag ++ (count children ∷ exprs_bytes children))
  expr_bytes (field bits tag) = 5 ∷ bits ∷ big_endian 2 tag

  -- Several expressions, one after another.
  pub exprs_bytes : Exprs → List ℕ
  exprs_bytes nil = []
  exprs_bytes (cons e es) = expr_bytes e ++ exprs_bytes es

-- A record: side, child index, field tag.
unfoldable pub record_bytes : Record → List ℕ
record_bytes r = side_number r.side ∷ (big_endian 2 r.child ++ big_endian 2 r.tag)

-- Records, one after another.
unfoldable pub records_bytes : List Record → List ℕ
records_bytes [] = []
records_bytes (r ∷ rs) = record_bytes r ++ records_bytes rs

-- A physical frame: `01`, column count, records, expression.
unfoldable pub frame_bytes : Frame → List ℕ
frame_bytes F = 1 ∷ (big_endian 2 (length F.records) ++ (records_bytes F.records ++ expr_bytes F.expr))

-- The first byte of an extraction.
unfoldable pub predicate_kind : Predicate → ℕ
predicate_kind (relation type l r) = 0x11
predicate_kind (distance form side l r bound) = 0x12
predicate_kind (knn k spheroid probe ties l r) = 0x13

-- A predicate after its first byte and the position that follows it.
unfoldable pub predicate_fields : Predicate → List ℕ
predicate_fields (relation type l r) = relation_number type ∷ (expr_bytes l ++ expr_bytes r)
predicate_fields (distance form side l r bound) = form ∷ side_number side ∷ (expr_bytes l ++ (expr_bytes r ++ expr_bytes bound))
predicate_fields (knn k spheroid probe ties l r) = big_endian 4 k ++ (spheroid ∷ side_number probe ∷ ties ∷ (expr_bytes l ++ expr_bytes r))

-- `00` for no remainder, or a physical frame.
unfoldable pub remainder_bytes : Option Frame → List ℕ
remainder_bytes none = 0 ∷ []
remainder_bytes (some F) = frame_bytes F

-- An extraction: its first byte, its position in two bytes (request 4), the rest of its predicate, then its remainder.
unfoldable pub extraction_bytes : Extraction → List ℕ
extraction_bytes X =
    predicate_kind X.predicate ∷ (big_endian 2 X.position ++ (predicate_fields X.predicate ++ remainder_bytes X.remainder))

-- The bytes of a plan.
unfoldable pub plan_bytes : Plan → List ℕ
plan_bytes empty = []
plan_bytes (held F) = frame_bytes F
plan_bytes (extracted X) = extraction_bytes X
