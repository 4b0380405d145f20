-- The pick, the remainder, and the extraction of a frame.
use Rattle.std.specs.Prelude.{ℕ, suc, ◌-◌, Bool, true, false, ◌&&◌, List, [], ◌∷◌, map, length, take, ltb, eqb, if◌then◌else◌}
use Rattle.std.proofs.Math.Option
use Rattle.std.proofs.Math.Option.{Option, none, some}
use Rattle.definitions.specs.Words.Basics.{any, keep}
use Rattle.definitions.specs.Words.Expression.{Expr, column, literal, and, binary, call, other, field, Record, Frame, Predicate, relation, distance, knn, Extraction}
use Rattle.definitions.specs.Words.Leaves.{leaves}
use Rattle.definitions.specs.Words.References.{columns_of, record_at, same_side, map_columns}
use Rattle.definitions.specs.Filter.Match.{match_leaf}

-- ---- the pick

-- The leaf that is taken: its position among the AND-leaves, from 0, and its predicate.
pub record Pick : Type 0 where
  pub position : ℕ
  pub predicate : Predicate

-- Whether a predicate is KNN.
unfoldable pub is_knn : Predicate → Bool
is_knn (relation type l r) = false
is_knn (distance form side l r bound) = false
is_knn (knn k spheroid probe ties l r) = true

-- Whether a leaf is a KNN match.
unfoldable pub is_knn_match : Option Predicate → Bool
is_knn_match none = false
is_knn_match (some p) = is_knn p

-- Whether a leaf matches.
unfoldable pub is_match : Option Predicate → Bool
is_match none = false
is_match (some p) = true

-- A pick among all but the first leaf, counted from the first.
unfoldable pub later : Option Pick → Option Pick
later none = none
later (some p) = some (record { position = suc p.position; predicate = p.predicate })

-- The first match that passes the test.
unfoldable pub first_match : (Predicate → Bool) → (matches : List (Option Predicate)) → Option Pick
first_match test [] = none
first_match test (none ∷ ms) = later (first_match test ms)
first_match test (some p ∷ ms) = if test p then some (record { position = 0; predicate = p }) else later (first_match test ms)

-- The first pick if there is one, else the second.
unfoldable pub first_of : Option Pick → Option Pick → Option Pick
first_of none q = q
first_of (some p) q = some p

-- The first matching KNN leaf, else the first other match.
unfoldable pub pick : (matches : List (Option Predicate)) → Option Pick
pick matches = first_of (first_match is_knn matches) (first_match (λ p. true) matches)

-- ---- the remainder

-- What is left of an And's left side, And its right side.
unfoldable pub and_left : Option Expr → Expr → Expr
and_left none r = r
and_left (some l) r = and l r

-- An And's left side, And what is left of its right side.
unfoldable pub and_right : Expr → Option Expr → Expr
and_right l none = l
and_right l (some r) = and l r

-- The expression without the AND-leaf at a position and its parent And; nothing if it is that leaf.
-- (Never seen past the last leaf, because a pick is one of the leaves.)
unfoldable pub without : (position : ℕ) → Expr → Option Expr
without i (and l r) = some
    (if ltb i (length (leaves l)) then and_left (without i l) r else and_right l (without (i - length (leaves l)) r))
without i (column index tag) = none
without i (literal type bytes) = none
without i (binary operator l r) = none
without i (call name arguments) = none
without i (other tag children) = none
without i (field bits tag) = none

-- Whether two records are equal in side and child index.
unfoldable pub same_column : Record → Record → Bool
same_column a b = same_side a.side b.side && eqb a.child b.child

-- Whether a record equals, in side and child index, one that the expression references.
unfoldable pub referenced : List Record → Expr → Record → Bool
referenced records e r = any (λ index. same_column (record_at records index) r) (columns_of e)

-- How many kept records stand before an index.
unfoldable pub new_index : (Record → Bool) → List Record → ℕ → ℕ
new_index test records index = length (keep test (take index records))

-- The expression over the records that it references, its columns renumbered.
unfoldable pub prune : List Record → Expr → Frame
prune records e = record {
  records = keep (referenced records e) records;
  expr = map_columns (new_index (referenced records e) records) e;
}

-- Request 3: whether an index is held, that is, whether a column node of the expression has it.
unfoldable pub holds : Expr → (index : ℕ) → Bool
holds e index = any (λ c. eqb c index) (columns_of e)

-- ---- the extraction

-- The extraction that takes a pick; it holds the pick's position (request 4).
unfoldable pub take_pick : Frame → Option Pick → Option Extraction
take_pick F none = none
take_pick F (some p) = some (record {
  position = p.position;
  predicate = p.predicate;
  remainder = Option.map (prune F.records) (without p.position F.expr);
})

-- The predicate of a leaf over these records, if the leaf matches. 01's matcher is `match_leaf`; others may stand in its place.
abbrev pub Matcher : Type 0
Matcher = (records : List Record) → (leaf : Expr) → Option Predicate

-- The match of each AND-leaf.
unfoldable pub matches_by : Matcher → Frame → List (Option Predicate)
matches_by match F = map (match F.records) (leaves F.expr)

-- 01's, with `match_leaf`.
abbrev pub matches_of : Frame → List (Option Predicate)
matches_of = matches_by match_leaf

-- The extraction of a frame; none if no leaf matches.
unfoldable pub extraction_by : Matcher → Frame → Option Extraction
extraction_by match F = take_pick F (pick (matches_by match F))

-- 01's, with `match_leaf`.
abbrev pub extraction : Frame → Option Extraction
extraction = extraction_by match_leaf
