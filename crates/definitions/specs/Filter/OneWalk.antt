-- Requests 9 and 10 of document 02: one walk over the AND-leaves, what it remembers, and how many nodes it reads.
use Rattle.std.specs.Prelude.{ℕ, suc, Bool, List, [], ◌∷◌, ◌++◌, if◌then◌else◌}
use Rattle.std.proofs.Math.Option.{Option, none, some}
use Rattle.definitions.specs.Words.Expression.{Expr, column, literal, and, binary, call, other, field, Frame, Predicate}
use Rattle.definitions.specs.Filter.Match.{match_leaf}
use Rattle.definitions.specs.Filter.Extract.{Pick, is_knn, is_knn_match, first_of, Matcher}

-- ---- what it remembers (request 9)

-- So many leaves were read without a KNN match, and the first match among them is remembered, if there is one; or the walk stopped at a
-- KNN match.
pub data Memory : Type 0 where
  reading : (leaves : ℕ) → (first : Option Pick) → Memory
  stopped_at : Pick → Memory

-- One leaf more, after so many: a KNN match stops the walk; another match is remembered if none was before it.
unfoldable pub read_leaf : (leaves : ℕ) → (first : Option Pick) → Option Predicate → Memory
read_leaf n first none = reading (suc n) first
read_leaf n first (some p) =
    if is_knn p then stopped_at (record { position = n; predicate = p })
    else reading (suc n) (first_of first (some (record { position = n; predicate = p })))

-- The leaves one after another; a walk that has stopped reads no more.
unfoldable pub walk_on : Memory → (matches : List (Option Predicate)) → Memory
walk_on memory [] = memory
walk_on (stopped_at p) (m ∷ matches) = stopped_at p
walk_on (reading n first) (m ∷ matches) = walk_on (read_leaf n first m) matches

-- The walk from the first leaf on.
unfoldable pub one_walk : (matches : List (Option Predicate)) → Memory
one_walk matches = walk_on (reading 0 none) matches

-- What is picked where the walk ends.
unfoldable pub remembered : Memory → Option Pick
remembered (reading n first) = first
remembered (stopped_at p) = some p

-- ---- how many nodes it reads (request 10)

-- The And nodes and AND-leaves, all reached from the root through And nodes only, in prefix order: the match of each; an And has none.
unfoldable pub reached : (match : Expr → Option Predicate) → Expr → List (Option Predicate)
reached match (column index tag) = match (column index tag) ∷ []
reached match (literal type bytes) = match (literal type bytes) ∷ []
reached match (and l r) = none ∷ (reached match l ++ reached match r)
reached match (binary operator l r) = match (binary operator l r) ∷ []
reached match (call name arguments) = match (call name arguments) ∷ []
reached match (other tag children) = match (other tag children) ∷ []
reached match (field bits tag) = match (field bits tag) ∷ []

-- How many there are up to and including the first that passes the test, or all if none does.
unfoldable pub count_to : {A : Type 0} → (A → Bool) → List A → ℕ
count_to test [] = 0
count_to test (a ∷ more) = suc (if test a then 0 else count_to test more)

-- Those of a frame, up to and including the first KNN match.
unfoldable pub walk_length_by : Matcher → Frame → ℕ
walk_length_by match F = count_to is_knn_match (reached (match F.records) F.expr)

-- 01's, with `match_leaf`.
abbrev pub walk_length : Frame → ℕ
walk_length = walk_length_by match_leaf
