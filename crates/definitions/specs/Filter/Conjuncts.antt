-- Request 14 of document 02: all indexable conjuncts of a frame, by repeated extraction.
use Rattle.std.specs.Prelude.{ℕ, zero, suc, Bool, not, List, [], ◌∷◌, ◌++◌, map, length, take, drop, get_or, if◌then◌else◌}
use Rattle.std.proofs.Math.Option
use Rattle.std.proofs.Math.Option.{Option, none, some}
use Rattle.definitions.specs.Words.Basics.{any}
use Rattle.definitions.specs.Words.Expression.{Expr, column, literal, and, binary, call, other, field, Frame, Predicate, Extraction}
use Rattle.definitions.specs.Words.Leaves.{leaves}
use Rattle.definitions.specs.Filter.Extract.{Pick, is_knn, prune, Matcher, matches_by, extraction_by, is_match}
use Rattle.definitions.specs.Filter.Exchange.{exchange_frame, exchange_predicate}

-- ---- the rounds

-- The leaves taken, in the order of the rounds, each with its position in the first frame; and the last remainder.
pub record Conjuncts : Type 0 where
  pub taken : List Pick
  pub rest : Option Frame

-- No round: nothing is taken.
unfoldable pub no_round : Option Frame → Conjuncts
no_round R = record { taken = []; rest = R }

-- What one round took, then what the others take and leave.
unfoldable pub round_then : Pick → Conjuncts → Conjuncts
round_then p C = record { taken = p ∷ C.taken; rest = C.rest }

-- A list without the element at a position.
unfoldable pub but : {A : Type 0} → (position : ℕ) → List A → List A
but i xs = take i xs ++ drop (suc i) xs

-- What an extraction took, with its position in the first frame, where the leaves of the round's frame have these positions.
unfoldable pub in_first : (positions : List ℕ) → Extraction → Pick
in_first positions X = record { position = get_or positions X.position 0; predicate = X.predicate }

-- One round: it extracts, and the others go on with the remainder; where 13 comes the frame is left.
unfoldable pub round : (others : (positions : List ℕ) → Option Frame → Conjuncts) → (positions : List ℕ) → Frame → Option Extraction
    → Conjuncts
round others positions F none = no_round (some F)
round others positions F (some X) = round_then (in_first positions X) (others (but X.position positions) X.remainder)

-- Rounds until no remainder is left or 13 comes, `most` of them at the most.
unfoldable pub rounds : Matcher → (most : ℕ) → (positions : List ℕ) → Option Frame → Conjuncts
rounds match zero positions R = no_round R
rounds match (suc most) positions none = no_round none
rounds match (suc most) positions (some F) = round (rounds match most) positions F (extraction_by match F)

-- So many positions, from a first one on.
unfoldable pub positions_from : (first number : ℕ) → List ℕ
positions_from i zero = []
positions_from i (suc n) = i ∷ positions_from (suc i) n

-- The positions of a frame's AND-leaves.
abbrev pub positions_of : Frame → List ℕ
positions_of F = positions_from 0 (length (leaves F.expr))

-- All indexable conjuncts of a frame. Each round takes one of its AND-leaves, so there are no more rounds than these (`enough`).
unfoldable pub conjuncts_by : Matcher → Frame → Conjuncts
conjuncts_by match F = rounds match (length (leaves F.expr)) (positions_of F) (some F)

-- ---- what is taken and what is left, told at once

-- The matches that pass a test, in order, where the leaves have these positions.
unfoldable pub matching : (Predicate → Bool) → (positions : List ℕ) → (matches : List (Option Predicate)) → List Pick
matching test is [] = []
matching test [] (m ∷ ms) = []
matching test (i ∷ is) (none ∷ ms) = matching test is ms
matching test (i ∷ is) (some p ∷ ms) =
    if test p then record { position = i; predicate = p } ∷ matching test is ms else matching test is ms

-- Whether a predicate is not KNN.
unfoldable pub is_other : Predicate → Bool
is_other p = not (is_knn p)

-- The KNN matches in their order, then the others in theirs.
unfoldable pub knn_first : (positions : List ℕ) → (matches : List (Option Predicate)) → List Pick
knn_first positions ms = matching is_knn positions ms ++ matching is_other positions ms

-- How many leaves match.
unfoldable pub match_count : List (Option Predicate) → ℕ
match_count [] = 0
match_count (none ∷ ms) = match_count ms
match_count (some p ∷ ms) = suc (match_count ms)

-- Both sides of an And, of which either may be gone.
unfoldable pub and_both : Option Expr → Option Expr → Option Expr
and_both none r = r
and_both (some l) none = some l
and_both (some l) (some r) = some (and l r)

-- A leaf, unless it is to go.
unfoldable pub unless : (goes : Expr → Bool) → (leaf : Expr) → Option Expr
unless goes leaf = if goes leaf then none else some leaf

-- An expression without the AND-leaves that are to go, and without the Ands that have lost a side.
unfoldable pub without_all : (goes : Expr → Bool) → Expr → Option Expr
without_all goes (and l r) = and_both (without_all goes l) (without_all goes r)
without_all goes (column index tag) = unless goes (column index tag)
without_all goes (literal type bytes) = unless goes (literal type bytes)
without_all goes (binary operator l r) = unless goes (binary operator l r)
without_all goes (call name arguments) = unless goes (call name arguments)
without_all goes (other tag children) = unless goes (other tag children)
without_all goes (field bits tag) = unless goes (field bits tag)

-- What is left of a frame without its matching leaves, pruned once; without a match, the frame as it is.
unfoldable pub last_remainder : Matcher → Frame → Option Frame
last_remainder match F =
    if any is_match (matches_by match F)
    then Option.map (prune F.records) (without_all (λ leaf. is_match (match F.records leaf)) F.expr)
    else some F

-- ---- exchange

-- An exchanged pick keeps its position.
unfoldable pub exchange_pick : Pick → Pick
exchange_pick p = record { position = p.position; predicate = exchange_predicate p.predicate }

-- Exchange of all the predicates and of the last remainder.
unfoldable pub exchange_conjuncts : Conjuncts → Conjuncts
exchange_conjuncts C = record { taken = map exchange_pick C.taken; rest = Option.map exchange_frame C.rest }
