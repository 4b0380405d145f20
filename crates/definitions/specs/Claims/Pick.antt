-- What is claimed of the pick, demand 3: which leaf is taken, what is left, and the position that the plan holds (request 4).
use Rattle.std.specs.Prelude.{ℕ, suc, ◌+◌, ◌*◌, ◌≤◌, ◌<◌, ◌≡◌, true, false, List, ◌++◌, length, take, drop, get_or}
use Rattle.std.proofs.Math.Option
use Rattle.std.proofs.Math.Option.{Option, none, some}
use Rattle.definitions.specs.Words.Limits.{most_nodes}
use Rattle.definitions.specs.Words.Expression.{Expr, Frame, Predicate, Extraction}
use Rattle.definitions.specs.Words.Leaves.{leaves}
use Rattle.definitions.specs.Bytes.Encode.{plan_bytes}
use Rattle.definitions.specs.Filter.Extract.{is_knn, without, prune, matches_of, extraction, is_knn_match}
use Rattle.definitions.specs.Filter.Exchange.{extracted_plan}
use Rattle.definitions.specs.Lists.Sessions.{Made, Session, plan_after, extracted_in, odd_in}

-- The match of the AND-leaf at a position.
abbrev pub match_at : (matches : List (Option Predicate)) → (position : ℕ) → Option Predicate
match_at matches position = get_or matches position none

-- With these matches of a frame's leaves the extraction took the leaf at the position that it holds: a match; if KNN, no earlier leaf is a
-- KNN match; if not, none is one and no earlier leaf matches.
pub record TookAmong (matches : List (Option Predicate)) (F : Frame) (X : Extraction) : Type 0 where
  pub match : match_at matches X.position ≡ some X.predicate
  pub rest : X.remainder ≡ Option.map (prune F.records) (without X.position F.expr)
  pub first_knn : is_knn X.predicate ≡ true → (i : ℕ) → i < X.position → is_knn_match (match_at matches i) ≡ false
  pub no_knn : is_knn X.predicate ≡ false → (i : ℕ) → is_knn_match (match_at matches i) ≡ false
  pub first_match : is_knn X.predicate ≡ false → (i : ℕ) → i < X.position → match_at matches i ≡ none

-- The extraction took the leaf at its position, with the matches of 01.
abbrev pub Took : Frame → Extraction → Type 0
Took F X = TookAmong (matches_of F) F X

-- Every extraction takes its leaf so, and where there is none no leaf matches.
abbrev pub PickExactly : Type 0
PickExactly =
    ((F : Frame) (X : Extraction) → extraction F ≡ some X → Took F X)
    × ((F : Frame) → extraction F ≡ none → (position : ℕ) → match_at (matches_of F) position ≡ none)

-- What is left of an expression has its AND-leaves but for the one that was taken, in their order.
abbrev pub RestOfLeaves : Type 0
RestOfLeaves =
    (e r : Expr) (position : ℕ) → position < length (leaves e) → without position e ≡ some r
    → leaves r ≡ take position (leaves e) ++ drop (suc position) (leaves e)

-- After a list in which an extract was accepted, the plan is the extraction of the leaf that `Took` describes.
abbrev pub ExtractTakes : Type 0
ExtractTakes =
    (F : Frame) (s : Session F) (calls : List Made) → extracted_in s calls ≡ true
    → (X : Extraction) × Took F X × (plan_after s calls ≡ plan_bytes (extracted_plan X (odd_in s calls)))

-- Request 4: the position in bytes 1 and 2 of an extraction's bytes, the high byte first.
unfoldable pub position_held : (plan : List ℕ) → ℕ
position_held plan = get_or plan 1 0 * 256 + get_or plan 2 0

-- A plan's bytes 1 and 2 are the position of the leaf that `TookAmong` describes: one of the frame's AND-leaves, of which there are at most
-- 1,024.
abbrev pub NamesLeaf : (matches : List (Option Predicate)) → Frame → (plan : List ℕ) → Type 0
NamesLeaf matches F plan =
    (X : Extraction) × TookAmong matches F X × (position_held plan ≡ X.position)
    × (X.position < length (leaves F.expr)) × (length (leaves F.expr) ≤ most_nodes)

-- After a list in which an extract was accepted they are, exchanged or not.
abbrev pub PositionInBytes : Type 0
PositionInBytes =
    (F : Frame) (s : Session F) (calls : List Made) → extracted_in s calls ≡ true → NamesLeaf (matches_of F) F (plan_after s calls)
