-- Requests 9 and 10 of document 02 by computation: what one walk remembers, and its length.
use Rattle.std.specs.Prelude.{ℕ, ◌≡◌, [], ◌∷◌, length, replicate}
use Rattle.std.proofs.Math.Option.{none, some}
use Rattle.definitions.specs.Words.Basics.{ascii}
use Rattle.definitions.specs.Words.Expression.{left, within, Expr, and, binary, call, Frame, Predicate, relation, knn}
use Rattle.definitions.specs.Bytes.Encode.{frame_bytes, extraction_bytes}
use Rattle.definitions.specs.Bytes.NodeTable.{node_table}
use Rattle.definitions.specs.Filter.Extract.{Pick}
use Rattle.definitions.specs.Filter.OneWalk.{reading, stopped_at, one_walk, walk_length}
use Rattle.definitions.specs.Calls.Base.{extract_walk}
use Rattle.definitions.specs.Rows.Ten.{worked_frame, L, R, on_both, pair}
use Rattle.definitions.specs.Rows.Position.{placed_at}

-- A KNN match, a relation, and a leaf that does not match.
abbrev pub near : Predicate
near = knn 1 0 left 2 L R

abbrev pub inside : Predicate
inside = relation within L R

abbrev pub near_leaf : Expr
near_leaf = call (ascii "st_knn") (pair L R)

abbrev pub inside_leaf : Expr
inside_leaf = call (ascii "st_within") (pair L R)

abbrev pub plain_leaf : Expr
plain_leaf = binary 5 L R

abbrev pub picked_at : ℕ → Predicate → Pick
picked_at position p = record { position = position; predicate = p }

-- The walk that an extract of a frame carries, with its own table and a scratch of so many bytes.
abbrev pub walk_of : Frame → (room : ℕ) → ℕ
walk_of F room = extract_walk (length (frame_bytes F)) (frame_bytes F) (replicate room 0) (node_table F)

pub record WalkRows : Type 0 where
  -- nothing, the first other match and not the last, and a KNN match after it, where it stops
  pub nothing_yet : one_walk (none ∷ none ∷ []) ≡ reading 2 none
  pub first-other : one_walk (none ∷ some inside ∷ some (relation within R L) ∷ []) ≡ reading 3 (some (picked_at 1 inside))
  pub at-knn : one_walk (some inside ∷ some near ∷ some (knn 2 0 left 2 L R) ∷ []) ≡ stopped_at (picked_at 1 near)
  -- one leaf; three of them, without a KNN match and with one as the first, the second and the last
  pub one-leaf : walk_length (on_both inside_leaf) ≡ 1
  pub worked : walk_length worked_frame ≡ 3
  pub all-of-them : walk_length (on_both (and (and inside_leaf plain_leaf) inside_leaf)) ≡ 5
  pub knn-first : walk_length (on_both (and (and near_leaf plain_leaf) inside_leaf)) ≡ 3
  pub knn-second : walk_length (on_both (and (and inside_leaf near_leaf) near_leaf)) ≡ 4
  pub knn-on-the-right : walk_length (on_both (and inside_leaf (and near_leaf near_leaf))) ≡ 4
  pub knn-last : walk_length (on_both (and plain_leaf (and inside_leaf near_leaf))) ≡ 5
  -- a call carries it, accepted and with 13; with 9, 10, 11 and 12 it carries 0
  pub accepted-carries : walk_of (on_both (and (and inside_leaf plain_leaf) near_leaf)) 512 ≡ 5
  pub thirteen-carries : walk_of (on_both (and plain_leaf plain_leaf)) 512 ≡ 3
  pub nine-carries-0 : walk_of (on_both (and plain_leaf plain_leaf)) 3 ≡ 0
  pub ten-carries-0 : extract_walk (length (frame_bytes worked_frame)) (frame_bytes worked_frame) (replicate 512 0) [] ≡ 0
  pub eleven-carries-0 : extract_walk 0 (frame_bytes worked_frame) [] [] ≡ 0
  pub twelve-carries-0 : extract_walk 15 (extraction_bytes (placed_at 0)) (replicate 15 0) [] ≡ 0
