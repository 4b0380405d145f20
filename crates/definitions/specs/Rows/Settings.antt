-- Request 13 of document 02 by computation: what matches under settings, and which settings get 24.
use Rattle.std.specs.Prelude.{ℕ, ◌≡◌, true, false, List, [], ◌∷◌, map, length, replicate}
use Rattle.std.proofs.Math.Option.{Option, none, some}
use Rattle.definitions.specs.Words.Basics.{refused, ascii}
use Rattle.definitions.specs.Words.Expression.{left, no_side, intersects, Expr, literal, and, call, cons, nil, Frame, Predicate, relation, distance, knn}
use Rattle.definitions.specs.Bytes.Encode.{frame_bytes}
use Rattle.definitions.specs.Bytes.NodeTable.{node_table}
use Rattle.definitions.specs.Filter.Settings.{Settings, good_settings, match_under}
use Rattle.definitions.specs.Calls.Settings.{extract_under, extract_walk_under, extract_all_under}
use Rattle.definitions.specs.Rows.Ten.{L, R, on_both, child_l, child_r, pair, knn_of, int32}

-- These kinds, default k and greatest k.
abbrev pub with : (kinds default_k greatest_k : ℕ) → Settings
with kinds default_k greatest_k = record { kinds = kinds; default_k = default_k; greatest_k = greatest_k }

-- What a leaf over both columns matches as.
abbrev pub under : Settings → Expr → Option Predicate
under S e = match_under S (on_both e).records e

-- A relation, a distance and a KNN of two arguments.
abbrev pub relation_leaf : Expr
relation_leaf = call (ascii "st_intersects") (pair L R)

abbrev pub distance_leaf : Expr
distance_leaf = call (ascii "st_dwithin") (cons L (cons R (cons (literal 2 5) nil)))

abbrev pub knn_leaf : Expr
knn_leaf = call (ascii "st_knn") (pair L R)

-- What they match as; KNN with this k.
abbrev pub a_relation : Option Predicate
a_relation = some (relation intersects child_l child_r)

abbrev pub a_distance : Option Predicate
a_distance = some (distance 0 no_side child_l child_r (literal 2 5))

abbrev pub a_knn : (k : ℕ) → Option Predicate
a_knn k = some (knn k 0 left 2 child_l child_r)

-- All three under some settings.
abbrev pub each : Settings → List (Option Predicate)
each S = under S relation_leaf ∷ under S distance_leaf ∷ under S knn_leaf ∷ []

-- The walk that an extract of a frame carries under settings, with its own table and a scratch of 512 bytes.
abbrev pub walk_in : Settings → Frame → ℕ
walk_in S F = extract_walk_under S (length (frame_bytes F)) (frame_bytes F) (replicate 512 0) (node_table F)

pub record SettingsRows : Type 0 where
  -- bit 0 relation, bit 1 distance, bit 2 KNN
  pub none-but-relations : each (with 1 1 9) ≡ a_relation ∷ none ∷ none ∷ []
  pub none-but-distances : each (with 2 1 9) ≡ none ∷ a_distance ∷ none ∷ []
  pub none-but-knn : each (with 4 1 9) ≡ none ∷ none ∷ a_knn 1 ∷ []
  pub all_kinds : each (with 7 1 9) ≡ a_relation ∷ a_distance ∷ a_knn 1 ∷ []
  -- the default k for a call of two arguments, and for no other
  pub default-k : under (with 4 5 9) knn_leaf ≡ a_knn 5
  pub own-k : under (with 4 5 9) (knn_of (int32 2)) ≡ a_knn 2
  -- the greatest k itself matches, one above it does not
  pub greatest-k : under (with 4 5 9) (knn_of (int32 9)) ≡ a_knn 9
  pub above : under (with 4 5 9) (knn_of (int32 10)) ≡ none
  -- which settings get 24: kinds 0 and 8, a default of 0, a default above the greatest
  pub good : map good_settings (with 1 1 1 ∷ with 7 1 4294967295 ∷ with 7 9 9 ∷ []) ≡ replicate 3 true
  pub bad : map good_settings (with 0 1 9 ∷ with 8 1 9 ∷ with 7 0 9 ∷ with 7 10 9 ∷ with 7 1 0 ∷ []) ≡ replicate 5 false
  -- before every other check: n over the buffer's length would be 10, an empty frame 1
  pub first : (extract_under (with 0 1 9) 1 [] [] []).answer ≡ refused 24
  pub first-of-all : (extract_all_under (with 0 1 9) [] []).answer ≡ refused 24
  -- the walk stops at a KNN match only if KNN is allowed and its k is not above the greatest; with 24 it is 0
  pub walk-stops : walk_in (with 4 5 9) (on_both (and knn_leaf relation_leaf)) ≡ 2
  pub walk-goes-on : walk_in (with 3 5 9) (on_both (and knn_leaf relation_leaf)) ≡ 3
  pub walk-above : walk_in (with 7 5 9) (on_both (and (knn_of (int32 10)) relation_leaf)) ≡ 3
  pub walk-24 : walk_in (with 8 5 9) (on_both (and knn_leaf relation_leaf)) ≡ 0
