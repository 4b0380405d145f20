-- Only an `st_knn` call asks for KNN, so what holds of every KNN that it asks for holds of every KNN leaf that matches.
use Prim.Native.Nat.{ℕ}
use mathlib.Core.Path.{◌≡◌}
use mathlib.Core.List.{List}
use mathlib.Core.Option.{Option, none, some}
use Rattle.definitions.specs.Words.Basics.{ascii, same_name}
use Rattle.definitions.specs.Words.Expression.{Side, left, right, no_side, Relation, Expr, call, Exprs, nil, cons, Record, Predicate, relation, distance, knn}
use Rattle.definitions.specs.Words.Leaves.{relation_named}
use Rattle.definitions.specs.Filter.Match.{Order, left_right, right_left, no_order, Request, ask_relation, ask_distance, ask_knn, ask_nothing, relation_request, dwithin_request, call_request_by, request_by, ArgumentSide, no_columns, all_on, mixed, match_relation, store_distance, match_distance, match_knn, match_request, match_leaf_by, knn_request_by}
use Rattle.theorems.proofs.Tools.{by-test, same-name}

module _ (Q : (k spheroid ties : ℕ) → Type 0) where
  -- If KNN is asked for, it has the property; if KNN matched.
  abbrev pub Asked : Request → Type 0
  Asked (ask_knn k spheroid ties a b) = Q k spheroid ties
  Asked (ask_relation type a b) = Unit {0}
  Asked (ask_distance form a b bound) = Unit {0}
  Asked ask_nothing = Unit {0}

  abbrev pub Matched : Option Predicate → Type 0
  Matched none = Unit {0}
  Matched (some (relation type l r)) = Unit {0}
  Matched (some (distance form side l r bound)) = Unit {0}
  Matched (some (knn k spheroid probe ties l r)) = Q k spheroid ties

  relation-matched : (type : Relation) (a b : Expr) (o : Order) → Matched (match_relation type a b o)
  unfolding match_relation
  relation-matched type a b left_right = tt
  relation-matched type a b right_left = tt
  relation-matched type a b no_order = tt

  stored-matched : (form : ℕ) (side : Side) (a b bound : Expr) (o : Order) → Matched (store_distance form side a b bound o)
  unfolding store_distance
  stored-matched form side a b bound left_right = tt
  stored-matched form side a b bound right_left = tt
  stored-matched form side a b bound no_order = tt

  distance-matched : (rs : List Record) (form : ℕ) (a b bound : Expr) (side : ArgumentSide) (o : Order)
      → Matched (match_distance rs form a b bound side o)
  unfolding match_distance
  distance-matched rs form a b bound no_columns o = stored-matched form no_side a b bound o
  distance-matched rs form a b bound (all_on left) o = stored-matched form left a b _ o
  distance-matched rs form a b bound (all_on right) o = stored-matched form right a b _ o
  distance-matched rs form a b bound (all_on no_side) o = tt
  distance-matched rs form a b bound mixed o = tt

  knn-matched : (k spheroid ties : ℕ) (a b : Expr) (o : Order) → Q k spheroid ties → Matched (match_knn k spheroid ties a b o)
  unfolding match_knn
  knn-matched k spheroid ties a b left_right h = h
  knn-matched k spheroid ties a b right_left h = h
  knn-matched k spheroid ties a b no_order h = tt

  pub request-matched : (rs : List Record) (q : Request) → Asked q → Matched (match_request rs q)
  unfolding match_request
  request-matched rs (ask_relation type a b) h = relation-matched type _ _ _
  request-matched rs (ask_distance form a b bound) h = distance-matched rs form _ _ bound _ _
  request-matched rs (ask_knn k spheroid ties a b) h = knn-matched k spheroid ties _ _ _ h
  request-matched rs ask_nothing h = tt

  dwithin-asked : (a b : Expr) (more : Exprs) → Asked (dwithin_request (cons a (cons b more)))
  unfolding dwithin_request
  dwithin-asked a b nil = tt
  dwithin-asked a b (cons bound more) = tt

  relation-asked : (type : Option Relation) (a b : Expr) (more : Exprs) → Asked (relation_request type (cons a (cons b more)))
  unfolding relation_request
  relation-asked none a b more = tt
  relation-asked (some type) a b more = tt

  -- A leaf of any name: asked only where the name is `st_knn`.
  pub leaf-matched : (default : ℕ) (rs : List Record) (name : List ℕ) (a b : Expr) (more : Exprs)
      → (name ≡ ascii "st_knn" → Asked (knn_request_by default (cons a (cons b more))))
      → Matched (match_leaf_by default rs (call name (cons a (cons b more))))
  unfolding match_leaf_by request_by call_request_by
  leaf-matched default rs name a b more h =
      request-matched rs (call_request_by default name (cons a (cons b more))) (
      by-test Asked (same_name name (ascii "st_knn")) (knn_request_by default (cons a (cons b more))) _
      (λ e. h (same-name name (ascii "st_knn") e))
      (λ _. by-test Asked (same_name name (ascii "st_dwithin")) (dwithin_request (cons a (cons b more))) _
      (λ _. dwithin-asked a b more) (λ _. relation-asked (relation_named name) a b more))
      )
