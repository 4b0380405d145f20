-- A match is made of parts of its leaf over child indexes, so it can be read and is no larger than the leaf.
use Prim.Native.Nat.{ℕ, zero, suc, ◌≤◌}
use native.Mathlib.Omega.{arith}
use mathlib.Core.Path.{◌≡◌, refl}
use mathlib.Core.Bool.{true}
use Rattle.definitions.specs.Words.Literals.{is_k}
use mathlib.Core.List.{List, [], ◌∷◌}
use mathlib.Core.Option.{some}
use lib.ListN.{length, length-append}
use lib.Dec.{lit<}
use borrow.Author.Tests.{lt-ltb}
use Rattle.definitions.specs.Words.Basics.{big_endian}
use Rattle.definitions.specs.Words.Expression.{Side, left, right, no_side, Relation, Expr, Record, relation, distance, knn, invert}
use Rattle.definitions.specs.Bytes.Encode.{expr_bytes, predicate_fields}
use Rattle.definitions.specs.Bytes.Decode.{index_below}
use Rattle.definitions.specs.Words.References.{record_at, columns_of}
use Rattle.definitions.specs.Filter.Match.{Order, left_right, right_left, no_order, Request, ask_relation, ask_distance, ask_knn, ask_nothing, on_child, ArgumentSide, no_columns, all_on, mixed, side_of, order_of, match_relation, store_distance, match_distance, match_knn, match_request, match_leaf_by, request_by}
use Rattle.definitions.specs.Bytes.Good.{OneOfTwo, nodes, depth, Short, InRange, Readable, RecordsInRange, predicate_nodes}
use Rattle.definitions.specs.Meaning.Matchers.{Fits}
use Rattle.theorems.proofs.Columns.{all-every, Fits as FitsIn, map-length, map-nodes, map-depth, map-in-range, widen}
use Rattle.theorems.proofs.Requests.{Within, request-within}

-- ---- child indexes

child-short : (rs : List Record) (i : ℕ) → RecordsInRange rs → Short (record_at rs i).child
unfolding record_at
child-short [] i h = lit< tt
child-short (r ∷ rs) zero h = h.0.0
child-short (r ∷ rs) (suc i) h = child-short rs i h.1

-- An argument over its child's columns can be read without a bound.
on-child-readable : (rs : List Record) (b : ℕ) (e : Expr) → RecordsInRange rs → InRange (index_below b) e → depth e ≤ 64
    → Readable (index_below 65536) (on_child rs e)
unfolding on_child
on-child-readable rs b e h r d =
    let f : ℕ → ℕ = λ i. (record_at rs i).child in
    record {
      in_range = map-in-range b 65536 f e
          (all-every (FitsIn 65536 f) (λ i. (lt-ltb (record_at rs i).child 65536 (child-short rs i h), child-short rs i h))
          (columns_of e)) r;
      shallow = rw map-depth d;
    }

on-child-bytes : (rs : List Record) (e : Expr) → length (expr_bytes (on_child rs e)) ≡ length (expr_bytes e)
unfolding on_child
on-child-bytes rs e = map-length _ e

on-child-nodes : (rs : List Record) (e : Expr) → nodes (on_child rs e) ≡ nodes e
unfolding on_child
on-child-nodes rs e = map-nodes _ e

-- What is stored for a bound, on its child or copied, can be read without a bound on its columns and is as large.
record Stored (d z : Expr) : Type 0 where
  readable : Readable (index_below 65536) z
  bytes : length (expr_bytes z) ≡ length (expr_bytes d)
  size : nodes z ≡ nodes d

on-child-stored : (rs : List Record) (b : ℕ) (e : Expr) → RecordsInRange rs → InRange (index_below b) e → depth e ≤ 64
    → Stored e (on_child rs e)
on-child-stored rs b e h r d =
    record { readable = on-child-readable rs b e h r d; bytes = on-child-bytes rs e; size = on-child-nodes rs e }

copied-stored : (b : ℕ) (e : Expr) → InRange (index_below b) e → depth e ≤ 64 → Stored e e
copied-stored b e r d = record { readable = record { in_range = widen b e r; shallow = d }; bytes = refl; size = refl }

-- ---- a match is readable and no larger than its leaf

module _ (rs : List Record) (b room size levels : ℕ) (rr : RecordsInRange rs) (fits : levels ≤ 64) where
  relation-fits : (t : Relation) (x y : Expr) → Within (index_below b) room size levels (ask_relation t x y)
      → Fits room size (some (relation t (on_child rs x) (on_child rs y)))
  unfolding predicate_fields predicate_nodes
  relation-fits t x y h = (
    (on-child-readable rs b x rr h.0 (omega (arith, h.4)), on-child-readable rs b y rr h.1 (omega (arith, h.5))),
    simp (length-append, on-child-bytes) (omega (arith, h.2)),
    simp on-child-nodes (omega (arith, h.3)),
  )

  relation-sized : (t : Relation) (x y : Expr) → Within (index_below b) room size levels (ask_relation t x y)
      → (o : Order) → Fits room size (match_relation t (on_child rs x) (on_child rs y) o)
  unfolding match_relation
  relation-sized t x y h left_right = relation-fits t x y h
  relation-sized t x y h right_left =
      relation-fits (invert t) y x (h.1, h.0, omega (arith, h.2), omega (arith, h.3), h.5, h.4)
  relation-sized t x y h no_order = tt

  distance-fits : (form : ℕ) (s : Side) (x y d z : Expr) → Within (index_below b) room size levels (ask_distance form x y d) → Stored d z
      → Fits room size (some (distance form s (on_child rs x) (on_child rs y) z))
  unfolding predicate_fields predicate_nodes
  distance-fits form s x y d z h stored = (
    (
      h.0,
      on-child-readable rs b x rr h.1 (omega (arith, h.6)),
      on-child-readable rs b y rr h.2 (omega (arith, h.7)),
      stored.readable,
    ),
    simp (length-append, on-child-bytes) (omega (arith, h.4, stored.bytes)),
    simp on-child-nodes (omega (arith, h.5, stored.size)),
  )

  stored-sized : (form : ℕ) (s : Side) (x y d z : Expr) → Within (index_below b) room size levels (ask_distance form x y d) → Stored d z
      → (o : Order) → Fits room size (store_distance form s (on_child rs x) (on_child rs y) z o)
  unfolding store_distance
  stored-sized form s x y d z h stored left_right = distance-fits form s x y d z h stored
  stored-sized form s x y d z h stored right_left =
      distance-fits form s y x d z (h.0, h.2, h.1, h.3, omega (arith, h.4), omega (arith, h.5), h.7, h.6, h.8) stored
  stored-sized form s x y d z h stored no_order = tt

  distance-sized : (form : ℕ) (x y d : Expr) → Within (index_below b) room size levels (ask_distance form x y d)
      → (s : ArgumentSide) (o : Order) → Fits room size (match_distance rs form (on_child rs x) (on_child rs y) d s o)
  unfolding match_distance
  distance-sized form x y d h no_columns o = stored-sized form no_side x y d d h (copied-stored b d h.3 (omega (arith, h.8))) o
  distance-sized form x y d h (all_on left) o =
      stored-sized form left x y d (on_child rs d) h (on-child-stored rs b d rr h.3 (omega (arith, h.8))) o
  distance-sized form x y d h (all_on right) o =
      stored-sized form right x y d (on_child rs d) h (on-child-stored rs b d rr h.3 (omega (arith, h.8))) o
  distance-sized form x y d h (all_on no_side) o = tt
  distance-sized form x y d h mixed o = tt

  knn-fits : (k sp t : ℕ) (probe : Side) → OneOfTwo probe → (x y : Expr) → Within (index_below b) room size levels (ask_knn k sp t x y)
      → Fits room size (some (knn k sp probe t (on_child rs x) (on_child rs y)))
  unfolding predicate_fields predicate_nodes big_endian
  knn-fits k sp t probe of-two x y h = (
    (
      h.0,
      h.1,
      of-two,
      h.2,
      on-child-readable rs b x rr h.3 (omega (arith, h.7)),
      on-child-readable rs b y rr h.4 (omega (arith, h.8)),
    ),
    simp (length-append, on-child-bytes) (omega (arith, h.5)),
    simp on-child-nodes (omega (arith, h.6)),
  )

  knn-sized : (k sp t : ℕ) (x y : Expr) → Within (index_below b) room size levels (ask_knn k sp t x y)
      → (o : Order) → Fits room size (match_knn k sp t (on_child rs x) (on_child rs y) o)
  unfolding match_knn
  knn-sized k sp t x y h left_right = knn-fits k sp t left tt x y h
  knn-sized k sp t x y h right_left = knn-fits k sp t right tt x y h
  knn-sized k sp t x y h no_order = tt

  request-sized : (q : Request) → Within (index_below b) room size levels q → Fits room size (match_request rs q)
  unfolding match_request
  request-sized (ask_relation t x y) h = relation-sized t x y h (order_of (side_of rs x) (side_of rs y))
  request-sized (ask_distance form x y d) h = distance-sized form x y d h (side_of rs d) (order_of (side_of rs x) (side_of rs y))
  request-sized (ask_knn k sp t x y) h = knn-sized k sp t x y h (order_of (side_of rs x) (side_of rs y))
  request-sized ask_nothing h = tt

pub match-fits : (default : ℕ) → is_k default ≡ true → (rs : List Record) (e : Expr) → RecordsInRange rs
    → Readable (index_below (length rs)) e → Fits (length (expr_bytes e)) (nodes e) (match_leaf_by default rs e)
unfolding match_leaf_by
match-fits default is rs e rr h =
    request-sized rs (length rs) (length (expr_bytes e)) (nodes e) (depth e) rr h.shallow (request_by default e)
    (request-within default is (index_below (length rs)) e h.in_range)
