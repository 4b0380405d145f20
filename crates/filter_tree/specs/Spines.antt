-- The And nodes and AND-leaves of an expression, all reached from its root through And nodes only, by their records.
use Rattle.std.specs.Prelude.{ℕ, suc, ◌+◌, ◌≡◌, Bool, true, false, ◌&&◌, List, [], ◌∷◌, map, length, drop, get_or, ltb, eqb, if◌then◌else◌}
use Rattle.std.proofs.Math.Option.{Option, none}
use Rattle.definitions.specs.Words.Expression.{Expr, column, literal, and, binary, call, other, field, Predicate}
use Rattle.definitions.specs.Words.Leaves.{leaves}
use Rattle.definitions.specs.Filter.OneWalk.{reached}
use Rattle.definitions.specs.Bytes.NodeTable.{NodeRecord}
use Rattle.definitions.specs.Bytes.Decode.{Columns}
use Rattle.expression.specs.Nodes.{Stands}
use Rattle.node_table.specs.Records.{nodes_of}
use Rattle.node_table.specs.declared.NodeRecord.{NodeRecord as Lent}
use Rattle.filter_tree.specs.Trees.{Noded, LeafIndex}
use Rattle.filter_tree.specs.declared.spine.Spine.{Spine}

-- ---- as they are scanned

-- Whether a record is that of an And: a binary operator whose byte is 0.
unfoldable pub and_record : (s : List ℕ) → NodeRecord → Bool
and_record s r = eqb r.kind 2 && (ltb (r.start + 1) (length s) && eqb (get_or s (r.start + 1) 0) 0)

-- Where the next one can start: below an And or, after a leaf, where that ends.
unfoldable pub low_after : (s : List ℕ) → NodeRecord → ℕ
low_after s r = if and_record s r then r.start else r.end

-- The indexes, from i on, of those of these records that start from `low` on, which after a leaf is its end.
unfoldable pub spine : (s : List ℕ) (end low i : ℕ) → List NodeRecord → List ℕ
spine s end low i [] = []
spine s end low i (r ∷ more) =
    if ltb r.start end
    then (if ltb r.start low
    then spine s end low (i + 1) more
    else i ∷ spine s end (low_after s r) (i + 1) more)
    else []

-- What the iterator has left.
abbrev pub spine_left : Spine → List ℕ
spine_left p = spine p.bytes.now p.end p.low p.next (drop p.next (nodes_of p.nodes.now))

-- ---- what they are

-- A node with its place and its index.
pub record Reach : Type 0 where
  pub index : ℕ
  pub at : ℕ
  pub tree : Expr

-- Whether an expression is no And, and so its own AND-leaf.
unfoldable pub is_leaf : Expr → Bool
is_leaf (column i g) = true
is_leaf (literal y v) = true
is_leaf (and l r) = false
is_leaf (binary o l r) = true
is_leaf (call name ts) = true
is_leaf (other g ts) = true
is_leaf (field b g) = true

-- The AND-leaves among nodes.
unfoldable pub leaves_among : List Reach → List Expr
leaves_among [] = []
leaves_among (x ∷ xs) = if is_leaf x.tree then x.tree ∷ leaves_among xs else leaves_among xs

-- What each matches; an And has no match.
unfoldable pub matches_among : (Expr → Option Predicate) → List Reach → List (Option Predicate)
matches_among match [] = []
matches_among match (x ∷ xs) = (if is_leaf x.tree then match x.tree else none) ∷ matches_among match xs

-- A node stands at its place, and its records have its index.
pub record Reached (c : Columns) (s : List ℕ) (nodes : List Lent) (x : Reach) : Type 0 where
  pub stands : Stands c s x.at x.tree
  pub noded : Noded nodes x.at x.index x.tree

abbrev pub EachReached : (c : Columns) (s : List ℕ) (nodes : List Lent) → List Reach → Type 0
EachReached c s nodes [] = Unit {0}
EachReached c s nodes (x ∷ xs) = Reached c s nodes x × EachReached c s nodes xs

-- Each AND-leaf among them, by its position and its index.
abbrev pub EachLeaf : (P : (position index : ℕ) → Type 0) → (position : ℕ) → List Reach → Type 0
EachLeaf P position [] = Unit {0}
EachLeaf P position (x ∷ xs) =
    (is_leaf x.tree ≡ true → P position x.index) × EachLeaf P (if is_leaf x.tree then suc position else position) xs

-- An AND-leaf of an expression whose root has index i, below some And, has this index and position, whatever And is above the expression.
abbrev pub LeafThere : (t : Expr) (i : ℕ) → (position index : ℕ) → Type 0
LeafThere t i position index = (up : ℕ) → (above : ℕ) × LeafIndex index above up t i position

-- These indexes are those of the And nodes and AND-leaves, in order: the definitions' leaves are among them, each where it stands, and the
-- definitions' walk reads them.
pub record SpineIs (c : Columns) (s : List ℕ) (nodes : List Lent) (i : ℕ) (left : List ℕ) (t : Expr) : Type 0 where
  pub all : List Reach
  pub indexes : left ≡ map (λ x. x.index) all
  pub leaves : leaves_among all ≡ leaves t
  pub walk : (match : Expr → Option Predicate) → matches_among match all ≡ reached match t
  pub each : EachReached c s nodes all
  pub spots : EachLeaf (LeafThere t i) 0 all

-- For each expression whose records have this index.
abbrev pub OfSpine : (s : List ℕ) (nodes : List Lent) (i : ℕ) → List ℕ → Type 0
OfSpine s nodes i indexes = (c : Columns) (at : ℕ) (t : Expr) → Stands c s at t → Noded nodes at i t → SpineIs c s nodes i indexes t

-- ---- a loop over them

-- What is left of an expression's And nodes and AND-leaves, so many leaves having been passed.
pub record Onward (c : Columns) (s : List ℕ) (nodes : List Lent) (i : ℕ) (left : List ℕ) (position : ℕ) (t : Expr) : Type 0 where
  pub all : List Reach
  pub indexes : left ≡ map (λ x. x.index) all
  pub leaves : leaves_among all ≡ drop position (leaves t)
  pub each : EachReached c s nodes all
  pub spots : EachLeaf (LeafThere t i) position all

abbrev pub OfOnward : (s : List ℕ) (nodes : List Lent) (i : ℕ) (left : List ℕ) (position : ℕ) → Type 0
OfOnward s nodes i left position =
    (c : Columns) (at : ℕ) (t : Expr) → Stands c s at t → Noded nodes at i t → Onward c s nodes i left position t
