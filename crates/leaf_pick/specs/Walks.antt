-- What the walk remembers stands for the definition's memory, and its length is the definition's.
use Rattle.std.specs.Prelude.{ℕ, suc, ◌≡◌, Bool, true, false, List, Option, Some, None}
use Rattle.std.specs.declared.ops.ControlFlow.{ControlFlow}
use Rattle.std.specs.declared.ops.ControlFlow.TheVariants.{Continue, Break}
use Rattle.std.proofs.Math.Option as optional
use Rattle.definitions.specs.Words.Expression.{Expr, Record}
use Rattle.definitions.specs.Bytes.Decode.{Columns}
use Rattle.definitions.specs.Filter.Extract as definition
use Rattle.definitions.specs.Filter.Extract.{is_knn, is_knn_match, pick, Matcher, matches_by}
use Rattle.definitions.specs.Filter.OneWalk.{reading, stopped_at, read_leaf, walk_length_by}
use Rattle.definitions.specs.Filter.Settings.{Settings, match_under}
use Rattle.expression.specs.Leaves.{NodeIs}
use Rattle.leaf_matching.specs.Matches.{Lacks}
use Rattle.expression.specs.declared.leaves.Node.{Node}
use Rattle.filter_tree.specs.Spines.{LeafThere}
use Rattle.sedona_query_planner.specs.Predicates.{on_children, PredicateAt}
use Rattle.sedona_query_planner.specs.declared.spatial_predicate.SpatialPredicate.{SpatialPredicate}
use Rattle.leaf_pick.specs.Picks.{PickedIs}
use Rattle.leaf_pick.specs.declared.first_match.Leaf.{Leaf}
use Rattle.leaf_pick.specs.declared.one_walk.SeenLeaf.{SeenLeaf}
use Rattle.leaf_pick.specs.declared.first_match.Pick.{Pick}
use Rattle.leaf_pick.specs.declared.one_walk.Walk.{Walk}

-- ---- what is remembered

-- A leaf that was seen is a pick of the definitions, its predicate standing at its places.
pub record SeenIs (s : List ℕ) (records : List Record) (seen : SeenLeaf) (p : definition.Pick) : Type 0 where
  pub position : p.position ≡ seen.position
  pub stands : PredicateAt (on_children records) s seen.predicate p.predicate

-- The first match, or nothing yet.
abbrev pub Memory : Type 0
Memory = Option SeenLeaf

-- So is what the walk remembers.
abbrev pub Remembers : (s : List ℕ) (records : List Record) → Memory → optional.Option definition.Pick → Type 0
Remembers s records None first = first ≡ optional.none
Remembers s records (Some seen) first = (p : definition.Pick) × (first ≡ optional.some p) × SeenIs s records seen p

-- ---- a leaf

-- A node that is passed matches nothing, wherever it stands and whatever the settings.
abbrev pub PassedIs : Node → Bool → Type 0
PassedIs node r =
    r ≡ true
    → (S : Settings) (records : List Record) (c : Columns) (s : List ℕ) (at : ℕ) (t : Expr) → NodeIs c s at node t
    → match_under S records t ≡ optional.none

-- A node that tells that it is no KNN match, whatever the settings.
abbrev pub NoKnnIs : Node → Bool → Type 0
NoKnnIs node r =
    r ≡ true
    → (S : Settings) (records : List Record) (c : Columns) (s : List ℕ) (at : ℕ) (t : Expr) → NodeIs c s at node t
    → Lacks is_knn (match_under S records t)

-- The leaf with its match, as it is remembered.
abbrev pub seen_here : Leaf → SpatialPredicate → SeenLeaf
seen_here leaf predicate = record { predicate = predicate; position = leaf.stop.position; index = leaf.stop.index }

-- It was seen here.
pub record SeenHere (index position : ℕ) (seen : SeenLeaf) : Type 0 where
  pub same : seen.index ≡ index
  pub counted : seen.position ≡ position

-- What is remembered afterwards is what was remembered, or this leaf.
pub data Kept (index position : ℕ) (before : Memory) : Memory → Type 0 where
  same : Kept index position before before
  here : {seen : SeenLeaf} → SeenHere index position seen → Kept index position before (Some seen)

-- A KNN match stops the walk here;
pub record StoppedIs (match : Matcher) (s : List ℕ) (index position : ℕ) (first : optional.Option definition.Pick) (seen : SeenLeaf)
    (records : List Record) (t : Expr) : Type 0 where
  pub p : definition.Pick
  pub is : read_leaf position first (match records t) ≡ stopped_at p
  pub near : is_knn_match (match records t) ≡ true
  pub seen-is : SeenIs s records seen p
  pub seen_here : SeenHere index position seen

-- any other leaf leaves it reading.
pub record GoingIs (match : Matcher) (s : List ℕ) (index position : ℕ) (first : optional.Option definition.Pick) (before after : Memory)
    (records : List Record) (t : Expr) : Type 0 where
  pub now-first : optional.Option definition.Pick
  pub is : read_leaf position first (match records t) ≡ reading (suc position) now-first
  pub far : is_knn_match (match records t) ≡ false
  pub remembers : Remembers s records after now-first
  pub kept : Kept index position before after

-- For whatever the memory stands for.
abbrev pub ReadIs : Matcher → (s : List ℕ) → Leaf → Memory → ControlFlow SeenLeaf Memory → (records : List Record) → Expr → Type 0
ReadIs match s leaf memory (Break seen) records t =
    (first : optional.Option definition.Pick) → Remembers s records memory first
    → StoppedIs match s leaf.stop.index leaf.stop.position first seen records t
ReadIs match s leaf memory (Continue after) records t =
    (first : optional.Option definition.Pick) → Remembers s records memory first
    → GoingIs match s leaf.stop.index leaf.stop.position first memory after records t

-- ---- the whole walk

-- What is remembered is an AND-leaf, by its position and index.
abbrev pub SpotOf : Expr → Memory → Type 0
SpotOf t None = Unit {0}
SpotOf t (Some seen) = LeafThere t 0 seen.position seen.index

-- The walk ended with the definitions' pick in memory, and its length is the definitions'.
pub record WalkIs (match : Matcher) (s : List ℕ) (w : Walk SeenLeaf) (records : List Record) (t : Expr) : Type 0 where
  pub remembers : Remembers s records w.found (pick (matches_by match (record { records = records; expr = t })))
  pub spot : SpotOf t w.found
  pub walk : w.read ≡ walk_length_by match (record { records = records; expr = t })

-- ---- the answer

-- The definitions' pick, as the engine of two passes gives it, and the walk's length.
pub record WalkedIs (match : Matcher) (s : List ℕ) (at : ℕ) (w : Walk Pick) (records : List Record) (t : Expr) : Type 0 where
  pub picked : PickedIs match s at w.found records t
  pub walk : w.read ≡ walk_length_by match (record { records = records; expr = t })
