-- Which AND-leaf is taken, and where it stands.
use Rattle.std.specs.Prelude.{ℕ, ◌+◌, ◌≡◌, Bool, not, List, map, length, Option, Some, None}
use Rattle.std.specs.declared.ops.ControlFlow.{ControlFlow}
use Rattle.std.specs.declared.ops.ControlFlow.TheVariants.{Continue, Break}
use Rattle.std.proofs.Math.Option as optional
use Rattle.definitions.specs.Words.Expression.{Expr, Record, Predicate}
use Rattle.definitions.specs.Words.Leaves.{leaves}
use Rattle.definitions.specs.Bytes.Good.{nodes}
use Rattle.definitions.specs.Filter.Extract as definition
use Rattle.definitions.specs.Filter.Extract.{is_knn, first_match, Matcher, matches_by}
use Rattle.expression.specs.Nodes.{OfTree, OfTreeIn}
use Rattle.expression.specs.Leaves.{NodeIs}
use Rattle.expression.specs.Cuts.{CutAt}
use Rattle.node_table.specs.declared.NodeRecord.{NodeRecord as Lent}
use Rattle.filter_tree.specs.Trees.{Noded}
use Rattle.leaf_matching.specs.Frames.{Framed}
use Rattle.leaf_matching.specs.Matches.{Matching, MatchingIs}
use Rattle.sedona_query_planner.specs.Predicates.{on_children, PredicateAt}
use Rattle.sedona_query_planner.specs.declared.spatial_predicate.SpatialPredicate.{SpatialPredicate}
use Rattle.leaf_pick.specs.declared.first_match.Wanted.{Wanted}
use Rattle.leaf_pick.specs.declared.first_match.Wanted.TheVariants.{Knn, Other}
use Rattle.leaf_pick.specs.declared.first_match.Leaf.{Leaf}
use Rattle.leaf_pick.specs.declared.first_match.Pick.{Pick}
use Rattle.leaf_pick.specs.declared.first_match.Passed.{Passed}
use Rattle.leaf_pick.specs.declared.first_match.Stop.{Stop}

-- ---- which matches a pass is for

abbrev pub is_other : Predicate → Bool
is_other p = not (is_knn p)

abbrev pub wants : Wanted → Predicate → Bool
wants Knn = is_knn
wants Other = is_other

-- The match of each AND-leaf.
abbrev pub matches : Matcher → List Record → Expr → List (optional.Option Predicate)
matches match records t = map (match records) (leaves t)

-- ---- a leaf

-- An expression stands there over its records, it has the leaf's index, and it is what the leaf's node says.
pub record LeafThere (s : List ℕ) (nodes : List Lent) (rec : ℕ) (leaf : Leaf) : Type 0 where
  pub framed : Framed s rec leaf.stop.at
  pub noded : OfTree s leaf.stop.at (Noded nodes leaf.stop.at leaf.stop.index)
  pub is : OfTreeIn s leaf.stop.at (λ c t. NodeIs c s leaf.stop.at leaf.node t)

-- The answer for a leaf.
abbrev pub LeafMatched : Matcher → (kind : Predicate → Bool) (s : List ℕ) → Matching
    → (records : List Record) (leaf : Expr) → Type 0
LeafMatched match kind s r records leaf = MatchingIs kind s records (match records leaf) r

-- Whatever a leaf matches.
abbrev pub AnyMatchIs : Matcher → (s : List ℕ) → Option SpatialPredicate → (records : List Record) (leaf : Expr) → Type 0
AnyMatchIs match s (Some p) records leaf =
    (q : Predicate) × (match records leaf ≡ optional.some q) × PredicateAt (on_children records) s p q
AnyMatchIs match s None records leaf = match records leaf ≡ optional.none

-- ---- the answers

-- The first match that is wanted below a node, `before` AND-leaves being before it.
pub record FirstIs (match : Matcher) (wanted : Wanted) (s : List ℕ) (at before up : ℕ) (p : Pick) (records : List Record) (t : Expr)
    : Type 0 where
  pub i : ℕ
  pub q : Predicate
  pub first : first_match (wants wanted) (matches match records t) ≡ optional.some (record { position = i; predicate = q })
  pub counted : p.position ≡ before + i
  pub stands : PredicateAt (on_children records) s p.predicate q
  pub cut : CutAt p.cut up t at i

pub record NothingIs (match : Matcher) (wanted : Wanted) (before count : ℕ) (records : List Record) (t : Expr) : Type 0 where
  pub first : first_match (wants wanted) (matches match records t) ≡ optional.none
  pub counted : count ≡ before + length (leaves t)

-- What a pass found: a pick, or how many AND-leaves there are.
abbrev pub Found : Type 0
Found = ControlFlow Pick ℕ

abbrev pub FoundIs : Matcher → Wanted → (s : List ℕ) (at before up : ℕ) → Found → (records : List Record) → Expr → Type 0
FoundIs match wanted s at before up (Break p) records t = FirstIs match wanted s at before up p records t
FoundIs match wanted s at before up (Continue count) records t = NothingIs match wanted before count records t

-- What a walk from a stop found: a pick, or how many AND-leaves there are and the index after the node.
abbrev pub FoundOrPassed : Matcher → Wanted → (s : List ℕ) (from : Stop) (up : ℕ) → ControlFlow Pick Passed → (records : List Record)
    → Expr → Type 0
FoundOrPassed match wanted s from up (Break p) records t = FirstIs match wanted s from.at from.position up p records t
FoundOrPassed match wanted s from up (Continue passed) records t =
    NothingIs match wanted from.position passed.position records t × (passed.after ≡ from.index + nodes t)

-- The definitions' pick, with its place; the root is its own parent.
pub record TakenIs (match : Matcher) (s : List ℕ) (at : ℕ) (p : Pick) (records : List Record) (t : Expr) : Type 0 where
  pub q : Predicate
  pub is : definition.pick (matches_by match (record { records = records; expr = t }))
      ≡ optional.some (record { position = p.position; predicate = q })
  pub stands : PredicateAt (on_children records) s p.predicate q
  pub cut : CutAt p.cut at t at p.position

abbrev pub PickedIs : Matcher → (s : List ℕ) (at : ℕ) → Option Pick → (records : List Record) → Expr → Type 0
PickedIs match s at (Some p) records t = TakenIs match s at p records t
PickedIs match s at None records t = definition.pick (matches_by match (record { records = records; expr = t })) ≡ optional.none
