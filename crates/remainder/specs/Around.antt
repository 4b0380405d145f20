-- An expression without one of its AND-leaves: what is left of it stands in three spans, before the head of the leaf's parent, between that
-- and the leaf, and behind the leaf. (Ours.)
use Rattle.std.specs.Prelude.{ℕ, ◌+◌, ◌-◌, ◌≤◌, ◌≡◌, Bool, List, ltb, leb, if◌then◌else◌}
use Rattle.std.proofs.Math.Bool.{◌||◌}
use Rattle.std.proofs.Math.Option.{some}
use Rattle.definitions.specs.Words.Expression.{Expr}
use Rattle.definitions.specs.Bytes.Decode.{Columns}
use Rattle.definitions.specs.Filter.Extract.{without}
use Rattle.expression.specs.Nodes.{Stands}
use Rattle.expression.specs.Cuts.{CutAt}
use Rattle.expression.specs.declared.cuts.Cut.{Cut}
use Rattle.node_table.specs.declared.NodeRecord.{NodeRecord as Lent}
use Rattle.filter_tree.specs.Trees.{Noded}

-- Whether a place does not lie in the leaf.
abbrev pub outside : Cut → (place : ℕ) → Bool
outside cut place = ltb place cut.leaf || leb cut.end place

-- Where what stands at a place of the spans is copied to, counted from where the expression is, which starts at `at`.
abbrev pub moved : Cut → (at place : ℕ) → ℕ
moved cut at place =
    if ltb place (cut.parent + 2) then place - at else
    if ltb place cut.leaf then place - at - 2 else
    place - at - 2 - (cut.end - cut.leaf)

-- The place is not in the leaf, and the cut lies behind `at`.
pub record Movable (cut : Cut) (at place : ℕ) : Type 0 where
  pub parent : at ≤ cut.parent
  pub leaf : cut.parent + 2 ≤ cut.leaf
  pub end : cut.leaf ≤ cut.end
  pub low : at ≤ place
  pub high : cut.leaf ≤ place → cut.end ≤ place

-- The records are those of the expression t that stands at a place, and e is left of it without the AND-leaf that is cut out.
pub record LeftAt (c : Columns) (s : List ℕ) (nodes : List Lent) (cut : Cut) (at : ℕ) (t e : Expr) : Type 0 where
  pub up : ℕ
  pub position : ℕ
  pub stands : Stands c s at t
  pub noded : Noded nodes at 0 t
  pub cutting : CutAt cut up t at position
  pub left : without position t ≡ some e

-- There are such; what is claimed of what is left.
abbrev pub SomeLeft : Columns → (s : List ℕ) (nodes : List Lent) → Cut → (Expr → Type 0) → Type 0
SomeLeft c s nodes cut P = (at : ℕ) × (t : Expr) × (e : Expr) × LeftAt c s nodes cut at t e × P e

abbrev pub OfLeft : Columns → (s : List ℕ) (nodes : List Lent) → Cut → (Expr → Type 0) → Type 0
OfLeft c s nodes cut P = (at : ℕ) (t e : Expr) → LeftAt c s nodes cut at t e → P e
