-- `comparison_bit`: a comparison counts as `st_dwithin` if the side that is read measures a distance.
use Rattle.std.specs.Prelude.{if◌then◌else◌}
use mathlib.Core.Path.{◌≡◌, ◌∙◌}
use mathlib.Core.List.{[]}
use Rattle.definitions.specs.Words.Basics.{ascii}
use Rattle.definitions.specs.Words.Expression.{binary}
use Rattle.definitions.specs.Filter.Names.{leaf_name}
use Rattle.filter_tree.specs.Trees.{OfTreePair}
use Rattle.filter_tree.proofs.Indexes.{index-node}
use Rattle.sedona_expr.proofs.Comparing.{pair-node, index-sides, starts}
use Rattle.logical_filter.proofs.NameWalk.{unnamed, named-dwithin, compares-nothing, compares-side}
use Rattle.logical_filter.proofs.predicate_names.comparison_bit.Goals as goal
use Rattle.logical_filter.proofs.predicate_names.comparison_bit.Goals.{After-is_distance_expr}

-- The name of a comparison that was found.
name-is : (c : After-is_distance_expr)
    → OfTreePair c.args.tree.bytes.now c.args.tree.nodes.now c.args.i
    (λ d l r. leaf_name (binary c.args.operator l r) ≡ (if c.is_distance_expr.result then ascii "st_dwithin" else []))
name-is c d p l r row h =
    let both = index-sides _ c.after.ensures c.in-Some.ensures d p l r row h in
    compares-side _ l r both c.is_distance_expr.result (c.is_distance_expr.ensures d both.m (starts both.stands_measured c.start.ensures))

pub after-requires : goal.after-requires
after-requires c = pair-node c.requires

pub start-requires : goal.start-requires
start-requires c =
    let r = c.requires in
    index-node (index-sides _ c.after.ensures c.in-Some.ensures r.0 r.1 r.2 r.3 r.4 r.5).stands_measured

pub is_distance_expr-requires : goal.is_distance_expr-requires
is_distance_expr-requires c =
    let r = c.requires in
    let both = index-sides _ c.after.ensures c.in-Some.ensures r.0 r.1 r.2 r.3 r.4 r.5 in
    (r.0, both.m, starts both.stands_measured c.start.ensures)

pub returns-in-Some : goal.returns-in-Some
returns-in-Some c = λ d p l r row h.
    named-dwithin (name-is (goal.at.returns-in-Some c).After-is_distance_expr d p l r row h ∙ rw c.if-is_distance_expr.true)

pub returns-in_default : goal.returns-in_default
returns-in_default c = λ d p l r row h.
    unnamed (name-is (goal.at.returns-in_default c).After-is_distance_expr d p l r row h ∙ rw c.if-is_distance_expr.false)

pub returns-in_default-2 : goal.returns-in_default-2
returns-in_default-2 c = λ d p l r row h.
    unnamed (compares-nothing _ l r (index-sides _ c.after.ensures (rw c.in_default.is at c.comparison.ensures) d p l r row h))
