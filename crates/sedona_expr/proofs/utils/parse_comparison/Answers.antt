-- `parse_comparison`: the side that is read must be `st_distance`, and its first two arguments have the indexes after it.
use native.Mathlib.Omega.{arith}
use mathlib.Core.Path.{sym, ◌∙◌}
use Rattle.definitions.specs.Words.Leaves.{comparison}
use Rattle.filter_tree.specs.Trees.{Indexed, OfTreePair}
use Rattle.filter_tree.proofs.Scans.{noded-within}
use Rattle.filter_tree.proofs.Indexes.{index-node}
use Rattle.sedona_expr.specs.Parsed.{SidesOf}
use Rattle.sedona_expr.proofs.Comparing.{pair-node, index-sides, no-sides, starts}
use Rattle.sedona_expr.proofs.Distances.{form-read, form-unread, not-compared, not-measured, too_few, first-measured, compared-distance}
use Rattle.sedona_expr.proofs.utils.parse_comparison.Goals as goal
use Rattle.sedona_expr.proofs.utils.parse_comparison.Goals.{In_ok-sides}

-- Where a comparison was found, its sides are told by their indexes.
sides : (c : In_ok-sides)
    → let a = c.args in
    OfTreePair a.tree.bytes.now a.tree.nodes.now a.i (λ d l r.
    SidesOf (Indexed d a.tree.bytes.now a.tree.nodes.now) c.in_ok-sides.sides.measured c.in_ok-sides.sides.bound
    (comparison a.operator l r))
sides c = index-sides _ c.after.ensures c.in_ok-sides.ensures

pub returns-in_err-form : goal.returns-in_err-form
returns-in_err-form c =
    rw c.from_residual.ensures
    (λ d at l r row h. not-compared _
    (no-sides _ l r (omega (arith, form-unread _ c.try_from.ensures c.in_err-form.ensures.value, c.from.ensures))))

pub after-requires : goal.after-requires
after-requires c =
    pair-node c.requires

pub returns-in_err-sides : goal.returns-in_err-sides
returns-in_err-sides c =
    rw c.from_residual-in_err-sides.ensures
    (λ d at l r row h. not-compared _ (index-sides _ c.after.ensures c.in_err-sides.ensures d at l r row h))

pub start-requires : goal.start-requires
start-requires c =
    index-node (sides (goal.at.start-requires c).In_ok-sides _ _ _ _ c.requires.4 c.requires.5).stands_measured

pub distance_arguments-requires : goal.distance_arguments-requires
distance_arguments-requires c =
    let both = sides (goal.at.distance_arguments-requires c).In_ok-sides _ _ _ _ c.requires.4 c.requires.5 in
    (_, both.m, starts both.stands_measured c.start.ensures)

pub returns-in_err-call : goal.returns-in_err-call
returns-in_err-call c =
    rw c.from_residual-in_err-call.ensures
    (λ d at l r row h.
    let both = sides (goal.at.returns-in_err-call c).In_ok-sides d at l r row h in
    not-measured _ both (c.in_err-call.ensures d both.m (starts both.stands_measured c.start.ensures)))

pub returns-then-call-lt2 : goal.returns-then-call-lt2
returns-then-call-lt2 c =
    λ d at l r row h.
    let both = sides (goal.at.returns-then-call-lt2 c).In_ok-sides d at l r row h in
    too_few _ both (c.in_ok-call.ensures d both.m (starts both.stands_measured c.start.ensures)) c.if-call-lt2.true

pub overflow_add-arg0 : goal.overflow_add-arg0
overflow_add-arg0 c =
    let both = sides (goal.at.overflow_add-arg0 c).In_ok-sides _ _ _ _ c.requires.4 c.requires.5 in
    omega (arith, noded-within both.stands_measured.noded, c.well_formed)

pub after-requires-2 : goal.after-requires-2
after-requires-2 c =
    let both = sides (goal.at.after-requires-2 c).In_ok-sides _ _ _ _ c.requires.4 c.requires.5 in
    first-measured 0 both (c.in_ok-call.ensures _ both.m (starts both.stands_measured c.start.ensures)) c.if-call-lt2.false

pub returns : goal.returns
returns c =
    λ d at l r row h.
    let both = sides (goal.at.returns c).In_ok-sides d at l r row h in
    compared-distance _ both (c.in_ok-call.ensures d both.m (starts both.stands_measured c.start.ensures)) c.if-call-lt2.false
    c.after-2.ensures _ (sym c.from.ensures ∙ form-read _ c.try_from.ensures c.in_ok-form.ensures.value)
