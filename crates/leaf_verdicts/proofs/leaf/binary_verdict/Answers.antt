-- `binary_verdict`: a comparison is asked on the side that is looked at, and any other operator is no comparison.
use native.Mathlib.Omega.{arith}
use Prim.Native.Nat.{ℕ}
use mathlib.Core.Path.{sym, ◌∙◌}
use mathlib.Core.Bool.{true, false}
use mathlib.Core.List.{List}
use Rattle.definitions.specs.Words.Expression.{Expr, nil, cons, Record}
use Rattle.definitions.specs.Words.Leaves.{comparison}
use Rattle.sedona_expr.specs.Parsed.{ComparedIs}
use Rattle.leaf_verdicts.specs.Laid.{Laid, LaidAll}
use Rattle.leaf_verdicts.proofs.LaidLaws.{index-node, index-within, laid-stands, pair-first, pair-row, laid-sides, laid-arguments}
use Rattle.leaf_verdicts.proofs.StageLaws.{operator-told, other-told, distance-told}
use Rattle.leaf_verdicts.proofs.leaf.binary_verdict.Goals as goal
use Rattle.leaf_verdicts.proofs.leaf.binary_verdict.Goals.{After-comparison}

-- Both sides, by their indexes.
sides : (c : After-comparison) {at : ℕ} {records : List Record} {l r : Expr}
    → let f = c.args.asked.filter in
    LaidAll f.tree.bytes.now f.rec f.tree.nodes.now at c.args.left 2 records (cons l (cons r nil))
    → ComparedIs (λ k e. (p : ℕ) × Laid f.tree.bytes.now f.rec f.tree.nodes.now p k records e) c.comparison.result
    (comparison c.args.operator l r)
sides c h = laid-sides h c.args.operator c.after.ensures c.comparison.ensures

pub after-requires : goal.after-requires
after-requires c = index-node (pair-first c.requires)

pub returns-in_default : goal.returns-in_default
returns-in_default c =
    λ at records l r h.
    c.operator_verdict.ensures at records l r h
    ∙ sym (operator-told _ records c.args.operator l r
    (rw c.in_default.is at (sides (goal.at.returns-in_default c).After-comparison h)))

pub start-measured-requires : goal.start-measured-requires
start-measured-requires c =
    let both = rw c.in-Some.is at (sides (goal.at.start-measured-requires c).After-comparison c.requires.4) in
    index-node (both.stands_measured.0, c.requires.1, both.m, both.stands_measured.1)

pub distance_arguments-requires : goal.distance_arguments-requires
distance_arguments-requires c =
    let both = rw c.in-Some.is at (sides (goal.at.distance_arguments-requires c).After-comparison c.requires.4) in
    (_, both.m, laid-stands both.stands_measured.1 c.start-measured.ensures)

pub other_comparison_verdict-requires-clause-row : goal.other_comparison_verdict-requires-clause-row
other_comparison_verdict-requires-clause-row c = pair-row c.requires

pub other_comparison_verdict-requires-clause-measured : goal.other_comparison_verdict-requires-clause-measured
other_comparison_verdict-requires-clause-measured c =
    let both =
    rw c.in-Some.is at (sides (goal.at.other_comparison_verdict-requires-clause-measured c).After-comparison c.requires.4) in
    (both.stands_measured.0, c.requires.1, both.m, both.stands_measured.1)

pub other_comparison_verdict-requires-clause-bound : goal.other_comparison_verdict-requires-clause-bound
other_comparison_verdict-requires-clause-bound c =
    let both = rw c.in-Some.is at (sides (goal.at.other_comparison_verdict-requires-clause-bound c).After-comparison c.requires.4) in
    (both.stands_bound.0, c.requires.1, both.b, both.stands_bound.1)

pub returns-in_default-distance_arguments : goal.returns-in_default-distance_arguments
returns-in_default-distance_arguments c =
    λ at records l r h.
    let both = rw c.in-Some.is at (sides (goal.at.returns-in_default-distance_arguments c).After-comparison h) in
    c.other_comparison_verdict.ensures at records _ h _ both.m both.stands_measured.1 _ both.b both.stands_bound.1
    ∙ sym (other-told _ records c.args.operator l r both.is
    (c.in_default-distance_arguments.ensures _ both.m (laid-stands both.stands_measured.1 c.start-measured.ensures)))

pub returns-then-left_out : goal.returns-then-left_out
returns-then-left_out c =
    λ at records l r h.
    let both = rw c.in-Some.is at (sides (goal.at.returns-then-left_out c).After-comparison h) in
    let arguments =
    c.in-Some-distance_arguments.ensures _ both.m (laid-stands both.stands_measured.1 c.start-measured.ensures) in
    sym (distance-told _ records c.args.operator l r both.is arguments.all arguments.is true (sym c.left_out.ensures ∙ c.if-left_out.true))

pub overflow_add-sides : goal.overflow_add-sides
overflow_add-sides c =
    let both = rw c.in-Some.is at (sides (goal.at.overflow_add-sides c).After-comparison c.requires.4) in
    omega (arith, index-within (both.stands_measured.0, c.requires.1, both.m, both.stands_measured.1), c.well_formed)

pub measured_verdict-requires-clause-row : goal.measured_verdict-requires-clause-row
measured_verdict-requires-clause-row c =
    let both = rw c.in-Some.is at (sides (goal.at.measured_verdict-requires-clause-row c).After-comparison c.requires.4) in
    let arguments =
    c.in-Some-distance_arguments.ensures _ both.m (laid-stands both.stands_measured.1 c.start-measured.ensures) in
    (_, c.requires.1, arguments.all, laid-arguments both.stands_measured.1 arguments)

pub measured_verdict-requires-clause-bound : goal.measured_verdict-requires-clause-bound
measured_verdict-requires-clause-bound c =
    let both = rw c.in-Some.is at (sides (goal.at.measured_verdict-requires-clause-bound c).After-comparison c.requires.4) in
    (both.stands_bound.0, c.requires.1, both.b, both.stands_bound.1)

pub returns : goal.returns
returns c =
    λ at records l r h.
    let both = rw c.in-Some.is at (sides (goal.at.returns c).After-comparison h) in
    let arguments =
    c.in-Some-distance_arguments.ensures _ both.m (laid-stands both.stands_measured.1 c.start-measured.ensures) in
    c.measured_verdict.ensures _ records arguments.all (laid-arguments both.stands_measured.1 arguments) _ both.b both.stands_bound.1
    ∙ sym (distance-told _ records c.args.operator l r both.is arguments.all arguments.is false
    (sym c.left_out.ensures ∙ c.if-left_out.false))
