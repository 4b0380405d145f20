-- A node is opened, its children are a row, it is closed; a row is a node and the rest of the row.
use mathlib.Core.Path.{refl}
use Rattle.node_reader.proofs.Reading.{kept}
use Rattle.terms.specs.declared.refusals.Refusal.TheVariants.{NoGoodPlan}
use Rattle.node_reader.proofs.Visiting.{visits-fail, within-any, visits-go-on, visits-end, visits-counted, below-fails, node-visited, closing-fails, leaf-visited}
use Rattle.node_reader.proofs.walk.+walks.Goals as goal

pub children-returns-in_err-here-clause-read : goal.children-returns-in_err-here-clause-read
children-returns-in_err-here-clause-read g t c =
    rw (kept c.from_residual.ensures) (visits-fail c.loop.invariant c.loop-test.true _ c.node.new.v c.in_err-here.ensures.read)

pub children-loop-preserved : goal.children-loop-preserved
children-loop-preserved g t c =
    within-any (visits-go-on c.loop.invariant c.loop-test.true c.in_ok-here.here c.in_ok-here.ensures.read c.in_ok-here.ensures.counted)

pub children-returns-clause-read : goal.children-returns-clause-read
children-returns-clause-read g t c =
    visits-end c.loop.invariant c.loop-test.false

pub children-returns-clause-counted : goal.children-returns-clause-counted
children-returns-clause-counted g t c =
    visits-counted c.loop.invariant c.loop-test.false c.requires.place.1

pub node-returns-then-head-eq0-clause-read : goal.node-returns-then-head-eq0-clause-read
node-returns-then-head-eq0-clause-read g t c =
    let a = c.args in
    let o = c.in_ok-head.ensures a.levels c.requires.limit in
    leaf-visited _ _ a.source.now.bytes.now a.here.next a.levels a.here.count _ o.0 o.1 c.requires.place refl c.if-head-eq0.true
    _ (o.2 c.if-head-eq0.true)

pub node-returns-in_err-children-clause-read : goal.node-returns-in_err-children-clause-read
node-returns-in_err-children-clause-read g t c =
    let a = c.args in
    let o = c.in_ok-head.ensures a.levels c.requires.limit in
    rw (kept c.from_residual-in_err-children.ensures)
    (below-fails _ _ a.source.now.bytes.now a.here.next a.levels a.here.count _ o.0 o.1 c.requires.place refl (o.3 c.if-head-eq0.false)
    c.children.new.v c.children.new.v _ c.in_err-children.ensures.read)

pub node-returns-then-not-close-clause-read : goal.node-returns-then-not-close-clause-read
node-returns-then-not-close-clause-read g t c =
    let a = c.args in
    let o = c.in_ok-head.ensures a.levels c.requires.limit in
    closing-fails _ _ a.source.now.bytes.now a.here.next a.levels a.here.count _ o.0 o.1 c.requires.place refl (o.3 c.if-head-eq0.false)
    _ c.in_ok-children.ensures.read c.close.new.self c.if-not-close.ensures NoGoodPlan

pub node-returns-clause-read : goal.node-returns-clause-read
node-returns-clause-read g t c =
    let a = c.args in
    let o = c.in_ok-head.ensures a.levels c.requires.limit in
    node-visited _ _ a.source.now.bytes.now a.here.next a.levels a.here.count _ o.0 o.1 c.requires.place refl (o.3 c.if-head-eq0.false)
    _ c.in_ok-children.ensures.read c.if-not-close.ensures
