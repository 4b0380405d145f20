-- `next`: what is passed is no column; the first column is the answer.
use mathlib.Core.Path.{sym, ap, ◌∙◌}
use mathlib.Core.List.{◌∷◌}
use Prim.Native.Nat.{ℕ, ◌+◌}
use lib.ListN.{length, drop}
use Rattle.std.proofs.Common.{rules}
use Rattle.node_table.specs.Records.{nodes_of}
use Rattle.filter_tree.specs.Trees.{below, places_of}
use Rattle.filter_tree.proofs.Scans.{left-kind, left-other, left-none, left-out}
use Rattle.filter_tree.proofs.tree.ColumnsIterator.next.Goals as goal

pub returns-then-node-self-clause-steps : goal.returns-then-node-self-clause-steps
returns-then-node-self-clause-steps c =
    let s = c.loop-self.self in
    sym c.loop-self.invariant
    ∙ left-kind s.nodes.now s.kind s.end s.next c.loop-self-test.true c.if-self.true c.if-node-self.true
    ∙ ap (λ (p : ℕ). p ∷ places_of s.kind (below s.end (drop (s.next + 1) (nodes_of s.nodes.now)))) (sym c.from.ensures)

pub returns-then-node-self-clause-goes : goal.returns-then-node-self-clause-goes
returns-then-node-self-clause-goes c =
    let s = c.loop-self.self in
    let e = ap length (sym c.loop-self.invariant
    ∙ left-kind s.nodes.now s.kind s.end s.next c.loop-self-test.true c.if-self.true c.if-node-self.true) in
    search rules

pub loop-self-preserved : goal.loop-self-preserved
loop-self-preserved c =
    let s = c.loop-self.self in
    sym (left-other s.nodes.now s.kind s.end s.next c.loop-self-test.true c.if-self.true c.if-node-self.false) ∙ c.loop-self.invariant

pub returns-else-self-clause-steps : goal.returns-else-self-clause-steps
returns-else-self-clause-steps c =
    let s = c.loop-self.self in
    let e = left-none s.nodes.now s.kind s.end s.next c.loop-self-test.true c.if-self.false in
    (sym c.loop-self.invariant ∙ e, e)

pub returns-after-loop-self-clause-steps : goal.returns-after-loop-self-clause-steps
returns-after-loop-self-clause-steps c =
    let s = c.loop-self.self in
    let e = left-out s.nodes.now s.kind s.end s.next c.loop-self-test.false in
    (sym c.loop-self.invariant ∙ e, e)
