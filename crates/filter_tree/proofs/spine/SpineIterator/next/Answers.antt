-- `next`: what is passed is below a leaf; the first that is not is the answer.
use mathlib.Core.Path.{sym, ap, ◌∙◌}
use mathlib.Core.List.{◌∷◌}
use Prim.Native.Nat.{ℕ, ◌+◌}
use lib.ListN.{length, drop}
use Rattle.std.proofs.Common.{rules}
use Rattle.node_table.specs.Records.{nodes_of}
use Rattle.filter_tree.specs.Spines.{spine}
use Rattle.filter_tree.proofs.Spining.{left-takes, left-passes, left-stops, left-over}
use Rattle.filter_tree.proofs.spine.SpineIterator.next.Goals as goal

pub returns-then-self-node-clause-steps : goal.returns-then-self-node-clause-steps
returns-then-self-node-clause-steps c =
    let s = c.loop-self.self in
    sym c.loop-self.invariant
    ∙ left-takes s.bytes.now s.nodes.now s.end s.low s.next c.loop-self-test.true c.if-self.true c.if-self-node.true
    ∙ ap (λ (p : ℕ). s.next ∷ spine s.bytes.now s.end p (s.next + 1) (drop (s.next + 1) (nodes_of s.nodes.now)))
    (sym c.low_after-self.ensures)

pub returns-then-self-node-clause-goes : goal.returns-then-self-node-clause-goes
returns-then-self-node-clause-goes c =
    let s = c.loop-self.self in
    let e = ap length (sym c.loop-self.invariant
    ∙ left-takes s.bytes.now s.nodes.now s.end s.low s.next c.loop-self-test.true c.if-self.true c.if-self-node.true
    ∙ ap (λ (p : ℕ). s.next ∷ spine s.bytes.now s.end p (s.next + 1) (drop (s.next + 1) (nodes_of s.nodes.now)))
    (sym c.low_after-self.ensures)) in
    search rules

pub loop-self-preserved : goal.loop-self-preserved
loop-self-preserved c =
    let s = c.loop-self.self in
    sym (left-passes s.bytes.now s.nodes.now s.end s.low s.next c.loop-self-test.true c.if-self.true c.if-self-node.false)
    ∙ c.loop-self.invariant

pub returns-else-self-clause-steps : goal.returns-else-self-clause-steps
returns-else-self-clause-steps c =
    let s = c.loop-self.self in
    let e = left-stops s.bytes.now s.nodes.now s.end s.low s.next c.loop-self-test.true c.if-self.false in
    (sym c.loop-self.invariant ∙ e, e)

pub returns-after-loop-self-clause-steps : goal.returns-after-loop-self-clause-steps
returns-after-loop-self-clause-steps c =
    let s = c.loop-self.self in
    let e = left-over s.bytes.now s.nodes.now s.end s.low s.next c.loop-self-test.false in
    (sym c.loop-self.invariant ∙ e, e)
