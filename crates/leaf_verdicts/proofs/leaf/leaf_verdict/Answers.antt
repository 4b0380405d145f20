-- `leaf_verdict`: what the node is tells where its verdict is found.
use native.Mathlib.Omega.{arith}
use mathlib.Core.Path.{refl, sym, ap, ◌∙◌}
use Rattle.expression.specs.Nodes.{children_of}
use Rattle.filter_tree.specs.Spines.{is_leaf}
use Rattle.leaf_verdicts.proofs.LaidLaws.{index-node, index-within, index-tree, laid-found, laid-children, laid-pair, laid-call}
use Rattle.leaf_verdicts.proofs.StageLaws.{plain-told, plain-is-leaf}
use Rattle.leaf_verdicts.proofs.leaf.leaf_verdict.Goals as goal

pub start-requires : goal.start-requires
start-requires c = index-node c.requires

pub node_at-requires : goal.node_at-requires
node_at-requires c = index-tree c.requires c.start.ensures

pub overflow_add-i : goal.overflow_add-i
overflow_add-i c = omega (arith, c.well_formed, index-within c.requires)

pub overflow_add-i-in-Call : goal.overflow_add-i-in-Call
overflow_add-i-in-Call c = omega (arith, c.well_formed, index-within c.requires)

pub overflow_add-i-in-Plain : goal.overflow_add-i-in-Plain
overflow_add-i-in-Plain c = omega (arith, c.well_formed, index-within c.requires)

pub binary_verdict-requires : goal.binary_verdict-requires
binary_verdict-requires c =
    let both = rw c.in-Binary.is at (laid-found c.requires.3 c.start.ensures _ c.node_at.ensures) in
    (_, c.requires.1, both.l, both.r, laid-pair c.requires.3 both)

pub call_verdict-requires : goal.call_verdict-requires
call_verdict-requires c =
    let call = rw c.in-Call.is at (laid-found c.requires.3 c.start.ensures _ c.node_at.ensures) in
    (c.requires.1, call.name, call.arguments, laid-call c.requires.3 call)

pub inside_verdict-requires : goal.inside_verdict-requires
inside_verdict-requires c =
    let plain = rw c.in-Plain.is at (laid-found c.requires.3 c.start.ensures _ c.node_at.ensures) in
    (_, c.requires.1, children_of c.requires.2, laid-children c.requires.3 _ plain.1.children)

pub returns-in-And : goal.returns-in-And
unfolding is_leaf
returns-in-And c =
    λ at records t h. ap is_leaf (rw c.in-And.is at (laid-found h c.start.ensures _ c.node_at.ensures)).is

pub returns-in-Binary : goal.returns-in-Binary
unfolding is_leaf
returns-in-Binary c =
    λ at records t h.
    let both = rw c.in-Binary.is at (laid-found h c.start.ensures _ c.node_at.ensures) in
    rw both.is (refl, c.binary_verdict.ensures _ records both.l both.r (laid-pair h both))

pub returns-in-Call : goal.returns-in-Call
unfolding is_leaf
returns-in-Call c =
    λ at records t h.
    let call = rw c.in-Call.is at (laid-found h c.start.ensures _ c.node_at.ensures) in
    rw call.is (refl, c.call_verdict.ensures records call.name call.arguments (laid-call h call))

pub returns-in-Plain : goal.returns-in-Plain
returns-in-Plain c =
    λ at records t h.
    let plain = rw c.in-Plain.is at (laid-found h c.start.ensures _ c.node_at.ensures) in (
      plain-is-leaf plain.0,
      c.inside_verdict.ensures _ records (children_of t) (laid-children h _ plain.1.children)
          ∙ sym (plain-told _ records plain.0),
    )
