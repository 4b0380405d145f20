-- `ours_in_small`: a function by its name, an operator by the side that it looks at.
use native.Mathlib.Omega.{arith}
use mathlib.Core.Path.{sym, ap}
use Rattle.std.proofs.Common.{inl, inr}
use Rattle.definitions.specs.Filter.Verdicts as definitions
use Rattle.expression.proofs.LeafLaws.{call-there}
use Rattle.leaf_verdicts.proofs.LaidLaws.{index-node, index-within, index-tree, laid-found, laid-pair}
use Rattle.leaf_verdicts.proofs.SmallLaws.{plain-small}
use Rattle.leaf_verdicts.proofs.small_letters.ours_in_small.Goals as goal

pub start-requires : goal.start-requires
start-requires c = index-node c.requires

pub node_at-requires : goal.node_at-requires
node_at-requires c = index-tree c.requires c.start.ensures

pub name-requires : goal.name-requires
name-requires c = call-there (index-tree c.requires c.start.ensures) c.node_at.ensures c.in-Call.is

pub overflow_add-i : goal.overflow_add-i
overflow_add-i c = omega (arith, c.well_formed, index-within c.requires)

pub measured_in_small-requires : goal.measured_in_small-requires
measured_in_small-requires c =
    let both = rw c.in-Binary.is at (laid-found c.requires.3 c.start.ensures _ c.node_at.ensures) in
    (_, c.requires.1, both.l, both.r, laid-pair c.requires.3 both)

pub returns-in-Binary : goal.returns-in-Binary
returns-in-Binary c =
    λ at records t h.
    let both = rw c.in-Binary.is at (laid-found h c.start.ensures _ c.node_at.ensures) in
    rw both.is (c.measured_in_small.ensures _ records both.l both.r (laid-pair h both))

pub returns-in-Call : goal.returns-in-Call
unfolding definitions.ours_in_small
returns-in-Call c =
    λ at records t h.
    let call = rw c.in-Call.is at (laid-found h c.start.ensures _ c.node_at.ensures) in
    rw call.is (rw (c.name.ensures, call.stands.spelling) at c.named_in_small.ensures)

pub returns-in-And : goal.returns-in-And
unfolding definitions.ours_in_small
returns-in-And c =
    λ at records t h.
    let found = laid-found h c.start.ensures _ c.node_at.ensures in
    elim c.in-And.is [
      | inl e ↦ sym (ap definitions.ours_in_small (rw e.1 at found).is)
      | inr e ↦ plain-small (rw e.1 at found).0
    ]
