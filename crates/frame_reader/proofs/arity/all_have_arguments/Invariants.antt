-- `all_have_arguments`: some of the AND-leaves were passed.
use Rattle.filter_tree.specs.Spines.{spine_left}
use Rattle.frame_reader.specs.Arities.{OfAsked}
use Rattle.frame_reader.proofs.arity.all_have_arguments.Given as goal

abbrev pub invariant-loop-index : goal.invariant-loop-index
invariant-loop-index l =
    OfAsked l.tree.bytes.now l.tree.nodes.now l.i (spine_left l.index-iterator)
