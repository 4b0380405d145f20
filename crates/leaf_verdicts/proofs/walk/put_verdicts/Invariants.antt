-- `put_verdicts`: an And is passed, a leaf's verdict is written.
use Rattle.filter_tree.specs.Spines.{spine_left}
use Rattle.terms.specs.Settings.{settings_of}
use Rattle.leaf_verdicts.specs.Laid.{OfIndex}
use Rattle.leaf_verdicts.proofs.walk.WalkLaws.{Going}
use Rattle.leaf_verdicts.proofs.walk.put_verdicts.Given as goal

abbrev pub invariant-loop-index : goal.invariant-loop-index
invariant-loop-index l =
    OfIndex l.tree.bytes.now l.rec l.tree.nodes.now 0
    (Going (settings_of l.fn.settings) l.tree.bytes.now l.rec l.tree.nodes.now (spine_left l.index-iterator) l.count l.fn.out l.out)
