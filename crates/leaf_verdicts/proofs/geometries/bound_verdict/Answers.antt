-- `bound_verdict`: the flags of its columns say what is asked of their sides.
use Rattle.definitions.specs.Filter.Verdicts.{sides_of}
use Rattle.leaf_verdicts.proofs.LaidLaws.{argued, laid-argument}
use Rattle.leaf_verdicts.proofs.ColumnLaws.{bound-told}
use Rattle.leaf_verdicts.proofs.geometries.bound_verdict.Goals as goal

pub seen_sides-requires : goal.seen_sides-requires
seen_sides-requires c = argued c.requires

pub returns : goal.returns
unfolding sides_of
returns c =
    λ at records t h.
    rw (c.bound_reason.ensures, c.flags.ensures, c.seen_sides.ensures records t (laid-argument h)) (bound-told _)
