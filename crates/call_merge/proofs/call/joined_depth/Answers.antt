-- `joined_depth`: And is a level more than the deeper side.
use native.Mathlib.Omega.{arith}
use Rattle.filter_tree.proofs.Depths.{depth-within}
use Rattle.call_merge.proofs.call.joined_depth.Goals as goal

pub overflow_add-result : goal.overflow_add-result
overflow_add-result c =
    let (old, new) = c.requires in
    omega (
      arith,
      c.max.ensures,
      c.depth.ensures old.0 old.1 old.2,
      c.depth-2.ensures new.0 new.1 new.2,
      depth-within old.2,
      depth-within new.2,
      c.well_formed,
    )

pub returns : goal.returns
returns c =
    λ p t h q u k.
    omega (arith, c.max.ensures, c.depth.ensures p t h, c.depth-2.ensures q u k)
