-- `find_by_chains`: the chains are filled from rows of nothing but 0.
use native.Mathlib.Omega.{arith}
use mathlib.Core.Path.{refl}
use Rattle.projection.proofs.ChainLaws.{zeros-unfilled}
use Rattle.projection.proofs.spot_places.find_by_chains.Goals as goal

pub fill_places-requires-clause-unfilled : goal.fill_places-requires-clause-unfilled
fill_places-requires-clause-unfilled g c =
    zeros-unfilled c.args.items.now 1024 g.row.N refl c.requires.0 (omega (arith, c.requires.0, c.requires.1))
