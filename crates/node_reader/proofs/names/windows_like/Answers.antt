-- The two windows cover the name.
use mathlib.Core.Path.{refl}
use Rattle.node_reader.proofs.NameBytes.{windows-name}
use Rattle.node_reader.proofs.names.windows_like.Goals as goal

pub returns : goal.returns
returns g c =
    windows-name c.args.s.now c.args.at c.args.size g.row.W _ _ _ c.requires.0 c.requires.1 refl c.name_like.ensures c.name_like-2.ensures
