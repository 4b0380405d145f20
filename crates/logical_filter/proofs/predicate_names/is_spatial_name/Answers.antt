-- `is_spatial_name`: a name that may be one of them is compared with one after the other.
use Rattle.definitions.specs.Words.Basics.{ascii, any}
use Rattle.definitions.specs.Filter.Names.{spatial_names}
use Rattle.logical_filter.proofs.predicate_names.is_spatial_name.Goals as goal

pub returns-then-may_be_spatial : goal.returns-then-may_be_spatial
unfolding any spatial_names ascii
returns-then-may_be_spatial c = c.is_among.ensures
