-- `spatial_bit`: a name that is none of the 15 has no bit, and no name stands twice among them.
use native.Mathlib.Omega.{arith}
use mathlib.Core.Path.{refl}
use Rattle.definitions.specs.Words.Basics.{ascii, same_name, any}
use Rattle.definitions.specs.Filter.Names.{lower_case, spatial_names}
use Rattle.logical_filter.specs.Logicals.{apart}
use Rattle.logical_filter.proofs.NameMasks.{unnamed-bit}
use Rattle.logical_filter.proofs.predicate_names.spatial_bit.Goals as goal

pub name_bit-requires : goal.name_bit-requires
unfolding apart ascii spatial_names same_name any
name_bit-requires c = record { few = omega arith; apart = refl }

pub returns-then-not-may_be_spatial : goal.returns-then-not-may_be_spatial
returns-then-not-may_be_spatial c =
    unnamed-bit (lower_case c.args.name.now) spatial_names (c.may_be_spatial.ensures c.if-not-may_be_spatial.true)

pub returns : goal.returns
unfolding spatial_names ascii
returns c = c.name_bit.ensures
