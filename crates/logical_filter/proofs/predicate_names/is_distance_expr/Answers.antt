-- `is_distance_expr`: only a function has a name, and it is compared in small letters.
use mathlib.Core.Path.{ap, ◌∙◌}
use Rattle.definitions.specs.Words.Basics.{ascii, same_name}
use Rattle.expression.proofs.LeafLaws.{call-there}
use Rattle.logical_filter.proofs.NameWalk.{no_distance, no_call, small-name}
use Rattle.logical_filter.proofs.predicate_names.is_distance_expr.Goals as goal

pub returns-in_default : goal.returns-in_default
unfolding ascii
returns-in_default c =
    λ d t h. no_distance t (no_call h c.node_at.result c.in_default.not-Call (c.node_at.ensures d t h))

pub name-requires : goal.name-requires
name-requires c = call-there c.requires c.node_at.ensures c.in-Call.is

pub returns : goal.returns
unfolding ascii
returns c =
    λ d t h. (rw c.name.ensures at c.same_name_ignore_case.ensures)
    ∙ ap (λ n. same_name n (ascii "st_distance")) (small-name (c.in-Call.ensures d t h))
