-- `same_name_ignore_case`: names of one length are the same if no byte differs; the loop keeps that the rest decides.
use Rattle.definitions.specs.Filter.Names.{lower_case}
use Rattle.expression.proofs.NameLaws.{SoFar}
use Rattle.expression.proofs.names.same_name_ignore_case.Given as goal

abbrev pub invariant-loop-i : goal.invariant-loop-i
invariant-loop-i l =
    SoFar (lower_case l.name) l.other l.i
