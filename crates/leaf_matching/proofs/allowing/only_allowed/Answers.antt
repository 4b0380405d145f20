-- `only_allowed`: a match that is not allowed is none.
use Rattle.std.proofs.lemmas.Result.{err_from_is_err_and}
use Rattle.leaf_matching.proofs.AllowLaws.{stays, goes, no-match_stays}
use Rattle.leaf_matching.proofs.allowing.only_allowed.Goals as goal

pub returns-in_err-predicate : goal.returns-in_err-predicate
returns-in_err-predicate c =
    let p = err_from_is_err_and c.from_residual.result c.from_residual.ensures.1 in
    rw (c.in_err-predicate.was, p.1, p.2) (no-match_stays _ _)

pub returns-then-is_allowed : goal.returns-then-is_allowed
returns-then-is_allowed c =
    rw c.in_ok-predicate.was (stays _ c.in_ok-predicate.predicate _ c.is_allowed.ensures c.if-is_allowed.true)

pub returns-else-is_allowed : goal.returns-else-is_allowed
returns-else-is_allowed c =
    rw c.in_ok-predicate.was (goes _ c.in_ok-predicate.predicate _ c.is_allowed.ensures c.if-is_allowed.false)
