-- `is_passed_call`: a name that is as long as none of those that can match is none of them.
use native.Mathlib.Omega.{arith}
use borrow.Author.Tests.{ltb-true}
use Rattle.leaf_pick.proofs.Nodes.{call-passed, name-length}
use Rattle.leaf_pick.proofs.one_walk.is_passed_call.Goals as goal

pub returns-then-n-lt9 : goal.returns-then-n-lt9
returns-then-n-lt9 c =
    λ e S records d s at t is.
    let long = name-length is.stands in
    call-passed is.name (λ six. omega (arith, six, long, c.if-n-ne6.true))
    (λ n same low high. omega (arith, same, low, high, long, c.if-n-lt9.true)) S records is.is

pub returns-else-n-lt9 : goal.returns-else-n-lt9
returns-else-n-lt9 c =
    λ e S records d s at t is.
    let long = name-length is.stands in
    call-passed is.name (λ six. omega (arith, six, long, c.if-n-ne6.true))
    (λ n same low high. omega (arith, same, low, high, long, ltb-true _ _ e)) S records is.is
