-- `is_passed`: a plain node and an operator over 4 ask for nothing, so no leaf that is one matches.
use borrow.Author.Tests.{ltb-true}
use Rattle.leaf_pick.proofs.Nodes.{plain-passed, binary-passed}
use Rattle.leaf_pick.proofs.one_walk.is_passed.Goals as goal

pub returns-in-Binary : goal.returns-in-Binary
returns-in-Binary c =
    λ e S records d s at t is. binary-passed S records _ (rw c.in-Binary.is at is).is (ltb-true _ _ e)

pub returns-in-Plain : goal.returns-in-Plain
returns-in-Plain c =
    λ e S records d s at t is. plain-passed S records (rw c.in-Plain.is at is).0
