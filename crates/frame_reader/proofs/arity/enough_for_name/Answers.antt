-- `enough_for_name`: `st_dwithin` needs three arguments, a relation name two, any other none.
use mathlib.Core.Path.{refl}
use Rattle.definitions.specs.Words.Basics.{ascii}
use Rattle.definitions.specs.Words.Leaves.{relation_arity}
use Rattle.frame_reader.proofs.ArityLaws.{call_needs}
use Rattle.frame_reader.proofs.arity.enough_for_name.Goals as goal

pub returns-then-same_name : goal.returns-then-same_name
unfolding ascii relation_arity
returns-then-same_name c =
    λ d name args st. rw c.if-same_name.true at (call_needs st (rw c.name.ensures at c.same_name.ensures) _ refl)

pub returns-in-Some : goal.returns-in-Some
unfolding ascii relation_arity
returns-in-Some c =
    λ d name args st.
    rw c.if-same_name.false at (call_needs st (rw c.name.ensures at c.same_name.ensures) _ (rw c.name-2.ensures at c.in-Some.ensures))

pub returns-in-None : goal.returns-in-None
unfolding ascii relation_arity
returns-in-None c =
    λ d name args st.
    rw c.if-same_name.false at (call_needs st (rw c.name.ensures at c.same_name.ensures) _ (rw c.name-2.ensures at c.in-None.ensures))
