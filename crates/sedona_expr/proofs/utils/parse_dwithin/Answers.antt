-- `parse_dwithin`: of the functions only `st_dwithin` asks for a distance, and it needs three arguments, one after the other.
use mathlib.Core.Path.{refl}
use Rattle.definitions.specs.Words.Basics.{ascii}
use Rattle.sedona_expr.proofs.Distances.{not-dwithin, dwithin-too-few, first-given, second-given, dwithin-distance}
use Rattle.sedona_expr.proofs.utils.parse_dwithin.Goals as goal

pub returns-then-not-same_name : goal.returns-then-not-same_name
unfolding ascii
returns-then-not-same_name c =
    λ d name args st. not-dwithin st (rw c.name.ensures at c.if-not-same_name.ensures) refl

pub returns-then-call-lt3 : goal.returns-then-call-lt3
unfolding ascii
returns-then-call-lt3 c =
    λ d name args st.
    dwithin-too-few st (rw c.name.ensures at c.if-not-same_name.ensures) refl
    c.if-call-lt3.true

pub after-arg1-requires : goal.after-arg1-requires
unfolding ascii
after-arg1-requires c =
    let p = c.requires in
    first-given p.calls.3 (rw c.name.ensures at c.if-not-same_name.ensures) refl (p.of_call _ _ _ p.calls.3)
    c.if-call-lt3.false

pub after-requires : goal.after-requires
unfolding ascii
after-requires c =
    let p = c.requires in
    second-given p.calls.3 (rw c.name.ensures at c.if-not-same_name.ensures) refl (p.of_call _ _ _ p.calls.3)
    c.if-call-lt3.false c.after-arg1.ensures

pub returns : goal.returns
unfolding ascii
returns c =
    λ d name args st.
    dwithin-distance st (rw c.name.ensures at c.if-not-same_name.ensures) refl (c.requires.of_call d name args st) c.if-call-lt3.false
    c.after-arg1.ensures c.after.ensures
