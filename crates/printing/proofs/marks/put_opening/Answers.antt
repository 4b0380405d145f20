-- `put_opening`: each arm writes what its kind opens with.
use native.Mathlib.Omega.{arith}
use Rattle.expression.specs.Places.{part}
use Rattle.printing.proofs.NodeFields.{kind-within, tag-within, literal-within, name-within}
use Rattle.printing.proofs.Sequences.{known-fits, known-puts, mark-fits, mark-written}
use Rattle.printing.proofs.MarkLaws.{column-opens, literal-opens, binary-opens, call_opens, other-opens}
use Rattle.printing.proofs.marks.put_opening.Goals as goal

pub bounds-src-at : goal.bounds-src-at
bounds-src-at c =
    kind-within c.requires.stands

pub short_at-requires : goal.short_at-requires
short_at-requires c =
    omega (arith, tag-within c.requires.stands c.in-0.is)

pub put_column-requires : goal.put_column-requires
put_column-requires c =
    let call = c.leading_number-number in
    rw c.short_at.ensures
    (known-fits (λ t h. column-opens call.result call.ensures t h c.in-0.is)
    c.requires)

pub slice_bounds-put_literal-end : goal.slice_bounds-put_literal-end
slice_bounds-put_literal-end c =
    omega (arith, literal-within c.requires.stands c.in-1.is)

pub put_literal-requires : goal.put_literal-requires
unfolding part
put_literal-requires c =
    let call = c.leading_number-number in
    known-fits (λ t h. literal-opens call.result call.ensures t h c.in-1.is)
    c.requires

pub bounds-out-w : goal.bounds-out-w
bounds-out-w c =
    mark-fits 40 (known-fits (binary-opens c.in-2.is) c.requires)

pub slice_bounds-put_name-end : goal.slice_bounds-put_name-end
slice_bounds-put_name-end c =
    let p = c.requires in
    let call = c.leading_number-number in
    omega (arith, name-within p.stands c.in-3.is call.result (call.ensures p.it p.stands))

pub put_name-requires : goal.put_name-requires
unfolding part
put_name-requires c =
    let call = c.leading_number-number in
    known-fits (λ t h. call_opens call.result call.ensures t h c.in-3.is)
    c.requires

pub put_marked-requires : goal.put_marked-requires
put_marked-requires c =
    let call = c.leading_number-number in
    known-fits (λ t h. other-opens call.result call.ensures t h (omega arith))
    c.requires

pub returns-in-0 : goal.returns-in-0
returns-in-0 c =
    let call = c.leading_number-number in
    known-puts (λ t h. column-opens call.result call.ensures t h c.in-0.is)
    (rw c.short_at.ensures at c.put_column.ensures)

pub returns-in-1 : goal.returns-in-1
unfolding part
returns-in-1 c =
    let call = c.leading_number-number in
    known-puts (λ t h. literal-opens call.result call.ensures t h c.in-1.is)
    c.put_literal.ensures

pub returns-in-2 : goal.returns-in-2
returns-in-2 c =
    let opens = binary-opens c.in-2.is in
    known-puts opens (mark-written 40 (known-fits opens c.requires))

pub returns-in-3 : goal.returns-in-3
unfolding part
returns-in-3 c =
    let call = c.leading_number-number in
    known-puts (λ t h. call_opens call.result call.ensures t h c.in-3.is)
    c.put_name.ensures

pub returns-in_default : goal.returns-in_default
returns-in_default c =
    let call = c.leading_number-number in
    known-puts (λ t h. other-opens call.result call.ensures t h (omega arith)) c.put_marked.ensures

pub overflow_add-at-in-3-3 : goal.overflow_add-at-in-3-3
overflow_add-at-in-3-3 c =
    let p = c.requires in
    let call = c.leading_number-number in
    omega (arith, name-within p.stands c.in-3.is call.result (call.ensures p.it p.stands))
