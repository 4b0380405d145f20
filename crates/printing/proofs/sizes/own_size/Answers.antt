-- `own_size`: each arm adds up the characters of its kind.
use Prim.Native.Nat.{◌+◌, ◌≤◌}
use native.Mathlib.Omega.{arith}
use mathlib.Core.Path.{◌≡◌, ap}
use lib.ListN.{get_or}
use Rattle.definitions.specs.Bytes.Printed.{decimal_width}
use Rattle.printing.proofs.NodeFields.{kind-within, tag-within}
use Rattle.printing.proofs.SizeLaws.{width_small, few-children, short-name, own-column, own-literal, own-binary, own-call, own-other}
use Rattle.printing.proofs.sizes.own_size.Goals as goal
use Rattle.printing.proofs.sizes.own_size.Goals.{After-saturating_sub-commas}

-- A call's own characters are few.
call-few : (c : After-saturating_sub-commas) → get_or c.args.src.now c.args.at 0 ≡ 3
    → 4 + c.decimal_width-width.result + c.leading_number-number.result + c.saturating_sub-commas.result ≤ 64
call-few c e =
    let call = c.leading_number-number in
    omega (
      arith,
      c.decimal_width-width.ensures,
      width_small call.result,
      call.ensures c.requires.0 c.requires.1,
      short-name c.requires.1 e,
      c.saturating_sub-commas.ensures,
      c.requires.2,
      few-children c.requires.1,
    )

pub bounds-src-at : goal.bounds-src-at
bounds-src-at c =
    kind-within c.requires.1

pub short_at-requires : goal.short_at-requires
short_at-requires c =
    omega (arith, tag-within c.requires.1 c.in-0.is)

pub returns-in-0 : goal.returns-in-0
returns-in-0 c =
    λ t h k.
    let call = c.leading_number-number in
    omega (
      arith,
      own-column call.result call.ensures t h c.in-0.is,
      c.decimal_width-width.ensures,
      c.decimal_width.ensures,
      ap decimal_width c.short_at.ensures,
    )

pub returns-in-1 : goal.returns-in-1
returns-in-1 c =
    λ t h k.
    let call = c.leading_number-number in
    omega (arith, own-literal call.result call.ensures t h c.in-1.is, c.decimal_width-width.ensures)

pub returns-in-2 : goal.returns-in-2
returns-in-2 c =
    λ t h k.
    let call = c.leading_number-number in
    omega (arith, own-binary call.result call.ensures t h c.in-2.is, c.decimal_width-width.ensures)

pub returns-in-3 : goal.returns-in-3
returns-in-3 c =
    λ t h k.
    let call = c.leading_number-number in
    omega (
      arith,
      own-call call.result call.ensures t h _ k c.in-3.is,
      c.decimal_width-width.ensures,
      c.saturating_sub-commas.ensures,
    )

pub returns-in_default : goal.returns-in_default
returns-in_default c =
    λ t h k.
    let call = c.leading_number-number in
    omega (
      arith,
      own-other call.result call.ensures t h _ k (omega arith),
      c.decimal_width-width.ensures,
      c.saturating_sub-commas.ensures,
    )

pub overflow_add-result-in-3-2 : goal.overflow_add-result-in-3-2
overflow_add-result-in-3-2 c = omega (arith, call-few (goal.at.overflow_add-result-in-3-2 c).After-saturating_sub-commas c.in-3.is)

pub overflow_add-result-in-3-3 : goal.overflow_add-result-in-3-3
overflow_add-result-in-3-3 c = omega (arith, call-few (goal.at.overflow_add-result-in-3-3 c).After-saturating_sub-commas c.in-3.is)

pub overflow_add-result-in_default-2 : goal.overflow_add-result-in_default-2
overflow_add-result-in_default-2 c =
    omega (
      arith,
      c.decimal_width-width.ensures,
      width_small c.leading_number-number.result,
      c.saturating_sub-commas.ensures,
      c.requires.2,
      few-children c.requires.1,
    )
