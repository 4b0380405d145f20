-- `after_within`: a record that starts before the node's end is one of its own, and one that does not is behind them.
use native.Mathlib.Omega.{arith}
use Rattle.filter_tree.proofs.Halving.{row-room, row-within, ends-within, not-yet, passed}
use Rattle.filter_tree.proofs.tree.Tree.after_within.Goals as goal

pub offset_bounds-self-i : goal.offset_bounds-self-i
offset_bounds-self-i c = omega (arith, row-within c.requires, row-room c.requires, c.well_formed)

pub bounds-self-i : goal.bounds-self-i
bounds-self-i c = omega (arith, row-within c.requires, row-room c.requires)

pub overflow_add-low : goal.overflow_add-low
overflow_add-low c = omega (arith, row-within c.requires, row-room c.requires, c.well_formed)

pub loop-low-init : goal.loop-low-init
loop-low-init c = record {
  after = omega arith;
  within = omega arith;
  found = λ at t h. ends-within c.requires h;
}

pub offset_bounds-self-middle : goal.offset_bounds-self-middle
offset_bounds-self-middle c = omega (arith, c.loop-low.invariant.within, row-room c.requires, c.well_formed)

pub bounds-self-middle : goal.bounds-self-middle
bounds-self-middle c = omega (arith, c.loop-low.invariant.within, row-room c.requires)

pub loop-low-preserved-then-self-middle : goal.loop-low-preserved-then-self-middle
loop-low-preserved-then-self-middle c =
    let inv = c.loop-low.invariant in
    record {
      after = omega (arith, inv.after);
      within = inv.within;
      found = λ at t h. (
        not-yet c.requires h _ (omega (arith, inv.within)) c.if-self-middle.true,
        (inv.found at t h).1,
      );
    }

pub loop-low-preserved : goal.loop-low-preserved
loop-low-preserved c =
    let inv = c.loop-low.invariant in
    record {
      after = inv.after;
      within = omega (arith, inv.within);
      found = λ at t h. (
        (inv.found at t h).0,
        passed c.requires h _ (omega (arith, inv.after)) c.if-self-middle.false,
      );
    }

pub returns : goal.returns
returns c at t h =
    omega (arith, c.loop-low.invariant.found at t h)
