-- `put_child_places`: the numbers passed were found and changed.
use Prim.Native.Nat.{◌%◌, ◌<◌}
use native.Mathlib.Omega.{arith}
use mathlib.Core.Path.{◌≡◌, sym}
use mathlib.Core.Option.{some}
use lib.ListN.{get_or}
use Rattle.definitions.specs.Filter.Project.{place_in}
use Rattle.projection.proofs.PlaceLaws.{place-within}
use Rattle.projection.proofs.PlacingLaws.{other-has, other-stays, missing-lacks, found-has, found-placed, placing-goes-on, placing-fails, placing-ends}
use Rattle.projection.proofs.spot_places.put_child_places.Goals as goal
use Rattle.projection.proofs.spot_places.put_child_places.Goals.{In-Some, then-spot-wanted+in-Some, else-spot-wanted}

-- The place that was found fits.
found : (c : In-Some)
    → let items = c.args.items.now in
    some c.in-Some.place ≡ place_in items (get_or c.loop-number.row c.loop-number.number-index 0 % 65536)
found c = rw c.in-Some.is at c.place_in.ensures

low : (c : In-Some) → c.in-Some.place < 4096
low c =
    omega (arith, place-within _ _ _ (found c), c.requires.items_bound)

pub overflow_cast-number : goal.overflow_cast-number
overflow_cast-number c =
    omega (arith, low (goal.at.overflow_cast-number c).In-Some)

pub overflow_add-number : goal.overflow_add-number
overflow_add-number c =
    omega (arith, low (goal.at.overflow_add-number c).In-Some)

pub returns-in-None : goal.returns-in-None
returns-in-None c =
    let loop = c.loop-number in
    rw (← c.from.ensures, ← c.from-wanted.ensures)
    (placing-fails loop.invariant c.loop-number-test.true (missing-lacks _ _ _ c.if-spot-wanted.true
    (rw c.in-None.is at c.place_in.ensures)))

pub loop-number-preserved : goal.loop-number-preserved
loop-number-preserved c =
    let loop = c.loop-number in
    elim c.if-spot-wanted.branch [
      | then-spot-wanted+in-Some w ↦
          let place : some w.in-Some.place ≡ _ = rw w.in-Some.is at w.place_in.ensures in
          rw w.row-is
          (placing-goes-on loop.invariant c.loop-number-test.true (found-has _ _ _ w.if-spot-wanted.true _ place) _
          (found-placed _ _ _ w.if-spot-wanted.true _ place))
      | else-spot-wanted w ↦
          rw w.row-is
          (placing-goes-on loop.invariant c.loop-number-test.true (other-has _ _ _ w.if-spot-wanted.false) _
          (sym (other-stays _ _ _ w.if-spot-wanted.false)))
    ]

pub returns : goal.returns
returns c =
    rw (← c.from.ensures, ← c.from-wanted.ensures) (placing-ends c.loop-number.invariant c.loop-number-test.false)
