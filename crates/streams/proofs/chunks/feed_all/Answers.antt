-- `feed_all`: what a turn takes follows what was handed over; it takes at least one character, since there is room for what a line gives.
use borrow.Author.Rules.{rules}
use borrow.Author.Tests.{eqb-false}
use Prim.Native.Nat.{◌≤◌, ◌<◌}
use native.Mathlib.Omega.{arith}
use mathlib.Core.Path.{sym}
use lib.ListN.{length, length-take, length-drop}
use Rattle.lines.proofs.SessionLaws.{taken-within, taken-some, fed-room}
use Rattle.streams.proofs.Handing.{taken, has_room, nothing-handed}
use Rattle.streams.proofs.chunks.feed_all.Goals as goal
use Rattle.streams.proofs.chunks.feed_all.Goals.{After-feed-fed}

-- A turn takes something, no more than is left.
some : (c : After-feed-fed) → 0 < c.feed-fed.result.taken
some c =
    taken-some (c.feed-fed.ensures.takes (omega (arith, c.loop-rest.invariant.0)))
    (omega (arith, eqb-false _ _ (sym c.loop-rest-test.ensures)))

within : (c : After-feed-fed) → c.feed-fed.result.taken ≤ length c.loop-rest.rest.now
within c = taken-within (c.feed-fed.ensures.takes (omega (arith, c.loop-rest.invariant.0)))

room : (c : After-feed-fed) → c.feed-fed.result.state.filled ≤ length c.feed-fed.new.buffers.out
room c = fed-room c.feed-fed.ensures c.loop-rest.invariant.1

pub loop-rest-init : goal.loop-rest-init
loop-rest-init c = (omega arith, omega arith, nothing-handed _ _ _)

pub make_room-requires : goal.make_room-requires
make_room-requires c = room (goal.at.make_room-requires c).After-feed-fed

pub slice_bounds-rest-count : goal.slice_bounds-rest-count
slice_bounds-rest-count c =
    let f = (goal.at.slice_bounds-rest-count c).After-feed-fed in
    omega (arith, some f, within f)

pub slice_bounds-rest-start : goal.slice_bounds-rest-start
slice_bounds-rest-start c =
    let w = within (goal.at.slice_bounds-rest-start c).After-feed-fed in
    search (rules, w)

pub loop-rest-smaller : goal.loop-rest-smaller
loop-rest-smaller c =
    let f = (goal.at.loop-rest-smaller c).After-feed-fed in
    simp (length-take, length-drop) (omega (arith, some f, within f))

pub loop-rest-preserved : goal.loop-rest-preserved
loop-rest-preserved c =
    let f = (goal.at.loop-rest-preserved c).After-feed-fed in
    let on = rw (← c.in_ok-current.ensures) at (has_room c.feed-fed.result.state) in (
      on.0,
      omega (arith, on.1, room f),
      taken c.feed-fed.result.taken c.loop-rest.invariant.2 c.feed-fed.ensures.makes c.in_ok-current.ensures,
    )
