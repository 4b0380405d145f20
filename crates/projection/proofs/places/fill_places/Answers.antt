-- `fill_places`: the chains have the items passed that may be sought.
use mathlib.Core.Path.{refl}
use lib.ListN.{get_or}
use Rattle.projection.proofs.ChainLaws.{chained-none, chain-of, chained-skips, chained-stays, chained-new}
use Rattle.projection.proofs.PlaceLaws.{is-missing, is-there}
use Rattle.projection.proofs.places.fill_places.Goals as goal
use Rattle.projection.proofs.places.fill_places.Goals.{then-sought-from+then-is_none, else-sought-from}
use Rattle.projection.proofs.places.fill_places.Goals.{else-sought-from-via-then-sought-from+else-is_none}
use Rattle.projection.proofs.places.fill_places.Goals.{else-sought-from-via-else-sought-from}

pub loop-k-init : goal.loop-k-init
loop-k-init c =
    chained-none c.requires.unfilled

pub chain_place-requires : goal.chain_place-requires
chain_place-requires c =
    chain-of c.loop-k.invariant _ (rw c.from.ensures at c.if-sought-from.true)

pub loop-k-preserved : goal.loop-k-preserved
loop-k-preserved c =
    let chained = c.loop-k.invariant in
    let index = get_or c.args.items.now c.loop-k.k 0 in
    elim c.if-sought-from.branch [
      | then-sought-from+then-is_none w ↦
          let answer = w.chain_place.ensures _ (chained.walks index (rw c.from.ensures at w.if-sought-from.true)) in
          rw (w.heads-is, w.nexts-is, w.from-chain.ensures)
          (chained-new chained c.loop-k-test.true index refl (is-missing _ answer w.if-is_none.ensures))
      | else-sought-from w ↦
          rw (w.heads-is, w.nexts-is)
          (elim w.else-sought-from.branch [
            | else-sought-from-via-then-sought-from+else-is_none v ↦
                let answer = v.chain_place.ensures _ (chained.walks index (rw c.from.ensures at v.if-sought-from.true)) in
                let there = is-there _ answer v.if-is_none.ensures in
                chained-stays chained c.loop-k-test.true index refl there.0 there.1
            | else-sought-from-via-else-sought-from v ↦
                chained-skips chained c.loop-k-test.true index refl (rw c.from.ensures at v.if-sought-from.false)
          ])
    ]
