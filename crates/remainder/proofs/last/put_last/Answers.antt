-- `put_last`: what stays was written from the end on; nothing, or an expression that is pruned.
use native.Mathlib.Omega.{arith}
use mathlib.Core.Path.{ap}
use lib.ListN.{length}
use Rattle.remainder.proofs.LastLaws.{none-bytes, none-put, pruned-fits, pruned-put}
use Rattle.remainder.proofs.last.put_last.Goals as goal

pub bounds-out-0 : goal.bounds-out-0
bounds-out-0 c =
    let p = c.requires.last_fits in
    let call = c.put_rest-stays in
    omega (arith, p.room, ap length (none-bytes p.left (call.ensures _ p.tree p.left.frame.tree) call.auto.out c.if-stays-end.true))

pub returns-then-stays-end : goal.returns-then-stays-end
returns-then-stays-end c =
    λ goes records t left.
    let call = c.put_rest-stays in
    none-put left (call.ensures _ t left.frame.tree) call.auto.out c.if-stays-end.true
    c.args.out.now ((let p = c.requires.last_fits in
    let call = c.put_rest-stays in
    omega (arith, p.room, ap length (none-bytes p.left (call.ensures _ p.tree p.left.frame.tree) call.auto.out c.if-stays-end.true))))

pub put_pruned_to_end-requires : goal.put_pruned_to_end-requires
put_pruned_to_end-requires c =
    let p = c.requires.last_fits in
    let call = c.put_rest-stays in
    pruned-fits p.left (call.ensures _ p.tree p.left.frame.tree) call.auto.out c.if-stays-end.false p.room

pub returns : goal.returns
returns c =
    λ goes records t left.
    let call = c.put_rest-stays in
    pruned-put left (call.ensures _ t left.frame.tree) call.auto.out
    c.if-stays-end.false _ _ _
    c.put_pruned_to_end.ensures
