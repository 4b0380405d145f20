-- `put_remainder`: the leaf is the whole expression exactly when it stands at its place.
use Rattle.remainder.proofs.RemainderLaws.{none-room, none-put}
use Rattle.remainder.proofs.remainder.put_remainder.Goals as goal

pub bounds-out-0 : goal.bounds-out-0
bounds-out-0 c =
    let p = c.requires.remainder_fits in
    none-room c.if-at-cut.true p.records p.cutting c.args.out.now p.room

pub returns-then-at-cut : goal.returns-then-at-cut
returns-then-at-cut c =
    λ records t up position frame cutting. none-put c.if-at-cut.true records cutting c.args.out.now
    ((let p = c.requires.remainder_fits in
    none-room c.if-at-cut.true p.records p.cutting c.args.out.now p.room))
