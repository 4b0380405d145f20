-- `put_line`: three parts are written in a row, each from where the last ended.
use borrow.Author.Rules.{rules}
use Rattle.hexadecimal.proofs.EncodeLaws.{digits-room, feed-room, line-written}
use Rattle.hexadecimal.proofs.digit_lines.put_line.Goals as goal

pub encode-end-requires : goal.encode-end-requires
encode-end-requires c =
    let head = c.encode-middle in
    digits-room c.args.first c.args.more.now head.ensures head.auto.out c.requires

pub bounds-out-end : goal.bounds-out-end
bounds-out-end c =
    let head = c.encode-middle in
    let body = c.encode-end in
    feed-room _ _ head.ensures head.auto.out (search rules) body.ensures body.auto.out

pub returns : goal.returns
returns c =
    let head = c.encode-middle in
    let body = c.encode-end in
    line-written _ _ head.ensures head.auto.out (search rules) body.ensures body.auto.out
