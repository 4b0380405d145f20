-- `put_literal`: the type between its marks, and the digits where that ended.
use native.Mathlib.Omega.{arith}
use Rattle.definitions.specs.Words.Basics.{digits}
use Rattle.hexadecimal.proofs.EncodeLaws.{length_digits}
use Rattle.printing.specs.Marks.{marked_number}
use Rattle.printing.proofs.Sequences.{second_fits, both-written}
use Rattle.printing.proofs.openings.put_literal.Goals as goal

pub encode-requires : goal.encode-requires
encode-requires c =
    let put = c.put_marked-v in
    let bytes = c.args.bytes.now in
    omega (
      arith,
      length_digits bytes,
      (second_fits (marked_number 35 c.args.sort 58) (digits bytes) c.requires put.ensures put.auto.out).room,
    )

pub returns : goal.returns
returns c =
    let put = c.put_marked-v in
    both-written (marked_number 35 c.args.sort 58) (digits c.args.bytes.now) c.requires put.ensures
    c.encode.ensures
