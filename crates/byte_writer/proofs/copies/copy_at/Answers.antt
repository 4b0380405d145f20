-- `copy_at`: what was copied to the lent part stands from w on.
use Rattle.byte_writer.proofs.SpanLaws.{span_fits, span-put}
use Rattle.byte_writer.proofs.copies.copy_at.Goals as goal

pub copy_bytes-requires : goal.copy_bytes-requires
copy_bytes-requires c =
    let both = span_fits c.requires in
    record { src_has_bytes = both.0; out_has_room = both.1 }

pub returns : goal.returns
returns c =
    let call = c.copy_bytes in
    span-put c.args.out.now call.new.out call.ensures
