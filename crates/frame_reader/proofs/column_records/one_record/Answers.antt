-- A record is a side and then two numbers of two bytes.
use Prim.Native.Nat.{◌+◌}
use native.Mathlib.Omega.{arith}
use mathlib.Core.Path.{refl, ◌∙◌}
use lib.ListN.{drop}
use Rattle.definitions.specs.Bytes.Readers.{byte_up_to}
use Rattle.definitions.specs.Bytes.Decode.{one_record, side_up_to}
use Rattle.node_reader.proofs.CutHeads.{cut-field, cut-shorts}
use Rattle.node_reader.proofs.FieldBytes.{up-out, up-read, short-read}
use Rattle.theorems.proofs.ReaderLaws.{after, halts}
use Rattle.frame_reader.proofs.Wholes.{regroup}
use Rattle.frame_reader.proofs.column_records.one_record.Goals as goal

pub returns-then-s-at-lt5 : goal.returns-then-s-at-lt5
unfolding one_record side_up_to
returns-then-s-at-lt5 c =
    λ n.
    let a = c.args in
    regroup (byte_up_to 2 n (drop a.at a.s.now)) _ _
    ∙ cut-field a.s.now a.at 2 n _ c.cut_field.result c.cut_field.ensures
    (λ side. cut-shorts a.s.now (a.at + 1) n _ (omega arith))

pub returns-then-s-at-gt2 : goal.returns-then-s-at-gt2
unfolding one_record side_up_to
returns-then-s-at-gt2 c =
    λ n. halts _ (halts _ (up-out c.args.s.now c.args.at n 2 (omega arith) c.if-s-at-gt2.true))

pub returns : goal.returns
unfolding one_record side_up_to
returns c =
    let a = c.args in (
      omega arith,
      _,
      λ n. after _ (after _ (up-read a.s.now a.at n 2 (a.at + 1) refl (omega arith) c.if-s-at-gt2.false))
          ∙ after _ (short-read a.s.now (a.at + 1) (a.at + 3) n (omega arith) (omega arith))
          ∙ after _ (short-read a.s.now (a.at + 3) (a.at + 5) n (omega arith) (omega arith)),
    )
