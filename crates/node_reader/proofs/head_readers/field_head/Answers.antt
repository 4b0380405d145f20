-- Bits and tag are all of it.
use Prim.Native.Nat.{◌+◌}
use native.Mathlib.Omega.{arith}
use mathlib.Core.Path.{refl, ◌∙◌}
use lib.ListN.{get_or}
use Rattle.definitions.specs.Words.Expression.{field}
use Rattle.expression.specs.Nodes.{children_of}
use Rattle.expression.specs.Places.{short_at}
use Rattle.definitions.specs.Bytes.Decode.{field_node}
use Rattle.theorems.proofs.ReaderLaws.{after, halts}
use Rattle.node_reader.proofs.Children.{childless}
use Rattle.node_reader.proofs.Numbers.{number-ends}
use Rattle.node_reader.proofs.CutHeads.{cut-field}
use Rattle.node_reader.proofs.FieldBytes.{up-out, up-read, short-read}
use Rattle.node_reader.proofs.head_readers.field_head.Goals as goal

pub returns-then-s-at-lt4 : goal.returns-then-s-at-lt4
unfolding field_node
returns-then-s-at-lt4 c =
    λ child n. cut-field c.args.s.now (c.args.at + 1) 3 n _ c.cut_field.result c.cut_field.ensures
    (λ a. halts _ (number-ends c.args.s.now (c.args.at + 1 + 1) 2 n (omega arith)))

pub returns-then-s-at-gt3 : goal.returns-then-s-at-gt3
unfolding field_node
returns-then-s-at-gt3 c =
    λ child n. halts _ (up-out c.args.s.now (c.args.at + 1) n 3 (omega arith) c.if-s-at-gt3.true)

pub returns : goal.returns
unfolding field_node children_of
returns c =
    let a = c.args in
    childless a.s.now (a.at + 1) field_node (field (get_or a.s.now (a.at + 1) 0) (short_at a.s.now (a.at + 2))) refl (omega arith)
    (λ n. after _ (up-read a.s.now (a.at + 1) n 3 (a.at + 2) (omega arith) (omega arith) c.if-s-at-gt3.false)
    ∙ after _ (short-read a.s.now (a.at + 2) (a.at + 4) n (omega arith) (omega arith)))
