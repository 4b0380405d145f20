-- The range is tested once type and eight bytes are there.
use Prim.Native.Nat.{◌+◌}
use native.Mathlib.Omega.{arith}
use mathlib.Core.Path.{refl, sym, ap₂, ◌∙◌}
use lib.ListN.{get_or}
use Rattle.definitions.specs.Words.Expression.{literal}
use Rattle.definitions.specs.Words.Literals.{literal_in_range}
use Rattle.expression.specs.Nodes.{children_of}
use Rattle.definitions.specs.Bytes.Decode.{literal_node}
use Rattle.theorems.proofs.ReaderLaws.{after, halts, passes, fails}
use Rattle.node_reader.specs.Fields.{long_at}
use Rattle.node_reader.proofs.Children.{childless}
use Rattle.node_reader.proofs.Numbers.{number-ends}
use Rattle.node_reader.proofs.CutHeads.{cut-field}
use Rattle.node_reader.proofs.FieldBytes.{up-out, up-read, long-read}
use Rattle.node_reader.proofs.head_readers.literal_head.Goals as goal
use Rattle.node_reader.proofs.head_readers.literal_head.Goals.{then-kind-gt6-via-then-kind-gt6, then-kind-gt6-via-else-kind-gt6+then-not-literal_in_range}

pub returns-then-s-at-lt10 : goal.returns-then-s-at-lt10
unfolding literal_node
returns-then-s-at-lt10 c =
    λ child n. cut-field c.args.s.now (c.args.at + 1) 6 n _ c.cut_field.result c.cut_field.ensures
    (λ a. halts _ (number-ends c.args.s.now (c.args.at + 1 + 1) 8 n (omega arith)))

pub returns-then-kind-gt6 : goal.returns-then-kind-gt6
unfolding literal_node
returns-then-kind-gt6 c =
    λ child n.
    let a = c.args in
    elim c.then-kind-gt6.branch [
      | then-kind-gt6-via-then-kind-gt6 w ↦ halts _ (up-out a.s.now (a.at + 1) n 6 (omega arith) w.if-kind-gt6.true)
      | then-kind-gt6-via-else-kind-gt6+then-not-literal_in_range w ↦
          after _ (up-read a.s.now (a.at + 1) n 6 (a.at + 2) (omega arith) (omega arith) w.if-kind-gt6.false)
          ∙ after _ (long-read a.s.now (a.at + 2) (a.at + 10) n (omega arith) (omega arith))
          ∙ fails 4 _ n _ (sym (ap₂ literal_in_range w.from.ensures w.long_at.ensures) ∙ sym w.literal_in_range.ensures
          ∙ w.if-not-literal_in_range.true)
    ]

pub returns : goal.returns
unfolding literal_node children_of
returns c =
    let a = c.args in
    childless a.s.now (a.at + 1) literal_node (literal (get_or a.s.now (a.at + 1) 0) (long_at a.s.now (a.at + 2))) refl (omega arith)
    (λ n. after _ (up-read a.s.now (a.at + 1) n 6 (a.at + 2) (omega arith) (omega arith) c.if-kind-gt6.false)
    ∙ after _ (long-read a.s.now (a.at + 2) (a.at + 10) n (omega arith) (omega arith))
    ∙ passes 4 _ n _ (sym (ap₂ literal_in_range c.from.ensures c.long_at.ensures) ∙ sym c.literal_in_range.ensures
    ∙ c.if-not-literal_in_range.false))
