-- An operator, and then two children.
use Prim.Native.Nat.{◌+◌}
use native.Mathlib.Omega.{arith}
use lib.ListN.{get_or}
use Rattle.definitions.specs.Bytes.Decode.{binary_node}
use Rattle.theorems.proofs.ReaderLaws.{halts}
use Rattle.node_reader.proofs.Children.{two}
use Rattle.node_reader.proofs.FieldBytes.{up-ends, up-out, up-read}
use Rattle.node_reader.proofs.head_readers.binary_head.Goals as goal

pub returns-then-s-at-lt2 : goal.returns-then-s-at-lt2
unfolding binary_node
returns-then-s-at-lt2 c =
    λ child n. halts _ (up-ends c.args.s.now (c.args.at + 1) n 63 (omega arith))

pub returns-then-s-at-gt63 : goal.returns-then-s-at-gt63
unfolding binary_node
returns-then-s-at-gt63 c =
    λ child n. halts _ (up-out c.args.s.now (c.args.at + 1) n 63 (omega arith) c.if-s-at-gt63.true)

pub returns : goal.returns
returns c =
    let a = c.args in
    two a.s.now (a.at + 1) (a.at + 2) (get_or a.s.now (a.at + 1) 0) (omega arith)
    (λ n. up-read a.s.now (a.at + 1) n 63 (a.at + 2) (omega arith) (omega arith) c.if-s-at-gt63.false)
