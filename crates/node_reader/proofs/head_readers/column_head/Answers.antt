-- The bound is tested last, after index and tag.
use Prim.Native.Nat.{◌+◌}
use native.Mathlib.Omega.{arith}
use mathlib.Core.Path.{refl, ◌∙◌}
use borrow.Author.Tests.{lt-ltb, le-ltb}
use Rattle.definitions.specs.Words.Expression.{column}
use Rattle.expression.specs.Nodes.{children_of}
use Rattle.expression.specs.Places.{short_at}
use Rattle.definitions.specs.Bytes.Decode.{column_node}
use Rattle.theorems.proofs.ReaderLaws.{after, passes, fails}
use Rattle.node_reader.proofs.Children.{childless}
use Rattle.node_reader.proofs.FieldBytes.{short-read}
use Rattle.node_reader.proofs.CutHeads.{cut-shorts}
use Rattle.node_reader.proofs.head_readers.column_head.Goals as goal

pub returns-then-s-at-lt5 : goal.returns-then-s-at-lt5
unfolding column_node
returns-then-s-at-lt5 c =
    λ child n. cut-shorts c.args.s.now (c.args.at + 1) n _ (omega arith)

pub returns-then-bound-short_at : goal.returns-then-bound-short_at
unfolding column_node
returns-then-bound-short_at c =
    λ child n.
    let a = c.args in
    after _ (short-read a.s.now (a.at + 1) (a.at + 3) n (omega arith) (omega arith))
    ∙ after _ (short-read a.s.now (a.at + 3) (a.at + 5) n (omega arith) (omega arith))
    ∙ fails 6 _ n _ (le-ltb (short_at a.s.now (a.at + 1)) a.bound (omega (arith, c.short_at.ensures)))

pub returns : goal.returns
unfolding column_node children_of
returns c =
    let a = c.args in
    childless a.s.now (a.at + 1) (column_node a.bound) (column (short_at a.s.now (a.at + 1)) (short_at a.s.now (a.at + 3))) refl
    (omega arith)
    (λ n. after _ (short-read a.s.now (a.at + 1) (a.at + 3) n (omega arith) (omega arith))
    ∙ after _ (short-read a.s.now (a.at + 3) (a.at + 5) n (omega arith) (omega arith))
    ∙ passes 6 _ n _ (lt-ltb (short_at a.s.now (a.at + 1)) a.bound (omega (arith, c.short_at.ensures))))
