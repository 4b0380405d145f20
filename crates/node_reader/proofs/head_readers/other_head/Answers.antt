-- Tag and child count, and then so many children.
use Prim.Native.Nat.{◌+◌}
use native.Mathlib.Omega.{arith}
use mathlib.Core.Path.{refl, ◌∙◌}
use mathlib.Core.Logic.{⊎_elim}
use lib.ListN.{length}
use Rattle.std.proofs.lemmas.Bool.{cases_lt}
use Rattle.definitions.specs.Words.Expression.{other}
use Rattle.expression.specs.Nodes.{children_of}
use Rattle.expression.specs.Places.{short_at}
use Rattle.definitions.specs.Bytes.Decode.{other_node}
use Rattle.theorems.proofs.ReaderLaws.{after, halts}
use Rattle.node_reader.proofs.FieldBytes.{up-ends, up-out, up-read, short-read}
use Rattle.node_reader.proofs.Numbers.{number-ends}
use Rattle.node_reader.proofs.head_readers.other_head.Goals as goal

pub returns-then-s-at-lt4 : goal.returns-then-s-at-lt4
unfolding other_node
returns-then-s-at-lt4 c =
    λ child n.
    let a = c.args in
    ⊎_elim (λ h. halts _ (number-ends a.s.now (a.at + 1) 2 n (omega arith)))
    (λ h. after _ (short-read a.s.now (a.at + 1) (a.at + 3) n (omega arith) (omega arith))
    ∙ halts _ (up-ends a.s.now (a.at + 3) n 16 (omega arith))) (cases_lt (length a.s.now) (a.at + 3))

pub returns-then-children-gt16 : goal.returns-then-children-gt16
unfolding other_node
returns-then-children-gt16 c =
    λ child n.
    let a = c.args in
    after _ (short-read a.s.now (a.at + 1) (a.at + 3) n (omega arith) (omega arith))
    ∙ halts _ (up-out a.s.now (a.at + 3) n 16 (omega arith) c.if-children-gt16.true)

pub returns : goal.returns
unfolding other_node children_of
returns c =
    let a = c.args in (
      omega arith,
      other (short_at a.s.now (a.at + 1)),
      (λ child n. rw c.from.ensures (after _ (short-read a.s.now (a.at + 1) (a.at + 3) n (omega arith) (omega arith))
          ∙ after _ (up-read a.s.now (a.at + 3) n 16 (a.at + 4) (omega arith) (omega arith) c.if-children-gt16.false))),
      (λ es as-many. refl),
      rw c.from.ensures c.if-children-gt16.false,
    )
