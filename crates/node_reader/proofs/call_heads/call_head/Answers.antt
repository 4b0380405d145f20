-- Name length, name and argument count, each from where the last ended, and then so many arguments.
use native.Mathlib.Omega.{arith}
use mathlib.Core.Path.{refl, sym, ◌∙◌}
use Prim.Native.Nat.{◌+◌}
use lib.ListN.{take, drop}
use Rattle.definitions.specs.Words.Expression.{call}
use Rattle.expression.specs.Nodes.{children_of}
use Rattle.node_reader.proofs.CallLaws.{call-ends, call-out, call-cut, name-bad-stops, arguments-out, call-read}
use Rattle.node_reader.proofs.call_heads.call_head.Goals as goal
use Rattle.node_reader.proofs.call_heads.call_head.Goals.{then-not-good_name-via-then-not-good_name, then-not-good_name-via-else-not-good_name+then-children-gt16}

pub returns-then-left-lt2 : goal.returns-then-left-lt2
returns-then-left-lt2 c =
    λ child n. call-ends c.args.s.now c.args.at child n (omega arith)

pub returns-then-size-eq0 : goal.returns-then-size-eq0
returns-then-size-eq0 c =
    λ child n. call-out c.args.s.now c.args.at child n c.from-size.result c.from-size.ensures (omega arith) c.then-size-eq0.either

pub returns-then-left-size : goal.returns-then-left-size
returns-then-left-size c =
    λ child n. call-cut c.args.s.now c.args.at child n c.from-size.result c.from-size.ensures (omega arith) (omega arith) (omega arith)
    (omega arith) c.cut_name.result c.cut_name.ensures

pub returns-then-not-good_name : goal.returns-then-not-good_name
returns-then-not-good_name c =
    λ child n. elim c.then-not-good_name.branch [
      | then-not-good_name-via-then-not-good_name w ↦ name-bad-stops c.args.s.now c.args.at child n c.from-size.result c.from-size.ensures
          (omega arith) (omega arith) (omega arith) (sym c.good_name.ensures ∙ w.if-not-good_name.true)
      | then-not-good_name-via-else-not-good_name+then-children-gt16 w ↦ arguments-out c.args.s.now c.args.at child n c.from-size.result
          c.from-size.ensures (omega arith) (omega arith) (omega arith) (omega arith) (sym c.good_name.ensures ∙ w.if-not-good_name.false)
          (omega arith) w.if-children-gt16.true
    ]

pub returns : goal.returns
unfolding children_of
returns c =
    let many = c.args.at + 2 + c.from-size.result in (
      omega arith,
      call (take c.from-size.result (drop (c.args.at + 2) c.args.s.now)),
      (λ child n. rw c.from.ensures (call-read c.args.s.now c.args.at child n c.from-size.result c.from-size.ensures (omega arith)
          (omega arith) (omega arith) (omega arith) (sym c.good_name.ensures ∙ c.if-not-good_name.false) (omega arith)
          c.if-children-gt16.false)),
      (λ es as-many. refl),
      rw c.from.ensures c.if-children-gt16.false,
    )
