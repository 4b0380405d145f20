-- What is right for the expressions left is right for the whole row.
use Prim.Native.Nat.{◌-◌}
use Rattle.leaf_verdicts.proofs.SmallLaws.{Looking}
use Rattle.leaf_verdicts.proofs.small_letters.some_of_ours.Given as goal

abbrev pub invariant-loop : goal.invariant-loop
invariant-loop l =
    let f = l.filter in
    Looking f.tree.bytes.now f.rec f.tree.nodes.now l.i l.n (l.n - l.counter) l.next
