-- `put_leaf`: the only AND-leaf below the node is the node, so its flag says whether it stays.
use Prim.Native.Nat.{◌+◌}
use native.Mathlib.Omega.{arith}
use mathlib.Core.Path.{◌≡◌, refl, ap}
use lib.ListN.{length}
use Rattle.expression.proofs.Standing.{spans-between}
use Rattle.definitions.specs.Bytes.Decode.{Columns}
use Rattle.definitions.specs.Bytes.Encode.{expr_bytes}
use Rattle.definitions.specs.Words.Expression.{Expr}
use Rattle.expression.specs.Nodes.{Stands}
use Rattle.remainder.proofs.RestLaws.{leaf-goes, leaf-stays}
use Rattle.remainder.proofs.rests.put_leaf.Goals as goal
use Rattle.remainder.proofs.rests.put_leaf.Goals.{After-end-stop}

-- Where the node ends.
stop-is : (c : After-end-stop) (d : Columns) (t : Expr) → Stands d c.args.tree.bytes.now c.args.place.at t
    → c.end-stop.result ≡ c.args.place.at + length (expr_bytes t)
stop-is c d t stands = c.end-stop.ensures _ _ (c.requires.of_tree d t stands).1

pub returns-then-gone-leaf-eq1 : goal.returns-then-gone-leaf-eq1
returns-then-gone-leaf-eq1 c =
    λ d t stands.
    let f = c.requires.rest_fits in
    leaf-goes (c.requires.of_tree d t stands).0
    (omega (arith, f.counted, ap length (c.requires.of_tree _ f.tree f.stands).0)) _ refl c.if-gone-leaf-eq1.true

pub end-stop-requires : goal.end-stop-requires
end-stop-requires c =
    let f = c.requires.rest_fits in
    (_, _, (c.requires.of_tree _ f.tree f.stands).1)

pub overflow_sub-start : goal.overflow_sub-start
overflow_sub-start c =
    let f = c.requires.rest_fits in
    omega (arith, stop-is (goal.at.overflow_sub-start c).After-end-stop _ f.tree f.stands)

pub overflow_sub-start-2 : goal.overflow_sub-start-2
overflow_sub-start-2 c =
    let f = c.requires.rest_fits in
    omega (arith, f.room, stop-is (goal.at.overflow_sub-start-2 c).After-end-stop _ f.tree f.stands)

pub copy_at-requires : goal.copy_at-requires
copy_at-requires c =
    let f = c.requires.rest_fits in
    let ends = stop-is (goal.at.copy_at-requires c).After-end-stop _ f.tree f.stands in
    record {
      it = expr_bytes f.tree;
      stands = spans-between (record { stands = f.stands; ends = ends });
      room = omega (arith, f.room, f.within, ends);
    }

pub returns : goal.returns
returns c =
    λ d t stands.
    let f = c.requires.rest_fits in
    let ends = stop-is (goal.at.returns c).After-end-stop d t stands in
    leaf-stays (c.requires.of_tree d t stands).0 (omega (arith, f.counted, ap length (c.requires.of_tree _ f.tree f.stands).0)) _ _ refl
    c.if-gone-leaf-eq1.false
    (omega (arith, ends, f.room, stop-is (goal.at.returns c).After-end-stop _ f.tree f.stands))
    (c.copy_at.ensures.wrote (expr_bytes t) (spans-between (record { stands = stands; ends = ends })))
