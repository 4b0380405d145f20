-- `put_part`: an And is its right side, then its left side before it, then its head; any other node is an AND-leaf.
-- A call goes to a place further on, so the measure is the bytes left.
use Prim.Native.Nat.{ℕ, ◌+◌}
use native.Mathlib.Omega.{arith}
use mathlib.Core.Path.{◌≡◌, refl, subst⁻¹}
use lib.ListN.{length}
use Rattle.definitions.specs.Words.Expression.{Expr, and as expr-and}
use Rattle.definitions.specs.Bytes.Encode.{expr_bytes}
use Rattle.definitions.specs.Bytes.Decode.{Columns}
use Rattle.expression.specs.Nodes.{Stands}
use Rattle.expression.specs.Leaves.{Both}
use Rattle.expression.proofs.Standing.{node-some, first-stands}
use Rattle.filter_tree.specs.Trees.{Noded, Node}
use Rattle.filter_tree.proofs.Scans.{noded-within}
use Rattle.filter_tree.proofs.Indexes.{both-up-to, second-up-to}
use Rattle.expression.proofs.OneTree.{of_tree}
use Rattle.remainder.specs.Rests.{RestPut}
use Rattle.remainder.proofs.RestLaws.{and-put}
use Rattle.remainder.proofs.rests.RestWalk.{known, lone-leaf, left-at, right-noded, left_after, right-stands, right-fits, left-fits, head-fits}
use borrow.Enum.Refused.{opened}
use Rattle.remainder.proofs.rests.+put_part.Goals as goal
use Rattle.remainder.proofs.rests.+put_part.Goals.{After-end, After-put_part-right, In-And}

-- The And that was found.
abbrev found : (t : ℕ) (c : In-And t) (d : Columns) (u : Expr)
    → Stands d c.args.tree.bytes.now
    c.args.part.at u
    → Both expr-and d c.args.tree.bytes.now
    c.args.part.at c.in-And.left u
found t c d u stands = rw c.in-And.is at (c.node_at.ensures d u stands)

-- Its left side, with its records.
left-node : (t : ℕ) (c : In-And t) (d : Columns) (u : Expr)
    (stands : Stands d c.args.tree.bytes.now
    c.args.part.at u)
    → Noded c.args.tree.nodes.now c.in-And.left (c.args.part.index + 1) (found t c d u stands).l
left-node t c d u stands = left-at (found t c d u stands) (c.requires.of_tree d u stands).0

node : (t : ℕ) (c : In-And t) → Node c.args.tree.nodes.now (c.args.part.index + 1)
node t c = let f = c.requires.rest_fits in (_, _, left-node t c f.columns f.tree f.stands)

-- Where the right side stands.
right-at : (t : ℕ) (c : After-end t) (d : Columns) (u : Expr)
    (stands : Stands d c.args.tree.bytes.now
    c.args.part.at u)
    → c.end.result ≡ c.in-And.left + length (expr_bytes (rw c.in-And.is at (c.node_at.ensures d u stands)).l)
right-at t c d u stands =
    c.end.ensures _ _ (left-at (rw c.in-And.is at (c.node_at.ensures d u stands)) (c.requires.of_tree d u stands).0)

-- What the call for the right side left.
right-put : (t : ℕ) (c : After-put_part-right t) (d : Columns) (u : Expr)
    (stands : Stands d c.args.tree.bytes.now c.args.part.at u)
    → RestPut c.args.end
    c.args.after
    c.args.gone.now
    c.args.out.now
    c.put_part-right.new.out
    c.put_part-right.result (rw c.in-And.is at (c.node_at.ensures d u stands)).r
right-put t c d u stands =
    c.put_part-right.ensures d _
    (right-stands (rw c.in-And.is at (c.node_at.ensures d u stands)) _
    (c.end.ensures _ _ (left-at (rw c.in-And.is at (c.node_at.ensures d u stands)) (c.requires.of_tree d u stands).0)))

pub put_leaf-requires : goal.put_leaf-requires
put_leaf-requires t c =
    let node = c.node_at in record {
      rest_fits = c.requires.rest_fits;
      of_tree = λ d u stands. (
        lone-leaf d c.args.tree.bytes.now c.args.part.at u node.result (opened c.in_default.in_default-own.keys2)
            (node.ensures d u stands),
        (c.requires.of_tree d u stands).0,
      );
    }

pub overflow_add-below : goal.overflow_add-below
overflow_add-below t c =
    let f = c.requires.rest_fits in
    omega (arith, c.well_formed, noded-within (c.requires.of_tree _ f.tree f.stands).0)

pub end-requires : goal.end-requires
end-requires t c =
    node t (goal.at.end-requires t c).In-And

pub right_index-next-requires : goal.right_index-next-requires
right_index-next-requires t c =
    let f = c.requires.rest_fits in
    let h = c.requires.of_tree _ f.tree f.stands in
    let both = found t (goal.at.right_index-next-requires t c).In-And f.columns f.tree f.stands in
    (node t (goal.at.right_index-next-requires t c).In-And, known c.args.part.past (λ p e. both-up-to h.0 both e) h.1)

pub put_part-right-requires : goal.put_part-right-requires
put_part-right-requires t c =
    let f = c.requires.rest_fits in
    let h = c.requires.of_tree _ f.tree f.stands in
    let both = found t (goal.at.put_part-right-requires t c).In-And f.columns f.tree f.stands in
    let e = right-at t (goal.at.put_part-right-requires t c).After-end f.columns f.tree f.stands in
    let next = c.right_index-next.ensures _ _ (left-node t (goal.at.put_part-right-requires t c).In-And f.columns f.tree f.stands) in (
      omega (arith, c.decreases, e, left_after both, node-some (right-stands both _ e)),
      (
        right-fits f both _ e,
        of_tree _ (right-stands both _ e)
            (right-noded both h.0 _ _ e next, known c.args.part.past (λ p end. second-up-to h.0 both end next) h.1),
      ),
    )

pub put_part-first-requires : goal.put_part-first-requires
put_part-first-requires t c =
    let f = c.requires.rest_fits in
    let both = found t (goal.at.put_part-first-requires t c).In-And f.columns f.tree f.stands in
    let left_there = left-node t (goal.at.put_part-first-requires t c).In-And f.columns f.tree f.stands in (
      omega (arith, c.decreases, left_after both, node-some (first-stands both.row)),
      (
        left-fits f both (right-put t (goal.at.put_part-first-requires t c).After-put_part-right f.columns f.tree
            f.stands) c.put_part-right.auto.out,
        of_tree _ (first-stands both.row) (left_there, c.right_index-next.ensures _ _ left_there),
      ),
    )

pub put_and_head-requires : goal.put_and_head-requires
put_and_head-requires t c =
    let one = c.put_part-first in
    let f = c.requires.rest_fits in
    let both = found t (goal.at.put_and_head-requires t c).In-And f.columns f.tree f.stands in
    head-fits f both (right-put t (goal.at.put_and_head-requires t c).After-put_part-right f.columns f.tree f.stands)
    c.put_part-right.auto.out (one.ensures _ both.l (first-stands both.row)) one.auto.out

pub returns : goal.returns
returns t c =
    λ d u stands.
    let one = c.put_part-first in
    let both = found t (goal.at.returns t c).In-And d u stands in
    subst⁻¹ (RestPut _ _ _ _ _ _) both.is
    (and-put c.requires.rest_fits.within (right-put t (goal.at.returns t c).After-put_part-right d u stands) refl
    (one.ensures d both.l (first-stands both.row))
    c.put_and_head.ensures)
