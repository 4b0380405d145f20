-- `node_at`: the first byte tells the kind, an operator's second byte And from the others; the head says where the children stand.
use native.Mathlib.Omega.{arith}
use mathlib.Core.Path.{sym, ◌∙◌}
use Rattle.expression.proofs.Standing.{node-some, kind-is, after-head}
use Rattle.expression.proofs.LeafLaws.{operator-within, node-and, node-binary, node_call, plain-node}
use Rattle.expression.proofs.leaves.node_at.Goals as goal

pub bounds-s-at : goal.bounds-s-at
bounds-s-at c =
    node-some c.requires.2

pub bounds-s-at-in-2 : goal.bounds-s-at-in-2
bounds-s-at-in-2 c =
    operator-within c.requires.2 c.in-2.is

pub overflow_sub-result : goal.overflow_sub-result
overflow_sub-result c =
    let tree = c.requires in
    let head = c.head_at-head in
    omega (arith, after-head tree.2 head.result.next (head.ensures tree.0 tree.1 tree.2).next)

pub returns-in-0 : goal.returns-in-0
returns-in-0 c =
    λ d t h.
    let head = c.head_at-head in
    node-and head.result h (head.ensures d t h) c.in-2.is c.in-0.is

pub returns-in_default-s : goal.returns-in_default-s
returns-in_default-s c =
    λ d t h.
    let head = c.head_at-head in
    node-binary head.result h (head.ensures d t h) c.in-2.is c.in_default-s.in_default-s-own.rest.1

pub returns-in-3 : goal.returns-in-3
returns-in-3 c =
    λ d t h. node_call c.head_at-head.result h (c.head_at-head.ensures d t h) c.in-3.is

pub returns-in_default : goal.returns-in_default
returns-in_default c =
    λ d t h. (
      plain-node t (λ e. c.in_default.in_default-own.rest.0.1 (sym (kind-is h) ∙ e))
          (λ e. c.in_default.in_default-own.rest.1 (sym (kind-is h) ∙ e)),
      c.head_at-head.ensures d t h,
    )
