-- `parse_distance_predicate`: what a node asks for is what its operator or its name asks for; the other nodes ask for no distance.
use native.Mathlib.Omega.{arith}
use Rattle.std.proofs.Common.{inl, inr}
use Rattle.filter_tree.proofs.Scans.{noded-within}
use Rattle.filter_tree.proofs.Indexes.{both-noded, call-noded}
use Rattle.sedona_expr.proofs.Distances.{plain-asks, and-asks, binary-asks, call_asks}
use Rattle.sedona_expr.proofs.utils.parse_distance_predicate.Goals as goal

pub parse_comparison-requires : goal.parse_comparison-requires
parse_comparison-requires c =
    let tree = c.requires.standing in
    let pair = c.in-Binary.ensures tree.0 tree.1 tree.2 in
    (tree.0, _, pair.l, pair.r, pair.row, both-noded (c.requires.noded tree.0 tree.1 tree.2) pair)

pub parse_dwithin-requires-clause-of_call : goal.parse_dwithin-requires-clause-of_call
parse_dwithin-requires-clause-of_call c =
    let tree = c.requires.standing in
    call-noded (c.requires.noded tree.0 tree.1 tree.2) (c.in-Call.ensures tree.0 tree.1 tree.2)

pub returns-in-Binary : goal.returns-in-Binary
returns-in-Binary c =
    λ d t h.
    let pair = c.in-Binary.ensures d t h in
    rw (binary-asks pair) (c.parse_comparison.ensures d _ pair.l pair.r pair.row (both-noded (c.requires.noded d t h) pair))

pub returns-in-Call : goal.returns-in-Call
returns-in-Call c =
    λ d t h.
    let call = c.in-Call.ensures d t h in
    rw (call_asks call) (c.parse_dwithin.ensures d call.name call.arguments call.stands)

pub returns-in-And : goal.returns-in-And
returns-in-And c =
    λ d t h. elim c.in-And.is [
      | inl e ↦ and-asks (rw e.1 at (c.node_at.ensures d t h))
      | inr e ↦ plain-asks (rw e.1 at (c.node_at.ensures d t h)).0
    ]

pub overflow_add-i : goal.overflow_add-i
overflow_add-i c =
    let tree = c.requires.standing in
    omega (arith, noded-within (c.requires.noded tree.0 tree.1 tree.2), c.well_formed)

pub overflow_add-i-in-Call : goal.overflow_add-i-in-Call
overflow_add-i-in-Call c =
    let tree = c.requires.standing in
    omega (arith, noded-within (c.requires.noded tree.0 tree.1 tree.2), c.well_formed)
