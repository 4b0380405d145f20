-- `enough_arguments`: what the node is found to be says who is asked.
use native.Mathlib.Omega.{arith}
use mathlib.Core.Path.{sym, ap, ◌∙◌}
use Rattle.definitions.specs.Words.Leaves.{leaf_arity}
use Rattle.filter_tree.proofs.Scans.{noded-within}
use Rattle.filter_tree.proofs.Indexes.{both-noded, starts-there, starts-noded}
use Rattle.frame_reader.proofs.ArityLaws.{and-needs, plain-needs}
use Rattle.frame_reader.proofs.arity.enough_arguments.Goals as goal

pub node_at-requires : goal.node_at-requires
node_at-requires c =
    let r = c.requires in
    (r.0, r.2, starts-there r.3 r.4 c.start.ensures)

pub overflow_add-i : goal.overflow_add-i
overflow_add-i c =
    omega (arith, c.well_formed, noded-within c.requires.4)

pub enough_to_compare-requires : goal.enough_to_compare-requires
enough_to_compare-requires c =
    let r = c.requires in
    let pair = rw c.in-Binary.is at (c.node_at.ensures r.0 r.2 (starts-there r.3 r.4 c.start.ensures)) in
    (r.0, _, pair.l, pair.r, pair.row, both-noded (starts-noded r.4 c.start.ensures) pair)

pub enough_for_name-requires : goal.enough_for_name-requires
enough_for_name-requires c =
    let r = c.requires in
    let call = rw c.in-Call.is at (c.node_at.ensures r.0 r.2 (starts-there r.3 r.4 c.start.ensures)) in
    (r.0, call.name, call.arguments, call.stands)

pub returns-in-And : goal.returns-in-And
returns-in-And c =
    λ d at t stands h.
    let pair = rw c.in-And.is at (c.node_at.ensures d t (starts-there stands h c.start.ensures)) in
    sym (ap leaf_arity pair.is ∙ and-needs pair.l pair.r)

pub returns-in-Plain : goal.returns-in-Plain
returns-in-Plain c =
    λ d at t stands h.
    let plain = rw c.in-Plain.is at (c.node_at.ensures d t (starts-there stands h c.start.ensures)) in
    sym (plain-needs plain.0)

pub returns-in-Binary : goal.returns-in-Binary
returns-in-Binary c =
    λ d at t stands h.
    let pair = rw c.in-Binary.is at (c.node_at.ensures d t (starts-there stands h c.start.ensures)) in
    c.enough_to_compare.ensures d _ pair.l pair.r pair.row (both-noded (starts-noded h c.start.ensures) pair) ∙ sym (ap leaf_arity pair.is)

pub returns-in-Call : goal.returns-in-Call
unfolding leaf_arity
returns-in-Call c =
    λ d at t stands h.
    let call = rw c.in-Call.is at (c.node_at.ensures d t (starts-there stands h c.start.ensures)) in
    c.enough_for_name.ensures d call.name call.arguments call.stands ∙ sym (ap leaf_arity call.is)
