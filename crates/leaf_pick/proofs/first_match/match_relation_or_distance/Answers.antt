-- `match_relation_or_distance`: a function of relation name is no distance, any other leaf no relation.
use borrow.Author.Rules.{rules}
use Rattle.std.specs.Prelude.{Err}
use Rattle.leaf_matching.specs.Matches.{is_relation}
use Rattle.leaf_pick.proofs.Nodes.{no-function}
use native.Mathlib.Omega.{arith}
use Rattle.leaf_pick.proofs.LeafLaws.{leaf-within, call-given, call-leaf, asked-matched, distance-matching}
use Rattle.leaf_pick.proofs.first_match.match_relation_or_distance.Goals as goal

pub returns-in_default : goal.returns-in_default
returns-in_default c =
    λ records t over. distance-matching over c.match_distance_predicate.result
    (no-function c.args.leaf.node c.requires.is over.tree c.in_default.not-Call 1 records).1
    (c.match_distance_predicate.ensures records t over)

pub match_relation_predicate-requires : goal.match_relation_predicate-requires
match_relation_predicate-requires c =
    let both = call-given c.requires c.in-Call.is in
    record { call_framed = both.0; of_call = both.1 }

pub returns-in_default-match_relation_predicate : goal.returns-in_default-match_relation_predicate
returns-in_default-match_relation_predicate c =
    λ records t over.
    let m = call-leaf c.requires c.in-Call.is 1 is_relation c.match_relation_predicate.result c.match_relation_predicate.ensures over in
    search (rules, m, asked-matched over)

pub returns-in_default-match_relation_predicate-2 : goal.returns-in_default-match_relation_predicate-2
returns-in_default-match_relation_predicate-2 c =
    λ records t over. asked-matched over _
    (call-leaf c.requires c.in-Call.is 1 is_relation _ c.match_relation_predicate.ensures over) (search rules)

pub returns-in-Err-NotAsked : goal.returns-in-Err-NotAsked
returns-in-Err-NotAsked c =
    let arm = c.in-Err-NotAsked in
    λ records t over. distance-matching over c.match_distance_predicate-in-Err-NotAsked.result
    (rw arm.field-0-is at (call-leaf c.requires c.in-Call.is 1 is_relation (Err arm.field-0) arm.ensures over))
    (c.match_distance_predicate-in-Err-NotAsked.ensures records t over)

pub overflow_add-leaf : goal.overflow_add-leaf
overflow_add-leaf c =
    omega (arith, leaf-within c.requires, c.well_formed)
