-- `list_leaf`: the only AND-leaf below the node is the node: a KNN match, another, or none.
use Prim.Native.Nat.{◌<◌}
use mathlib.Core.Path.{◌≡◌}
use mathlib.Core.Bool.{true}
use mathlib.Core.List.{List}
use lib.ListN.{length}
use Rattle.definitions.specs.Filter.Extract.{is_knn}
use Rattle.definitions.specs.Filter.Conjuncts.{is_other}
use Rattle.definitions.specs.Filter.Settings.{match_under}
use Rattle.definitions.specs.Words.Expression.{Record, Predicate}
use Rattle.terms.specs.Settings.{settings_of}
use Rattle.sedona_query_planner.specs.Predicates.{on_children, PredicateAt}
use Rattle.call_extract_all.proofs.listing.LeafList.{knn-listed, other-listed, none-is-listed, knn-is, other_is, over, by-table, flag-room, match-room, leaf-is}
use Rattle.call_extract_all.proofs.listing.list_leaf.Goals as goal
use Rattle.call_extract_all.proofs.listing.list_leaf.Goals.{Start, In-KNearestNeighbors, In_default-predicate}

-- There is a flag for the leaf.
flag : (c : Start) → c.args.leaf.stop.position < length c.args.gone.now
flag c = flag-room c.requires.list_fits (c.requires.leaf_alone _ c.requires.list_fits.tree c.requires.list_fits.frame.tree)

-- Which kind the match is.
knn : (c : In-KNearestNeighbors) (records : List Record) (q : Predicate)
    → PredicateAt (on_children records) c.args.listing.filter.tree.bytes.now c.in-Some.predicate q → is_knn q ≡ true
knn c records q h =
    knn-is c.args.listing.filter.tree.bytes.now records c.in-KNearestNeighbors.field-0 q (rw c.in-KNearestNeighbors.is at h)

other : (c : In_default-predicate) (records : List Record) (q : Predicate)
    → PredicateAt (on_children records) c.args.listing.filter.tree.bytes.now c.in-Some.predicate q → is_other q ≡ true
other c records q h =
    other_is c.args.listing.filter.tree.bytes.now records c.in-Some.predicate q c.in_default-predicate.not-KNearestNeighbors h

pub returns-in_default : goal.returns-in_default
returns-in_default c =
    λ records t l.
    let p = c.requires in
    leaf-is (match_under (settings_of c.args.listing.settings)) records (p.leaf_alone _ t l.tree) _
    (c.in_default.ensures records t (over p.list_fits l)) (none-is-listed (flag (goal.at.returns-in_default c).Start))

pub put_predicate-requires : goal.put_predicate-requires
put_predicate-requires c =
    let p = c.requires in
    let f = p.list_fits in
    let m = c.in-Some.ensures f.records f.tree (over f f.frame) in
    match-room f (p.leaf_alone _ f.tree f.frame.tree) is_knn f.knn c.in-Some.predicate m.1 m.2
    (knn (goal.at.put_predicate-requires c).In-KNearestNeighbors f.records m.0 m.2)

pub put_predicate-requires-in_default-predicate : goal.put_predicate-requires-in_default-predicate
put_predicate-requires-in_default-predicate c =
    let p = c.requires in
    let f = p.list_fits in
    let m = c.in-Some.ensures f.records f.tree (over f f.frame) in
    match-room f (p.leaf_alone _ f.tree f.frame.tree) is_other f.other c.in-Some.predicate m.1 m.2
    (other (goal.at.put_predicate-requires-in_default-predicate c).In_default-predicate f.records m.0 m.2)

pub returns-in-KNearestNeighbors : goal.returns-in-KNearestNeighbors
returns-in-KNearestNeighbors c =
    λ records t l.
    let p = c.requires in
    let put = c.put_predicate in
    let m = c.in-Some.ensures records t (over p.list_fits l) in
    let stands = by-table p.list_fits l c.in-Some.predicate m.0 m.2 in
    leaf-is (match_under (settings_of c.args.listing.settings)) records (p.leaf_alone _ t l.tree) _ m.1
    (knn-listed (flag (goal.at.returns-in-KNearestNeighbors c).Start) m.0 put.result
    (knn (goal.at.returns-in-KNearestNeighbors c).In-KNearestNeighbors records m.0 m.2)
    (put.ensures.size m.0 stands) (put.ensures.wrote m.0 stands))

pub returns-in_default-predicate : goal.returns-in_default-predicate
returns-in_default-predicate c =
    λ records t l.
    let p = c.requires in
    let put = c.put_predicate-in_default-predicate in
    let m = c.in-Some.ensures records t (over p.list_fits l) in
    let stands = by-table p.list_fits l c.in-Some.predicate m.0 m.2 in
    leaf-is (match_under (settings_of c.args.listing.settings)) records (p.leaf_alone _ t l.tree) _ m.1
    (other-listed (flag (goal.at.returns-in_default-predicate c).Start) m.0 put.result
    (other (goal.at.returns-in_default-predicate c).In_default-predicate records m.0 m.2)
    (put.ensures.size m.0 stands) (put.ensures.wrote m.0 stands))
