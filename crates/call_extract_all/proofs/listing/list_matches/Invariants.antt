-- `list_matches`: an And is passed, a leaf is listed behind those before it; where no node is left, all are.
use Rattle.definitions.specs.Filter.Settings.{match_under}
use Rattle.terms.specs.Settings.{settings_of}
use Rattle.filter_tree.specs.Spines.{spine_left}
use Rattle.call_extract_all.proofs.listing.ListWalk.{Listing}
use Rattle.call_extract_all.proofs.listing.list_matches.Given as goal

abbrev pub invariant-loop-index : goal.invariant-loop-index
invariant-loop-index l =
    Listing (match_under (settings_of l.listing.settings)) l.tree.bytes.now l.tree.nodes.now l.listing.filter.rec l.listing.count
    l.fn.from.at l.fn.from.position (spine_left l.index-iterator)
    l.initial.knns l.knns l.initial.others l.others l.initial.gone l.gone l.tally
