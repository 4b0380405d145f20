-- `put_all`: the walk lists the KNN matches and the others, these are copied behind those, then the last remainder.
use native.Mathlib.Omega.{arith}
use Prim.Native.Nat.{◌+◌, ◌≤◌}
use lib.ListN.{length}
use Rattle.definitions.specs.Filter.Settings.{match_under}
use Rattle.definitions.specs.Meaning.Values.{FairUnder}
use Rattle.definitions.specs.Claims.All.{TakesAll}
use Rattle.theorems.proofs.SettingsClaimed.{all-settings-hold}
use Rattle.terms.specs.Settings.{settings_of}
use Rattle.plan_writer.proofs.TableLaws.{records-within}
use Rattle.byte_writer.proofs.Written.{behind, together}
use Rattle.remainder.proofs.LastLaws.{zeros-room}
use Rattle.call_extract_all.proofs.AllLaws.{few, entries, row-long, listable, list-fits, copy-fits, rest-starts, left-fits, ends, all-is}
use Rattle.call_extract_all.proofs.conjuncts.put_all.Goals as goal
use Rattle.call_extract_all.proofs.conjuncts.put_all.Goals.{After-child_indexes, After-copy_bytes, After-list_matches-listed, Start}

all-taken : (c : Start) → TakesAll (match_under (settings_of c.args.settings.settings)) (FairUnder (settings_of c.args.settings.settings))
all-taken c = (all-settings-hold (settings_of c.args.settings.settings) c.requires.all_fits.settings).takes_all

wide : (c : After-child_indexes) → 256 ≤ length c.child_indexes.new.to
wide c = omega (arith, c.child_indexes.auto.to)

-- What was listed is within its memory, and the others have room behind the KNN matches.
copies : (c : After-list_matches-listed)
    → let call = c.list_matches-listed in
    (call.result.knn ≤ length call.new.knns) × (call.result.other ≤ length call.new.others)
    × (call.result.other ≤ length (behind call.result.knn call.new.knns))
copies c =
    let p = c.requires.all_fits in
    let call = c.list_matches-listed in
    copy-fits p.at (all-settings-hold _ p.settings).takes_all (call.ensures p.frame.records p.frame.expr (listable p.at)) call.auto.knns
    call.auto.others
    call.auto.gone p.room (row-long p.at p.memory)

-- The last remainder starts behind both.
both-listed : (c : After-copy_bytes)
    → let call = c.list_matches-listed in
    call.result.knn + call.result.other ≤ length (together call.result.knn call.new.knns c.copy_bytes.new.out)
both-listed c =
    let p = c.requires.all_fits in
    let call = c.list_matches-listed in
    let copy = c.copy_bytes in
    rest-starts p.at (all-settings-hold _ p.settings).takes_all (call.ensures p.frame.records p.frame.expr (listable p.at)) call.auto.knns
    call.auto.others call.auto.gone copy.new.out copy.ensures p.room (row-long p.at p.memory) copy.auto.out

pub invariant_of-records : goal.invariant_of-records
invariant_of-records c =
    record { within = records-within (entries c.requires.all_fits.at) }

pub child_indexes-requires : goal.child_indexes-requires
child_indexes-requires c =
    let p = c.requires.all_fits in
    omega (arith, few p.at, zeros-room 256)

pub list_matches-listed-requires : goal.list_matches-listed-requires
list_matches-listed-requires c =
    let p = c.requires.all_fits in
    record {
      list_fits = list-fits p.at (all-taken (goal.at.list_matches-listed-requires c).Start)
          (wide (goal.at.list_matches-listed-requires c).After-child_indexes) c.child_indexes.ensures.child_table p.room
          p.memory;
      of_tree = c.requires.of_tree;
    }

pub slice_bounds-copy_bytes-count : goal.slice_bounds-copy_bytes-count
slice_bounds-copy_bytes-count c = (copies (goal.at.slice_bounds-copy_bytes-count c).After-list_matches-listed).0

pub slice_bounds-copy_bytes-start : goal.slice_bounds-copy_bytes-start
slice_bounds-copy_bytes-start c = omega (arith, (copies (goal.at.slice_bounds-copy_bytes-start c).After-list_matches-listed).0)

pub copy_bytes-requires : goal.copy_bytes-requires
copy_bytes-requires c =
    let fits = copies (goal.at.copy_bytes-requires c).After-list_matches-listed in
    record {
      src_has_bytes = omega (arith, fits.1);
      out_has_room = fits.2;
    }

pub overflow_add-w : goal.overflow_add-w
overflow_add-w c = omega (arith, both-listed (goal.at.overflow_add-w c).After-copy_bytes, c.well_formed)

pub slice_bounds-put_left-count : goal.slice_bounds-put_left-count
slice_bounds-put_left-count c = both-listed (goal.at.slice_bounds-put_left-count c).After-copy_bytes

pub slice_bounds-put_left-start : goal.slice_bounds-put_left-start
slice_bounds-put_left-start c = omega (arith, both-listed (goal.at.slice_bounds-put_left-start c).After-copy_bytes)

pub put_left-rest-requires : goal.put_left-rest-requires
put_left-rest-requires c =
    let p = c.requires.all_fits in
    let call = c.list_matches-listed in
    let is = call.ensures p.frame.records p.frame.expr (listable p.at) in
    let copy = c.copy_bytes in
    record {
      left_fits = left-fits p.at (all-taken (goal.at.put_left-rest-requires c).Start) is call.auto.knns call.auto.others
          call.auto.gone copy.new.out copy.ensures p.room (row-long p.at p.memory) copy.auto.out;
      of_tree = c.requires.of_tree;
    }

pub overflow_add-result : goal.overflow_add-result
overflow_add-result c =
    let p = c.requires.all_fits in
    let call = c.list_matches-listed in
    let is = call.ensures p.frame.records p.frame.expr (listable p.at) in
    let copy = c.copy_bytes in
    let rest = c.put_left-rest in
    omega (
      arith,
      p.room,
      c.well_formed,
      ends p.at (all-taken (goal.at.overflow_add-result c).Start) is call.auto.knns call.auto.others call.auto.gone
          copy.new.out copy.ensures rest.new.out rest.result rest.ensures,
    )

pub returns : goal.returns
returns c =
    λ F at.
    let call = c.list_matches-listed in
    let copy = c.copy_bytes in
    let rest = c.put_left-rest in
    all-is at (all-taken (goal.at.returns c).Start)
    (call.ensures F.records F.expr (listable at)) call.auto.knns call.auto.others call.auto.gone
    copy.new.out copy.ensures rest.new.out rest.result rest.ensures
