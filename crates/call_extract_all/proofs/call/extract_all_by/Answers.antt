-- A refused frame has its own refusal. Of a good one a buffer as long as the frame is written at once; a
-- shorter one once it is known to be long enough.
use native.Mathlib.Omega.{arith}
use mathlib.Core.Path.{ap}
use mathlib.Core.List.{◌++◌}
use lib.ListN.{drop, replicate, length-replicate}
use Rattle.node_reader.proofs.Reading.{kept}
use Rattle.node_reader.proofs.Standing.{all-bytes}
use Rattle.call_extract_all.proofs.Calling.{GoodFrame, OwnMemory, all-refused, good-read, tree-within, tree-read, clear-memory, straight-fits, straight, own-fits, own-holds, too_short, copied}
use Rattle.call_extract_all.proofs.call.extract_all_by.Goals as goal
use Rattle.call_extract_all.proofs.call.extract_all_by.Given.{Over}
use Rattle.call_extract_all.proofs.call.extract_all_by.Goals.{In_ok-parts, Start}

-- The frame that was read is good.
good : (g : Over) (c : In_ok-parts g) → GoodFrame c.args.frame.now c.in_ok-parts.parts
good g c = good-read c.args.frame.now (all-bytes c.args.frame.now c.type_inv.frame) c.physical_frame_in.new.row c.in_ok-parts.ensures

-- There is enough memory for it.
memory : (g : Over) (c : Start g)
    → OwnMemory c.args.frame.now (replicate g.row.BYTES 0) (replicate g.row.NODES 0) (replicate g.row.BYTES 0)
memory g c = clear-memory g.row.BYTES g.row.NODES c.args.frame.now c.requires.bytes.0 c.requires.nodes.0

pub physical_frame_in-requires : goal.physical_frame_in-requires
physical_frame_in-requires g c =
    simp length-replicate c.requires.nodes.0

pub returns-in_err-parts : goal.returns-in_err-parts
returns-in_err-parts g c =
    rw (kept c.from_residual.ensures)
    (all-refused c.args.settings.good c.args.frame.now c.args.out.now _ c.in_err-parts.ensures)

pub shared_whole_as_front-tree : goal.shared_whole_as_front-tree
shared_whole_as_front-tree g c =
    let within = tree-within c.args.frame.now (all-bytes c.args.frame.now c.type_inv.frame) c.physical_frame_in.new.row
    c.in_ok-parts.ensures in
    (omega (arith, within, simp length-replicate at c.physical_frame_in.auto.row), omega (arith, c.requires.nodes.1))

pub put_all-requires : goal.put_all-requires
put_all-requires g c =
    let it = good g (goal.at.put_all-requires g c).In_ok-parts in
    record {
      all_fits = straight-fits c.args.settings.good c.args.frame.now c.args.out.now it
          (memory g (goal.at.put_all-requires g c).Start).memory
          c.if-frame-out.true;
      of_tree = tree-read c.args.frame.now (all-bytes c.args.frame.now c.type_inv.frame) c.physical_frame_in.new.row c.in_ok-parts.ensures;
    }

pub returns-then-frame-out : goal.returns-then-frame-out
returns-then-frame-out g c =
    let it = good g (goal.at.returns-then-frame-out g c).In_ok-parts in
    let call = c.put_all in
    straight c.args.settings.good c.args.frame.now c.args.out.now it c.if-frame-out.true call.new.out call.result
    (call.ensures it.frame it.at)

pub put_all-taken-requires : goal.put_all-taken-requires
put_all-taken-requires g c =
    record {
      all_fits = own-fits c.args.settings.good c.args.frame.now c.args.out.now
          (good g (goal.at.put_all-taken-requires g c).In_ok-parts)
          (memory g (goal.at.put_all-taken-requires g c).Start);
      of_tree = tree-read c.args.frame.now (all-bytes c.args.frame.now c.type_inv.frame) c.physical_frame_in.new.row c.in_ok-parts.ensures;
    }

pub returns-then-out-taken : goal.returns-then-out-taken
returns-then-out-taken g c =
    let it = good g (goal.at.returns-then-out-taken g c).In_ok-parts in
    let call = c.put_all-taken in
    too_short c.args.settings.good c.args.frame.now c.args.out.now it
    (memory g (goal.at.returns-then-out-taken g c).Start) call.new.out call.result
    call.auto.out (call.ensures it.frame it.at) c.if-out-taken.true

pub shared_whole_as_front-copy_apart : goal.shared_whole_as_front-copy_apart
shared_whole_as_front-copy_apart g c =
    let it = good g (goal.at.shared_whole_as_front-copy_apart g c).In_ok-parts in
    let call = c.put_all-taken in
    let holds = own-holds c.args.settings.good c.args.frame.now c.args.out.now it
    (memory g (goal.at.shared_whole_as_front-copy_apart g c).Start) call.new.out
    call.result call.auto.out (call.ensures it.frame it.at) in
    (omega (arith, holds), omega (arith, c.requires.bytes.1))

pub returns : goal.returns
returns g c =
    let it = good g (goal.at.returns g c).In_ok-parts in
    let call = c.put_all-taken in
    let copy = c.copy_apart in
    copied c.args.settings.good c.args.frame.now c.args.out.now it
    (memory g (goal.at.returns g c).Start) call.new.out call.result
    call.auto.out (call.ensures it.frame it.at) c.if-out-taken.false
    (copy.new.out ++ drop call.result.length c.args.out.now) (ap (λ l. l ++ drop call.result.length c.args.out.now) copy.ensures)
