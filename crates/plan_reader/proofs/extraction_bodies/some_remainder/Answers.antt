-- A frame's body, and then its arity.
use native.Mathlib.Omega.{arith}
use mathlib.Core.Path.{refl, sym, ◌∙◌}
use mathlib.Core.Option.{some}
use lib.ListN.{length-take}
use Rattle.definitions.specs.Bytes.Decode.{some_remainder}
use Rattle.theorems.proofs.ReaderLaws.{after, passes, fails}
use Rattle.node_reader.proofs.Standing.{all-bytes}
use Rattle.frame_reader.proofs.Standing.{expr-stands}
use Rattle.plan_reader.proofs.Remainders.{remainder-within, remainder-noded}
use Rattle.plan_reader.proofs.extraction_bodies.some_remainder.Goals as goal

pub frame_body-requires : goal.frame_body-requires
frame_body-requires c =
    let few = c.requires.few in
    (few.within, few.short)

pub slice_bounds-tree-end : goal.slice_bounds-tree-end
slice_bounds-tree-end c =
    remainder-within (all-bytes c.args.s.now c.type_inv.s) c.args.row.now c.frame_body.new.row c.requires.roomy c.frame_body.auto.row
    c.requires.few.within
    c.requires.few.counted c.in_ok-body.ensures

pub slice_bounds-tree-end-2 : goal.slice_bounds-tree-end-2
slice_bounds-tree-end-2 c =
    let within = remainder-within (all-bytes c.args.s.now c.type_inv.s) c.args.row.now c.frame_body.new.row c.requires.roomy
    c.frame_body.auto.row c.requires.few.within
    c.requires.few.counted
    c.in_ok-body.ensures in
    omega (arith, within, length-take c.in_ok-body.body.count c.frame_body.new.row)

pub all_have_arguments-requires : goal.all_have_arguments-requires
all_have_arguments-requires c =
    let f = c.in_ok-body.ensures in (
      _,
      _,
      f.1.expr,
      expr-stands f.3.expr,
      remainder-noded (all-bytes c.args.s.now c.type_inv.s) c.args.row.now c.frame_body.new.row c.requires.roomy c.frame_body.auto.row
          c.requires.few.within
          c.requires.few.counted f,
    )

pub returns-then-not-all_have_arguments : goal.returns-then-not-all_have_arguments
unfolding some_remainder
returns-then-not-all_have_arguments c =
    let f = c.in_ok-body.ensures in
    let noded = remainder-noded (all-bytes c.args.s.now c.type_inv.s) c.args.row.now c.frame_body.new.row c.requires.roomy
    c.frame_body.auto.row c.requires.few.within
    c.requires.few.counted f in
    let short = sym (c.all_have_arguments.ensures _ _ _ (expr-stands f.3.expr) noded) ∙ c.if-not-all_have_arguments.true in
    after _ f.2 ∙ fails 8 _ _ _ short

pub returns : goal.returns
unfolding some_remainder
returns c =
    let f = c.in_ok-body.ensures in
    let noded = remainder-noded (all-bytes c.args.s.now c.type_inv.s) c.args.row.now c.frame_body.new.row c.requires.roomy
    c.frame_body.auto.row c.requires.few.within
    c.requires.few.counted f in
    let enough = sym (c.all_have_arguments.ensures _ _ _ (expr-stands f.3.expr) noded) ∙ c.if-not-all_have_arguments.false in
    (f.0, some f.1, (f.1, refl, f.3), _, after _ f.2 ∙ passes 8 _ _ _ enough)
