-- The kind, then the limit, then the fields of that kind, then what is done with the node.
use mathlib.Core.Path.{refl}
use Rattle.std.specs.Prelude.{Ok, Err}
use Rattle.std.proofs.Common.{inl}
use Rattle.terms.specs.declared.refusals.Refusal.TheVariants.{NoGoodPlan}
use Rattle.node_reader.proofs.Reading.{kept}
use Rattle.node_reader.proofs.Walks.{no-byte, too-many, head-is}
use Rattle.node_reader.proofs.Standing.{all-bytes}
use Rattle.node_reader.proofs.Visiting.{opening-fails, leaf-fails}
use Rattle.node_reader.proofs.walk.open_node.Goals as goal

pub returns-then-s-at : goal.returns-then-s-at
returns-then-s-at g c =
    λ levels limit. inl (no-byte _ c.args.source.now.bytes.now c.args.here.next c.args.here.count levels c.if-s-at.true)

pub returns-then-most-here : goal.returns-then-most-here
returns-then-most-here g c =
    λ levels limit. inl (too-many _ c.args.source.now.bytes.now c.args.here.next c.args.here.count levels c.args.most limit c.if-s-at.false
    c.if-most-here.true c.limit_refusal.result (c.limit_refusal.ensures c.args.source.now.bound))

pub returns-in_err-head : goal.returns-in_err-head
returns-in_err-head g c =
    λ levels limit. rw (kept c.from_residual.ensures) (inl (head-is _ c.args.source.now.bytes.now c.args.here.next c.args.here.count levels
    c.args.most limit c.if-s-at.false c.if-most-here.false (Err c.in_err-head.field-0.0) c.in_err-head.ensures))

pub returns-then-not-leaf : goal.returns-then-not-leaf
returns-then-not-leaf g c =
    λ levels limit.
    let head = head-is _ c.args.source.now.bytes.now c.args.here.next c.args.here.count levels c.args.most limit c.if-s-at.false
    c.if-most-here.false (Ok c.in_ok-head.head) c.in_ok-head.ensures in
    leaf-fails _ _ c.args.source.now.bytes.now c.args.here.next levels c.args.here.count _ head
    (all-bytes c.args.source.now.bytes.now c.shared_slice_known-1.given) c.requires.place refl c.if-head-eq0.true
    c.leaf.new.self NoGoodPlan c.if-not-leaf.ensures

pub returns-then-head-eq0 : goal.returns-then-head-eq0
returns-then-head-eq0 g c =
    λ levels limit. (
      head-is _ c.args.source.now.bytes.now c.args.here.next c.args.here.count levels c.args.most limit c.if-s-at.false
          c.if-most-here.false (Ok c.in_ok-head.head) c.in_ok-head.ensures,
      all-bytes c.args.source.now.bytes.now c.shared_slice_known-1.given,
      (λ none. c.if-not-leaf.ensures),
      λ some. absurd (some c.if-head-eq0.true),
    )

pub returns-then-not-open : goal.returns-then-not-open
returns-then-not-open g c =
    λ levels limit.
    let head = head-is _ c.args.source.now.bytes.now c.args.here.next c.args.here.count levels c.args.most limit c.if-s-at.false
    c.if-most-here.false (Ok c.in_ok-head.head) c.in_ok-head.ensures in
    opening-fails _ _ c.args.source.now.bytes.now c.args.here.next levels c.args.here.count _ head
    (all-bytes c.args.source.now.bytes.now c.shared_slice_known-1.given) c.requires.place refl c.if-not-open.ensures
    c.open.new.self NoGoodPlan

pub returns : goal.returns
returns g c =
    λ levels limit. (
      head-is _ c.args.source.now.bytes.now c.args.here.next c.args.here.count levels c.args.most limit c.if-s-at.false
          c.if-most-here.false (Ok c.in_ok-head.head) c.in_ok-head.ensures,
      all-bytes c.args.source.now.bytes.now c.shared_slice_known-1.given,
      (λ none. absurd (c.if-head-eq0.false none)),
      λ some. c.if-not-open.ensures,
    )
