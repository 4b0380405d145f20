-- `passed_over`: the items passed lack the child index.
use Prim.Native.Nat.{◌+◌}
use native.Mathlib.Omega.{arith}
use mathlib.Core.Path.{refl, sym, ◌∙◌}
use Rattle.definitions.specs.Filter.Project as project
use Rattle.projection.proofs.PlaceLaws.{no-place, lacks-more}
use Rattle.projection.proofs.places.passed_over.Goals as goal

pub loop-start-init : goal.loop-start-init
unfolding project.place_in
loop-start-init c =
    record { within = omega arith; none = refl }

pub loop-start-preserved : goal.loop-start-preserved
loop-start-preserved c =
    let start = c.loop-start.start in
    record {
      within = omega arith;
      none = lacks-more c.args.items.now c.args.index start c.loop-start.invariant.none _ (start + 16) (omega arith)
          (no-place _ (sym c.has.ensures ∙ c.if-not-has.true));
    }
