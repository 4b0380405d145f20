-- Nothing, or a frame.
use native.Mathlib.Omega.{arith}
use mathlib.Core.Path.{refl, ◌∙◌}
use mathlib.Core.Option.{none}
use borrow.Author.Tests.{ne_eqb}
use Rattle.definitions.specs.Bytes.Decode.{remainder_of_kind, remainder}
use Rattle.theorems.proofs.ReaderLaws.{after}
use Rattle.plan_reader.proofs.Extractions.{follows}
use Rattle.plan_reader.proofs.Fields.{byte-after}
use Rattle.plan_reader.proofs.extraction_bodies.remainder_at.Goals as goal

pub some_remainder-requires-clause-few : goal.some_remainder-requires-clause-few
some_remainder-requires-clause-few c =
    let few = c.requires.few in
    let kind = c.in_ok-kind.ensures in
    record {
      within = kind.0;
      short = few.short;
      counted = (
        omega (arith, few.counted.0, byte-after c.args.s.now c.args.at c.in_ok-kind.next c.in_ok-kind.kind few.within kind.0 kind.1),
        few.counted.1,
      );
    }

pub returns-in-0 : goal.returns-in-0
unfolding remainder remainder_of_kind
returns-in-0 c =
    let kind = c.in_ok-kind.ensures in
    (kind.0, none, refl, c.args.nodes, after _ (kind.1 _) ∙ rw c.in-0.is)

pub returns-in-1 : goal.returns-in-1
unfolding remainder remainder_of_kind
returns-in-1 c =
    let a = c.args in
    follows a.s.now a.at _ a.nodes _ _ c.some_remainder.result (after _ (c.in_ok-kind.ensures.1 _) ∙ rw c.in-1.is)
    c.some_remainder.ensures

pub returns-in_default : goal.returns-in_default
unfolding remainder remainder_of_kind
returns-in_default c =
    let no = c.in_default.in_default-own.rest in
    after _ (c.in_ok-kind.ensures.1 _) ∙ rw (ne_eqb _ _ no.0.1, ne_eqb _ _ no.1)
