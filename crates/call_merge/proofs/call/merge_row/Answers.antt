-- A frame that is refused is refused by merge; a good one is merged into what is held, with the records that reading put into the row.
use native.Mathlib.Omega.{arith}
use Rattle.filter_tree.proofs.Children.{recorded-within, recorded-whole}
use Rattle.node_reader.proofs.Reading.{kept}
use Rattle.call_answers.proofs.Refusing.{frame_refused}
use Rattle.call_merge.proofs.call.merge_row.Goals as goal

pub returns-in_err-parts : goal.returns-in_err-parts
returns-in_err-parts g c =
    let a = c.args in
    rw (kept c.from_residual.ensures)
    (λ table size. frame_refused table a.frame.now a.n a.plan.now a.scratch.now _ c.in_err-parts.ensures, tt)

pub merge_good-requires-clause-given : goal.merge_good-requires-clause-given
merge_good-requires-clause-given g c =
    let good = c.in_ok-parts.ensures in
    record {
      given = record { frame = good.0; stands = good.1; is = good.2 };
      recorded = recorded-whole c.physical_frame_in.new.row _ good.0.expr good.3 good.1.sized;
    }

pub shared_whole_as_front-tree : goal.shared_whole_as_front-tree
shared_whole_as_front-tree g c =
    let good = c.in_ok-parts.ensures in (
      omega (arith, c.physical_frame_in.auto.row, good.1.sized, recorded-within c.physical_frame_in.new.row _ 0 good.0.expr good.3),
      omega (arith, c.requires.places.1),
    )
