-- `answer_begun`: a counted line stands in the buffer, or has over 32,768 characters.
use borrow.Author.Rules.{rules}
use native.Mathlib.Omega.{arith}
use mathlib.Core.Path.{refl, sym}
use lib.Seq.{length-take-le}
use borrow.Author.Tests.{le-leb, lt-leb}
use Rattle.lines.proofs.SessionLaws.{too_long}
use Rattle.lines.proofs.ends.answer_begun.Goals as goal

pub returns-then-line-count : goal.returns-then-line-count
returns-then-line-count c =
    record {
      result_in_bounds = omega arith;
      by_index = λ begun b. too_long b _ _ c.requires.1 c.if-line-count.true;
      scratch_after = rw (lt-leb _ _ c.if-line-count.true) refl;
    }

pub slice_bounds-answer_line-end : goal.slice_bounds-answer_line-end
slice_bounds-answer_line-end c =
    sym (length-take-le _ _ (search rules))

pub returns : goal.returns
returns c =
    let call = c.answer_line in
    let short = c.if-line-count.false in record {
      result_in_bounds = omega (arith, call.ensures.answer_is.fits, call.auto.plan);
      by_index = λ begun b. rw (b.held short) at call.ensures.answer_is;
      scratch_after = rw (le-leb _ _ short) call.ensures.scratch_after;
    }
