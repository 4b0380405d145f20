-- `finish`: no line has begun where the count is 0, else it is at its end.
use native.Mathlib.Omega.{arith}
use Rattle.lines.proofs.SessionLaws.{finished-none, finished-full}
use Rattle.lines.proofs.feeding.finish.Goals as goal
use Rattle.lines.proofs.feeding.finish.Goals.{then-state-eq0-via-then-state-eq0, then-state-eq0-via-else-state-eq0+then-state-gt-MOST_FILLED}

pub returns-then-state-eq0 : goal.returns-then-state-eq0
returns-then-state-eq0 c =
    elim c.then-state-eq0.branch [
      | then-state-eq0-via-then-state-eq0 w ↦ finished-none _ _ w.if-state-eq0.true
      | then-state-eq0-via-else-state-eq0+then-state-gt-MOST_FILLED w ↦ finished-full _ _ w.if-state-gt-MOST_FILLED.true
    ]

pub returns : goal.returns
returns c = record {
  ends = λ h k. c.end_begun.ensures;
  none = λ h. absurd (c.if-state-eq0.false h);
  full = λ h. absurd (omega arith);
}
