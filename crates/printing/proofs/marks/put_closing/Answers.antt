-- `put_closing`: the mark of the kind, if it has one.
use native.Mathlib.Omega.{arith}
use mathlib.Core.Path.{◌≡◌}
use mathlib.Core.List.{[], ◌∷◌}
use Rattle.definitions.specs.Words.Expression.{Expr}
use Rattle.printing.specs.Marks.{closing_of, PhysicalAt}
use Rattle.printing.proofs.NodeFields.{kind-within}
use Rattle.printing.proofs.Sequences.{known-fits, known-puts, mark-fits, mark-written, nothing_written}
use Rattle.printing.proofs.MarkLaws.{leaf-closes, binary-closes, list-closes}
use Rattle.printing.proofs.marks.put_closing.Goals as goal
use Rattle.printing.proofs.marks.put_closing.Goals.{Joined-src-at, in-2, in_default}

-- What the mark is.
closes : (c : Joined-src-at) → (t : Expr) → PhysicalAt c.args.src.now c.args.at t → closing_of t ≡ c.match-src-at.mark ∷ []
closes c t h =
    elim c.match-src-at.branch [
      | in-2 w ↦ rw w.mark-is (binary-closes w.in-2.is t h)
      | in_default w ↦ rw w.mark-is (list-closes (omega arith) t h)
    ]

pub bounds-src-at : goal.bounds-src-at
bounds-src-at c =
    kind-within c.requires.stands

pub bounds-out-w : goal.bounds-out-w
bounds-out-w c =
    mark-fits _ (known-fits (closes (goal.at.bounds-out-w c).Joined-src-at) c.requires)

pub returns-in-0 : goal.returns-in-0
returns-in-0 c =
    known-puts (leaf-closes (omega arith)) (nothing_written _ _)

pub returns : goal.returns
returns c =
    let is = closes (goal.at.returns c).Joined-src-at in
    known-puts is (mark-written _ (known-fits is c.requires))
