-- `put_before`: nothing before the first child; else a comma, or a binary's operator.
use mathlib.Core.Path.{◌≡◌}
use mathlib.Core.List.{◌∷◌}
use Rattle.definitions.specs.Words.Expression.{Expr}
use Rattle.printing.specs.Marks.{marked_number, before_of, PhysicalAt}
use Rattle.printing.proofs.NodeFields.{kind-within}
use Rattle.printing.proofs.Sequences.{known-fits, known-puts, mark-fits, mark-written, begins-within, after-fits, after-written, nothing_written}
use Rattle.printing.proofs.MarkLaws.{nothing-before, operator-before, comma-before}
use Rattle.printing.proofs.marks.put_before.Goals as goal
use Rattle.printing.proofs.marks.put_before.Goals.{After-leading_number-operator}

-- What is written before a later child of a binary.
operator : (c : After-leading_number-operator) → let a = c.args in (t : Expr)
    → PhysicalAt a.src.now a.at t → before_of a.position t ≡ 32 ∷ marked_number 111 c.leading_number-operator.result 32
operator c =
    operator-before c.args.position c.if-position-eq0.false
    c.if-src-at-eq-BINARY.true c.leading_number-operator.result c.leading_number-operator.ensures

pub returns-then-position-eq0 : goal.returns-then-position-eq0
returns-then-position-eq0 c =
    known-puts (nothing-before c.args.position c.if-position-eq0.true) (nothing_written _ _)

pub bounds-src-at : goal.bounds-src-at
bounds-src-at c =
    kind-within c.requires.stands

pub bounds-out-w : goal.bounds-out-w
bounds-out-w c =
    begins-within 32 _ (known-fits (operator (goal.at.bounds-out-w c).After-leading_number-operator) c.requires)

pub put_marked-requires : goal.put_marked-requires
put_marked-requires c =
    after-fits 32 _ (known-fits (operator (goal.at.put_marked-requires c).After-leading_number-operator) c.requires)

pub returns-then-src-at-eq-BINARY : goal.returns-then-src-at-eq-BINARY
returns-then-src-at-eq-BINARY c =
    known-puts (operator (goal.at.returns-then-src-at-eq-BINARY c).After-leading_number-operator)
    (after-written 32 _ (known-fits (operator (goal.at.returns-then-src-at-eq-BINARY c).After-leading_number-operator) c.requires)
    c.put_marked.ensures)

pub bounds-out-w-2 : goal.bounds-out-w-2
bounds-out-w-2 c =
    mark-fits 44 (known-fits (comma-before c.args.position c.if-position-eq0.false c.if-src-at-eq-BINARY.false) c.requires)

pub returns : goal.returns
returns c =
    let is = comma-before c.args.position c.if-position-eq0.false c.if-src-at-eq-BINARY.false in
    known-puts is (mark-written 44 (known-fits is c.requires))
