-- `head_at`: each arm's answer is one law of HeadLaws, at the expression that stands there.
use mir.Facts.{Fits-8_64}
use native.Mathlib.Omega.{arith}
use Rattle.expression.proofs.Standing.{node-some}
use Rattle.expression.proofs.HeadLaws.{head-column, head-literal, head-binary, head-call, head-other, head-field, call-within, other-within}
use Rattle.expression.proofs.heads.head_at.Goals as goal

pub bounds-s-at : goal.bounds-s-at
bounds-s-at c =
    node-some c.requires.2

pub bounds-s-at-in-3 : goal.bounds-s-at-in-3
bounds-s-at-in-3 c =
    omega (arith, call-within c.requires.2 c.in-3.is)

pub overflow_cast-name : goal.overflow_cast-name
overflow_cast-name c =
    Fits-8_64 (c.shared_slice_known-in-3-1.given _)

pub overflow_add-count : goal.overflow_add-count
overflow_add-count c =
    omega (arith, call-within c.requires.2 c.in-3.is)

pub overflow_add-count-in-3 : goal.overflow_add-count-in-3
overflow_add-count-in-3 c =
    omega (arith, call-within c.requires.2 c.in-3.is)

pub overflow_add-result-in-3 : goal.overflow_add-result-in-3
overflow_add-result-in-3 c =
    omega (arith, call-within c.requires.2 c.in-3.is)

pub bounds-s-count : goal.bounds-s-count
bounds-s-count c =
    call-within c.requires.2 c.in-3.is

pub overflow_cast-result : goal.overflow_cast-result
overflow_cast-result c =
    Fits-8_64 (c.shared_slice_known-in-3-2-1.given _)

pub bounds-s-at-in-4 : goal.bounds-s-at-in-4
bounds-s-at-in-4 c =
    other-within c.requires.2 c.in-4.is

pub overflow_cast-result-in-4 : goal.overflow_cast-result-in-4
overflow_cast-result-in-4 c =
    Fits-8_64 (c.shared_slice_known-in-4-1.given _)

pub returns-in-0 : goal.returns-in-0
returns-in-0 c =
    λ d t h. head-column h c.in-0.is

pub returns-in-1 : goal.returns-in-1
returns-in-1 c =
    λ d t h. head-literal h c.in-1.is

pub returns-in-2 : goal.returns-in-2
returns-in-2 c =
    λ d t h. head-binary h c.in-2.is

pub returns-in-3 : goal.returns-in-3
returns-in-3 c =
    λ d t h. head-call h c.in-3.is

pub returns-in-4 : goal.returns-in-4
returns-in-4 c =
    λ d t h. head-other h c.in-4.is

pub returns-in_default : goal.returns-in_default
returns-in_default c =
    λ d t h. head-field h (omega arith)
