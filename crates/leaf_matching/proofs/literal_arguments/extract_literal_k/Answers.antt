-- `extract_literal_k`: of the numbers of 32 bits only 0 is no k.
use borrow.Author.Rules.{rules}
use mathlib.Core.Path.{ap, ◌∙◌}
use Rattle.leaf_matching.specs.Literals.{number_is}
use Rattle.leaf_matching.proofs.LiteralLaws.{k-of, k-kept}
use Rattle.leaf_matching.proofs.literal_arguments.extract_literal_k.Goals as goal

pub returns-in_err-k : goal.returns-in_err-k
returns-in_err-k c =
    rw c.from_residual.ensures (λ d t h. k-of t _ (c.in_err-k.ensures d t h))

pub returns : goal.returns
returns c =
    λ d t h. ap number_is c.then_some.ensures ∙ k-kept _ (search rules) ∙ k-of t _ (c.in_ok-k.ensures d t h)
