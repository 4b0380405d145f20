-- `extract_literal_bool`: the eight bytes of a Boolean are 0 or 1.
use Prim.Native.Nat.{◌+◌, ℕ}
use native.Mathlib.Omega.{arith}
use mathlib.Core.Path.{ap, sym, ◌∙◌}
use mathlib.Core.Option.{some}
use lib.Dec.{eqb}
use Rattle.definitions.specs.Words.Literals.{number_bool}
use Rattle.expression.proofs.Standing.{node-some}
use Rattle.leaf_matching.specs.Literals.{long_at}
use Rattle.sedona_query_planner.specs.Predicates.{flag}
use Rattle.leaf_matching.proofs.LiteralLaws.{literal-is, no-literal, literal-flag, flag_small, flag-is, no_flag}
use Rattle.leaf_matching.proofs.literal_arguments.extract_literal_bool.Goals as goal
use Rattle.leaf_matching.proofs.literal_arguments.extract_literal_bool.Goals.{then-s-at-ne-LITERAL-via-then-s-at-ne-LITERAL, then-s-at-ne-LITERAL-via-else-s-at-ne-LITERAL+then-s-at-ne1}

pub bounds-s-at : goal.bounds-s-at
bounds-s-at c =
    node-some c.requires.2

pub bounds-s-at-else-s-at-ne-LITERAL : goal.bounds-s-at-else-s-at-ne-LITERAL
bounds-s-at-else-s-at-ne-LITERAL c =
    omega (arith, (literal-is c.requires.2 c.if-s-at-ne-LITERAL.false).fits)

pub returns-then-s-at-ne-LITERAL : goal.returns-then-s-at-ne-LITERAL
returns-then-s-at-ne-LITERAL c =
    λ d t h. elim c.then-s-at-ne-LITERAL.branch [
      | then-s-at-ne-LITERAL-via-then-s-at-ne-LITERAL w ↦ (no-literal h w.if-s-at-ne-LITERAL.true).1
      | then-s-at-ne-LITERAL-via-else-s-at-ne-LITERAL+then-s-at-ne1 w ↦ literal-flag h w.if-s-at-ne-LITERAL.false _
          (no_flag _ _ w.if-s-at-ne1.true)
    ]

pub long_at-requires : goal.long_at-requires
long_at-requires c =
    omega (arith, (literal-is c.requires.2 c.if-s-at-ne-LITERAL.false).fits)

pub returns : goal.returns
returns c =
    λ d t h.
    let kind = c.if-s-at-ne-LITERAL.false in
    let bytes = long_at c.args.s.now (c.args.at + 2) in
    literal-flag h kind _
    (ap (λ (n : ℕ). some (flag (eqb n 1))) c.long_at.ensures ∙ flag-is bytes (flag_small h kind c.if-s-at-ne1.false)
    ∙ ap (λ (y : ℕ). number_bool y bytes) (sym c.if-s-at-ne1.false))
