-- `extract_literal_u32`: the type says whether the eight bytes have a sign.
use native.Mathlib.Omega.{arith}
use mathlib.Core.Path.{ap, ◌∙◌}
use lib.IntN.{pos}
use mir.Syntax.{w64}
use mir.Facts.{to_z-of_z}
use Rattle.definitions.specs.Words.Literals.{signed, u32}
use Rattle.expression.proofs.Standing.{node-some}
use Rattle.leaf_matching.proofs.LiteralLaws.{u32-few, u32-many, u32-of-signed, u32-negative, u32-great, literal-is, no-literal, literal-number, number-below, number-signed, number-unsigned, number-above}
use Rattle.leaf_matching.proofs.literal_arguments.extract_literal_u32.Goals as goal
use Rattle.leaf_matching.proofs.literal_arguments.extract_literal_u32.Goals.{then-number-lt0-via-then-number-lt0, then-number-lt0-via-else-number-lt0+then-number-gt-GREATEST_NUMBER}

pub bounds-s-at : goal.bounds-s-at
bounds-s-at c =
    node-some c.requires.2

pub returns-then-s-at-ne-LITERAL : goal.returns-then-s-at-ne-LITERAL
returns-then-s-at-ne-LITERAL c =
    λ d t h. (no-literal h c.if-s-at-ne-LITERAL.true).0

pub long_at-bytes-requires : goal.long_at-bytes-requires
long_at-bytes-requires c =
    omega (arith, (literal-is c.requires.2 c.if-s-at-ne-LITERAL.false).fits)

pub bounds-s-at-2 : goal.bounds-s-at-2
bounds-s-at-2 c =
    omega (arith, (literal-is c.requires.2 c.if-s-at-ne-LITERAL.false).fits)

pub returns-then-number-lt0 : goal.returns-then-number-lt0
returns-then-number-lt0 c =
    let own = to_z-of_z {w = w64} (record { sfits = c.signed-number.type_inv }) in
    λ d t h. literal-number h c.if-s-at-ne-LITERAL.false _
    (elim c.then-number-lt0.branch [
      | then-number-lt0-via-then-number-lt0 w ↦ u32-negative _ w.if-number-lt0.true
      | then-number-lt0-via-else-number-lt0+then-number-gt-GREATEST_NUMBER w ↦ u32-great _ w.if-number-gt-GREATEST_NUMBER.true
    ]
    ∙ ap u32 (own ∙ c.signed-number.ensures ∙ ap signed c.long_at-bytes.ensures)
    ∙ number-signed _ _ (omega arith) (omega arith))

pub returns-else-number-gt-GREATEST_NUMBER : goal.returns-else-number-gt-GREATEST_NUMBER
returns-else-number-gt-GREATEST_NUMBER c =
    let own = to_z-of_z {w = w64} (record { sfits = c.signed-number.type_inv }) in
    λ d t h. literal-number h c.if-s-at-ne-LITERAL.false _
    (u32-of-signed _ c.if-number-lt0.false c.if-number-gt-GREATEST_NUMBER.false
    ∙ ap u32 (own ∙ c.signed-number.ensures ∙ ap signed c.long_at-bytes.ensures)
    ∙ number-signed _ _ (omega arith) (omega arith))

pub returns-then-bytes : goal.returns-then-bytes
returns-then-bytes c =
    λ d t h. literal-number h c.if-s-at-ne-LITERAL.false _
    (u32-many _ (omega (arith, c.if-bytes.true)) ∙ ap (λ n. u32 (pos n)) c.long_at-bytes.ensures
    ∙ number-unsigned _ _ (omega arith) (omega arith))

pub returns-else-bytes : goal.returns-else-bytes
returns-else-bytes c =
    λ d t h. literal-number h c.if-s-at-ne-LITERAL.false _
    (u32-few _ (omega (arith, c.if-bytes.false)) ∙ ap (λ n. u32 (pos n)) c.long_at-bytes.ensures
    ∙ number-unsigned _ _ (omega arith) (omega arith))

pub returns-in_default : goal.returns-in_default
returns-in_default c =
    λ d t h. literal-number h c.if-s-at-ne-LITERAL.false _ (number-below _ _ (omega arith))

pub returns-in_default-2 : goal.returns-in_default-2
returns-in_default-2 c =
    λ d t h. literal-number h c.if-s-at-ne-LITERAL.false _ (number-above _ _ (omega arith))
