-- What the answers about a KNN's literals mean.
use Rattle.std.specs.Prelude.{ℕ, ◌≡◌, ltb, if◌then◌else◌, Option, Some, None}
use Rattle.definitions.specs.Words.Expression.{Expr}
use Rattle.definitions.specs.Filter.Verdicts as definitions
use Rattle.leaf_verdicts.specs.Columns.{or_after}
use Rattle.leaf_verdicts.specs.Stages.{k_verdict}
use Rattle.leaf_verdicts.specs.declared.verdict.Verdict.{Verdict}
use Rattle.leaf_verdicts.specs.declared.verdict.Verdict.TheVariants as verdict

-- What is wrong with a number without a sign.
abbrev pub natural_reason : (k greatest : ℕ) → Option Verdict
natural_reason k greatest = if ltb k 1 then Some verdict.KBelowOne else if ltb greatest k then Some verdict.KAboveGreatest else None

-- What is wrong with a k, whatever comes after it.
abbrev pub KTold : (greatest : ℕ) → Option Verdict → Expr → Type 0
KTold greatest r k = (after : definitions.Verdict) → or_after r after ≡ k_verdict greatest k after
