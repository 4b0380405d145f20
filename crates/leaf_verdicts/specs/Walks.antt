-- What is written of all AND-leaves of an expression.
use Rattle.std.specs.Prelude.{ℕ, ◌≤◌, ◌≡◌, List, map, length}
use Rattle.definitions.specs.Words.Expression.{Expr, Record}
use Rattle.definitions.specs.Words.Leaves.{leaves}
use Rattle.definitions.specs.Filter.Settings.{Settings}
use Rattle.definitions.specs.Filter.Verdicts.{verdict_byte, verdict_under}
use Rattle.byte_writer.specs.Written.{Wrote}
use Rattle.node_table.specs.declared.NodeRecord.{NodeRecord as Lent}
use Rattle.leaf_verdicts.specs.Laid.{Laid, OfIndex}

-- The bytes of its AND-leaves' verdicts.
abbrev pub tree_bytes : Settings → List Record → Expr → List ℕ
tree_bytes S records t = map (λ leaf. verdict_byte (verdict_under S records leaf)) (leaves t)

-- An expression has the first records, and there is room for a byte of each of its AND-leaves.
abbrev pub VerdictsFit : (s : List ℕ) (rec : ℕ) (nodes : List Lent) (out : List ℕ) → Type 0
VerdictsFit s rec nodes out =
    (at : ℕ) × (records : List Record) × (t : Expr) × Laid s rec nodes at 0 records t × (length (leaves t) ≤ length out)

-- They were written, so many.
pub record VerdictsAre (S : Settings) (before after : List ℕ) (count : ℕ) (records : List Record) (t : Expr) : Type 0 where
  pub counted : count ≡ length (leaves t)
  pub wrote : Wrote (tree_bytes S records t) before after

abbrev pub VerdictsPut : Settings → (s : List ℕ) (rec : ℕ) (nodes : List Lent) (before after : List ℕ) → (count : ℕ) → Type 0
VerdictsPut S s rec nodes before after count = OfIndex s rec nodes 0 (VerdictsAre S before after count)
