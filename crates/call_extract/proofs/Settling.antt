-- The extract under settings, with a lent table or that of the frame's own nodes: 24 where they are not good, else the extract with their
-- matcher; with the default settings that with `match_leaf`.
use Rattle.std.specs.Prelude.{if◌then◌else◌, Option, Some, None}
use Prim.Native.Nat.{ℕ, ◌<◌, ◌≤◌}
use lib.ListN.{length, take}
use mathlib.Core.Path.{◌≡◌, refl, ap, ◌∙◌}
use mathlib.Core.Bool.{Bool, false}
use mathlib.Core.List.{List}
use Rattle.definitions.specs.Words.Basics.{refused}
use Rattle.definitions.specs.Filter.Extract.{Matcher}
use Rattle.definitions.specs.Calls.Base.{finish, table_fits, extract_filled_by, extract_filled, walk_filled_by}
use Rattle.definitions.specs.Filter.Settings.{Settings, good_settings, default_settings, match_under, GoodSettings}
use Rattle.theorems.proofs.Proved.{default-settings}
use Rattle.definitions.specs.Bytes.Plans.{plan_of}
use Rattle.plan_reader.specs.Plans.{NotHeld, no_bytes, no_good}
use Rattle.call_answers.proofs.Walking.{bad-refused, empty-refused, long-refused}
use Rattle.call_answers.proofs.Settling.{lent-24, lent-settled}
use Rattle.terms.specs.declared.refusals.Refusal.{Refusal}
use Rattle.terms.specs.declared.refusals.Refusal.TheVariants.{NoGoodPlan, BadSettings}
use Rattle.call_answers.specs.Outcomes.{ExtractIs, unwalked}
use Rattle.call_answers.specs.declared.answers.Extracted.{Extracted}
use Rattle.std.specs.Borrow.{Bor}
use Rattle.node_table.specs.declared.NodeRecord.{NodeRecord as Lent}
use Rattle.node_table.specs.Records.{nodes_of}
use Rattle.call_extract.specs.Settled.{filled_under, walk_under, SettledBy}
use Rattle.call_extract.proofs.Tables.{unheld, over-long}

-- Where neither a frame nor an extraction is held.
pub not-extracted : (match : Matcher) (n : ℕ) (plan scratch : List ℕ) → n ≤ length plan → {why : Refusal}
    → NotHeld (plan_of (take n plan)) why
    → ExtractIs (extract_filled_by match n plan scratch) (walk_filled_by match n plan scratch) n plan scratch (unwalked why)
not-extracted match n plan scratch fits (no_bytes e) = empty-refused match n plan scratch fits e
not-extracted match n plan scratch fits (no_good number e) = bad-refused match n plan scratch fits number e

module _ (S : Settings) (n : ℕ) (before scratch : List ℕ) where
  filled-24 : good_settings S ≡ false
      → ExtractIs (filled_under S n before scratch) (walk_under S n before scratch) n before scratch (unwalked BadSettings)
  unfolding finish
  filled-24 bad = rw bad (record { outcome = refl; carried = refl })

  filled-settled : GoodSettings S → {after kept : List ℕ} {r : Extracted}
      → ExtractIs (extract_filled_by (match_under S) n before scratch) (walk_filled_by (match_under S) n before scratch) n after kept r
      → ExtractIs (filled_under S n before scratch) (walk_under S n before scratch) n after kept r
  filled-settled g is = rw g.good is

  pub by-24 : good_settings S ≡ false → (table : Option (Bor (List Lent)))
      → SettledBy S n table before scratch before scratch (unwalked BadSettings)
  by-24 bad (Some table) = lent-24 S n before scratch (nodes_of table.now) bad
  by-24 bad None = filled-24 bad

  -- A plan buffer shorter than n holds nothing.
  pub long-by : GoodSettings S → length before < n → (table : Option (Bor (List Lent)))
      → SettledBy S n table before scratch before scratch (unwalked NoGoodPlan)
  unfolding table_fits
  long-by g long (Some table) =
      lent-settled S n before scratch (nodes_of table.now) g
      (unheld _ n before scratch (nodes_of table.now) (over-long n before long) refl (long-refused _ n before scratch long))
  long-by g long None = filled-settled g (long-refused _ n before scratch long)

  pub filled-default : S ≡ default_settings → filled_under S n before scratch ≡ extract_filled n before scratch
  filled-default e =
      ap (λ (T : Settings). filled_under T n before scratch) e
      ∙ ap (λ (b : Bool). if b then extract_filled_by
      (match_under default_settings) n before scratch else finish n before scratch (refused 24))
      default-settings.0.good
      ∙ ap (λ (m : Matcher). extract_filled_by m n before scratch) default-settings.1
