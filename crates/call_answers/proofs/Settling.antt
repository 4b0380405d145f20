-- An extract under settings (request 13): with the matcher of good ones, else refused with 24 and nothing changed.
use Prim.Native.Nat.{ℕ, ◌<◌}
use mathlib.Core.Path.{◌≡◌, refl, sym, ◌∙◌}
use mathlib.Core.Bool.{Bool, true, false}
use mathlib.Core.List.{List}
use Rattle.definitions.specs.Words.Limits.{four_bytes}
use Rattle.definitions.specs.Calls.Base.{Outcome, finish, extract_by, extract_walk_by}
use Rattle.definitions.specs.Bytes.NodeTable.{NodeRecord}
use Rattle.definitions.specs.Filter.Settings.{Settings, good_settings, match_under, GoodSettings}
use Rattle.definitions.specs.Calls.Settings.{extract_under, extract_walk_under}
use Rattle.theorems.proofs.Proved.{all-settings, bad-settings}
use Rattle.terms.specs.declared.refusals.Refusal.TheVariants.{BadSettings}
use Rattle.call_answers.specs.Outcomes.{ExtractIs, unwalked}
use Rattle.call_answers.specs.declared.answers.Extracted.{Extracted}
use Rattle.call_answers.proofs.Refusing.{refuses}

module _ (S : Settings) (n : ℕ) (before scratch : List ℕ) (table : List NodeRecord) where
  pub refused-24 : good_settings S ≡ false
      → (extract_under S n before scratch table ≡ refuses n before scratch 24) × (extract_walk_under S n before scratch table ≡ 0)
  unfolding finish
  refused-24 bad = (bad-settings S bad).0 n before scratch table

  pub lent-24 : good_settings S ≡ false
      → ExtractIs (extract_under S n before scratch table) (extract_walk_under S n before scratch table) n before scratch
      (unwalked BadSettings)
  lent-24 bad = record { outcome = (refused-24 bad).0; carried = sym (refused-24 bad).1 }

  pub lent-settled : GoodSettings S → {after kept : List ℕ} {r : Extracted}
      → ExtractIs (extract_by (match_under S) n before scratch table)
      (extract_walk_by (match_under S) n before scratch table) n after kept r
      → ExtractIs (extract_under S n before scratch table) (extract_walk_under S n before scratch table) n after kept r
  lent-settled g is = record {
    outcome = (all-settings S g).call n before scratch table ∙ is.outcome;
    carried = is.carried ∙ sym ((all-settings S g).carries n before scratch table);
  }

  -- What is true of both is true of it; the greatest k has 32 bits.
  by-good : (P : Outcome → ℕ → Type 0)
      → (GoodSettings S → P (extract_by (match_under S) n before scratch table) (extract_walk_by (match_under S) n before scratch table))
      → P (refuses n before scratch 24) 0 → S.greatest_k < four_bytes → (b : Bool) → good_settings S ≡ b
      → P (extract_under S n before scratch table) (extract_walk_under S n before scratch table)
  by-good P settled kept width true e =
      let g : GoodSettings S = record { good = e; width = width } in
      rw ((all-settings S g).call n before scratch table, (all-settings S g).carries n before scratch table) (settled g)
  by-good P settled kept width false e = rw ((refused-24 e).0, (refused-24 e).1) kept

  pub by-settings : (P : Outcome → ℕ → Type 0)
      → (GoodSettings S → P (extract_by (match_under S) n before scratch table) (extract_walk_by (match_under S) n before scratch table))
      → P (refuses n before scratch 24) 0 → S.greatest_k < four_bytes
      → P (extract_under S n before scratch table) (extract_walk_under S n before scratch table)
  by-settings P settled kept width = by-good P settled kept width (good_settings S) refl
