-- The walk that an extract carries (request 10), by what is held, and extracts that are refused before they read the leaves.
use Rattle.std.specs.Prelude.{if◌then◌else◌}
use Prim.Native.Nat.{ℕ, ◌≤◌, ◌<◌}
use mathlib.Core.Path.{◌≡◌, refl, sym, ap, ◌∙◌}
use mathlib.Core.Bool.{Bool}
use mathlib.Core.List.{List}
use lib.ListN.{length, take}
use lib.Dec.{leb}
use borrow.Author.Tests.{lt-leb}
use Rattle.definitions.specs.Words.Basics.{Result, ok, refused}
use Rattle.definitions.specs.Words.Expression.{Frame, Extraction, Plan, empty, held, extracted}
use Rattle.definitions.specs.Bytes.Plans.{plan_of}
use Rattle.definitions.specs.Filter.Extract.{Matcher}
use Rattle.definitions.specs.Filter.OneWalk.{walk_length_by}
use Rattle.definitions.specs.Calls.Base.{held_plan, new_after_extract_by, extract_filled_by, walked_by, walk_filled_by}
use Rattle.terms.specs.declared.refusals.Refusal.{Refusal}
use Rattle.terms.specs.declared.refusals.Refusal.TheVariants.{NoGoodPlan, PlanEmpty, AlreadyExtracted}
use Rattle.call_answers.specs.Outcomes.{ExtractIs, unwalked}
use Rattle.call_answers.proofs.Keeping.{held-is}
use Rattle.call_answers.proofs.Refusing.{extract-call, no-room-for-n, no-plan, empty-plan, extracted-before}

module _ (match : Matcher) (n : ℕ) (before scratch : List ℕ) where
  walk-held : {r : Result Plan} → held_plan n before ≡ r → walk_filled_by match n before scratch ≡ walked_by match n (length scratch) r
  unfolding walk_filled_by
  walk-held e = ap (walked_by match n (length scratch)) e

  -- A frame's, where the scratch is long enough.
  pub walk_of-frame : (F : Frame) (b : Bool) → held_plan n before ≡ ok (held F) → leb n (length scratch) ≡ b
      → walk_filled_by match n before scratch ≡ (if b then walk_length_by match F else 0)
  unfolding walked_by
  walk_of-frame F b e t = walk-held e ∙ ap (λ (x : Bool). if x then walk_length_by match F else 0) t

  -- ---- refused before the leaves are read

  -- What an extract is that is refused so, keeping both buffers.
  abbrev pub RefusedIs : Refusal → Type 0
  RefusedIs why = ExtractIs (extract_filled_by match n before scratch)
      (walk_filled_by match n before scratch) n before scratch (unwalked why)

  pub long-refused : length before < n → RefusedIs NoGoodPlan
  unfolding walked_by held_plan
  long-refused h = record {
    outcome = no-room-for-n (extract-call match) n before scratch h;
    carried = sym (walk-held (ap (λ (b : Bool). if b then plan_of (take n before) else refused 10) (lt-leb n (length before) h)));
  }

  module _ (fits : n ≤ length before) where
    pub bad-refused : (number : ℕ) → plan_of (take n before) ≡ refused number → RefusedIs NoGoodPlan
    unfolding walked_by
    bad-refused number e = record {
      outcome = no-plan (extract-call match) n before scratch fits number e;
      carried = sym (walk-held (held-is n before fits e));
    }

    pub empty-refused : plan_of (take n before) ≡ ok empty → RefusedIs PlanEmpty
    unfolding walked_by
    empty-refused e = record {
      outcome = empty-plan (extract-call match) n before scratch fits e;
      carried = sym (walk-held (held-is n before fits e));
    }

    pub extracted-refused : (X : Extraction) → plan_of (take n before) ≡ ok (extracted X) → RefusedIs AlreadyExtracted
    unfolding walked_by new_after_extract_by
    extracted-refused X e = record {
      outcome = extracted-before (extract-call match) n before scratch fits (λ Y. refl) X e;
      carried = sym (walk-held (held-is n before fits e));
    }
