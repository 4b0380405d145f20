-- The old plan kept in the scratch: its bytes stand there as they stood in the plan buffer.
use Rattle.std.specs.Prelude.{if◌then◌else◌}
use Prim.Native.Nat.{ℕ, ◌≤◌}
use mathlib.Core.Path.{◌≡◌, sym, ap, ◌∙◌}
use mathlib.Core.Bool.{Bool}
use mathlib.Core.List.{List, ◌++◌}
use lib.ListN.{length, take, drop}
use lib.Seq.{length-take-le, take-append_seam}
use borrow.Author.Tests.{le-leb}
use Rattle.definitions.specs.Words.Basics.{Result, ok, refused}
use Rattle.definitions.specs.Words.Expression.{Plan}
use Rattle.definitions.specs.Bytes.Encode.{plan_bytes}
use Rattle.definitions.specs.Bytes.Plans.{plan_of}
use Rattle.definitions.specs.Calls.Base.{written_over, held_plan}
use Rattle.definitions.specs.Bytes.Good.{AllBytes, GoodPlan}
use Rattle.theorems.proofs.InversePlan.{plan-back}
use Rattle.theorems.proofs.Lengths.{bytes-up-to}

module _ (n : ℕ) (before : List ℕ) (fits : n ≤ length before) where
  pub plan-length : length (take n before) ≡ n
  plan-length = length-take-le n before fits

  pub held-is : {r : Result Plan} → plan_of (take n before) ≡ r → held_plan n before ≡ r
  unfolding held_plan
  held-is e = ap (λ (b : Bool). if b then plan_of (take n before) else refused 10) (le-leb n (length before) fits) ∙ e

  -- A plan is as long as its bytes, and good.
  pub plan-size : {p : Plan} → AllBytes before → plan_of (take n before) ≡ ok p → (length (plan_bytes p) ≡ n) × GoodPlan p
  plan-size {p} bytes e =
      let back = plan-back (take n before) p (bytes-up-to n before bytes) e in
      (ap length (sym back.0) ∙ plan-length, back.1)

  module _ (scratch after : List ℕ) (is : after ≡ take n (drop 0 before) ++ drop n scratch) where
    pub kept : take n after ≡ take n before
    kept =
        ap (take n) is
        ∙ ap (λ (k : ℕ). take k (take n before ++ drop n scratch)) (sym plan-length)
        ∙ take-append_seam (take n before) (drop n scratch)

    pub kept-length : n ≡ length (take n after)
    kept-length = sym (ap length kept ∙ plan-length)

    pub kept-over : written_over (take n before) scratch ≡ after
    unfolding written_over
    kept-over = ap (λ (k : ℕ). take n before ++ drop k scratch) plan-length ∙ sym is
