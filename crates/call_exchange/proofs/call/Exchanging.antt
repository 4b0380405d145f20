-- What an exchange is, once the held plan and the scratch's length are known.
use Rattle.std.specs.Prelude.{if◌then◌else◌}
use Prim.Native.Nat.{ℕ, ◌≤◌, ◌<◌}
use native.Mathlib.Omega.{arith}
use mathlib.Core.Path.{◌≡◌, refl, sym, ap, ◌∙◌}
use mathlib.Core.Bool.{Bool, true, false}
use mathlib.Core.List.{List, ◌++◌}
use lib.ListN.{length, take, drop, take-append-drop}
use lib.Dec.{leb}
use borrow.Author.Tests.{le-leb, lt-leb}
use Rattle.definitions.specs.Words.Basics.{ok, refused}
use Rattle.definitions.specs.Words.Expression.{Plan, empty, held, extracted}
use Rattle.definitions.specs.Bytes.Encode.{plan_bytes}
use Rattle.definitions.specs.Bytes.Plans.{plan_of}
use Rattle.definitions.specs.Filter.Exchange.{exchange_plan}
use Rattle.definitions.specs.Calls.Base.{written_over, finish, new_after_exchange, exchange}
use Rattle.definitions.specs.Bytes.Good.{AllBytes}
use Rattle.std.specs.Prelude.{Ok}
use Rattle.terms.specs.Refusals.{number_of}
use Rattle.terms.specs.declared.refusals.Refusal.{Refusal}
use Rattle.node_reader.specs.Places.{NoClaim}
use Rattle.plan_reader.specs.Plans.{HeldIs, NotHeld, no_bytes, no_good}
use Rattle.plan_reader.specs.declared.extraction_bodies.Held.{Held}
use Rattle.plan_reader.specs.declared.extraction_bodies.Held.TheVariants as there
use Rattle.call_exchange.specs.Turned.{Turned}
use Rattle.call_exchange.specs.Exchanged.{PlanAt, HeldPlan}
use Rattle.call_answers.proofs.Refusing.{exchange-call, refuses, outcome, no-plan, empty-plan}
use Rattle.theorems.proofs.InversePlan.{plan-back}
use Rattle.theorems.proofs.Lengths.{bytes-up-to}
use Rattle.theorems.proofs.ExchangeGood.{plan-as-long}
use Rattle.call_answers.proofs.Keeping.{held-is, plan-size, kept, kept-length, kept-over}

-- A plan that an exchange takes.
abbrev pub Exchangeable : Plan → Type 0
Exchangeable empty = ⊥
Exchangeable (held F) = Unit {0}
Exchangeable (extracted X) = Unit {0}

by-room : (n room : ℕ) (p : Plan) → Exchangeable p
    → new_after_exchange n room (ok p) ≡ (if leb n room then ok (plan_bytes (exchange_plan p)) else refused 9)
unfolding new_after_exchange
by-room n room empty h = absurd h
by-room n room (held F) h = refl
by-room n room (extracted X) h = refl

module _ (n : ℕ) (before scratch : List ℕ) (fits : n ≤ length before) (p : Plan) (takes : Exchangeable p)
    (is : plan_of (take n before) ≡ ok p) where
  by-test : (b : Bool) → leb n (length scratch) ≡ b
      → exchange n before scratch ≡ finish n before scratch (if b then ok (plan_bytes (exchange_plan p)) else refused 9)
  by-test b t =
      outcome exchange-call n before scratch (held-is n before fits is)
      (by-room n (length scratch) p takes ∙ ap (λ (x : Bool). if x then ok (plan_bytes (exchange_plan p)) else refused 9) t)

  pub scratch-short : length scratch < n → exchange n before scratch ≡ refuses n before scratch 9
  unfolding finish
  scratch-short h = by-test false (lt-leb n (length scratch) h)

  -- The exchanged plan is over the old one, and what was behind that is behind it.
  pub exchanges : n ≤ length scratch → AllBytes before → (after scratch_after : List ℕ)
      → Turned (plan_bytes p) (plan_bytes (exchange_plan p)) before after → scratch_after ≡ take n (drop 0 before) ++ drop n scratch
      → exchange n before scratch ≡ record { answer = ok n; n = n; buffer = after; scratch = scratch_after }
  unfolding finish written_over
  exchanges h bytes after scratch_after turned copied =
      let size : length (plan_bytes (exchange_plan p)) ≡ n = plan-as-long p ∙ (plan-size n before fits bytes is).0 in
      let old : take n before ≡ plan_bytes p = (plan-back (take n before) p (bytes-up-to n before bytes) is).0 in
      let stood : before ≡ plan_bytes p ++ drop n before = sym (take-append-drop n before) ∙ ap (λ (l : List ℕ). l ++ drop n before) old in
      by-test true (le-leb n (length scratch) h)
      ∙ rw (size, turned (drop n before) stood, kept-over n before fits scratch scratch_after copied) refl

-- ---- what the writer requires

-- The plan's first n bytes are a good plan, a frame or an extraction, which stands there.
pub record HoldsPlan (n : ℕ) (plan : List ℕ) (h : Held) : Type 0 where
  pub it : Plan
  pub fits : n ≤ length plan
  pub stands : PlanAt (take n plan) h it
  pub is : plan_of (take n plan) ≡ ok it

-- A frame or an extraction that was read is held.
pub holds_of : (n : ℕ) (before : List ℕ) (h : Held) → n ≤ length before → HeldIs (take n before) (Ok h) (plan_of (take n before)) NoClaim
    → HoldsPlan n before h
holds_of n before (there.Frame f) fits good =
    record { it = held good.0; fits = fits; stands = (good.0, refl, good.1); is = good.2 }
holds_of n before (there.Extraction x) fits good =
    record { it = extracted good.0; fits = fits; stands = (good.0, refl, good.1); is = good.2 }

-- Where neither is.
pub not-held : (n : ℕ) (before scratch : List ℕ) → n ≤ length before → {why : Refusal} → NotHeld (plan_of (take n before)) why
    → exchange n before scratch ≡ refuses n before scratch (number_of why)
not-held n before scratch fits (no_bytes e) = empty-plan exchange-call n before scratch fits e
not-held n before scratch fits (no_good number e) = no-plan exchange-call n before scratch fits number e

-- What stands there is a frame or an extraction.
exchangeable : (s : List ℕ) (h : Held) (p : Plan) → PlanAt s h p → Exchangeable p
exchangeable s (there.Frame f) p stands = rw stands.1 tt
exchangeable s (there.Extraction x) p stands = rw stands.1 tt

pub is-exchangeable : {n : ℕ} {before : List ℕ} {h : Held} → (holds : HoldsPlan n before h) → Exchangeable holds.it
is-exchangeable {n} {before} {h} holds = exchangeable (take n before) h holds.it holds.stands

module _ {n : ℕ} {before : List ℕ} {h : Held} (holds : HoldsPlan n before h) (scratch after : List ℕ)
    (copied : after ≡ take n (drop 0 before) ++ drop n scratch) where
  pub still-there : PlanAt (take n after) h holds.it
  still-there = rw (kept n before holds.fits scratch after copied) holds.stands

  pub still-all : AllBytes before → length (take n after) ≡ length (plan_bytes holds.it)
  still-all bytes = omega (arith, kept-length n before holds.fits scratch after copied, (plan-size n before holds.fits bytes holds.is).0)

  pub held-there : AllBytes before → HeldPlan (take n after) h before
  held-there bytes = record {
    it = holds.it;
    stands = still-there;
    size = still-all bytes;
    room = omega (arith, kept-length n before holds.fits scratch after copied, holds.fits);
  }
