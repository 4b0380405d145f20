-- A matcher's laws say nothing of leaves that do not match, so they hold too where only predicates that pass a test match.
use Rattle.std.specs.Prelude.{if◌then◌else◌}
use mathlib.Core.Path.{◌≡◌, refl, ap, ◌∙◌}
use mathlib.Core.Bool.{Bool, true, false}
use mathlib.Core.Option.{Option, none, some, map}
use Rattle.definitions.specs.Words.Expression.{Predicate}
use Rattle.definitions.specs.Filter.Extract.{Matcher}
use Rattle.definitions.specs.Filter.Exchange.{exchange_predicate}
use Rattle.definitions.specs.Meaning.Values.{Meaning}
use Rattle.definitions.specs.Meaning.Matchers.{Fits, Valued, Lawful}
use Rattle.definitions.specs.Filter.Settings.{passing, only_if}
use Rattle.theorems.proofs.Tools.{by-test}

-- Exchange does not change the test.
abbrev pub Unturned : (Predicate → Bool) → Type 0
Unturned test = (p : Predicate) → test (exchange_predicate p) ≡ test p

module _ (test : Predicate → Bool) where
  -- What holds of a match and of none holds of what is left.
  pub passing-is : (P : Option Predicate → Type 0) → P none → (m : Option Predicate) → P m → P (passing test m)
  unfolding passing
  passing-is P z none h = h
  passing-is P z (some p) h = by-test P (test p) (some p) none (λ _. h) (λ _. z)

  if-turned : (b : Bool) (p : Predicate)
      → (if b then some (exchange_predicate p) else none) ≡ map exchange_predicate (if b then some p else none)
  if-turned true p = refl
  if-turned false p = refl

  pub passing-turned : Unturned test → (m : Option Predicate)
      → passing test (map exchange_predicate m) ≡ map exchange_predicate (passing test m)
  unfolding passing
  passing-turned same none = refl
  passing-turned same (some p) =
      ap (λ (b : Bool). if b then some (exchange_predicate p) else none) (same p) ∙ if-turned (test p) p

  pub only-laws : {match : Matcher} {Asks : Meaning → Type 0} → Unturned test → Lawful match Asks
      → Lawful (only_if test match) Asks
  unfolding only_if
  only-laws {match} same laws = record {
    turns = λ rs e. ap (passing test) (laws.turns rs e) ∙ passing-turned same (match rs e);
    fits = λ rs e rr h. passing-is (Fits _ _) tt (match rs e) (laws.fits rs e rr h);
    moves = λ rs rs' f b kept e r. ap (passing test) (laws.moves rs rs' f b kept e r);
    means = λ M v rs e asked r. passing-is (Valued M v _) tt (match rs e) (laws.means M v rs e asked r);
  }
