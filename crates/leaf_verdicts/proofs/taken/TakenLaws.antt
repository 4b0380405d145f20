-- The first byte that passes a test stands at its position.
use Rattle.std.specs.Prelude.{Some, None, position}
use Prim.Native.Nat.{ℕ, zero, suc, ◌<◌, ◌≤◌}
use native.Mathlib.Omega.{arith}
use mathlib.Core.Path.{◌≡◌, refl, sym, ap}
use mathlib.Core.Bool.{Bool, true, false}
use mathlib.Core.List.{List, [], ◌∷◌}
use mathlib.Core.Option as optional
use mathlib.Core.Option.{none, some}
use lib.ListN.{length, get_or}
use Rattle.std.proofs.lemmas.List.Quantifiers.{position-Some}
use Rattle.std.proofs.lemmas.List.Sums.{fails_before_first}
use Rattle.std.specs.List.{position_or_len}
use Rattle.std.proofs.lemmas.Grind.{common_steps}
use Rattle.definitions.specs.Filter.Verdicts.{one_on, first_passing}

module _ (test : ℕ → Bool) where
  -- By where it is, those before it not passing.
  passing-at : (bytes : List ℕ) (i : ℕ) → i < length bytes → test (get_or bytes i 0) ≡ true
      → ((k : ℕ) → k < i → test (get_or bytes k 0) ≡ false)
      → first_passing test bytes ≡ some (record { position = i; line = get_or bytes i 0 })
  unfolding first_passing one_on
  passing-at [] i low passes others = absurd (omega (arith, low))
  passing-at (b ∷ bytes) zero low passes others = rw passes refl
  passing-at (b ∷ bytes) (suc i) low passes others =
      rw (others 0 (omega arith))
      (ap (optional.map one_on) (passing-at bytes i (omega (arith, low)) passes (λ k h. others (suc k) (omega (arith, h)))))

  -- None where none passes.
  none-passing : (bytes : List ℕ) → ((k : ℕ) → k < length bytes → test (get_or bytes k 0) ≡ false) → first_passing test bytes ≡ none
  unfolding first_passing
  none-passing [] others = refl
  none-passing (b ∷ bytes) others =
      rw (others 0 (omega arith)) (ap (optional.map one_on) (none-passing bytes (λ k h. others (suc k) (omega (arith, h)))))

  pub found : (bytes : List ℕ) (i : ℕ) → Some i ≡ position test bytes
      → (i < length bytes) × (test (get_or bytes i 0) ≡ true)
      × (first_passing test bytes ≡ some (record { position = i; line = get_or bytes i 0 }))
  found bytes i e =
      let at = position-Some test bytes i 0 (sym e) in
      (at.0, at.1, passing-at bytes i at.0 at.1 at.2)

  pub missing : (bytes : List ℕ) → None ≡ position test bytes → first_passing test bytes ≡ none
  missing bytes e =
      let past : length bytes ≤ position_or_len test bytes = grind (arith, common_steps, e) in
      none-passing bytes (λ k h. fails_before_first test bytes k 0 (omega (arith, past, h)))
