-- Where `ok_or` meets nothing: what its `?` returns.
use Rattle.std.specs.Prelude.{Option, Some, None, Result, Ok, Err}
use Rattle.std.specs.Option.{ok_or}
use Rattle.std.specs.Result.{IsErr, IsErrAnd}
use Rattle.std.proofs.lemmas.Result.{err_from_is_err_and}
use Prim.Native.Nat.{ℕ}
use native.Mathlib.Omega.{arith}
use mathlib.Core.Path.{◌≡◌, refl, ap, ◌∙◌}
use Rattle.leaf_matching.specs.declared.matching.NoMatch.{NoMatch}

module _ {A : Type 0} (asked : NoMatch) where
  abbrev told : Result A NoMatch → NoMatch
  told (Ok a) = asked
  told (Err why) = why

  abbrev kind : Result A NoMatch → ℕ
  kind (Ok a) = 0
  kind (Err why) = 1

  pub missed : {B : Type 0} {r : Result B NoMatch} (x : Option A) (why : NoMatch) → Err why ≡ ok_or x asked
      → IsErr r × IsErrAnd r (λ e. e ≡ why) → (x ≡ None) × (r ≡ Err asked)
  missed (Some a) why e h = absurd (omega (arith, ap kind e))
  missed {r = r} None why e h = let p = err_from_is_err_and r h.1 in (refl, p.1 ∙ ap Err (p.2 ∙ ap told e))
