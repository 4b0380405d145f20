-- Request 14 of document 02: the truth value of all indexable conjuncts and of what is left.
use Rattle.std.specs.Prelude.{ℕ, List, [], ◌∷◌, ◌++◌, map}
use Rattle.std.proofs.Math.Option.{Option, none, some}
use Rattle.definitions.specs.Words.Expression.{Frame}
use Rattle.definitions.specs.Filter.Conjuncts.{Conjuncts}
use Rattle.definitions.specs.Meaning.Values.{Valuation, Meaning, and_value, frame_value, predicate_value}

-- The And of several values; that of a single one is its own value. (There is always one; of none it would be true.)
unfoldable pub and_of : List ℕ → ℕ
and_of [] = 1
and_of (a ∷ []) = a
and_of (a ∷ b ∷ more) = and_value a (and_of (b ∷ more))

-- The value of a last remainder, if there is one.
unfoldable pub rest_values : Meaning → Valuation → Option Frame → List ℕ
rest_values M v none = []
rest_values M v (some F) = frame_value M v F ∷ []

-- The And of all the predicates and of the last remainder, if there is one.
unfoldable pub conjuncts_value : Meaning → Valuation → Conjuncts → ℕ
conjuncts_value M v C = and_of (map (λ p. predicate_value M v p.predicate) C.taken ++ rest_values M v C.rest)
