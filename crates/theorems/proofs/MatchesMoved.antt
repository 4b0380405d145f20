-- With any lawful matcher the leaves of a renumbered expression match as they did.
use Prim.Native.Nat.{ℕ, ◌<◌}
use mathlib.Core.Path.{◌≡◌, ap, ap₂}
use mathlib.Core.List.{List, [], ◌∷◌, ◌++◌, map, map-append}
use mathlib.Core.Option.{Option}
use Rattle.definitions.specs.Words.Expression.{Expr, column, literal, and, binary, call, other, field, Record, Predicate}
use Rattle.definitions.specs.Words.Leaves.{leaves}
use Rattle.definitions.specs.Bytes.Decode.{index_below}
use Rattle.definitions.specs.Words.References.{map_columns, record_at}
use Rattle.definitions.specs.Filter.Extract.{Matcher}
use Rattle.definitions.specs.Bytes.Good.{InRange}
use Rattle.definitions.specs.Meaning.Values.{Meaning}
use Rattle.definitions.specs.Meaning.Matchers.{Lawful}

module _ {match : Matcher} {Asks : Meaning → Type 0} (laws : Lawful match Asks) (rs rs' : List Record) (f : ℕ → ℕ) (b : ℕ)
    (same : (i : ℕ) → i < b → record_at rs' (f i) ≡ record_at rs i) where
  one-moved : (e : Expr) → InRange (index_below b) e → map (match rs') (map_columns f e ∷ []) ≡ map (match rs) (e ∷ [])
  one-moved e h = ap (λ (m : Option Predicate). m ∷ []) (laws.moves rs rs' f b same e h)

  pub leaves-moved : (e : Expr) → InRange (index_below b) e → map (match rs') (leaves (map_columns f e)) ≡ map (match rs) (leaves e)
  unfolding leaves map_columns
  leaves-moved (column i t) h = one-moved (column i t) h
  leaves-moved (literal type v) h = one-moved (literal type v) h
  leaves-moved (and l r) h = simp map-append (ap₂ ◌++◌ (leaves-moved l h.0) (leaves-moved r h.1))
  leaves-moved (binary o l r) h = one-moved (binary o l r) h
  leaves-moved (call name es) h = one-moved (call name es) h
  leaves-moved (other tag es) h = one-moved (other tag es) h
  leaves-moved (field x t) h = absurd h
