-- All indexable conjuncts of the exchanged frame are the exchanged ones.
use Prim.Native.Nat.{ℕ, zero, suc}
use mathlib.Core.Path.{◌≡◌, refl, ap, ◌∙◌}
use mathlib.Core.List.{List}
use mathlib.Core.Option.{Option, none, some, map}
use lib.ListN.{length}
use Rattle.definitions.specs.Words.Expression.{Frame, Extraction}
use Rattle.definitions.specs.Words.Leaves.{leaves}
use Rattle.definitions.specs.Filter.Extract.{Matcher, extraction_by}
use Rattle.definitions.specs.Filter.Exchange.{exchange_frame, exchange_extraction}
use Rattle.definitions.specs.Meaning.Values.{Meaning}
use Rattle.definitions.specs.Meaning.Matchers.{Lawful}
use Rattle.definitions.specs.Filter.Conjuncts.{no_round, round_then, but, in_first, round, rounds, positions_of, conjuncts_by, exchange_pick, exchange_conjuncts}
use Rattle.theorems.proofs.ExtractExchange.{exchanged-by}

module _ {match : Matcher} {Asks : Meaning → Type 0} (laws : Lawful match Asks) where
  abbrev Turned : ℕ → Type 0
  Turned n = (is : List ℕ) (R : Option Frame) → rounds match n is (map exchange_frame R) ≡ exchange_conjuncts (rounds match n is R)

  round-turned : (n : ℕ) → Turned n → (is : List ℕ) (F : Frame) (q : Option Extraction)
      → round (rounds match n) is (exchange_frame F) (map exchange_extraction q) ≡ exchange_conjuncts (round (rounds match n) is F q)
  unfolding round no_round round_then in_first exchange_pick exchange_extraction exchange_conjuncts
  round-turned n more is F none = refl
  round-turned n more is F (some X) = ap (round_then (in_first is (exchange_extraction X))) (more (but X.position is) X.remainder)

  rounds-turned : (n : ℕ) → Turned n
  unfolding rounds no_round exchange_conjuncts
  rounds-turned zero is R = refl
  rounds-turned (suc n) is none = refl
  rounds-turned (suc n) is (some F) =
      ap (round (rounds match n) is (exchange_frame F)) (exchanged-by laws F)
      ∙ round-turned n (rounds-turned n) is F (extraction_by match F)

  pub conjuncts-turned : (F : Frame) → conjuncts_by match (exchange_frame F) ≡ exchange_conjuncts (conjuncts_by match F)
  unfolding conjuncts_by exchange_frame
  conjuncts-turned F = rounds-turned (length (leaves F.expr)) (positions_of F) (some F)
