-- Pruning by held indexes: some column's record passes exactly when one of a held index does.
use Prim.Native.Nat.{ℕ}
use mathlib.Core.Path.{◌≡◌, refl, ap, ◌∙◌}
use mathlib.Core.Bool.{Bool, true, false, ◌||◌, false≢true, or-true}
use mathlib.Core.List.{List, [], ◌∷◌}
use lib.Dec.{eqb}
use borrow.Author.Tests.{eqb-true, eq-eqb}
use Rattle.definitions.specs.Words.Basics.{any}
use Rattle.definitions.specs.Words.References.{columns_of, record_at}
use Rattle.definitions.specs.Filter.Extract.{same_column, referenced, prune, holds}
use Rattle.definitions.specs.Claims.Pruning.{KeptByHeldIndexes}

-- ---- a number that is among others, and passes

or-found : (test : ℕ → Bool) (i c : ℕ) {x y : Bool} (b : Bool) → eqb c i ≡ b → (x ≡ true → y ≡ true) → (b || x) ≡ true → test i ≡ true
    → (test c || y) ≡ true
or-found test i c {x} {y} true same up e f = ap (λ (b : Bool). b || y) (ap test (eqb-true c i same) ∙ f)
or-found test i c {x} {y} false same up e f = ap (λ (b : Bool). test c || b) (up e) ∙ or-true (test c)

pub any_found : (test : ℕ → Bool) (i : ℕ) (cs : List ℕ) → any (λ c. eqb c i) cs ≡ true → test i ≡ true → any test cs ≡ true
unfolding any
any_found test i [] e f = absurd (false≢true e)
any_found test i (c ∷ cs) e f = or-found test i c (eqb c i) refl (λ k. any_found test i cs k f) e f

-- Such a number.
abbrev Found : (test : ℕ → Bool) (cs : List ℕ) → Type 0
Found test cs = (i : ℕ) × (any (λ c. eqb c i) cs ≡ true) × (test i ≡ true)

or_some : (test : ℕ → Bool) (c : ℕ) (cs : List ℕ) (b : Bool) → test c ≡ b → (any test cs ≡ true → Found test cs)
    → (b || any test cs) ≡ true
    → Found test (c ∷ cs)
unfolding any
or_some test c cs true passes rest e = (c, ap (λ (b : Bool). b || any (λ k. eqb k c) cs) (eq-eqb c c refl), passes)
or_some test c cs false passes rest e =
    let found : Found test cs = rest e in
    (found.0, ap (λ (b : Bool). eqb c found.0 || b) found.1 ∙ or-true (eqb c found.0), found.2)

any_some : (test : ℕ → Bool) (cs : List ℕ) → any test cs ≡ true → Found test cs
unfolding any
any_some test [] e = absurd (false≢true e)
any_some test (c ∷ cs) e = or_some test c cs (test c) refl (any_some test cs) e

-- ---- the records that are kept

pub kept-by-held : KeptByHeldIndexes
unfolding prune referenced holds
kept-by-held records e = (
  referenced records e,
  λ r. (
    λ k. any_some (λ index. same_column (record_at records index) r) (columns_of e) k,
    λ h. any_found (λ index. same_column (record_at records index) r) h.0 (columns_of e) h.1 h.2,
  ),
  refl,
  refl,
)
