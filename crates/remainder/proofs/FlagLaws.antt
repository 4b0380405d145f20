-- Flags of which none was set are those of the columns that were marked.
use Rattle.std.specs.Prelude.{if◌then◌else◌}
use Prim.Native.Nat.{ℕ, zero, suc, ◌≤◌, ◌<◌}
use native.Mathlib.Omega.{arith}
use mathlib.Core.Path.{◌≡◌, refl, sym, ap, ◌∙◌}
use mathlib.Core.Bool.{Bool, true, false, ◌||◌}
use mathlib.Core.List.{List, [], ◌∷◌}
use lib.ListN.{length, get_or, set, replicate, length-set}
use lib.Seq.{get_or-set_same, get_or-set_other}
use lib.Dec.{ltb, eqb}
use borrow.Author.Tests.{ltb-true, eqb-true, eqb-false, eq-eqb}
use Rattle.definitions.specs.Words.Basics.{any}
use Rattle.definitions.specs.Words.Expression.{Expr}
use Rattle.definitions.specs.Words.References.{columns_of}
use Rattle.definitions.specs.Filter.Extract.{holds}
use Rattle.definitions.specs.Bytes.Good.{All}
use Rattle.theorems.proofs.ExtractGood.{found}
use Rattle.remainder.specs.References.{marked}
use Rattle.remainder.specs.Records.{Flags}
use Rattle.remainder.specs.HeldIndexes.{Unmarked, Marks}

-- ---- what marking makes of a flag

same-choice : (b : Bool) → ◌≡◌ {A = ℕ} (if b then 1 else 1) 1
same-choice true = refl
same-choice false = refl

-- One column was marked first.
marked-first : (c i : ℕ) (flags : List ℕ) (x b : Bool) → eqb c i ≡ b → i < length flags
    → (if x then 1 else get_or (set flags c 1) i 0) ≡ (if b || x then 1 else get_or flags i 0)
marked-first c i flags x true same h =
    ap (λ (n : ℕ). if x then 1 else n) (ap (λ (k : ℕ). get_or (set flags k 1) i 0) (eqb-true c i same) ∙ get_or-set_same flags i 1 0 h)
    ∙ same-choice x
marked-first c i flags x false apart h =
    ap (λ (n : ℕ). if x then 1 else n) (get_or-set_other flags c i 1 0 (λ k. eqb-false c i apart (sym k)))

marked-at : (columns flags : List ℕ) (i : ℕ) → i < length flags
    → get_or (marked columns flags) i 0 ≡ (if any (λ c. eqb c i) columns then 1 else get_or flags i 0)
unfolding marked any
marked-at [] flags i h = refl
marked-at (c ∷ columns) flags i h =
    marked-at columns (set flags c 1) i (simp length-set h) ∙ marked-first c i flags (any (λ k. eqb k i) columns) (eqb c i) refl h

marked-length : (columns flags : List ℕ) → length (marked columns flags) ≡ length flags
unfolding marked
marked-length [] flags = refl
marked-length (c ∷ columns) flags = marked-length columns (set flags c 1) ∙ simp length-set

pub held-marks : (e : Expr) (flags : List ℕ) → Unmarked flags → Marks e (marked (columns_of e) flags)
unfolding holds
held-marks e flags clear i h =
    marked-at (columns_of e) flags i (omega (arith, h, marked-length (columns_of e) flags))
    ∙ ap (λ (n : ℕ). if any (λ c. eqb c i) (columns_of e) then 1 else n) (clear i)

-- ---- flags that are those of an expression mark its columns, and no other

set-held : (b : Bool) → ◌≡◌ {A = ℕ} (if b then 1 else 0) 1 → b ≡ true
set-held true e = refl
set-held false e = absurd (omega (arith, e))

each-held : (e : Expr) (flags : List ℕ) (count : ℕ) → Marks e flags → count ≤ length flags → (columns : List ℕ)
    → All (λ i. ltb i count ≡ true) columns
    → All (λ i. holds e i ≡ true) columns
    → All (λ i. (i < count) × (get_or flags i 0 ≡ 1)) columns
each-held e flags count marks room [] below held = tt
each-held e flags count marks room (c ∷ columns) below held =
    let less : c < count = ltb-true c count below.0 in (
      (less, marks c (omega arith) ∙ ap (λ (b : Bool). if b then 1 else 0) held.0),
      each-held e flags count marks room columns below.1 held.1,
    )

pub held-flags : (e : Expr) (flags : List ℕ) (count : ℕ) → Marks e flags → count ≤ length flags
    → All (λ i. ltb i count ≡ true) (columns_of e)
    → Flags (columns_of e) flags count
unfolding holds
held-flags e flags count marks room below = record {
  held = each-held e flags count marks room (columns_of e) below
      (found (λ j i. eqb j i) (λ i. eq-eqb i i refl) (columns_of e) (columns_of e) (λ i h. h));
  only = λ i h k. set-held (holds e i) (sym (marks i (omega arith)) ∙ k);
}

pub no_flag : (n : ℕ) → Unmarked (replicate n 0)
no_flag zero i = refl
no_flag (suc n) zero = refl
no_flag (suc n) (suc i) = no_flag n i
