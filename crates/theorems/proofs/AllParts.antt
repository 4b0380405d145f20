-- The matches of an And's sides, one after the other: for a walk that lists them.
use Rattle.std.specs.Prelude.{if◌then◌else◌}
use Prim.Native.Nat.{ℕ, suc, ◌+◌}
use native.Mathlib.Omega.{arith}
use mathlib.Core.Path.{◌≡◌, refl, ap, ◌∙◌}
use mathlib.Core.Bool.{Bool, true, false}
use mathlib.Core.List.{List, [], ◌∷◌, ◌++◌}
use mathlib.Core.Option.{none, some}
use lib.ListN.{length}
use Rattle.definitions.specs.Words.Expression.{Predicate}
use Rattle.definitions.specs.Filter.Extract.{Pick}
use Rattle.definitions.specs.Filter.Conjuncts.{positions_from, matching, match_count}
use Rattle.definitions.specs.Calls.ExtractAll.{picks_bytes}
use Rattle.theorems.proofs.AllPicks.{Matches}
use Rattle.theorems.proofs.AllConjuncts.{picks-append}

-- The matches that pass a test, the first leaf having this position.
abbrev pub matching_from : (Predicate → Bool) → (position : ℕ) → Matches → List Pick
matching_from test p ms = matching test (positions_from p (length ms)) ms

choose : (b : Bool) (q : Pick) (xs ys : List Pick) → (if b then q ∷ (xs ++ ys) else xs ++ ys) ≡ (if b then q ∷ xs else xs) ++ ys
choose true q xs ys = refl
choose false q xs ys = refl

pub matching-append : (test : Predicate → Bool) (p q : ℕ) (ms ns : Matches) → q ≡ p + length ms
    → matching_from test p (ms ++ ns) ≡ matching_from test p ms ++ matching_from test q ns
unfolding matching positions_from
matching-append test p q [] ns e = ap (λ (k : ℕ). matching_from test k ns) (omega arith)
matching-append test p q (none ∷ ms) ns e = matching-append test (suc p) q ms ns (omega arith)
matching-append test p q (some m ∷ ms) ns e =
    ap (λ (l : List Pick). if test m then record { position = p; predicate = m } ∷ l else l)
    (matching-append test (suc p) q ms ns (omega arith))
    ∙ choose (test m) (record { position = p; predicate = m }) _ _

pub bytes-append : (test : Predicate → Bool) (p q : ℕ) (ms ns : Matches) → q ≡ p + length ms
    → picks_bytes (matching_from test p (ms ++ ns)) ≡ picks_bytes (matching_from test p ms) ++ picks_bytes (matching_from test q ns)
bytes-append test p q ms ns e = ap picks_bytes (matching-append test p q ms ns e)
    ∙ picks-append (matching_from test p ms) (matching_from test q ns)

pub count-append : (ms ns : Matches) → match_count (ms ++ ns) ≡ match_count ms + match_count ns
unfolding match_count
count-append [] ns = omega arith
count-append (none ∷ ms) ns = count-append ms ns
count-append (some p ∷ ms) ns = omega (arith, count-append ms ns)
