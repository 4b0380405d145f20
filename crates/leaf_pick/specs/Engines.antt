-- Two engines that pick by the same contract.
use Rattle.std.specs.Prelude.{ℕ, ◌≡◌, List, Option, Some, None}
use Rattle.definitions.specs.Words.Expression.{Expr, Record, Predicate}
use Rattle.definitions.specs.Filter.Extract.{Matcher}
use Rattle.sedona_query_planner.specs.Predicates.{on_children, PredicateAt}
use Rattle.leaf_pick.specs.Picks.{PickedIs}
use Rattle.leaf_pick.specs.declared.first_match.Pick.{Pick}

-- Both took the AND-leaf at one position, cut out at one place, and both predicates stand for one of the definitions.
pub record SameLeaf (s : List ℕ) (p q : Pick) (records : List Record) : Type 0 where
  pub position : p.position ≡ q.position
  pub cut : p.cut ≡ q.cut
  pub predicate : Predicate
  pub one : PredicateAt (on_children records) s p.predicate predicate
  pub other : PredicateAt (on_children records) s q.predicate predicate

-- Both took that leaf, or both took none.
abbrev pub Alike : (s : List ℕ) → Option Pick → Option Pick → List Record → Type 0
Alike s (Some p) (Some q) records = SameLeaf s p q records
Alike s (Some p) None records = ⊥
Alike s None (Some q) records = ⊥
Alike s None None records = Unit {0}

-- Whatever two engines answer by `PickedIs`, which the two passes and the one walk both ensure, they answer alike.
abbrev pub EnginesAgree : Type 0
EnginesAgree =
    (match : Matcher) (s : List ℕ) (at : ℕ) (a b : Option Pick) (records : List Record) (t : Expr) → PickedIs match s at a records t
    → PickedIs match s at b records t → Alike s a b records
