-- What matching a leaf answers.
use Rattle.std.specs.Prelude.{ℕ, ◌≡◌, Bool, true, false, List, Result, Ok, Err}
use Rattle.std.proofs.Math.Option.{Option, none, some}
use Rattle.definitions.specs.Words.Expression.{Expr, Exprs, call, Record, Predicate, relation, distance, knn}
use Rattle.definitions.specs.Filter.Match.{match_leaf_by}
use Rattle.definitions.specs.Filter.Settings.{Settings, allowed, passing}
use Rattle.sedona_query_planner.specs.Predicates.{Change, on_children, PredicateAt}
use Rattle.sedona_query_planner.specs.declared.spatial_predicate.SpatialPredicate.{SpatialPredicate}
use Rattle.leaf_matching.specs.declared.matching.NoMatch.{NoMatch}
use Rattle.leaf_matching.specs.declared.matching.NoMatch.TheVariants.{Unmatched, NotAsked}

-- ---- kinds of predicates

unfoldable pub is_relation : Predicate → Bool
is_relation (relation type l r) = true
is_relation (distance form side l r bound) = false
is_relation (knn k spheroid probe ties l r) = false

unfoldable pub is_distance : Predicate → Bool
is_distance (relation type l r) = false
is_distance (distance form side l r bound) = true
is_distance (knn k spheroid probe ties l r) = false

-- A leaf's match, if it has one, is of another kind.
abbrev pub Lacks : (kind : Predicate → Bool) → Option Predicate → Type 0
Lacks kind none = Unit {0}
Lacks kind (some q) = kind q ≡ false

-- A leaf's match is of this kind, and is what p says.
pub record Matches (kind : Predicate → Bool) (s : List ℕ) (records : List Record) (p : SpatialPredicate)
    (match : Option Predicate) : Type 0 where
  pub q : Predicate
  pub is : match ≡ some q
  pub passes : kind q ≡ true
  pub stands : PredicateAt (on_children records) s p q

-- What is answered: a predicate, or why there is none.
abbrev pub Matching : Type 0
Matching = Result SpatialPredicate NoMatch

-- The answer for a leaf with this match.
abbrev pub MatchingIs : (kind : Predicate → Bool) (s : List ℕ) (records : List Record) (match : Option Predicate)
    → Matching → Type 0
MatchingIs kind s records match (Ok p) = Matches kind s records p match
MatchingIs kind s records match (Err Unmatched) = match ≡ none
MatchingIs kind s records match (Err NotAsked) = Lacks kind match

-- The answer for a leaf, and for one that is a function, with this default k.
abbrev pub LeafMatchingBy : (default_k : ℕ) (kind : Predicate → Bool) (s : List ℕ) → Matching
    → (records : List Record) (leaf : Expr) → Type 0
LeafMatchingBy default_k kind s r records leaf = MatchingIs kind s records (match_leaf_by default_k records leaf) r

abbrev pub CallMatchingBy : (default_k : ℕ) (kind : Predicate → Bool) (s : List ℕ) → Matching
    → (records : List Record) (name : List ℕ) (arguments : Exprs) → Type 0
CallMatchingBy default_k kind s r records name arguments = LeafMatchingBy default_k kind s r records (call name arguments)

-- With 1: a relation and a distance are the same with any (`Defaults`).
abbrev pub LeafMatching : (kind : Predicate → Bool) (s : List ℕ) → Matching → (records : List Record) (leaf : Expr) → Type 0
LeafMatching = LeafMatchingBy 1

abbrev pub CallMatching : (kind : Predicate → Bool) (s : List ℕ) → Matching
    → (records : List Record) (name : List ℕ) (arguments : Exprs) → Type 0
CallMatching = CallMatchingBy 1

-- ---- the answer under settings

-- Whether what stands for p is allowed.
abbrev pub AllowedIs : Settings → SpatialPredicate → Bool → Type 0
AllowedIs S p r = (change : Change) (s : List ℕ) (q : Predicate) → PredicateAt change s p q → r ≡ allowed S q

-- Whatever a leaf's match, r says of what of it is left under the settings what m says of it.
abbrev pub Allows : Settings → (m r : Matching) → Type 0
Allows S m r =
    (kind : Predicate → Bool) (s : List ℕ) (records : List Record) (match : Option Predicate)
    → MatchingIs kind s records match m → MatchingIs kind s records (passing (allowed S) match) r
