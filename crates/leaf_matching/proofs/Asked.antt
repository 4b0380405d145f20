-- Which kind of predicate a request asks for: a leaf has no match of another kind.
use Prim.Native.Nat.{ℕ}
use mathlib.Core.Path.{◌≡◌, refl, ap, ◌∙◌}
use mathlib.Core.Bool.{Bool, false}
use mathlib.Core.List.{List}
use mathlib.Core.Logic.{◌⊎◌, inl, inr, ⊎_elim}
use mathlib.Core.Option.{Option, none, some, some-ne-none}
use lib.Dec.{eqb}
use Rattle.definitions.specs.Words.Basics.{ascii, same_name}
use Rattle.definitions.specs.Words.Expression.{Relation, Expr, Exprs, nil, cons, call, Side, left, right, no_side, Record, Predicate, relation, distance, knn}
use Rattle.definitions.specs.Words.Leaves.{relation_named, Comparison, compares, no_comparison, distance_arguments}
use Rattle.definitions.specs.Filter.Match.{Request, ask_relation, ask_distance, ask_knn, ask_nothing, relation_request, dwithin_request, knn_literals, knn_request, knn_request_by, call_request, call_request_by, distance_request, comparison_request, request_by, Order, left_right, right_left, no_order, ArgumentSide, no_columns, all_on, mixed, match_relation, store_distance, match_distance, match_knn, match_request, match_leaf, match_leaf_by}
use Rattle.definitions.specs.Filter.Extract.{is_knn}
use Rattle.theorems.proofs.Requests.{by-test}
use Rattle.leaf_matching.specs.Matches.{is_relation, Lacks}

-- ---- requests and kinds

-- A kind of predicates, and the requests for it.
pub record Kind (kind : Predicate → Bool) (asks : Request → Bool) : Type 0 where
  pub of_relation : (type t : Relation) (a b l r : Expr) → kind (relation t l r) ≡ asks (ask_relation type a b)
  pub of_distance : (form : ℕ) (side : Side) (a b bound l r d : Expr) → kind (distance form side l r d) ≡ asks (ask_distance form a b bound)
  pub of_knn : (k spheroid ties : ℕ) (probe : Side) (a b l r : Expr)
      → kind (knn k spheroid probe ties l r) ≡ asks (ask_knn k spheroid ties a b)

module _ (kind : Predicate → Bool) (records : List Record) where
  relation-lacks : (type : Relation) (l r : Expr) (o : Order)
      → ((t : Relation) (l r : Expr) → kind (relation t l r) ≡ false) → Lacks kind (match_relation type l r o)
  unfolding match_relation
  relation-lacks type l r left_right f = f _ _ _
  relation-lacks type l r right_left f = f _ _ _
  relation-lacks type l r no_order f = tt

  stored-lacks : (form : ℕ) (side : Side) (l r bound : Expr) (o : Order)
      → ((side : Side) (l r d : Expr) → kind (distance form side l r d) ≡ false)
      → Lacks kind (store_distance form side l r bound o)
  unfolding store_distance
  stored-lacks form side l r bound left_right f = f _ _ _ _
  stored-lacks form side l r bound right_left f = f _ _ _ _
  stored-lacks form side l r bound no_order f = tt

  distance-lacks : (form : ℕ) (l r bound : Expr) (side : ArgumentSide) (o : Order)
      → ((side : Side) (l r d : Expr) → kind (distance form side l r d) ≡ false)
      → Lacks kind (match_distance records form l r bound side o)
  unfolding match_distance
  distance-lacks form l r bound no_columns o f = stored-lacks form _ l r _ o f
  distance-lacks form l r bound (all_on left) o f = stored-lacks form _ l r _ o f
  distance-lacks form l r bound (all_on right) o f = stored-lacks form _ l r _ o f
  distance-lacks form l r bound (all_on no_side) o f = tt
  distance-lacks form l r bound mixed o f = tt

  knn-lacks : (k spheroid ties : ℕ) (l r : Expr) (o : Order) → ((probe : Side) → kind (knn k spheroid probe ties l r) ≡ false)
      → Lacks kind (match_knn k spheroid ties l r o)
  unfolding match_knn
  knn-lacks k spheroid ties l r left_right f = f _
  knn-lacks k spheroid ties l r right_left f = f _
  knn-lacks k spheroid ties l r no_order f = tt

  -- A request that does not ask for the kind has no match of it.
  pub request-lacks : (asks : Request → Bool) → Kind kind asks → (q : Request) → asks q ≡ false → Lacks kind (match_request records q)
  unfolding match_request
  request-lacks asks agree (ask_relation type a b) e = relation-lacks type _ _ _ (λ t l r. agree.of_relation type t a b l r ∙ e)
  request-lacks asks agree (ask_distance form a b bound) e =
      distance-lacks form _ _ bound _ _ (λ side l r d. agree.of_distance form side a b bound l r d ∙ e)
  request-lacks asks agree (ask_knn k spheroid ties a b) e =
      knn-lacks k spheroid ties _ _ _ (λ probe. agree.of_knn k spheroid ties probe a b _ _ ∙ e)
  request-lacks asks agree ask_nothing e = tt

-- No match at all is no match of any kind.
pub none-lacks : (kind : Predicate → Bool) (match : Option Predicate) → match ≡ none → Lacks kind match
none-lacks kind none e = tt
none-lacks kind (some q) e = absurd (some-ne-none q e)

-- ---- what functions ask for

-- A relation 1, a distance 2, KNN 3, nothing 0.
unfoldable pub request_kind : Request → ℕ
request_kind (ask_relation type a b) = 1
request_kind (ask_distance form a b bound) = 2
request_kind (ask_knn k spheroid ties a b) = 3
request_kind ask_nothing = 0

asks : ℕ → Request → Bool
asks kind q = eqb (request_kind q) kind

-- A request of one kind, or for nothing.
abbrev pub Only : ℕ → Request → Type 0
Only kind q = (request_kind q ≡ kind) ⊎ (request_kind q ≡ 0)

relation-only : (type : Option Relation) (ts : Exprs) → Only 1 (relation_request type ts)
unfolding request_kind relation_request
relation-only none ts = inr refl
relation-only (some type) nil = inr refl
relation-only (some type) (cons a nil) = inr refl
relation-only (some type) (cons a (cons b ts)) = inl refl

dwithin-only : (ts : Exprs) → Only 2 (dwithin_request ts)
unfolding request_kind dwithin_request
dwithin-only nil = inr refl
dwithin-only (cons a nil) = inr refl
dwithin-only (cons a (cons b nil)) = inr refl
dwithin-only (cons a (cons b (cons d ts))) = inl refl

distance-only : (form : ℕ) (bound : Expr) (ts : Option Exprs) → Only 2 (distance_request form bound ts)
unfolding request_kind distance_request
distance-only form bound none = inr refl
distance-only form bound (some nil) = inr refl
distance-only form bound (some (cons a nil)) = inr refl
distance-only form bound (some (cons a (cons b ts))) = inl refl

pub comparison-only : (form : ℕ) (k : Comparison) → Only 2 (comparison_request form k)
unfolding request_kind comparison_request
comparison-only form no_comparison = inr refl
comparison-only form (compares measured bound) = distance-only form bound (distance_arguments measured)

literals-only : (k spheroid ties : Option ℕ) (a b : Expr) → Only 3 (knn_literals k spheroid ties a b)
unfolding request_kind knn_literals
literals-only none spheroid ties a b = inr refl
literals-only (some k) none ties a b = inr refl
literals-only (some k) (some s) none a b = inr refl
literals-only (some k) (some s) (some t) a b = inl refl

knn-only : (ts : Exprs) → Only 3 (knn_request ts)
unfolding request_kind knn_request_by
knn-only nil = inr refl
knn-only (cons a nil) = inr refl
knn-only (cons a (cons b nil)) = inl refl
knn-only (cons a (cons b (cons k nil))) = literals-only _ _ _ a b
knn-only (cons a (cons b (cons k (cons s nil)))) = literals-only _ _ _ a b
knn-only (cons a (cons b (cons k (cons s (cons t nil))))) = literals-only _ _ _ a b
knn-only (cons a (cons b (cons k (cons s (cons t (cons x ts)))))) = inr refl

-- It asks for no other kind.
not-asked : (own kind : ℕ) → eqb own kind ≡ false → eqb 0 kind ≡ false → (q : Request) → Only own q → asks kind q ≡ false
unfolding asks
not-asked own kind e z q is = ⊎_elim (λ f. ap (λ (n : ℕ). eqb n kind) f ∙ e) (λ f. ap (λ (n : ℕ). eqb n kind) f ∙ z) is

knn-kind : Kind is_knn (asks 3)
unfolding is_knn asks request_kind
knn-kind =
    record { of_relation = λ _ _ _ _ _ _. refl; of_distance = λ _ _ _ _ _ _ _ _. refl; of_knn = λ _ _ _ _ _ _ _ _. refl }

relation-kind : Kind is_relation (asks 1)
unfolding is_relation asks request_kind
relation-kind =
    record { of_relation = λ _ _ _ _ _ _. refl; of_distance = λ _ _ _ _ _ _ _ _. refl; of_knn = λ _ _ _ _ _ _ _ _. refl }

-- A function of another name is no KNN, whatever the default k.
module _ (default_k : ℕ) (records : List Record) (name : List ℕ) (ts : Exprs) where
  pub other_name : same_name name (ascii "st_knn") ≡ false → Lacks is_knn (match_leaf_by default_k records (call name ts))
  unfolding match_leaf_by request_by call_request_by
  other_name e = request-lacks is_knn records (asks 3) knn-kind (call_request_by default_k name ts)
      (rw e (by-test (λ q. asks 3 q ≡ false) (same_name name (ascii "st_dwithin")) (dwithin_request ts)
      (relation_request (relation_named name) ts)
      (λ _. not-asked 2 3 refl refl _ (dwithin-only ts)) (λ _. not-asked 1 3 refl refl _ (relation-only (relation_named name) ts))))

module _ (records : List Record) (name : List ℕ) (ts : Exprs) where
  -- A function without a relation name is no relation.
  pub no-relation : relation_named name ≡ none → Lacks is_relation (match_leaf records (call name ts))
  unfolding match_leaf_by request_by call_request_by asks request_kind relation_request
  no-relation e = request-lacks is_relation records (asks 1) relation-kind (call_request name ts)
      (by-test (λ q. asks 1 q ≡ false) (same_name name (ascii "st_knn")) (knn_request ts) _
      (λ _. not-asked 3 1 refl refl (knn_request ts) (knn-only ts))
      (λ _. by-test (λ q. asks 1 q ≡ false) (same_name name (ascii "st_dwithin")) (dwithin_request ts)
      (relation_request (relation_named name) ts)
      (λ _. not-asked 2 1 refl refl (dwithin_request ts) (dwithin-only ts)) (λ _. rw e)))

-- A leaf that asks for a distance or for nothing is neither.
pub only-distance : (default_k : ℕ) (records : List Record) (t : Expr) → Only 2 (request_by default_k t)
    → Lacks is_knn (match_leaf_by default_k records t) × Lacks is_relation (match_leaf_by default_k records t)
unfolding match_leaf_by
only-distance d records t is = (
  request-lacks is_knn records (asks 3) knn-kind (request_by d t) (not-asked 2 3 refl refl (request_by d t) is),
  request-lacks is_relation records (asks 1) relation-kind (request_by d t) (not-asked 2 1 refl refl (request_by d t) is),
)
