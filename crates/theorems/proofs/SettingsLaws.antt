-- Matching under settings obeys the laws of a matcher, and with the default settings it is 01's.
use Rattle.std.specs.Prelude.{if◌then◌else◌}
use Prim.Native.Nat.{ℕ, ◌≤◌}
use native.Mathlib.Omega.{arith}
use mathlib.Core.Path.{◌≡◌, refl, ap, ◌∙◌, fun_ext}
use mathlib.Core.Bool.{Bool, true}
use mathlib.Core.List.{List}
use mathlib.Core.Option.{Option, none, some}
use lib.Dec.{leb}
use borrow.Author.Tests.{leb-true, le-leb, ltb-true}
use Rattle.definitions.specs.Words.Basics.{given◌then◌else◌, ascii, same_name}
use Rattle.definitions.specs.Words.Expression.{Relation, Expr, column, literal, and, binary, call, other, field, Exprs, nil, cons, Record, Predicate, relation, distance, knn}
use Rattle.definitions.specs.Words.Literals.{is_k}
use Rattle.definitions.specs.Words.Leaves.{relation_named, Comparison, compares, no_comparison, comparison, distance_arguments}
use Rattle.definitions.specs.Filter.Match.{literal_k, relation_request, dwithin_request, knn_literals, knn_request_by, call_request_by, distance_request, comparison_request, request_by, match_request, match_leaf_by, match_leaf}
use Rattle.definitions.specs.Filter.Exchange.{exchange_predicate}
use Rattle.definitions.specs.Meaning.Matchers.{Fits, Lawful}
use Rattle.definitions.specs.Filter.Settings.{Settings, good_settings, default_settings, has_bit, allowed, passing, only_if, match_under, GoodSettings}
use Rattle.definitions.specs.Meaning.Values.{FairUnder}
use Rattle.theorems.proofs.Tools.{by-test, and-both}
use Rattle.theorems.proofs.KLaws.{is-k, k-held}
use Rattle.theorems.proofs.Requests.{K, k-range}
use Rattle.theorems.proofs.KnnLeaves.{Asked, Matched, request-matched}
use Rattle.theorems.proofs.OnlyIf.{passing-is, passing-turned}
use Rattle.theorems.proofs.MatchTurns.{match-turns}
use Rattle.theorems.proofs.MatchFits.{match-fits}
use Rattle.theorems.proofs.MatchMeans.{leaf-match}
use Rattle.theorems.proofs.Moved.{leaf-moved}

-- ---- good settings

-- A good default k is a k.
pub default-is-k : (S : Settings) → GoodSettings S → is_k S.default_k ≡ true
unfolding good_settings
default-is-k S g =
    let a : (leb 1 S.kinds ≡ true) × _ = and-both (leb 1 S.kinds) _ g.good in
    let b : (leb S.kinds 7 ≡ true) × _ = and-both (leb S.kinds 7) _ a.1 in
    let c : (leb 1 S.default_k ≡ true) × (leb S.default_k S.greatest_k ≡ true) = and-both (leb 1 S.default_k) _ b.1 in
    let least : 1 ≤ S.default_k = leb-true 1 S.default_k c.0 in
    let most : S.default_k ≤ S.greatest_k = leb-true S.default_k S.greatest_k c.1 in
    is-k S.default_k (λ zero. omega arith) (omega (arith, g.width))

-- ---- the laws

allowed-turned : (S : Settings) (p : Predicate) → allowed S (exchange_predicate p) ≡ allowed S p
unfolding allowed exchange_predicate
allowed-turned S (relation type l r) = refl
allowed-turned S (distance form side l r bound) = refl
allowed-turned S (knn k spheroid probe ties l r) = refl

pub settings-laws : (S : Settings) → GoodSettings S → Lawful (match_under S) (FairUnder S)
unfolding match_under only_if
settings-laws S g =
    let d : ℕ = S.default_k in
    let is : is_k d ≡ true = default-is-k S g in
    record {
      turns = λ rs e. ap (passing (allowed S)) (match-turns d rs e) ∙ passing-turned (allowed S) (allowed-turned S) (match_leaf_by d rs e);
      fits = λ rs e rr h. passing-is (allowed S) (Fits _ _) tt (match_leaf_by d rs e) (match-fits d is rs e rr h);
      means = λ M v rs e fair. leaf-match d (allowed S) M fair v rs e;
      moves = λ rs rs' f b kept e r. ap (passing (allowed S)) (leaf-moved rs rs' f b kept d is e r);
    }

-- ---- the default settings

-- What is asked for as KNN has a k.
abbrev IsK : (k spheroid ties : ℕ) → Type 0
IsK k spheroid ties = is_k k ≡ true

literals-k : (k s t : Option ℕ) (a b : Expr) → K k → Asked IsK (knn_literals k s t a b)
unfolding knn_literals
literals-k none s t a b h = tt
literals-k (some k) none t a b h = tt
literals-k (some k) (some s) none a b h = tt
literals-k (some k) (some s) (some t) a b h = h

module _ (d : ℕ) (is : is_k d ≡ true) where
  knn-k : (es : Exprs) → Asked IsK (knn_request_by d es)
  unfolding knn_request_by
  knn-k nil = tt
  knn-k (cons a nil) = tt
  knn-k (cons a (cons b nil)) = is
  knn-k (cons a (cons b (cons k nil))) = literals-k (literal_k k) _ _ a b (k-range k)
  knn-k (cons a (cons b (cons k (cons s nil)))) = literals-k (literal_k k) _ _ a b (k-range k)
  knn-k (cons a (cons b (cons k (cons s (cons t nil))))) = literals-k (literal_k k) _ _ a b (k-range k)
  knn-k (cons a (cons b (cons k (cons s (cons t (cons x more)))))) = tt

  dwithin-k : (es : Exprs) → Asked IsK (dwithin_request es)
  unfolding dwithin_request
  dwithin-k nil = tt
  dwithin-k (cons a nil) = tt
  dwithin-k (cons a (cons b nil)) = tt
  dwithin-k (cons a (cons b (cons c more))) = tt

  relation-k : (t : Option Relation) (es : Exprs) → Asked IsK (relation_request t es)
  unfolding relation_request
  relation-k none es = tt
  relation-k (some t) nil = tt
  relation-k (some t) (cons a nil) = tt
  relation-k (some t) (cons a (cons b more)) = tt

  call-k : (name : List ℕ) (es : Exprs) → Asked IsK (call_request_by d name es)
  unfolding call_request_by
  call-k name es =
      by-test (Asked IsK) (same_name name (ascii "st_knn")) (knn_request_by d es) _ (λ _. knn-k es)
      (λ _. by-test (Asked IsK) (same_name name (ascii "st_dwithin")) (dwithin_request es) _ (λ _. dwithin-k es)
      (λ _. relation-k (relation_named name) es))

  distance-k : (form : ℕ) (bound : Expr) (x : Option Exprs) → Asked IsK (distance_request form bound x)
  unfolding distance_request
  distance-k form bound none = tt
  distance-k form bound (some nil) = tt
  distance-k form bound (some (cons a nil)) = tt
  distance-k form bound (some (cons a (cons b more))) = tt

  compared-k : (form : ℕ) (c : Comparison) → Asked IsK (comparison_request form c)
  unfolding comparison_request
  compared-k form no_comparison = tt
  compared-k form (compares measured bound) = distance-k form bound (distance_arguments measured)

  request-k : (e : Expr) → Asked IsK (request_by d e)
  unfolding request_by
  request-k (column i t) = tt
  request-k (literal type v) = tt
  request-k (and l r) = tt
  request-k (binary o l r) = compared-k o (comparison o l r)
  request-k (call name es) = call-k name es
  request-k (other tag es) = tt
  request-k (field b t) = tt

-- A match with a k passes the default settings.
passes-default : (m : Option Predicate) → Matched IsK m → passing (allowed default_settings) m ≡ m
unfolding passing allowed default_settings has_bit
passes-default none h = refl
passes-default (some (relation type l r)) h = refl
passes-default (some (distance form side l r bound)) h = refl
passes-default (some (knn k spheroid probe ties l r)) h =
    ap (λ (b : Bool). if b then some (knn k spheroid probe ties l r) else none) (le-leb k 4294967295 (omega (arith, k-held k h)))

pub default-match : match_under default_settings ≡ match_leaf
unfolding match_under only_if match_leaf_by default_settings
default-match =
    fun_ext (λ (rs : List Record). fun_ext (λ (e : Expr).
    passes-default (match_request rs (request_by 1 e)) (request-matched IsK rs (request_by 1 e) (request-k 1 (unfold is_k in refl) e))))

pub default-good : GoodSettings default_settings
unfolding good_settings default_settings
default-good = record { good = refl; width = ltb-true 4294967295 4294967296 refl }
