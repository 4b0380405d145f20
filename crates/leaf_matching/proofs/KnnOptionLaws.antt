-- What each return of `knn_flags` and `knn_options` answers, and what their calls require.
use Rattle.std.specs.Prelude.{Some, None}
use Prim.Native.Nat.{ℕ, ◌+◌, ◌-◌, ◌≤◌}
use native.Mathlib.Omega.{arith}
use mathlib.Core.Path.{◌≡◌, refl, sym, ap, ap₂, ◌∙◌}
use mathlib.Core.Bool.{Bool, false}
use mathlib.Core.List.{List}
use mathlib.Core.Option.{Option, none, some}
use lib.ListN.{length}
use Rattle.definitions.specs.Words.Expression.{Expr, Exprs, nil, cons, count}
use Rattle.definitions.specs.Bytes.Encode.{expr_bytes}
use Rattle.definitions.specs.Bytes.Decode.{Columns}
use Rattle.definitions.specs.Filter.Match.{literal_k, literal_bool, ask_nothing, knn_literals, knn_request_by}
use Rattle.expression.specs.Nodes.{Row, OfTree, OfTrees}
use Rattle.expression.proofs.Standing.{first-stands, rest-stands, no-children, some-children}
use Rattle.expression.proofs.Standing.{two-of}
use Rattle.leaf_matching.proofs.LiteralLaws.{k-ten, flag-ten}
use Rattle.sedona_query_planner.specs.Predicates.{flag}
use Rattle.leaf_matching.specs.KnnOptions.{spheroid_of, ties_of, FlagsAre, OptionsAre}
use Rattle.leaf_matching.specs.declared.knn.KnnFlags.{KnnFlags}
use Rattle.leaf_matching.specs.declared.knn.KnnOptions.{KnnOptions}

-- ---- rows by their length

one-child : (P : Exprs → Type 0) → ((t : Expr) → P (cons t nil)) → (ts : Exprs) → count ts ≡ 1 → P ts
unfolding count
one-child P f nil e = absurd (omega arith)
one-child P f (cons t nil) e = f t
one-child P f (cons t (cons u ts)) e = absurd (omega arith)

-- ---- what a missing flag or k leaves

no-spheroid : (k ties : Option ℕ) (a b : Expr) → knn_literals k none ties a b ≡ ask_nothing
unfolding knn_literals
no-spheroid none ties a b = refl
no-spheroid (some k) ties a b = refl

no-ties : (k spheroid : Option ℕ) (a b : Expr) → knn_literals k spheroid none a b ≡ ask_nothing
unfolding knn_literals
no-ties none spheroid a b = refl
no-ties (some k) none a b = refl
no-ties (some k) (some s) a b = refl

-- After the geometries stand k and at most two flags.
request-is : (d : ℕ) (a b k : Expr) (ts : Exprs) → count ts ≤ 2
    → knn_request_by d (cons a (cons b (cons k ts))) ≡ knn_literals (literal_k k) (spheroid_of ts) (ties_of ts) a b
unfolding knn_request_by count
request-is d a b k nil h = refl
request-is d a b k (cons s nil) h = refl
request-is d a b k (cons s (cons t nil)) h = refl
request-is d a b k (cons s (cons t (cons u ts))) h = absurd (omega arith)

-- ---- the answers

-- The options without k and flags.
abbrev default_options : (d : ℕ) → KnnOptions
default_options d = record { k = d; flags = record { use_spheroid = false; include_tie_breakers = None } }

module _ {s : List ℕ} {at n : ℕ} where
  pub flags-none : n ≡ 0 → OfTrees s at n (FlagsAre (Some (record { use_spheroid = false; include_tie_breakers = None })))
  flags-none e c ts row =
      no-children (FlagsAre (Some (record { use_spheroid = false; include_tie_breakers = None }))) (refl, refl) ts (row.counted ∙ e)

  module _ (some_left : n ≡ 0 → ⊥) where
    pub flags-unread : OfTree s at (λ t. none ≡ literal_bool t) → OfTrees s at n (FlagsAre None)
    flags-unread is c ts row = some-children (λ ts. Row c s at n ts → FlagsAre None ts)
        (λ t ts w k a b. ap (λ (x : Option ℕ). knn_literals k x (ties_of (cons t ts)) a b) (sym (is c t (first-stands w)))
        ∙ no-spheroid k _ a b)
        ts (omega (arith, row.counted)) row

    module _ (spheroid : Bool) (is : OfTree s at (λ t. some (flag spheroid) ≡ literal_bool t)) where
      -- The next literal stands ten bytes on.
      pub flag-next : OfTree s at (λ t. at + 10 ≡ at + length (expr_bytes t))
      flag-next c t st = ap (λ (k : ℕ). at + k) (sym (flag-ten t (flag spheroid) (is c t st)))

      pub flags-one : n ≡ 1 → OfTrees s at n (FlagsAre (Some (record { use_spheroid = spheroid; include_tie_breakers = None })))
      flags-one k c ts row = one-child
          (λ ts. Row c s at n ts → FlagsAre (Some (record { use_spheroid = spheroid; include_tie_breakers = None })) ts)
          (λ t w. (sym (is c t (first-stands w)), refl)) ts (row.counted ∙ k) row

      module _ (more_left : n ≡ 1 → ⊥) where
        second_is : {x : Option ℕ} → OfTree s (at + 10) (λ t. x ≡ literal_bool t) → (c : Columns) (t u : Expr) (ts : Exprs)
            → Row c s at n (cons t (cons u ts)) → x ≡ literal_bool u
        second_is next c t u ts w =
            next c u (first-stands (rest-stands w (at + 10) (n - 1) (flag-next c t (first-stands w)) (omega arith)))

        pub ties-unread : OfTree s (at + 10) (λ t. none ≡ literal_bool t) → OfTrees s at n (FlagsAre None)
        ties-unread next c ts row = two-of (λ ts. Row c s at n ts → FlagsAre None ts)
            (λ t u ts w k a b. ap (λ (x : Option ℕ). knn_literals k (literal_bool t) x a b) (sym (second_is next c t u ts w))
            ∙ no-ties k _ a b)
            ts (omega (arith, row.counted)) row

        pub flags-two : (ties : Bool) → OfTree s (at + 10) (λ t. some (flag ties) ≡ literal_bool t)
            → OfTrees s at n (FlagsAre (Some (record { use_spheroid = spheroid; include_tie_breakers = Some ties })))
        flags-two ties next c ts row = two-of
            (λ ts. Row c s at n ts → FlagsAre (Some (record { use_spheroid = spheroid; include_tie_breakers = Some ties })) ts)
            (λ t u ts w. (sym (is c t (first-stands w)), sym (second_is next c t u ts w)))
            ts (omega (arith, row.counted)) row

  pub options-none : (d : ℕ) → n ≡ 0 → OfTrees s at n (OptionsAre d (Some (default_options d)))
  unfolding knn_request_by
  options-none d e c ts row = no-children (OptionsAre d (Some (default_options d))) (λ a b. refl) ts (row.counted ∙ e)

  module _ (d : ℕ) (some_left : n ≡ 0 → ⊥) (few : n ≤ 3) where
    pub k-unread : OfTree s at (λ t. none ≡ literal_k t) → OfTrees s at n (OptionsAre d None)
    unfolding count knn_literals
    k-unread is c ts row = some-children (λ ts. Row c s at n ts → OptionsAre d None ts)
        (λ t ts w a b. request-is d a b t ts (omega (arith, w.counted))
        ∙ ap (λ (x : Option ℕ). knn_literals x (spheroid_of ts) (ties_of ts) a b) (sym (is c t (first-stands w))))
        ts (omega (arith, row.counted)) row

    module _ (k : ℕ) (is : OfTree s at (λ t. some k ≡ literal_k t)) where
      pub k-next : OfTree s at (λ t. at + 10 ≡ at + length (expr_bytes t))
      k-next c t st = ap (λ (m : ℕ). at + m) (sym (k-ten t k (is c t st)))

      -- With k known, the request is that of the flags, which stand after it.
      with-flags : (c : Columns) (t : Expr) (ts : Exprs) → Row c s at n (cons t ts) → (a b : Expr)
          → knn_request_by d (cons a (cons b (cons t ts))) ≡ knn_literals (some k) (spheroid_of ts) (ties_of ts) a b
      unfolding count
      with-flags c t ts w a b = request-is d a b t ts (omega (arith, w.counted))
          ∙ ap (λ (x : Option ℕ). knn_literals x (spheroid_of ts) (ties_of ts) a b) (sym (is c t (first-stands w)))

      after-k : (c : Columns) (t : Expr) (ts : Exprs) → Row c s at n (cons t ts) → Row c s (at + 10) (n - 1) ts
      after-k c t ts w = rest-stands w (at + 10) (n - 1) (k-next c t (first-stands w)) (omega arith)

      pub options-unread : OfTrees s (at + 10) (n - 1) (FlagsAre None) → OfTrees s at n (OptionsAre d None)
      options-unread rest c ts row = some-children (λ ts. Row c s at n ts → OptionsAre d None ts)
          (λ t ts w a b. with-flags c t ts w a b ∙ rest c ts (after-k c t ts w) (some k) a b)
          ts (omega (arith, row.counted)) row

      pub options-read : (flags : KnnFlags) → OfTrees s (at + 10) (n - 1) (FlagsAre (Some flags))
          → OfTrees s at n (OptionsAre d (Some (record { k = k; flags = flags })))
      unfolding knn_literals
      options-read flags rest c ts row = some-children (λ ts. Row c s at n ts → OptionsAre d (Some (record { k = k; flags = flags })) ts)
          (λ t ts w a b.
          let both = rest c ts (after-k c t ts w) in
          with-flags c t ts w a b ∙ ap₂ (λ (x y : Option ℕ). knn_literals (some k) x y a b) both.0 both.1)
          ts (omega (arith, row.counted)) row
