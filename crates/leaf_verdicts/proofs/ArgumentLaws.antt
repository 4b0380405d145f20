-- What two geometries and what follows them make of the arguments of a leaf, since these stand in a row.
use Rattle.std.specs.Prelude.{Option, Some, None}
use Prim.Native.Nat.{ℕ, ◌+◌, ◌-◌, ◌<◌, ◌≤◌}
use native.Mathlib.Omega.{arith}
use mathlib.Core.Path.{◌≡◌, refl, sym, ◌∙◌, subst}
use mathlib.Core.Bool.{false}
use mathlib.Core.List.{List}
use lib.ListN.{length}
use Rattle.definitions.specs.Words.Expression.{Expr, Exprs, nil, cons, count, Record}
use Rattle.definitions.specs.Bytes.Encode.{expr_bytes}
use Rattle.definitions.specs.Bytes.Decode.{index_below}
use Rattle.definitions.specs.Filter.Verdicts.{Verdict, as_relation, too_few_arguments, too_many_arguments, with_bound, argument_is, has_argument, sides_of}
use Rattle.expression.specs.Nodes.{Row, Trees}
use Rattle.expression.proofs.Standing.{some-children}
use Rattle.expression.proofs.Standing.{two-of}
use Rattle.definitions.specs.Bytes.Good.{nodes}
use Rattle.node_table.specs.declared.NodeRecord.{NodeRecord as Lent}
use Rattle.filter_tree.specs.Trees.{OfNode}
use Rattle.filter_tree.proofs.Children.{noded-rest}
use Rattle.leaf_matching.proofs.Framing.{rest_over}
use Rattle.leaf_verdicts.specs.Laid.{Laid, LaidAll, AtIndex, RowAt, OfRow, OfTwoAt}
use Rattle.leaf_verdicts.proofs.LaidLaws.{first-laid, first-at}
use Rattle.leaf_verdicts.specs.declared.geometries.GeometriesVerdict.{GeometriesVerdict}
use Rattle.std.specs.Option.{unwrap_or}
use Rattle.leaf_verdicts.specs.declared.verdict.Verdict as verdicts
use Rattle.leaf_verdicts.specs.Cases.{verdict_of}
use Rattle.leaf_verdicts.specs.Columns.{or_after, GeometriesTold}
use Rattle.leaf_verdicts.specs.Stages.{geometry_verdict, bound_verdict, relation_stage, distance_stage, options_stage, knn_stage}

-- ---- too few or too many

module _ (records : List Record) where
  pub relation-few : (ts : Exprs) → count ts < 2 → too_few_arguments ≡ relation_stage records ts
  unfolding relation_stage count
  relation-few nil h = refl
  relation-few (cons a nil) h = refl
  relation-few (cons a (cons b ts)) h = absurd (omega arith)

  pub distance-few : (ts : Exprs) → count ts < 3 → too_few_arguments ≡ distance_stage records ts
  unfolding distance_stage count
  distance-few nil h = refl
  distance-few (cons a nil) h = refl
  distance-few (cons a (cons b nil)) h = refl
  distance-few (cons a (cons b (cons d ts))) h = absurd (omega arith)

  pub measured-few : (d : Expr) (ts : Exprs) → count ts < 2 → too_few_arguments ≡ distance_stage records (with_bound d ts)
  unfolding distance_stage with_bound count
  measured-few d nil h = refl
  measured-few d (cons a nil) h = refl
  measured-few d (cons a (cons b ts)) h = absurd (omega arith)

  pub knn-few : (greatest : ℕ) (ts : Exprs) → count ts < 2 → too_few_arguments ≡ knn_stage greatest records ts
  unfolding knn_stage count
  knn-few greatest nil h = refl
  knn-few greatest (cons a nil) h = refl
  knn-few greatest (cons a (cons b ts)) h = absurd (omega arith)

  pub knn-many : (greatest : ℕ) (ts : Exprs) → 5 < count ts → too_many_arguments ≡ knn_stage greatest records ts
  unfolding knn_stage has_argument argument_is count
  knn-many greatest nil h = absurd (omega arith)
  knn-many greatest (cons a nil) h = absurd (omega arith)
  knn-many greatest (cons a (cons b nil)) h = absurd (omega arith)
  knn-many greatest (cons a (cons b (cons k nil))) h = absurd (omega arith)
  knn-many greatest (cons a (cons b (cons k (cons s nil)))) h = absurd (omega arith)
  knn-many greatest (cons a (cons b (cons k (cons s (cons t nil))))) h = absurd (omega arith)
  knn-many greatest (cons a (cons b (cons k (cons s (cons t (cons x ts)))))) h = refl

-- Three arguments after the geometries are not too many.
no-sixth : (more : Exprs) → count more ≤ 3 → has_argument 3 more ≡ false
unfolding has_argument argument_is count
no-sixth nil h = refl
no-sixth (cons k nil) h = refl
no-sixth (cons k (cons s nil)) h = refl
no-sixth (cons k (cons s (cons t nil))) h = refl
no-sixth (cons k (cons s (cons t (cons x ts)))) h = absurd (omega arith)

-- The reason, else the verdict after it.
pub or-else : (r : Option verdicts.Verdict) (v : verdicts.Verdict) → verdict_of (unwrap_or r v) ≡ or_after r (verdict_of v)
or-else (Some why) v = refl
or-else None v = refl

-- ---- the geometries first

module _ {s : List ℕ} {rec : ℕ} {xs : List Lent} {i n : ℕ} (g : GeometriesVerdict)
    (is : OfTwoAt s rec xs i (GeometriesTold i g)) (enough : 2 ≤ n) where
  module _ {at : ℕ} {records : List Record} {a b : Expr} {more : Exprs} (h : LaidAll s rec xs at i n records (cons a (cons b more))) where
    -- What follows the first is there, and what follows the second.
    after-one : LaidAll s rec xs (at + length (expr_bytes a)) g.second (n - 1) records (cons b more)
    after-one = record {
      over = rest_over h.over _ (n - 1) refl (omega (arith, enough));
      noded = noded-rest h.noded _ _ refl (is at n records a b more h).second;
    }

    after-two : {k : ℕ} → k ≡ g.second + nodes b
        → LaidAll s rec xs (at + length (expr_bytes a) + length (expr_bytes b)) k (n - 2) records more
    after-two e = record {
      over = rest_over after-one.over _ (n - 2) refl (omega (arith, enough));
      noded = noded-rest after-one.noded _ _ refl e;
    }

    -- Whatever the verdict after them is.
    told : (after : Verdict) → or_after g.reason after ≡ geometry_verdict (sides_of records a) (sides_of records b) after
    told = (is at n records a b more h).told

  by-two : (P : List Record → Exprs → Type 0) → ((at : ℕ) (records : List Record) (a b : Expr) (more : Exprs)
      → LaidAll s rec xs at i n records (cons a (cons b more)) → P records (cons a (cons b more)))
      → OfRow s rec xs i n P
  by-two P f at records ts h =
      two-of (λ ts. LaidAll s rec xs at i n records ts → P records ts) (f at records) ts (omega (arith, h.over.row.counted)) h

  pub relation-told : OfRow s rec xs i n (λ records ts. or_after g.reason as_relation ≡ relation_stage records ts)
  unfolding relation_stage
  relation-told = by-two (λ records ts. or_after g.reason as_relation ≡ relation_stage records ts)
      (λ at records a b more h. told h as_relation)

  pub measured-told : (v : Verdict) (q : ℕ)
      → ((at : ℕ) (records : List Record) (d : Expr) → Laid s rec xs at q records d
      → v ≡ or_after g.reason (bound_verdict (sides_of records d)))
      → OfRow s rec xs i n (λ records ts. (at : ℕ) (d : Expr) → Laid s rec xs at q records d
      → v ≡ distance_stage records (with_bound d ts))
  unfolding distance_stage with_bound
  measured-told v q e = by-two
      (λ records ts. (at : ℕ) (d : Expr) → Laid s rec xs at q records d → v ≡ distance_stage records (with_bound d ts))
      (λ at records a b more h p d bound. e p records d bound ∙ told h (bound_verdict (sides_of records d)))

  -- The second has an index, and so have the bound and the options after it.
  pub second-at : RowAt s rec xs i n → AtIndex s rec xs g.second
  second-at p = two-of (λ ts. LaidAll s rec xs p.0 i n p.1 ts → AtIndex s rec xs g.second)
      (λ a b more o. (_, p.1, b, first-laid (after-one o))) p.2 (omega (arith, p.3.over.row.counted)) p.3

  pub third-at : RowAt s rec xs i n → 3 ≤ n → {k : ℕ} → OfNode xs g.second (λ at t. k ≡ g.second + nodes t) → AtIndex s rec xs k
  third-at p h {k} after = two-of (λ ts. LaidAll s rec xs p.0 i n p.1 ts → AtIndex s rec xs k)
      (λ a b more o. first-at (_, p.1, more, after-two o (after _ b (first-laid (after-one o)).noded)) (omega arith))
      p.2 (omega (arith, p.3.over.row.counted)) p.3

  pub distance-told : 3 ≤ n → (v : Verdict)
      → ((p : ℕ) (records : List Record) (b d : Expr) → Laid s rec xs p g.second records b
      → Laid s rec xs (p + length (expr_bytes b)) (g.second + nodes b) records d
      → v ≡ or_after g.reason (bound_verdict (sides_of records d)))
      → OfRow s rec xs i n (λ records ts. v ≡ distance_stage records ts)
  unfolding distance_stage
  distance-told h v e = by-two (λ records ts. v ≡ distance_stage records ts)
      (λ at records a b more o. some-children
      (λ more. LaidAll s rec xs (at + length (expr_bytes a) + length (expr_bytes b)) (g.second + nodes b) (n - 2) records more
      → ((after : Verdict) → or_after g.reason after ≡ geometry_verdict (sides_of records a) (sides_of records b) after)
      → v ≡ distance_stage records (cons a (cons b more)))
      (λ d ts rest told. e _ records b d (first-laid (after-one o)) (first-laid rest) ∙ told (bound_verdict (sides_of records d)))
      more (omega (arith, (after-two o refl).over.row.counted)) (after-two o refl) (told o))

  pub options-there : RowAt s rec xs i n → {p : ℕ} → OfNode xs g.second (λ at t. p ≡ at + length (expr_bytes t)) → Trees s p (n - 2)
  options-there r {p} end = two-of (λ ts. LaidAll s rec xs r.0 i n r.1 ts → Trees s p (n - 2))
      (λ a b more o. (
        index_below (length r.1),
        more,
        subst (λ (p : ℕ). Row (index_below (length r.1)) s p (n - 2) more)
            (sym (end _ b (first-laid (after-one o)).noded)) (after-two o refl).over.row,
      )) r.2 (omega (arith, r.3.over.row.counted)) r.3

  pub knn-told : n ≤ 5 → (greatest : ℕ) (v : Verdict)
      → ((p : ℕ) (records : List Record) (b : Expr) (more : Exprs) → Laid s rec xs p g.second records b
      → Row (index_below (length records)) s (p + length (expr_bytes b)) (n - 2) more
      → v ≡ or_after g.reason (options_stage greatest more))
      → OfRow s rec xs i n (λ records ts. v ≡ knn_stage greatest records ts)
  unfolding knn_stage
  knn-told few greatest v e = by-two (λ records ts. v ≡ knn_stage greatest records ts)
      (λ at records a b more o.
      let rest = (after-two o refl).over.row in
      rw (no-sixth more (omega (arith, rest.counted)))
      (e _ records b more (first-laid (after-one o)) rest ∙ told o (options_stage greatest more)))
