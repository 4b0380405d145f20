-- Laws of expressions that stand and have indexes: from a node to its children, and from a row to its first and its rest.
use Rattle.std.specs.Prelude.{Option}
use Prim.Native.Nat.{ℕ, suc, ◌+◌, ◌-◌, ◌≤◌, ◌<◌}
use native.Mathlib.Omega.{arith}
use mathlib.Core.Path.{◌≡◌, refl, sym, ap, ◌∙◌, subst}
use mathlib.Core.List.{List}
use lib.ListN.{length}
use Rattle.definitions.specs.Words.Expression.{Expr, Exprs, nil, cons, count, Record}
use Rattle.definitions.specs.Words.Leaves.{comparison, distance_arguments}
use Rattle.definitions.specs.Bytes.Encode.{expr_bytes}
use Rattle.definitions.specs.Bytes.Decode.{Columns, index_below}
use Rattle.definitions.specs.Bytes.Good.{nodes}
use Rattle.expression.specs.Nodes.{head_bytes, children_of, Stands, Tree, OfTreeIn}
use Rattle.expression.specs.Leaves.{Both, CallIs, NodeIs}
use Rattle.expression.specs.declared.leaves.Called.{Called}
use Rattle.expression.specs.declared.leaves.Node as leaves
use Rattle.expression.proofs.Standing.{some-children}
use Rattle.expression.proofs.Standing.{two-of}
use Rattle.node_table.specs.declared.NodeRecord.{NodeRecord as Lent}
use Rattle.filter_tree.specs.Trees.{Node, OfNode}
use Rattle.filter_tree.proofs.Scans.{noded-children, noded-within}
use Rattle.filter_tree.proofs.Children.{noded-first, noded-rest}
use Rattle.filter_tree.proofs.Indexes.{arguments-noded}
use Rattle.leaf_matching.specs.Frames.{Argued, ArgumentAt}
use Rattle.leaf_matching.proofs.Framing.{children-over, first-over, rest_over}
use Rattle.sedona_expr.specs.Parsed.{compared, ComparedIs, Arguments}
use Rattle.sedona_expr.specs.declared.utils.Compared.{Compared}
use Rattle.sedona_expr.proofs.Comparing.{told-sides}
use Rattle.sedona_expr.proofs.Distances.{argument-children}
use Rattle.leaf_verdicts.specs.Laid.{Laid, LaidAll, CallLaid, AtIndex, RowAt, TwoAt, PairAt}

module _ {s : List ℕ} {rec : ℕ} {xs : List Lent} where
  -- ---- one

  pub index-node : {i : ℕ} → AtIndex s rec xs i → Node xs i
  index-node p = (p.0, p.2, p.3.noded)

  pub index-within : {i : ℕ} → AtIndex s rec xs i → i < length xs
  index-within p = noded-within p.3.noded

  pub argued : {i : ℕ} → AtIndex s rec xs i → Argued s rec xs i
  argued p = (p.1, p.2, record { at = p.0; over = p.3.over; noded = p.3.noded })

  module _ {at i : ℕ} {records : List Record} {t : Expr} (h : Laid s rec xs at i records t) where
    -- It stands where its record says.
    pub laid-stands : {p : ℕ} → OfNode xs i (λ at t. p ≡ at) → Stands (index_below (length records)) s p t
    laid-stands start = subst (λ (p : ℕ). Stands (index_below (length records)) s p t) (sym (start at t h.noded)) h.over.tree

    -- And is what was found there.
    pub laid-found : {p : ℕ} → OfNode xs i (λ at t. p ≡ at) → (r : leaves.Node) → OfTreeIn s p (λ c t. NodeIs c s p r t)
        → NodeIs (index_below (length records)) s at r t
    laid-found start r is =
        subst (λ (p : ℕ). OfTreeIn s p (λ c t. NodeIs c s p r t)) (start at t h.noded) is (index_below (length records)) t h.over.tree

    pub laid-argument : ArgumentAt s rec xs i records t
    laid-argument = record { at = at; over = h.over; noded = h.noded }

    -- Its children are after it,
    pub laid-children : (n : ℕ) → n ≡ count (children_of t)
        → LaidAll s rec xs (at + length (head_bytes t)) (i + 1) n records (children_of t)
    laid-children n e = record { over = children-over h.over _ n refl e; noded = noded-children h.noded _ _ refl refl }

    -- those of an operator,
    pub laid-pair : {build : Expr → Expr → Expr} {first : ℕ} (b : Both build (index_below (length records)) s at first t)
        → LaidAll s rec xs (at + length (head_bytes t)) (i + 1) 2 records (cons b.l (cons b.r nil))
    unfolding count
    laid-pair b = subst (LaidAll s rec xs (at + length (head_bytes t)) (i + 1) 2 records) b.children
        (laid-children 2 (ap count (sym b.children)))

    -- and of a function, with its name.
    pub laid-call : {k : Called} (b : CallIs (index_below (length records)) s at k t)
        → CallLaid s rec xs k (i + 1) records b.name b.arguments
    laid-call b = record { over = record { entries = h.over.entries; stands = b.stands }; noded = arguments-noded h.noded b }

  pub index-tree : {i : ℕ} → AtIndex s rec xs i → {p : ℕ} → OfNode xs i (λ at t. p ≡ at) → Tree s p
  index-tree p start = (index_below (length p.1), p.2, laid-stands p.3 start)

  pub call-row : {k : Called} {i : ℕ} {records : List Record} {name : List ℕ} {ts : Exprs}
      → CallLaid s rec xs k i records name ts → LaidAll s rec xs k.first i k.count records ts
  call-row h = record { over = record { entries = h.over.entries; row = h.over.stands.row }; noded = h.noded }

  -- ---- several

  module _ {at i n : ℕ} {records : List Record} {t : Expr} {ts : Exprs} (h : LaidAll s rec xs at i n records (cons t ts)) where
    pub first-laid : Laid s rec xs at i records t
    first-laid = record { over = first-over h.over; noded = noded-first h.noded }

    pub rest-laid : {k m : ℕ} → OfNode xs i (λ at t. k ≡ i + nodes t) → suc m ≡ n
        → LaidAll s rec xs (at + length (expr_bytes t)) k m records ts
    rest-laid {k} {m} after e = record {
      over = rest_over h.over _ m refl e;
      noded = noded-rest h.noded _ k refl (after at t first-laid.noded);
    }

  pub first-at : {i n : ℕ} → RowAt s rec xs i n → 0 < n → AtIndex s rec xs i
  first-at {i} {n} p some = some-children (λ ts. LaidAll s rec xs p.0 i n p.1 ts → AtIndex s rec xs i)
      (λ t ts h. (p.0, p.1, t, first-laid h)) p.2 (omega (arith, p.3.over.row.counted)) p.3

  pub rest-at : {i n : ℕ} → RowAt s rec xs i n → 0 < n → {k : ℕ} → OfNode xs i (λ at t. k ≡ i + nodes t) → RowAt s rec xs k (n - 1)
  rest-at {i} {n} p some {k} after = some-children (λ ts. LaidAll s rec xs p.0 i n p.1 ts → RowAt s rec xs k (n - 1))
      (λ t ts h. (p.0 + length (expr_bytes t), p.1, ts, rest-laid h after (omega arith)))
      p.2 (omega (arith, p.3.over.row.counted)) p.3

  -- ---- two, and perhaps more

  module _ {at i n : ℕ} {records : List Record} {a b : Expr} {more : Exprs}
      (h : LaidAll s rec xs at i n records (cons a (cons b more))) where
    at-least-two : 2 ≤ n
    unfolding count
    at-least-two = omega (arith, h.over.row.counted)

    pub second-laid : {k : ℕ} → OfNode xs i (λ at t. k ≡ i + nodes t) → Laid s rec xs (at + length (expr_bytes a)) k records b
    second-laid after = first-laid (rest-laid h {m = n - 1} after (omega (arith, at-least-two)))

  pub pair-first : {i : ℕ} → PairAt s rec xs i → AtIndex s rec xs i
  pair-first p = (p.0, p.1, p.2, first-laid p.4)

  pub pair-row : {i : ℕ} → PairAt s rec xs i → RowAt s rec xs i 2
  pair-row p = (p.0, p.1, cons p.2 (cons p.3 nil), p.4)

  pub pair-second : {i : ℕ} → PairAt s rec xs i → {k : ℕ} → OfNode xs i (λ at t. k ≡ i + nodes t) → AtIndex s rec xs k
  pair-second p after = (_, p.1, p.3, second-laid p.4 after)

  pub two-first : {i : ℕ} → TwoAt s rec xs i → AtIndex s rec xs i
  two-first p = (p.0, p.2, p.3, first-laid p.6)

  pub two-second : {i : ℕ} → TwoAt s rec xs i → {k : ℕ} → OfNode xs i (λ at t. k ≡ i + nodes t) → AtIndex s rec xs k
  two-second p after = (_, p.2, p.4, second-laid p.6 after)

  pub two-at : {i n : ℕ} → RowAt s rec xs i n → 2 ≤ n → TwoAt s rec xs i
  two-at {i} {n} p enough = two-of (λ ts. LaidAll s rec xs p.0 i n p.1 ts → TwoAt s rec xs i)
      (λ a b more h. (p.0, n, p.1, a, b, more, h)) p.2 (omega (arith, p.3.over.row.counted)) p.3

  -- ---- the sides of a comparison

  -- Each has an index, and the arguments of `st_distance` have those after it.
  pub laid-sides : {at i : ℕ} {records : List Record} {l r : Expr} → LaidAll s rec xs at i 2 records (cons l (cons r nil))
      → (operator : ℕ) {right : ℕ} → OfNode xs i (λ at t. right ≡ i + nodes t) → {answer : Option Compared}
      → answer ≡ compared operator i right
      → ComparedIs (λ k e. (p : ℕ) × Laid s rec xs p k records e) answer (comparison operator l r)
  laid-sides {at} {records = records} {l = l} h operator after is =
      told-sides (λ k e. (p : ℕ) × Laid s rec xs p k records e) (at, first-laid h)
      (at + length (expr_bytes l), second-laid h after) operator is

  pub laid-arguments : {at k : ℕ} {records : List Record} {m : Expr} → Laid s rec xs at k records m → {c : Columns}
      {first n : ℕ} → (found : Arguments c s first n (distance_arguments m))
      → LaidAll s rec xs (at + length (head_bytes m)) (k + 1) n records found.all
  laid-arguments {at} {k} {records} {m} h {n = n} found =
      let same : children_of m ≡ found.all = argument-children m found.all found.is in
      subst (LaidAll s rec xs (at + length (head_bytes m)) (k + 1) n records) same
      (laid-children h n (sym found.row.counted ∙ ap count (sym same)))
