-- The And above an AND-leaf is the nearest node before it that ends no sooner.
use Prim.Native.Nat.{ℕ, ◌+◌, ◌≤◌, ◌<◌}
use native.Mathlib.Omega.{arith}
use mathlib.Core.Path.{◌≡◌, sym, ap, ◌∙◌, subst}
use mathlib.Core.List.{List}
use mathlib.Core.Logic.{◌⊎◌, inl, inr}
use Rattle.std.proofs.lemmas.Bool.{cases_lt}  -- `cases_lt` is `lt_or_ge` in other libraries, and gives their `le_total`
use lib.ListN.{length, get_or, length-append}
use Rattle.definitions.specs.Words.Expression.{Expr, and}
use Rattle.definitions.specs.Bytes.Encode.{expr_bytes}
use Rattle.definitions.specs.Bytes.Good.{nodes}
use Rattle.expression.specs.Cuts as cuts
use Rattle.expression.specs.Cuts.{CutAt}
use Rattle.expression.specs.declared.cuts.Cut.{Cut}
use Rattle.expression.proofs.Standing.{some_bytes}
use Rattle.node_table.specs.declared.NodeRecord.{NodeRecord as Lent}
use Rattle.node_table.proofs.RecordLaws.{blank}
use Rattle.filter_tree.specs.Trees.{Noded, Node, OfNode, LeafIndex, here, in_left, in_right, AboveIs}
use Rattle.filter_tree.proofs.Scans.{noded-within, noded-start, noded-end}
use Rattle.filter_tree.proofs.Children.{left-noded, right-noded, ends-by}

-- It ends no sooner than the leaf, and all between end sooner.
pub record Nearest (xs : List Lent) (leaf above : ℕ) : Type 0 where
  pub before : above < leaf
  pub high : (get_or xs leaf blank).end ≤ (get_or xs above blank).end
  pub between : (m : ℕ) → above < m → m < leaf → (get_or xs m blank).end < (get_or xs leaf blank).end

both-bytes : (l r : Expr) → length (expr_bytes (and l r)) ≡ 2 + length (expr_bytes l) + length (expr_bytes r)
unfolding expr_bytes
both-bytes l r = simp length-append (omega arith)

module _ {xs : List Lent} {leaf above : ℕ} where
  pub nearest : {up i position at : ℕ} {t : Expr} → LeafIndex leaf above up t i position → Noded xs at i t
      → ((leaf ≡ i) × (above ≡ up)) ⊎ Nearest xs leaf above
  nearest (here single e f) h = inl (e, f)
  nearest {i = i} {at = at} (in_left {l = l} {r = r} more) h = inr (step (nearest more (left-noded h)))
    where
      step : ((leaf ≡ i + 1) × (above ≡ i)) ⊎ Nearest xs leaf above → Nearest xs leaf above
      step (inr n) = n
      step (inl (e, f)) = record {
        before = omega (arith, e, f);
        high =
            let one = ap (λ (k : ℕ). (get_or xs k blank).end) e in
            let two = ap (λ (k : ℕ). (get_or xs k blank).end) f in
            omega (arith, one, two, noded-end h, noded-end (left-noded h), both-bytes l r);
        between = λ m low high. absurd (omega (arith, low, high, e, f));
      }
  nearest {i = i} {at = at} (in_right {l = l} {r = r} more) h = inr (step (nearest more (right-noded h)))
    where
      step : ((leaf ≡ i + 1 + nodes l) × (above ≡ i)) ⊎ Nearest xs leaf above → Nearest xs leaf above
      step (inr n) = n
      step (inl (e, f)) = record {
        before = omega (arith, e, f);
        high =
            let one = ap (λ (k : ℕ). (get_or xs k blank).end) e in
            let two = ap (λ (k : ℕ). (get_or xs k blank).end) f in
            omega (arith, one, two, noded-end h, noded-end (right-noded h), both-bytes l r);
        between = λ m low high.
            let one = ap (λ (k : ℕ). (get_or xs k blank).end) e in
            omega (
              arith,
              one,
              noded-end (right-noded h),
              some_bytes r,
              ends-by (left-noded h) m (omega (arith, low, f)) (omega (arith, high, e)),
            );
      }

  pub leaf-within : {up i position at : ℕ} {t : Expr} → LeafIndex leaf above up t i position → Noded xs at i t → leaf < length xs
  leaf-within (here single e f) h = omega (arith, e, noded-within h)
  leaf-within (in_left more) h = leaf-within more (left-noded h)
  leaf-within (in_right more) h = leaf-within more (right-noded h)

  -- The leaf and the And above it are nodes.
  pub leaf-node : {up i position at : ℕ} {t : Expr} → LeafIndex leaf above up t i position → Noded xs at i t → Node xs leaf
  leaf-node {at = at} {t} (here single e f) h = (at, t, subst (λ (k : ℕ). Noded xs at k t) (sym e) h)
  leaf-node (in_left more) h = leaf-node more (left-noded h)
  leaf-node (in_right more) h = leaf-node more (right-noded h)

  pub above-node : {up i position at : ℕ} {t : Expr} → LeafIndex leaf above up t i position → Noded xs at i t → Node xs up → Node xs above
  above-node (here single e f) h node = subst (Node xs) (sym f) node
  above-node {at = at} {t} (in_left more) h node = above-node more (left-noded h) (at, t, h)
  above-node {at = at} {t} (in_right more) h node = above-node more (right-noded h) (at, t, h)

-- Those from an index up to the leaf end sooner.
abbrev pub Sooner : (xs : List Lent) (leaf k : ℕ) → Type 0
Sooner xs leaf k = (m : ℕ) → k ≤ m → m < leaf → (get_or xs m blank).end < (get_or xs leaf blank).end

module _ {xs : List Lent} {leaf : ℕ} where
  -- One that ends no sooner, where those after it do, is the one.
  pub is-above : (k : ℕ) → k < leaf → (get_or xs leaf blank).end ≤ (get_or xs k blank).end → Sooner xs leaf (k + 1) → AboveIs xs leaf k
  is-above k less high sooner at t above position h is = go (nearest is h)
    where
      go : ((leaf ≡ 0) × (above ≡ 0)) ⊎ Nearest xs leaf above → k ≡ above
      go (inl (e, f)) = absurd (omega (arith, e, less))
      go (inr n) = by (cases_lt k above) (cases_lt above k)
        where
          by : (k < above) ⊎ (above ≤ k) → (above < k) ⊎ (k ≤ above) → k ≡ above
          by (inl l) q = absurd (omega (arith, sooner above (omega (arith, l)) n.before, n.high))
          by (inr l) (inl q) = absurd (omega (arith, n.between k q less, high))
          by (inr l) (inr q) = omega (arith, l, q)

  -- Where all before it end sooner, it is the root.
  pub is-root : Sooner xs leaf 0 → AboveIs xs leaf leaf
  is-root sooner at t above position h is = go (nearest is h)
    where
      go : ((leaf ≡ 0) × (above ≡ 0)) ⊎ Nearest xs leaf above → leaf ≡ above
      go (inl (e, f)) = omega (arith, e, f)
      go (inr n) = absurd (omega (arith, sooner above (omega arith) n.before, n.high))

-- ---- by places

pub start-is : {xs : List Lent} {k p : ℕ} → Node xs k → OfNode xs k (λ at t. p ≡ at) → p ≡ (get_or xs k blank).start
start-is node told = told _ _ node.2 ∙ sym (noded-start node.2)

pub end-is : {xs : List Lent} {k p : ℕ} → Node xs k → OfNode xs k (λ at t. p ≡ at + length (expr_bytes t)) → p ≡ (get_or xs k blank).end
end-is node told = told _ _ node.2 ∙ sym (noded-end node.2)

-- Where the leaf is cut out, by the places of the records.
pub cut-there : {xs : List Lent} {leaf above up i position at : ℕ} {t : Expr} → LeafIndex leaf above up t i position → Noded xs at i t
    → (cut : Cut) → cut.leaf ≡ (get_or xs leaf blank).start → cut.end ≡ (get_or xs leaf blank).end
    → cut.parent ≡ (get_or xs above blank).start → (place : ℕ) → place ≡ (get_or xs up blank).start → CutAt cut place t at position
cut-there {xs} (here single e f) h cut leaf end parent place is =
    cuts.here single (leaf ∙ ap (λ (k : ℕ). (get_or xs k blank).start) e ∙ noded-start h)
    (end ∙ ap (λ (k : ℕ). (get_or xs k blank).end) e ∙ noded-end h)
    (parent ∙ ap (λ (k : ℕ). (get_or xs k blank).start) f ∙ sym is)
cut-there (in_left more) h cut leaf end parent place is =
    cuts.in_left (cut-there more (left-noded h) cut leaf end parent _ (sym (noded-start h)))
cut-there (in_right more) h cut leaf end parent place is =
    cuts.in_right (cut-there more (right-noded h) cut leaf end parent _ (sym (noded-start h)))
