-- A walk over the children of a node, of which the deepest so far is known.
use Prim.Native.Nat.{ℕ, suc, ◌+◌, ◌≤◌, ◌<◌, max}
use native.Mathlib.Omega.{arith}
use mathlib.Core.Path.{◌≡◌, refl, sym, ap, ◌∙◌, subst}
use mathlib.Core.List.{List}
use lib.ListN.{length, get_or, length-append, length-drop, length-map}
use Rattle.std.specs.Ordering.{ord_max, nat_cmp}
use Rattle.definitions.specs.Words.Expression.{Expr, column, literal, and, binary, call, other, field, Exprs, nil, cons}
use Rattle.definitions.specs.Bytes.Encode.{expr_bytes, exprs_bytes}
use Rattle.definitions.specs.Bytes.Good.{nodes, nodes_all, depth, depth_all}
use Rattle.definitions.specs.Bytes.NodeTable.{nodes_from, row_from}
use Rattle.theorems.proofs.NodeTables.{node-count}
use Rattle.expression.specs.Nodes.{head_bytes, children_of}
use Rattle.expression.proofs.Standing.{some_bytes, tree-length}
use Rattle.filter_tree.proofs.NodeLaws.{nodes-below}
use Rattle.node_table.specs.Records.{node_of, nodes_of}
use Rattle.node_table.specs.declared.NodeRecord.{NodeRecord as Lent}
use Rattle.node_table.proofs.RecordLaws.{blank}
use Rattle.filter_tree.specs.Trees.{Later, Noded, NodedAll, Node}
use Rattle.filter_tree.specs.Levels.{LevelsAre}
use Rattle.filter_tree.proofs.Scans.{drop-here, noded-within, noded-start, noded-children}
use Rattle.filter_tree.proofs.Children.{noded-first, noded-rest}

-- ---- levels and nodes

depth-below : (t : Expr) → depth t ≡ suc (depth_all (children_of t))
unfolding depth depth_all children_of
depth-below (column i g) = refl
depth-below (literal y v) = refl
depth-below (and l r) = omega arith
depth-below (binary o l r) = omega arith
depth-below (call name ts) = refl
depth-below (other g ts) = refl
depth-below (field b g) = refl

-- There are no more levels than nodes.
mutual
  unfolding nodes nodes_all depth depth_all

  levels-few : (t : Expr) → depth t ≤ nodes t
  levels-few (column i g) = omega arith
  levels-few (literal y v) = omega arith
  levels-few (and l r) = omega (arith, levels-few l, levels-few r)
  levels-few (binary o l r) = omega (arith, levels-few l, levels-few r)
  levels-few (call name ts) = omega (arith, all-few ts)
  levels-few (other g ts) = omega (arith, all-few ts)
  levels-few (field b g) = omega arith

  all-few : (ts : Exprs) → depth_all ts ≤ nodes_all ts
  all-few nil = omega arith
  all-few (cons t ts) = omega (arith, levels-few t, all-few ts)

module _ {xs : List Lent} {at i : ℕ} {t : Expr} (h : Noded xs at i t) where
  -- Its records are all in the table.
  noded-room : i + nodes t ≤ length xs
  noded-room =
      omega (
        arith,
        noded-within h,
        length-drop i (nodes_of xs),
        length-map xs node_of,
        ap length h.is,
        length-append (nodes_from at t) h.rest,
        node-count at t,
      )

  -- So it has no more levels than the table has records.
  pub depth-within : depth t ≤ length xs
  depth-within = omega (arith, levels-few t, noded-room)

-- ---- the walk

pub max-is : (a b : ℕ) → ord_max nat_cmp a b ≡ max a b
max-is a b = grind arith

-- After the last of several the next record starts no sooner than they end.
none-starts : {xs : List Lent} {place k : ℕ} → k < length xs → NodedAll xs place k nil → place ≤ (get_or xs k blank).start
unfolding row_from exprs_bytes
none-starts {xs} {place} {k} there all =
    let starts : place + 0 ≤ (get_or xs k blank).start = subst (Later (place + 0)) (sym all.is ∙ drop-here xs k there) all.later in
    omega (arith, starts)

-- The children from index k on, which stand from `place` on, are left of a node of index i that stands at `at`, and the deepest of those
-- before them has so many levels.
pub record Deepening (xs : List Lent) (i k levels at : ℕ) (t : Expr) : Type 0 where
  place : ℕ
  left : Exprs
  pub noded : NodedAll xs place k left
  ends : place + length (exprs_bytes left) ≡ at + length (expr_bytes t)
  deepest : suc (max levels (depth_all left)) ≡ depth t
  counted : k + nodes_all left ≡ i + nodes t
  pub few : depth t ≤ length xs

module _ {xs : List Lent} {at i : ℕ} {t : Expr} where
  pub deepening-begins : Noded xs at i t → Deepening xs i (i + 1) 0 at t
  deepening-begins h = record {
    place = at + length (head_bytes t);
    left = children_of t;
    noded = noded-children h _ _ refl refl;
    ends = omega (arith, tree-length t);
    deepest = omega (arith, depth-below t);
    counted = omega (arith, nodes-below t);
    few = depth-within h;
  }

  module _ {k levels : ℕ} (d : Deepening xs i k levels at t) where
    -- The deepest so far is no deeper than all.
    pub levels-within : levels < length xs
    levels-within = omega (arith, d.deepest, d.few)

    -- Where a record is left that starts before the node's end, it is that of a child.
    module _ (there : k < length xs) (less : (get_or xs k blank).start < at + length (expr_bytes t)) where
      child : (left : Exprs) → NodedAll xs d.place k left → d.place + length (exprs_bytes left) ≡ at + length (expr_bytes t) → Node xs k
      unfolding exprs_bytes
      child nil all ends = absurd (omega (arith, ends, less, none-starts there all))
      child (cons u us) all ends = (d.place, u, noded-first all)

      pub next-child : Node xs k
      next-child = child d.left d.noded d.ends

      module _ {deep after : ℕ} (is : LevelsAre xs k deep after) where
        step : (left : Exprs) → NodedAll xs d.place k left → d.place + length (exprs_bytes left) ≡ at + length (expr_bytes t)
            → suc (max levels (depth_all left)) ≡ depth t → k + nodes_all left ≡ i + nodes t
            → Deepening xs i after (max levels deep) at t × (k < after)
        unfolding exprs_bytes depth_all nodes_all
        step nil all ends deepest counted = absurd (omega (arith, ends, less, none-starts there all))
        step (cons u us) all ends deepest counted =
            let found = is d.place u (noded-first all) in
            let some = nodes-below u in (
              record {
                place = d.place + length (expr_bytes u);
                left = us;
                noded = noded-rest all _ _ refl found.1;
                ends = omega (arith, ends, length-append (expr_bytes u) (exprs_bytes us));
                deepest = omega (arith, deepest, found.0);
                counted = omega (arith, counted, found.1);
                few = d.few;
              },
              omega (arith, found.1, some),
            )

        pub deepening-goes : Deepening xs i after (max levels deep) at t × (k < after)
        deepening-goes = step d.left d.noded d.ends d.deepest d.counted

    -- Where there is none, no child is left.
    module _ (none : k < length xs → at + length (expr_bytes t) ≤ (get_or xs k blank).start) where
      passed : (left : Exprs) → NodedAll xs d.place k left → d.place + length (exprs_bytes left) ≡ at + length (expr_bytes t)
          → suc (max levels (depth_all left)) ≡ depth t → k + nodes_all left ≡ i + nodes t → (levels + 1 ≡ depth t) × (k ≡ i + nodes t)
      unfolding exprs_bytes depth_all nodes_all
      passed nil all ends deepest counted = (omega (arith, deepest), omega (arith, counted))
      passed (cons u us) all ends deepest counted =
          let first = noded-first all in
          absurd (omega (
            arith,
            none (noded-within first),
            noded-start first,
            some_bytes u,
            ends,
            length-append (expr_bytes u) (exprs_bytes us),
          ))

      pub deepening-ends : (levels + 1 ≡ depth t) × (k ≡ i + nodes t)
      deepening-ends = passed d.left d.noded d.ends d.deepest d.counted
