-- Of the records of expressions in a row, those of the first start before its end and those of the others do not.
use Prim.Native.Nat.{ℕ, ◌+◌, ◌≤◌, ◌<◌}
use native.Mathlib.Omega.{arith}
use mathlib.Core.Path.{◌≡◌, refl, ap}
use mathlib.Core.List.{List}
use lib.ListN.{length, get_or, length-append, length-drop, length-map}
use Rattle.definitions.specs.Words.Expression.{Expr, column, literal, and, binary, call, other, field, Exprs, nil, cons}
use Rattle.definitions.specs.Bytes.Encode.{expr_bytes}
use Rattle.definitions.specs.Bytes.Good.{nodes, nodes_all}
use Rattle.definitions.specs.Bytes.NodeTable.{record_of, nodes_from, row_from}
use Rattle.theorems.proofs.NodeTables.{node-count, row_count}
use Rattle.expression.proofs.Standing.{some_bytes}
use Rattle.node_table.specs.Records.{node_of, nodes_of}
use Rattle.node_table.specs.declared.NodeRecord.{NodeRecord as Lent}
use Rattle.node_table.proofs.RecordLaws.{blank}
use Rattle.filter_tree.specs.Trees.{Noded, NodedAll, RowUpTo}
use Rattle.filter_tree.proofs.NodeLaws.{nodes-below}
use Rattle.filter_tree.proofs.Scans.{noded-end, scan-begins}
use Rattle.filter_tree.proofs.Children.{Each, each-both, each-node, each-at, noded-first, noded-rest}

-- ---- where they start

-- No record of an expression or a row starts before it.
mutual
  unfolding nodes_from row_from record_of

  node-from : (low at : ℕ) (t : Expr) → low ≤ at → Each (λ r. low ≤ r.start) (nodes_from at t)
  node-from low at (column i g) h = (h, tt)
  node-from low at (literal y v) h = (h, tt)
  node-from low at (and l r) h = (
    h,
    each-both (λ r. low ≤ r.start) (nodes_from (at + 2) l) (nodes_from (at + 2 + length (expr_bytes l)) r)
        (node-from low (at + 2) l (omega arith)) (node-from low (at + 2 + length (expr_bytes l)) r (omega arith)),
  )
  node-from low at (binary o l r) h = (
    h,
    each-both (λ r. low ≤ r.start) (nodes_from (at + 2) l) (nodes_from (at + 2 + length (expr_bytes l)) r)
        (node-from low (at + 2) l (omega arith)) (node-from low (at + 2 + length (expr_bytes l)) r (omega arith)),
  )
  node-from low at (call name ts) h = (h, row-from low (at + (3 + length name)) ts (omega arith))
  node-from low at (other g ts) h = (h, row-from low (at + 4) ts (omega arith))
  node-from low at (field b g) h = (h, tt)

  row-from : (low at : ℕ) (ts : Exprs) → low ≤ at → Each (λ r. low ≤ r.start) (row_from at ts)
  row-from low at nil h = tt
  row-from low at (cons t ts) h =
      each-both (λ r. low ≤ r.start) (nodes_from at t) (row_from (at + length (expr_bytes t)) ts) (node-from low at t h)
      (row-from low (at + length (expr_bytes t)) ts (omega arith))

module _ {xs : List Lent} {at i : ℕ} {t : Expr} where
  -- Those of a node start before its end.
  pub starts-before : Noded xs at i t → (m : ℕ) → i ≤ m → m < i + nodes t → (get_or xs m blank).start < at + length (expr_bytes t)
  unfolding record_of
  starts-before h m low high =
      let end : ℕ = at + length (expr_bytes t) in
      each-at (λ r. r.start < end) xs i (nodes_from at t) h.rest h.is
      (each-node (λ r. r.start < end) end (λ p u h. omega (arith, h, some_bytes u)) at t (omega arith))
      m low (omega (arith, high, node-count at t))

  -- Those of the nodes after it in a row do not.
  pub starts-after : {ts : Exprs} → NodedAll xs at i (cons t ts) → (m : ℕ) → i + nodes t ≤ m → m < i + nodes_all (cons t ts)
      → at + length (expr_bytes t) ≤ (get_or xs m blank).start
  unfolding nodes_all
  starts-after {ts} h m low high =
      let end : ℕ = at + length (expr_bytes t) in
      let more = noded-rest h end (i + nodes t) refl refl in
      each-at (λ r. end ≤ r.start) xs (i + nodes t) (row_from end ts) more.rest more.is (row-from end end ts (omega arith))
      m low (omega (arith, high, row_count end ts))

-- ---- a row up to an index

module _ {xs : List Lent} {i past : ℕ} (row : RowUpTo xs i past) where
  pub row-within : i < past
  unfolding nodes_all
  row-within = omega (arith, row.4, nodes-below row.1)

  -- They are records of the table.
  pub row-room : past ≤ length xs
  row-room =
      let h = row.3 in
      omega (
        arith,
        row.4,
        length-drop i (nodes_of xs),
        length-map xs node_of,
        ap length h.is,
        length-append (row_from row.0 (cons row.1 row.2)) h.rest,
        row_count row.0 (cons row.1 row.2),
        row-within,
      )

  module _ {at : ℕ} {t : Expr} (h : Noded xs at i t) where
    same-nodes : nodes t ≡ nodes row.1
    same-nodes = omega (arith, scan-begins h, scan-begins (noded-first row.3))

    -- The node after it has an index in the range.
    pub ends-within : (i + 1 ≤ i + nodes t) × (i + nodes t ≤ past)
    unfolding nodes_all
    ends-within = (omega (arith, nodes-below t), omega (arith, row.4, same-nodes))

    -- A record that starts before the end is the node's, one that does not is behind it.
    pub not-yet : (m : ℕ) → m < past → (get_or xs m blank).start < (get_or xs i blank).end → m + 1 ≤ i + nodes t
    not-yet m short less =
        grind (arith, row.4, same-nodes, noded-end (noded-first row.3), starts-after row.3 m)

    pub passed : (m : ℕ) → i ≤ m → (get_or xs i blank).end ≤ (get_or xs m blank).start → i + nodes t ≤ m
    passed m low more = grind (arith, noded-end h, starts-before h m low)
