-- A frame's expression stands in its bytes after the head and the records.
use Prim.Native.Nat.{ℕ, ◌+◌, ◌*◌, ◌≤◌}
use native.Mathlib.Omega.{arith}
use mathlib.Core.Path.{◌≡◌, sym, ap, ◌∙◌, subst}
use mathlib.Core.List.{List, ◌∷◌, ◌++◌, append_assoc}
use lib.ListN.{length, drop, length-append}
use lib.Seq.{drop-append_seam}
use Rattle.definitions.specs.Words.Basics.{big_endian}
use Rattle.definitions.specs.Words.Expression.{Frame, held}
use Rattle.definitions.specs.Bytes.Encode.{expr_bytes, records_bytes, frame_bytes, plan_bytes}
use Rattle.definitions.specs.Bytes.Decode.{index_below}
use Rattle.definitions.specs.Bytes.Good.{GoodPlan, nodes, plan_nodes}
use Rattle.definitions.specs.Bytes.NodeTable.{nodes_from, node_table}
use Rattle.theorems.proofs.ExchangeGood.{frame-length}
use Rattle.expression.specs.Nodes.{Stands}
use Rattle.expression.specs.Filling.{Records, filled}

module _ (F : Frame) where
  pub few-bytes : GoodPlan (held F) → length (frame_bytes F) ≤ 16384
  unfolding plan_bytes
  few-bytes g = g.few_bytes

  pub few-nodes : GoodPlan (held F) → nodes F.expr ≤ 1024
  unfolding plan_nodes
  few-nodes g = g.few_nodes

module _ (F : Frame) (rest : List ℕ) where
  -- What stands before the expression.
  start : List ℕ
  start = 1 ∷ (big_endian 2 (length F.records) ++ records_bytes F.records)

  parted : frame_bytes F ++ rest ≡ start ++ (expr_bytes F.expr ++ rest)
  unfolding start frame_bytes
  parted =
      ap {B = List ℕ} (λ x. 1 ∷ x)
      (append_assoc (big_endian 2 (length F.records)) (records_bytes F.records ++ expr_bytes F.expr) rest
      ∙ ap (λ (x : List ℕ). big_endian 2 (length F.records) ++ x) (append_assoc (records_bytes F.records) (expr_bytes F.expr) rest)
      ∙ sym (append_assoc (big_endian 2 (length F.records)) (records_bytes F.records) (expr_bytes F.expr ++ rest)))

  start-length : length start ≡ 3 + 5 * length F.records
  start-length =
      omega (
        arith,
        simp length-append at (ap length parted),
        frame-length F,
      )

  pub expr-there : GoodPlan (held F)
      → Stands (index_below (length F.records)) (frame_bytes F ++ rest) (3 + 5 * length F.records) F.expr
  expr-there g = record {
    bytes = record {
      rest = rest;
      bytes =
          ap (λ (k : ℕ). drop k (frame_bytes F ++ rest)) (sym start-length) ∙ ap (drop (length start)) parted
          ∙ drop-append_seam start (expr_bytes F.expr ++ rest);
      within = omega (arith, frame-length F, length-append (frame_bytes F) rest);
    };
    in_range = g.readable.expr.in_range;
  }

  pub at-root : GoodPlan (held F) → {s : List ℕ} {root : ℕ} → s ≡ frame_bytes F ++ rest → root ≡ 3 + 5 * length F.records
      → Stands (index_below (length F.records)) s root F.expr
  at-root g {s} {root} e at = rw (e, at) (expr-there g)

  -- So its nodes' records are those of what stands there.
  pub table-there : GoodPlan (held F) → {s : List ℕ} {root count : ℕ} → s ≡ frame_bytes F ++ rest → root ≡ 3 + 5 * length F.records
      → count ≡ nodes F.expr → Records s root count (node_table F)
  unfolding node_table
  table-there g {s} {root} {count} e at counted =
      subst (λ (k : ℕ). Records s root count (nodes_from k F.expr)) at
      (filled (at-root g e at) counted (omega (arith, counted, few-nodes F g)) (omega (arith, at, frame-length F, few-bytes F g)))
