-- A whole remainder: its columns are marked, the records that stay and the renumbered expression make its frame.
use Prim.Native.Nat.{ℕ, ◌+◌, ◌≤◌, ◌<◌}
use native.Mathlib.Omega.{arith}
use mathlib.Core.Path.{◌≡◌, sym, ap, ◌∙◌, subst}
use mathlib.Core.List.{List, [], ◌∷◌, ◌++◌, append_assoc}
use mathlib.Core.Option.{Option, map}
use lib.ListN.{length, set, replicate, length-append, length-replicate}
use Rattle.definitions.specs.Words.Basics.{big_endian}
use Rattle.definitions.specs.Words.Expression.{Expr, Record}
use Rattle.definitions.specs.Bytes.Encode.{expr_bytes, records_bytes, frame_bytes, remainder_bytes}
use Rattle.definitions.specs.Bytes.Decode.{index_below}
use Rattle.definitions.specs.Words.References.{columns_of, map_columns}
use Rattle.definitions.specs.Filter.Extract.{referenced, new_index, prune}
use Rattle.theorems.proofs.Columns.{columns-below}
use Rattle.byte_writer.specs.Written.{Wrote, WroteAt}
use Rattle.plan_writer.specs.Copies.{copy_of}
use Rattle.expression.specs.Cuts.{CutAt}
use Rattle.expression.specs.Nodes.{OfTree}
use Rattle.node_table.specs.declared.NodeRecord.{NodeRecord as Lent}
use Rattle.filter_tree.specs.Trees.{Noded}
use Rattle.remainder.specs.Around.{LeftAt}
use Rattle.remainder.specs.Records.{stays, MarkedBy, kept_all, AllFit, columns_part, RecordsPut, RowsFit}
use Rattle.remainder.specs.HeldIndexes.{Unmarked, Unheld, HeldMarked}
use Rattle.remainder.specs.Remainders.{RestFits, RestCopied, remainder_of}
use Rattle.remainder.specs.Pruned.{Prunable}
use Rattle.expression.specs.declared.cuts.Cut.{Cut}
use Rattle.byte_writer.proofs.Written.{behind, together, behind-length, part-wrote, to_start, chain, store}
use Rattle.plan_writer.proofs.Ranges.{wider-stands}
use Rattle.plan_writer.proofs.TableLaws.{table-copies}
use Rattle.remainder.proofs.CutLaws.{Remains, nothing_left}
use Rattle.remainder.proofs.FlagLaws.{held-flags, no_flag}

-- ---- what is collected

-- Rows as they are made, for so many records, and once the flags were set.
pub clear-rows : (n count : ℕ) → count ≤ n
    → (count ≤ length {A = ℕ} (replicate n 0)) × RowsFit count (replicate n 0) (replicate n 0) × Unmarked (replicate n 0)
clear-rows n count room =
    let row : List ℕ = replicate n 0 in
    let fits : count ≤ length row = simp length-replicate room in
    (fits, record { numbered = fits; keyed = fits }, no_flag n)

-- ---- the frame's bytes

pub frame-parts : (records : List Record) (e : Expr)
    → frame_bytes (prune records e)
    ≡ columns_part (kept_all records (columns_of e)) ++ expr_bytes (map_columns (new_index (stays records (columns_of e)) records) e)
unfolding frame_bytes prune referenced
frame-parts records e =
    let kept : List Record = kept_all records (columns_of e) in
    ap (λ (x : List ℕ). 1 ∷ x)
    (sym (append_assoc (big_endian 2 (length kept)) (records_bytes kept)
    (expr_bytes (map_columns (new_index (stays records (columns_of e)) records) e))))

module _ {s from : List ℕ} {nodes : List Lent} {rec count at : ℕ} {cut : Cut} {records : List Record} {t : Expr} {position : ℕ} {e : Expr}
    (f : Prunable s rec count from at records t) (noded : OfTree from at (Noded nodes at 0)) (left : Remains cut t at position e) where
  abbrev new : ℕ → ℕ
  new = new_index (stays records (columns_of e)) records

  parts : remainder_of records t position ≡ columns_part (kept_all records (columns_of e)) ++ expr_bytes (map_columns new e)
  unfolding remainder_bytes
  parts = ap (λ (o : Option Expr). remainder_bytes (map (prune records) o)) left.without-leaf ∙ frame-parts records e

  size : length (remainder_of records t position)
      ≡ 3 + length (records_bytes (kept_all records (columns_of e))) + length (expr_bytes (map_columns new e))
  unfolding big_endian
  size = ap length parts ∙ simp length-append (omega arith)

  -- It stands there with its records, with as many indexes as there are records or more.
  in-tree : {n up : ℕ} → count ≤ n → CutAt cut up t at position → LeftAt (index_below n) from nodes cut at t e
  in-tree {n} {up} room cutting = record {
    up = up;
    position = position;
    stands = wider-stands room f.tree;
    noded = noded (index_below count) t f.tree;
    cutting = cutting;
    left = left.without-leaf;
  }

  pub still-unheld : {up : ℕ} (flags : List ℕ) → CutAt cut up t at position → count ≤ length flags → Unmarked flags
      → Unheld from nodes cut flags
  still-unheld flags cutting room clear = (at, t, e, in-tree room cutting, clear)

  module _ (flags used : List ℕ) {up : ℕ} (cutting : CutAt cut up t at position) (room : count ≤ length flags)
      (same : length used ≡ length flags) (is : HeldMarked from nodes cut flags used) where
    -- The flags mark the columns of what is left.
    rest-marked : MarkedBy s rec count used records (columns_of e)
    rest-marked = record {
      entries = f.entries;
      flagged = held-flags e used count (is at t e (in-tree room cutting)) (omega arith)
          (columns-below count e (left.in_range (index_below count) f.tree.in_range));
    }

    pub records-fit : (out : List ℕ) → length (remainder_of records t position) ≤ length out → AllFit s rec count used 3 out
    records-fit out fits = record { records = records; columns = columns_of e; is = rest-marked; few = f.few; room = omega (arith, size) }

    module _ {before middle to : List ℕ} {w : ℕ} (put : RecordsPut s rec count used before middle to w) where
      written : WroteAt 0 (columns_part (kept_all records (columns_of e))) before middle w
      written = (put records (columns_of e) rest-marked).out

      copied : copy_of to e ≡ expr_bytes (map_columns new e)
      copied = table-copies (put records (columns_of e) rest-marked).table e (left.in_range (index_below count) f.tree.in_range)

      pub records-end : length (remainder_of records t position) ≤ length before
          → w + length (expr_bytes (map_columns new e)) ≤ length before
      records-end fits =
          let both = length-append (columns_part (kept_all records (columns_of e))) (expr_bytes (map_columns new e)) in
          omega (arith, written.ends, ap length parts, both)

      pub expr-fits : count ≤ length to → length middle ≡ length before → length (remainder_of records t position) ≤ length before
          → RestFits from nodes to cut (behind w middle)
      expr-fits long as_long fits =
          (at, t, e, in-tree long cutting, omega (arith, ap length copied, records-end fits, behind-length w middle))

      pub frame-put : (part : List ℕ) (wrote : ℕ) → count ≤ length to → RestCopied from nodes to cut (behind w middle) part wrote
          → (w + wrote ≡ length (remainder_of records t position))
          × Wrote (remainder_of records t position) before (together w middle part)
      frame-put part wrote long copy =
          let expr = copy at t e (in-tree long cutting) in
          subst (λ (x : List ℕ). (w + wrote ≡ length x) × Wrote x before (together w middle part))
          (ap (λ (y : List ℕ). columns_part (kept_all records (columns_of e)) ++ y) copied ∙ sym parts)
          (to_start (chain (omega arith) written (part-wrote (copy_of to e) middle part w expr.1 wrote expr.0)))

-- ---- the whole expression was the leaf

module _ {cut : Cut} {up at : ℕ} (e : at ≡ cut.leaf) (records : List Record) {t : Expr} {position : ℕ}
    (c : CutAt cut up t at position) where
  none-bytes : remainder_of records t position ≡ 0 ∷ []
  unfolding remainder_bytes
  none-bytes = ap (λ (o : Option Expr). remainder_bytes (map (prune records) o)) (nothing_left c e)

  pub none-room : (out : List ℕ) → length (remainder_of records t position) ≤ length out → 0 < length out
  none-room out room = omega (arith, ap length none-bytes)

  pub none-put : (before : List ℕ) → 0 < length before
      → (1 ≡ length (remainder_of records t position)) × Wrote (remainder_of records t position) before (set before 0 0)
  none-put before room =
      subst (λ (x : List ℕ). (1 ≡ length x) × Wrote x before (set before 0 0)) (sym none-bytes) (to_start (store before 0 0 room))
