-- The columns of a plain expression are collected; the records that stay and the renumbered expression make its frame.
use Prim.Native.Nat.{ℕ, ◌+◌, ◌≤◌}
use native.Mathlib.Omega.{arith}
use mathlib.Core.Path.{◌≡◌, sym, ap, ◌∙◌, subst}
use mathlib.Core.List.{List, ◌++◌}
use lib.ListN.{length, take, length-append}
use Rattle.definitions.specs.Words.Basics.{big_endian}
use Rattle.definitions.specs.Words.Expression.{Expr, Record}
use Rattle.definitions.specs.Bytes.Encode.{expr_bytes, records_bytes}
use Rattle.definitions.specs.Words.References.{columns_of, map_columns}
use Rattle.definitions.specs.Bytes.Decode.{index_below}
use Rattle.expression.specs.Nodes.{Spans}
use Rattle.expression.proofs.EndWalk.{length-cut, cut-stands}
use Rattle.definitions.specs.Filter.Extract.{new_index}
use Rattle.theorems.proofs.Columns.{columns-below}
use Rattle.byte_writer.specs.Written.{Wrote, WroteAt}
use Rattle.byte_writer.specs.Writing.{Room, PutsAt}
use Rattle.byte_writer.proofs.Written.{to_start, chain}
use Rattle.plan_writer.specs.Copies.{copy_of, InTable}
use Rattle.plan_writer.proofs.Ranges.{wider-stands}
use Rattle.plan_writer.proofs.TableLaws.{table-copies}
use Rattle.remainder.specs.References.{Flagged, Collected}
use Rattle.remainder.specs.Records.{stays, MarkedBy, kept_all, AllFit, columns_part, RecordsPut}
use Rattle.remainder.specs.HeldIndexes.{Unmarked, Marks}
use Rattle.remainder.proofs.FlagLaws.{held-marks, held-flags}
use Rattle.remainder.proofs.RemainderLaws.{frame-parts}
use Rattle.remainder.specs.Pruned.{Prunable, pruned_bytes}

module _ {s : List ℕ} {rec count : ℕ} {from : List ℕ} {at : ℕ} {records : List Record} {e : Expr}
    (f : Prunable s rec count from at records e) (ends : length from ≡ at + length (expr_bytes e)) where
  abbrev new : ℕ → ℕ
  new = new_index (stays records (columns_of e)) records

  parts : pruned_bytes records e ≡ columns_part (kept_all records (columns_of e)) ++ expr_bytes (map_columns new e)
  parts = frame-parts records e

  size : length (pruned_bytes records e)
      ≡ 3 + length (records_bytes (kept_all records (columns_of e))) + length (expr_bytes (map_columns new e))
  unfolding big_endian
  size = ap length parts ∙ simp length-append (omega arith)

  spans : {n : ℕ} → count ≤ n → Spans (index_below n) from at (length from) e
  spans wide = record { stands = wider-stands wide f.tree; ends = ends }

  pub plain-flagged : (flags : List ℕ) → count ≤ length flags → Flagged from at (length from) flags
  plain-flagged flags room = (e, spans room)

  module _ (flags used : List ℕ) (room : count ≤ length flags) (clear : Unmarked flags) (same : length used ≡ length flags)
      (is : Collected from at (length from) flags used) where
    marks : Marks e used
    marks = subst (Marks e) (sym (is e (spans room))) (held-marks e flags clear)

    -- The flags mark its columns.
    plain-marked : MarkedBy s rec count used records (columns_of e)
    plain-marked = record {
      entries = f.entries;
      flagged = held-flags e used count marks (omega arith) (columns-below count e f.tree.in_range);
    }

    pub records-fit : (out : List ℕ) → length (pruned_bytes records e) ≤ length out → AllFit s rec count used 3 out
    records-fit out fits = record { records = records; columns = columns_of e; is = plain-marked; few = f.few; room = omega (arith, size) }

    module _ {before middle to : List ℕ} {w : ℕ} (put : RecordsPut s rec count used before middle to w) where
      written : WroteAt 0 (columns_part (kept_all records (columns_of e))) before middle w
      written = (put records (columns_of e) plain-marked).out

      copied : copy_of to e ≡ expr_bytes (map_columns new e)
      copied = table-copies (put records (columns_of e) plain-marked).table e f.tree.in_range

      pub records-end : length (pruned_bytes records e) ≤ length before → w + length (expr_bytes (map_columns new e)) ≤ length before
      records-end fits =
          let both = length-append (columns_part (kept_all records (columns_of e))) (expr_bytes (map_columns new e)) in
          omega (arith, written.ends, ap length parts, both)

      pub expr-room : count ≤ length to → length middle ≡ length before → length (pruned_bytes records e) ≤ length before
          → Room (InTable from at (length from) to) (copy_of to) w middle
      expr-room long as_long fits = record { it = e; stands = spans long; room = omega (arith, ap length copied, records-end fits) }

      pub frame-put : {after : List ℕ} {r : ℕ} → count ≤ length to → PutsAt (InTable from at (length from) to) (copy_of to) w middle after r
          → (r ≡ length (pruned_bytes records e)) × Wrote (pruned_bytes records e) before after
      frame-put {after} {r} long copy =
          subst (λ (x : List ℕ). (r ≡ length x) × Wrote x before after)
          (ap (λ (y : List ℕ). columns_part (kept_all records (columns_of e)) ++ y) copied ∙ sym parts)
          (to_start (chain (omega arith) written (copy.wrote e (spans long))))

-- Cut where it ends, the expression stands up to the end.
module _ {s : List ℕ} {rec count : ℕ} {from : List ℕ} {at end : ℕ} {records : List Record} {e : Expr}
    (f : Prunable s rec count from at records e) (is : end ≡ at + length (expr_bytes e)) where
  pub cut-prunable : Prunable s rec count (take end from) at records e
  cut-prunable = record { entries = f.entries; few = f.few; tree = cut-stands f.tree is }

  pub cut-ends : length (take end from) ≡ at + length (expr_bytes e)
  cut-ends = length-cut f.tree is
