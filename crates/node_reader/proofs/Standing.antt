-- What was read at a place stands there: its bytes are those up to the place after it.
use Prim.Native.Nat.{ℕ, ◌+◌, ◌≤◌}
use native.Mathlib.Omega.{arith}
use mathlib.Core.Path.{◌≡◌, ap, subst}
use mathlib.Core.List.{List, ◌++◌}
use lib.ListN.{length, drop, length-drop, length-append}
use Rattle.definitions.specs.Bytes.Decode.{Columns, node, expression}
use Rattle.definitions.specs.Bytes.Good.{AllBytes, nodes}
use Rattle.definitions.specs.Words.Expression.{Expr}
use Rattle.definitions.specs.Bytes.Encode.{expr_bytes}
use Rattle.definitions.specs.Bytes.Readers.{read}
pub use Rattle.theorems.proofs.Tools.{all-bytes, bytes-from}
use Rattle.theorems.proofs.Inverse.{NodeBack, node-back}
use Rattle.node_reader.proofs.Walks.{few-before}
use Rattle.node_reader.specs.declared.walk.Walked.{Walked}
use Rattle.std.specs.Prelude.{Result, Ok, Err}
use Rattle.terms.specs.declared.refusals.Refusal.{Refusal}
use Rattle.node_reader.specs.Visits.{VisitIs}
use Rattle.node_reader.specs.Places.{ExpressionIs, ExpressionHeld}
use Rattle.node_reader.specs.Visitors.{RecordsAre}
use Rattle.node_table.specs.declared.NodeRecord.{NodeRecord as Lent}
use Rattle.filter_tree.specs.Trees.{Recorded}
use Rattle.expression.specs.Places.{Between}
use Rattle.expression.specs.Nodes.{Stands}
use Rattle.std.proofs.Common.{inl, inr}

pub between : (s x : List ℕ) (at end : ℕ) → at ≤ length s → end ≤ length s → drop at s ≡ x ++ drop end s → Between s at end x
between s x at end low high e =
    record { bytes = e; ends = omega (arith, simp (length-drop, length-append) at (ap length e)); within = high }

-- A node that was read stands there, and ends where it was read to.
pub record There (c : Columns) (s : List ℕ) (at count end total : ℕ) (t : Expr) : Type 0 where
  pub stands : Stands c s at t
  pub span : Between s at end (expr_bytes t)
  pub counted : total ≡ count + nodes t

module _ (c : Columns) (s : List ℕ) (at levels count : ℕ) (bytes : AllBytes s) (within : at ≤ length s) (few : count ≤ 1024) where
  back : (end : ℕ) {total : ℕ} {t : Expr} → node c levels count (drop at s) ≡ read t total (drop end s)
      → NodeBack c levels count total (drop at s) (drop end s) t
  back end {total} {t} reads = node-back c levels count total (drop at s) (drop end s) t (bytes-from at s bytes) few reads

  pub node-there : {end total : ℕ} {t : Expr} → end ≤ length s → node c levels count (drop at s) ≡ read t total (drop end s)
      → There c s at count end total t
  node-there {end} {total} {t} place reads =
      let b = back end reads in
      record {
        stands = record { bytes = record { rest = drop end s; bytes = b.bytes; within = within }; in_range = b.in_range };
        span = between s _ at end within place b.bytes;
        counted = b.counted;
      }

-- The walk of a root is the reading of an expression, which stands there; what its visitor holds then says what is claimed.
module _ (c : Columns) (s : List ℕ) (at before : ℕ) (bytes : AllBytes s) (within : at ≤ length s) where
  module _ (visited : (end index : ℕ) → Expr → Type 0) (claim : (at i : ℕ) → Expr → Type 0)
      (says : (end : ℕ) (e : Expr) → visited end (before + nodes e) e → claim at before e) where
    read-stands : (walked : Walked) → VisitIs s at before (Ok walked) (node c 64) ⊥ visited (λ e. ⊥)
        → ExpressionIs s at before (Ok walked) c claim
    unfolding expression
    read-stands walked (place, e, reads, visits) =
        let few = few-before c 64 before (drop at s) reads in
        let b = back c s at 64 before bytes within few walked.next reads in
        let there = node-there c s at 64 before bytes within few place reads in (
          e,
          reads,
          record { bytes = there.span; readable = record { in_range = b.in_range; shallow = b.shallow } },
          there.counted,
          b.few,
          says walked.next e (subst (λ (k : ℕ). visited walked.next k e) there.counted visits),
        )

    pub expression-stands : (r : Result Walked Refusal) → VisitIs s at before r (node c 64) ⊥ visited (λ e. ⊥)
        → ExpressionIs s at before r c claim
    unfolding expression
    expression-stands (Ok walked) h = read-stands walked h
    expression-stands (Err why) (inl stops) = stops
    expression-stands (Err why) (inr (some, refuse)) = absurd some

  -- The same where its records are held to a table's.
  pub expression-held : (table : List Lent) (r : Result Walked Refusal)
      → VisitIs s at before r (node c 64) (Unit {0}) (RecordsAre at before table) (λ e. Recorded table at before e → ⊥)
      → ExpressionHeld s at before table r c
  unfolding expression
  expression-held table (Ok walked) h =
      read-stands (RecordsAre at before table) (Recorded table) (λ end e same. same.2) walked h
  expression-held table (Err why) (inl stops) = inl stops
  expression-held table (Err why) (inr (some, refuse)) = inr refuse
