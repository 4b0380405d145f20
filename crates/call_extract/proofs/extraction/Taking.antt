-- From a pick and the frame that it is of to what the writers of predicate and remainder are given.
use Prim.Native.Nat.{ℕ, ◌+◌, ◌≤◌}
use native.Mathlib.Omega.{arith}
use mathlib.Core.Path.{◌≡◌, refl, sym, ap, ◌∙◌, subst}
use mathlib.Core.List.{List, ◌++◌}
use lib.ListN.{length, length-append}
use Rattle.definitions.specs.Words.Basics.{big_endian}
use Rattle.definitions.specs.Words.Expression as tree
use Rattle.definitions.specs.Bytes.Encode.{remainder_bytes, extraction_bytes}
use Rattle.definitions.specs.Bytes.Decode.{index_below}
use Rattle.expression.specs.Nodes.{Stands}
use Rattle.frame_reader.specs.declared.frame_bodies.Frame.{Frame}
use Rattle.sedona_query_planner.specs.Predicates.{PredicateAt}
use Rattle.leaf_pick.specs.declared.first_match.Pick.{Pick}
use Rattle.byte_writer.specs.Written.{Wrote}
use Rattle.byte_writer.specs.Writing.{Room, Puts}
use Rattle.byte_writer.proofs.Written.{behind, together, behind-length, then-wrote}
use Rattle.plan_writer.specs.Tables.{ChildTable}
use Rattle.plan_writer.specs.Arguments.{table_change}
use Rattle.plan_writer.specs.Predicates.{predicate_bytes}
use Rattle.plan_writer.proofs.ChildLaws.{by-children}
use Rattle.remainder.specs.Pruned.{Prunable}
use Rattle.remainder.specs.Remainders as remainders
use Rattle.call_extract.specs.Extractions.{Taking, takes, ExtractionFits, ExtractionPut}

-- ---- an extraction is its predicate with its position, and its remainder

extraction-parts : (X : tree.Extraction) → predicate_bytes X.position X.predicate ++ remainder_bytes X.remainder ≡ extraction_bytes X
unfolding extraction_bytes predicate_bytes big_endian
extraction-parts X = refl

extraction-length : (X : tree.Extraction)
    → length (extraction_bytes X) ≡ length (predicate_bytes X.position X.predicate) + length (remainder_bytes X.remainder)
extraction-length X =
    ap length (sym (extraction-parts X)) ∙ length-append (predicate_bytes X.position X.predicate) (remainder_bytes X.remainder)

-- ---- what is taken

module _ {s : List ℕ} {f : Frame} {p : Pick} {F : tree.Frame} {q : tree.Predicate} (t : Taking s f p F q) where
  -- The predicate, by the table of child indexes.
  pub taken-predicate : (to : List ℕ) → 256 ≤ length to → ChildTable s f.records f.columns to
      → PredicateAt (table_change to) s p.predicate q
  taken-predicate to wide table =
      let count : length F.records ≡ f.columns = t.entries.counted in
      by-children F.records to (omega (arith, t.few, count))
      (rw count (table F.records t.entries)) s p.predicate q t.predicate

  pub taken-frame : Prunable s f.records f.columns s f.root F.records F.expr
  taken-frame = record {
    entries = t.entries;
    few = t.few;
    tree = subst (λ (k : ℕ). Stands (index_below k) s f.root F.expr) t.entries.counted t.expr;
  }

-- ---- the extraction

-- The predicate has room, and the remainder behind it.
module _ {s : List ℕ} {f : Frame} {p : Pick} {out : List ℕ} (h : ExtractionFits s f p out) (to : List ℕ) (wide : 256 ≤ length to)
    (table : ChildTable s f.records f.columns to) where
  abbrev taken : tree.Extraction
  taken = takes h.frame p h.predicate

  pub predicate-fits : Room (PredicateAt (table_change to) s p.predicate) (predicate_bytes p.position) 0 out
  predicate-fits = record {
    it = h.predicate;
    stands = taken-predicate h.taking to wide table;
    room = omega (arith, h.room, extraction-length taken);
  }

  module _ (middle : List ℕ) (w : ℕ) (same : length middle ≡ length out)
      (put : Puts (PredicateAt (table_change to) s p.predicate) (predicate_bytes p.position) out middle w) where
    ended : w ≡ length (predicate_bytes p.position h.predicate)
    ended = put.size h.predicate (taken-predicate h.taking to wide table)

    pub predicate-ends : w ≤ length middle
    predicate-ends = omega (arith, h.room, extraction-length taken, ended)

    pub remainder-fits : remainders.RemainderFits s f.records f.columns s f.root p.cut (behind w middle)
    remainder-fits = record {
      records = h.frame.records;
      tree = h.frame.expr;
      up = f.root;
      position = p.position;
      frame = taken-frame h.taking;
      cutting = h.taking.cut;
      room = omega (arith, h.room, extraction-length taken, ended, behind-length w middle);
    }

-- Both together are the extraction.
module _ {s : List ℕ} {f : Frame} {p : Pick} (to : List ℕ) (wide : 256 ≤ length to) (table : ChildTable s f.records f.columns to)
    (before middle part : List ℕ) (w r : ℕ)
    (put : Puts (PredicateAt (table_change to) s p.predicate) (predicate_bytes p.position) before middle w)
    (rest : remainders.RemainderPut s f.records f.columns s f.root p.cut (behind w middle) part r) where
  pub extraction-is : ExtractionPut s f p before (together w middle part) (w + r)
  extraction-is F q t =
      let X : tree.Extraction = takes F p q in
      let predicate = taken-predicate t to wide table in
      let one = put.size q predicate in
      let two = rest F.records F.expr f.root p.position (taken-frame t) t.cut in (
        omega (arith, one, two.0, extraction-length X),
        subst (λ (x : List ℕ). Wrote x before (together w middle part)) (extraction-parts X)
            (then-wrote (predicate_bytes p.position q) (remainder_bytes X.remainder) before middle part w one (put.wrote q predicate)
            two.1),
      )

-- It ends within the buffer.
pub extraction-ends : {s : List ℕ} {f : Frame} {p : Pick} {before after : List ℕ} {r : ℕ} → ExtractionPut s f p before after r
    → ExtractionFits s f p before → r ≤ length before
extraction-ends put h = omega (arith, h.room, (put h.frame h.predicate h.taking).0)
