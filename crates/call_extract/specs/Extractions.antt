-- What the writer of an extraction is given, and what it writes.
use Rattle.std.specs.Prelude.{ℕ, ◌≤◌, ◌≡◌, List, length}
use Rattle.definitions.specs.Words.Limits.{most_records}
use Rattle.std.proofs.Math.Option.{map}
use Rattle.definitions.specs.Words.Expression as tree
use Rattle.definitions.specs.Bytes.Encode.{extraction_bytes}
use Rattle.definitions.specs.Bytes.Decode.{index_below}
use Rattle.definitions.specs.Filter.Extract.{without, prune}
use Rattle.expression.specs.Nodes.{Stands}
use Rattle.frame_reader.specs.declared.frame_bodies.Frame.{Frame}
use Rattle.sedona_query_planner.specs.Predicates.{on_children, PredicateAt}
use Rattle.expression.specs.Cuts.{CutAt}
use Rattle.leaf_pick.specs.declared.first_match.Pick.{Pick}
use Rattle.byte_writer.specs.Written.{Wrote}
use Rattle.plan_writer.specs.Tables.{Entries}

-- The frame F stands in s, and the pick takes its leaf at the pick's position, which is the predicate q.
pub record Taking (s : List ℕ) (f : Frame) (p : Pick) (F : tree.Frame) (q : tree.Predicate) : Type 0 where
  pub entries : Entries s f.records f.columns F.records
  pub few : f.columns ≤ most_records
  pub expr : Stands (index_below (length F.records)) s f.root F.expr
  pub predicate : PredicateAt (on_children F.records) s p.predicate q
  pub cut : CutAt p.cut f.root F.expr f.root p.position

-- The extraction that it takes.
abbrev pub takes : tree.Frame → Pick → tree.Predicate → tree.Extraction
takes F p q = record {
  position = p.position;
  predicate = q;
  remainder = map (prune F.records) (without p.position F.expr);
}

-- There is one such, and room for it; each such was written.
pub record ExtractionFits (s : List ℕ) (f : Frame) (p : Pick) (out : List ℕ) : Type 0 where
  pub frame : tree.Frame
  pub predicate : tree.Predicate
  pub taking : Taking s f p frame predicate
  pub room : length (extraction_bytes (takes frame p predicate)) ≤ length out

abbrev pub ExtractionPut : (s : List ℕ) (f : Frame) (p : Pick) (before after : List ℕ) → ℕ → Type 0
ExtractionPut s f p before after answer =
    (F : tree.Frame) (q : tree.Predicate) → Taking s f p F q
    → (answer ≡ length (extraction_bytes (takes F p q))) × Wrote (extraction_bytes (takes F p q)) before after
