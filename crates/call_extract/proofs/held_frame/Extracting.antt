-- What an extract is, once the held plan, the scratch's length and the pick are known.
use Rattle.std.specs.Prelude.{if◌then◌else◌, Ok, Err}
use Prim.Native.Nat.{ℕ, ◌≤◌, ◌<◌}
use native.Mathlib.Omega.{arith}
use mathlib.Core.Path.{◌≡◌, refl, sym, ap, ◌∙◌, subst}
use mathlib.Core.Bool.{Bool, true, false}
use mathlib.Core.List.{List, ◌++◌}
use mathlib.Core.Option.{Option, none, some}
use lib.ListN.{length, take, drop}
use lib.Dec.{leb}
use borrow.Author.Tests.{le-leb, lt-leb}
use Rattle.definitions.specs.Words.Basics.{refused}
use Rattle.definitions.specs.Words.Expression.{Frame, Extraction}
use Rattle.definitions.specs.Bytes.Encode.{plan_bytes, extraction_bytes}
use Rattle.definitions.specs.Filter.Extract.{pick, take_pick, Matcher, matches_by, extraction_by}
use Rattle.definitions.specs.Filter.OneWalk.{walk_length_by}
use Rattle.definitions.specs.Calls.Base.{written_over, finish, matched_bytes, new_after_extract_by, extract_filled_by, walk_filled_by}
use Rattle.definitions.specs.Bytes.Good.{AllBytes, ReadableFrame}
use Rattle.definitions.specs.Meaning.Values.{Meaning}
use Rattle.definitions.specs.Meaning.Matchers.{Lawful}
use Rattle.theorems.proofs.ExtractGood.{GoodExtraction, good-by}
use Rattle.frame_reader.specs.declared.frame_bodies.Frame as places
use Rattle.plan_reader.specs.Plans.{HoldsFrame}
use Rattle.leaf_matching.specs.Frames.{Over}
use Rattle.expression.specs.Nodes.{OfTree}
use Rattle.node_table.specs.declared.NodeRecord.{NodeRecord as Lent}
use Rattle.filter_tree.specs.Trees.{Noded}
use Rattle.filter_tree.proofs.Children.{whole-noded}
use Rattle.call_extract.specs.FrameNodes.{Indexed}
use Rattle.leaf_pick.specs.Picks.{TakenIs}
use Rattle.leaf_pick.specs.declared.first_match.Pick as picks
use Rattle.call_extract.specs.Extractions.{Taking, takes, ExtractionFits, ExtractionPut}
use Rattle.frame_reader.proofs.Standing.{between-holds, expr-stands}
use Rattle.call_answers.proofs.Refusing.{extract-call, outcome}
use Rattle.terms.specs.declared.refusals.Refusal.TheVariants.{BufferTooShort, NoLeafMatches}
use Rattle.call_answers.specs.Outcomes.{ExtractIs, unwalked}
use Rattle.call_answers.proofs.Walking.{walk_of-frame}
use Rattle.call_answers.proofs.Keeping.{held-is, plan-size, kept, kept-over}

-- ---- a held frame

module _ (match : Matcher) (n : ℕ) (before scratch : List ℕ) {f : places.Frame} (h : HoldsFrame n before f) where
  abbrev F : Frame
  F = h.frame

  by-test : (b : Bool) → leb n (length scratch) ≡ b → (x : Option Extraction) → extraction_by match F ≡ x
      → extract_filled_by match n before scratch ≡ finish n before scratch (if b then matched_bytes x else refused 9)
  unfolding new_after_extract_by
  by-test b t x e =
      outcome (extract-call match) n before scratch (held-is n before h.fits h.is)
      (ap (λ (y : Bool). if y then matched_bytes (extraction_by match F) else refused 9) t
      ∙ ap (λ (y : Option Extraction). if b then matched_bytes y else refused 9) e)

  -- Its walk, where the scratch is long enough.
  walk-by-test : (b : Bool) → leb n (length scratch) ≡ b → walk_filled_by match n before scratch ≡ (if b then walk_length_by match F else 0)
  walk-by-test b t = walk_of-frame match n before scratch F b (held-is n before h.fits h.is) t

  pub scratch-short : length scratch < n
      → ExtractIs (extract_filled_by match n before scratch) (walk_filled_by match n before scratch) n before scratch
      (unwalked BufferTooShort)
  unfolding finish
  scratch-short short = record {
    outcome = by-test false (lt-leb n (length scratch) short) (extraction_by match F) refl;
    carried = sym (walk-by-test false (lt-leb n (length scratch) short));
  }

  pub no-leaf : n ≤ length scratch → pick (matches_by match F) ≡ none → (w : ℕ) → w ≡ walk_length_by match F
      → ExtractIs (extract_filled_by match n before scratch) (walk_filled_by match n before scratch) n before scratch
      (record { answer = Err NoLeafMatches; walk = w })
  unfolding finish extraction_by take_pick matched_bytes
  no-leaf room e w is = record {
    outcome = by-test true (le-leb n (length scratch) room) none (ap (take_pick F) e);
    carried = is ∙ sym (walk-by-test true (le-leb n (length scratch) room));
  }

  -- The frame's expression over its records, where the pick looks.
  pub over : Over (take n before) f.records f.root F.records F.expr
  over = record { entries = between-holds h.stands.records; tree = expr-stands h.stands.expr }

  -- They are a tree's, in the copy too.
  pub indexed-noded : {nodes : List Lent} → Indexed n before f nodes → OfTree (take n before) f.root (Noded nodes f.root 0)
  indexed-noded indexed d t stands = whole-noded (indexed d t stands)

  pub noded-kept : {nodes : List Lent} → Indexed n before f nodes → (after : List ℕ)
      → after ≡ take n (drop 0 before) ++ drop n scratch → OfTree (take n after) f.root (Noded nodes f.root 0)
  noded-kept {nodes} indexed after copied =
      subst (λ (s : List ℕ). OfTree s f.root (Noded nodes f.root 0)) (sym (kept n before h.fits scratch after copied))
      (indexed-noded indexed)

  module _ {Asks : Meaning → Type 0} (laws : Lawful match Asks) (bytes : AllBytes before) (p : picks.Pick)
      (t : TakenIs match (take n before) f.root p F.records F.expr) where
    abbrev X : Extraction
    X = takes F p t.q

    extraction-is : extraction_by match F ≡ some X
    unfolding extraction_by take_pick
    extraction-is = ap (take_pick F) t.is

    -- The extraction is not longer than the frame, whose bytes the plan is.
    room : length (extraction_bytes X) ≤ length before
    unfolding plan_bytes
    room =
        let size = plan-size n before h.fits bytes h.is in
        let short : GoodExtraction F (some X) = subst (GoodExtraction F) extraction-is (good-by laws F size.1) in
        omega (arith, short.1, size.0, h.fits)

    taking : Taking (take n before) f p F t.q
    taking =
        let good : ReadableFrame F = (plan-size n before h.fits bytes h.is).1.readable in
        record {
          entries = record { bytes = over.entries; in_range = good.records_in_range; counted = sym h.stands.counted };
          few = omega (arith, good.few, h.stands.counted);
          expr = over.tree;
          predicate = t.stands;
          cut = t.cut;
        }

    module _ (after : List ℕ) (copied : after ≡ take n (drop 0 before) ++ drop n scratch) where
      pub taking-kept : Taking (take n after) f p F t.q
      taking-kept = rw (kept n before h.fits scratch after copied) taking

      pub extraction-fits : ExtractionFits (take n after) f p before
      extraction-fits = record { frame = F; predicate = t.q; taking = taking-kept; room = room }

      pub extracts : n ≤ length scratch → (written : List ℕ) (answer : ℕ) → ExtractionPut (take n after) f p before written answer
          → (w : ℕ) → w ≡ walk_length_by match F
          → ExtractIs (extract_filled_by match n before scratch) (walk_filled_by match n before scratch) n written after
          (record { answer = Ok answer; walk = w })
      unfolding finish matched_bytes plan_bytes extraction_bytes written_over
      extracts enough written answer put w walked =
          let is = put F t.q taking-kept in
          record {
            outcome = by-test true (le-leb n (length scratch) enough) (some X) extraction-is
                ∙ rw (← is.0, ← is.1, kept-over n before h.fits scratch after copied) refl;
            carried = walked ∙ sym (walk-by-test true (le-leb n (length scratch) enough));
          }
