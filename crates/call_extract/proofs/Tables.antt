-- When a table begins with a frame's records.
use Rattle.std.specs.Prelude.{if◌then◌else◌}
use Prim.Native.Nat.{ℕ, ◌+◌, ◌*◌, ◌≤◌, ◌<◌}
use native.Mathlib.Omega.{arith}
use mathlib.Core.Path.{◌≡◌, refl, sym, ap, ◌∙◌, subst}
use mathlib.Core.Bool.{Bool, true, false}
use mathlib.Core.List.{List}
use lib.ListN.{length, take}
use borrow.Author.Tests.{lt-leb}
use Rattle.definitions.specs.Words.Basics.{Result, ok, refused}
use Rattle.definitions.specs.Words.Expression as tree
use Rattle.definitions.specs.Bytes.Encode.{plan_bytes}
use Rattle.definitions.specs.Bytes.Plans.{plan_of}
use Rattle.definitions.specs.Bytes.Good.{AllBytes}
use Rattle.definitions.specs.Bytes.NodeTable.{NodeRecord, nodes_from, node_table}
use Rattle.definitions.specs.Filter.Extract.{Matcher}
use Rattle.definitions.specs.Calls.Base.{table_fits, finish, held_plan, extract_by, extract_filled_by, walk_filled_by, extract_walk_by}
use Rattle.theorems.proofs.ExchangeGood.{frame-length}
use Rattle.theorems.proofs.NodeTables.{begins-exactly-by}
use Rattle.frame_reader.specs.declared.frame_bodies.Frame.{Frame}
use Rattle.plan_reader.specs.Plans.{HoldsFrame, HeldIs, NotHeld, no_bytes, no_good}
use Rattle.plan_reader.specs.declared.extraction_bodies.Held.{Held}
use Rattle.plan_reader.specs.declared.extraction_bodies.Held.TheVariants as variants
use Rattle.filter_tree.specs.Trees.{Recorded}
use Rattle.std.specs.Prelude.{Ok}
use Rattle.std.proofs.Common.{◌⊎◌, inl, inr}
use Rattle.call_answers.proofs.Keeping.{held-is, plan-length, plan-size}
use Rattle.terms.specs.declared.refusals.Refusal.{Refusal}
use Rattle.terms.specs.declared.refusals.Refusal.TheVariants.{NoGoodPlan, PlanEmpty}
use Rattle.call_answers.specs.Outcomes.{ExtractIs, unwalked}
use Rattle.call_answers.specs.declared.answers.Extracted.{Extracted}
use Rattle.call_answers.proofs.Walking.{bad-refused, empty-refused}
use Rattle.node_table.specs.Records.{nodes_of}
use Rattle.node_table.specs.declared.NodeRecord.{NodeRecord as Lent}
use Rattle.call_extract.specs.ExtractByTable.{ExtractsWith}

-- ---- no frame is held

-- The extract without a table; what is true of it is true of one with a table that fits.
abbrev pub Without : Matcher → (n : ℕ) (plan scratch after kept : List ℕ) → Extracted → Type 0
Without match n plan scratch after kept r =
    ExtractIs (extract_filled_by match n plan scratch) (walk_filled_by match n plan scratch) n after kept r

-- By whether the table fits.
by-fit : (match : Matcher) (n : ℕ) (plan scratch : List ℕ) (table : List NodeRecord) {after kept : List ℕ} {r : Extracted} (b : Bool)
    → table_fits table (held_plan n plan) ≡ b
    → ExtractIs (if b then extract_filled_by match n plan scratch else finish n plan scratch (refused 10))
    (if b then walk_filled_by match n plan scratch else 0)
    n after kept r
    → ExtractsWith match n plan scratch table after kept r
unfolding extract_by extract_walk_by
by-fit match n plan scratch table b e is = rw e is

-- Where no frame is held, the table does not matter.
pub unheld : (match : Matcher) (n : ℕ) (plan scratch : List ℕ) (table : List NodeRecord) {r : Result tree.Plan} → held_plan n plan ≡ r
    → table_fits table r ≡ true → {after kept : List ℕ} {x : Extracted} → Without match n plan scratch after kept x
    → ExtractsWith match n plan scratch table after kept x
unheld match n plan scratch table e fits is = by-fit match n plan scratch table true (ap (table_fits table) e ∙ fits) is

-- So where what is held is no frame: it is refused as it is without a table.
module _ (match : Matcher) (n : ℕ) (plan scratch : List ℕ) (table : List NodeRecord) (within : n ≤ length plan) where
  bad-lent : (number : ℕ) → plan_of (take n plan) ≡ refused number
      → ExtractsWith match n plan scratch table plan scratch (unwalked NoGoodPlan)
  unfolding table_fits
  bad-lent number e = unheld match n plan scratch table (held-is n plan within e) refl (bad-refused match n plan scratch within number e)

  empty-lent : plan_of (take n plan) ≡ ok tree.empty → ExtractsWith match n plan scratch table plan scratch (unwalked PlanEmpty)
  unfolding table_fits
  empty-lent e = unheld match n plan scratch table (held-is n plan within e) refl (empty-refused match n plan scratch within e)

  not-lent : {why : Refusal} → NotHeld (plan_of (take n plan)) why → ExtractsWith match n plan scratch table plan scratch (unwalked why)
  not-lent (no_bytes e) = empty-lent e
  not-lent (no_good number e) = bad-lent number e

  pub refused-lent : {why : Refusal}
      → NotHeld (plan_of (take n plan)) why ⊎ ((why ≡ NoGoodPlan) × (table_fits table (plan_of (take n plan)) ≡ false))
      → ExtractsWith match n plan scratch table plan scratch (unwalked why)
  unfolding finish
  refused-lent (inl not) = not-lent not
  refused-lent (inr (is, differs)) = rw is
      (by-fit match n plan scratch table false (ap (table_fits table) (held-is n plan within refl) ∙ differs)
      (record { outcome = refl; carried = refl }))

pub over-long : (n : ℕ) (plan : List ℕ) → length plan < n → held_plan n plan ≡ refused 10
unfolding held_plan
over-long n plan h = ap (λ (b : Bool). if b then plan_of (take n plan) else refused 10) (lt-leb n (length plan) h)

-- ---- what is held has the table's records

module _ (n : ℕ) (plan : List ℕ) (within : n ≤ length plan) (bytes : AllBytes plan) (table : List Lent) where
  -- A frame's records are those of its expression where it stands.
  module _ {f : Frame} (h : HoldsFrame n plan f) where
    table_is : node_table h.frame ≡ nodes_from f.root h.frame.expr
    unfolding node_table plan_bytes
    table_is =
        let size = plan-size n plan h.fits bytes h.is in
        let root : 3 + 5 * length h.frame.records ≡ f.root =
        omega (arith, h.stands.expr.bytes.ends, plan-length n plan h.fits, size.0, frame-length h.frame) in
        ap (λ (p : ℕ). nodes_from p h.frame.expr) root

    frame-fits : Recorded table f.root 0 h.frame.expr → table_fits (nodes_of table) (held_plan n plan) ≡ true
    unfolding table_fits
    frame-fits recorded =
        ap (table_fits (nodes_of table)) (held-is n plan h.fits h.is)
        ∙ (begins-exactly-by (node_table h.frame) (nodes_of table)).1
        (subst (λ (l : List NodeRecord). take (length l) (nodes_of table) ≡ l) (sym table_is) recorded)

  held-fits : (held : Held) → HeldIs (take n plan) (Ok held) (plan_of (take n plan)) (Recorded table)
      → table_fits (nodes_of table) (held_plan n plan) ≡ true
  unfolding table_fits
  held-fits (variants.Frame f) h = frame-fits (record { frame = h.0; fits = within; stands = h.1; is = h.2 }) h.3
  held-fits (variants.Extraction x) h = ap (table_fits (nodes_of table)) (held-is n plan within h.2)

  -- So it is extracted as it is without a table.
  pub lent : (match : Matcher) (scratch : List ℕ) (held : Held) → HeldIs (take n plan) (Ok held) (plan_of (take n plan)) (Recorded table)
      → {after kept : List ℕ} {r : Extracted} → Without match n plan scratch after kept r
      → ExtractsWith match n plan scratch (nodes_of table) after kept r
  lent match scratch held h is = by-fit match n plan scratch (nodes_of table) true (held-fits held h) is
