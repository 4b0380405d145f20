-- What a projection is, once the held plan, the lists and the scratch's length are known.
use Rattle.std.specs.Prelude.{if◌then◌else◌}
use Prim.Native.Nat.{ℕ, ◌≤◌, ◌<◌}
use native.Mathlib.Omega.{arith}
use mathlib.Core.Path.{◌≡◌, refl, sym, ap, ap₂, ◌∙◌}
use mathlib.Core.Bool.{Bool, true, false}
use mathlib.Core.List.{List, ◌++◌}
use mathlib.Core.Option.{none, some}
use lib.ListN.{length, take, drop}
use lib.Dec.{leb}
use borrow.Author.Tests.{le-leb, lt-leb}
use Rattle.definitions.specs.Words.Basics.{ok, refused}
use Rattle.definitions.specs.Words.Limits.{most_items}
use Rattle.definitions.specs.Words.Expression as tree
use Rattle.definitions.specs.Words.Expression.{held, extracted}
use Rattle.definitions.specs.Bytes.Plans.{plan_of}
use Rattle.definitions.specs.Calls.Base.{Outcome, written_over, finish}
use Rattle.definitions.specs.Bytes.Good.{AllBytes}
use Rattle.definitions.specs.Filter.Project.{placed, project_extraction, projection}
use Rattle.definitions.specs.Calls.Project.{short_lists, projected_bytes, new_after_project, project}
use Rattle.theorems.proofs.InversePlan.{plan-back}
use Rattle.theorems.proofs.Lengths.{bytes-up-to}
use Rattle.std.specs.Prelude.{Ok, Some}
use Rattle.std.proofs.Common.{◌⊎◌, inl, inr}
use Rattle.terms.specs.Refusals.{number_of}
use Rattle.terms.specs.declared.refusals.Refusal.{Refusal}
use Rattle.node_reader.specs.Places.{NoClaim}
use Rattle.plan_reader.specs.Plans.{HeldIs, NotHeld, no_bytes, no_good}
use Rattle.plan_reader.specs.declared.extraction_bodies.Extraction.{Extraction}
use Rattle.plan_reader.specs.declared.extraction_bodies.Held.TheVariants as there
use Rattle.call_answers.proofs.Keeping.{held-is, kept-over}
use Rattle.call_answers.proofs.Refusing.{Call, refuses, finishing, outcome, no-plan, empty-plan}
use Rattle.projection.proofs.FewSpots.{few-spots, fewer-spots}
use Rattle.projection.specs.Extractions.{ExtractionFits}
use Rattle.projection.specs.Patches.{patched}
use Rattle.projection.specs.Projected.{ListsFit, PlacesAre}
use Rattle.projection.proofs.ProjectedBytes.{lists_of, new_bytes, size, new-size, makes}
use Rattle.call_project.specs.Holding.{HoldsExtraction, Ready}

module _ (of_left of_right : List ℕ) where
  abbrev pub projects : ℕ → (before scratch : List ℕ) → Outcome
  projects n before scratch = project n before scratch of_left of_right

  pub project-call : Call projects finish refuses (λ n scratch room. new_after_project (lists_of of_left of_right) n scratch)
  unfolding project new_after_project
  project-call = finishing (λ n before scratch. refl) (λ n scratch room number. refl) (λ n scratch room. refl)

module _ (n : ℕ) (before scratch of_left of_right : List ℕ) where
  -- A held frame is refused.
  pub frame-held : n ≤ length before → (F : tree.Frame) → plan_of (take n before) ≡ ok (held F)
      → project n before scratch of_left of_right ≡ refuses n before scratch 18
  unfolding new_after_project finish
  frame-held fits F e = outcome (project-call of_left of_right) n before scratch (held-is n before fits e) refl

  module _ {x : Extraction} (h : HoldsExtraction n before x) where
    -- By the lists and the scratch.
    by_tests : (short long : Bool) → short_lists (lists_of of_left of_right) ≡ short → leb n (length scratch) ≡ long
        → project n before scratch of_left of_right
        ≡ finish n before scratch
        (if short then (if long then projected_bytes (projection (lists_of of_left of_right) h.X) else refused 9) else refused 19)
    unfolding new_after_project
    by_tests short long s l =
        outcome (project-call of_left of_right) n before scratch (held-is n before h.fits h.is)
        (ap₂ (λ (a b : Bool).
        if a then (if b then projected_bytes (projection (lists_of of_left of_right) h.X) else refused 9) else refused 19) s l)

    too_long : short_lists (lists_of of_left of_right) ≡ false → project n before scratch of_left of_right ≡ refuses n before scratch 19
    unfolding finish
    too_long e = by_tests false (leb n (length scratch)) e refl

    pub list-long : (most_items < length of_left) ⊎ (length of_left ≤ most_items × most_items < length of_right)
        → project n before scratch of_left of_right ≡ refuses n before scratch 19
    unfolding short_lists
    list-long (inl long) = too_long (rw (lt-leb (length of_left) most_items long) refl)
    list-long (inr long) =
        too_long (rw (le-leb (length of_left) most_items long.0, lt-leb (length of_right) most_items long.1) refl)

    -- Neither list is too long.
    module _ (fit : ListsFit of_left of_right) where
      short : short_lists (lists_of of_left of_right) ≡ true
      unfolding short_lists
      short = rw (le-leb (length of_left) most_items fit.first, le-leb (length of_right) most_items fit.second) refl

      pub scratch-short : length scratch < n → project n before scratch of_left of_right ≡ refuses n before scratch 9
      unfolding finish
      scratch-short less = by_tests true false short (lt-leb n (length scratch) less)

      module _ (room : n ≤ length scratch) where
        found : (b : Bool) → placed (lists_of of_left of_right) h.X ≡ b
            → project n before scratch of_left of_right
            ≡ finish n before scratch (projected_bytes (if b then some (project_extraction (lists_of of_left of_right) h.X) else none))
        unfolding projection
        found b e =
            by_tests true true short (le-leb n (length scratch) room)
            ∙ ap (λ (b : Bool). finish n before scratch
            (projected_bytes (if b then some (project_extraction (lists_of of_left of_right) h.X) else none))) e

        pub none-such : placed (lists_of of_left of_right) h.X ≡ false
            → project n before scratch of_left of_right ≡ refuses n before scratch 20
        unfolding finish projected_bytes
        none-such e = found false e

        pub projected : (row : List ℕ) (count : ℕ) → PlacesAre (lists_of of_left of_right) h.X row (Some count)
            → (after kept : List ℕ) → after ≡ patched (take count row) before → kept ≡ take n (drop 0 before) ++ drop n scratch
            → project n before scratch of_left of_right ≡ record { answer = ok n; n = n; buffer = after; scratch = kept }
        unfolding finish projected_bytes written_over
        projected row count are after kept patches copied =
            let bytes : List ℕ = new_bytes (lists_of of_left of_right) h.X in
            let long : length bytes ≡ n = new-size n before h.fits h.there fit row are in
            let buffer : written_over bytes before ≡ after =
            ap (λ (k : ℕ). bytes ++ drop k before) long ∙ sym (patches ∙ makes n before h.fits h.there fit row are) in
            found true are.0
            ∙ ap₂ (λ (k : ℕ) (b : List ℕ). record { answer = ok k; n = k; buffer = b; scratch = written_over (take n before) scratch })
            long buffer
            ∙ ap (λ (s : List ℕ). record { answer = ok n; n = n; buffer = after; scratch = s })
            (kept-over n before h.fits scratch kept copied)

-- Where neither a frame nor an extraction is held.
pub not-held : (n : ℕ) (before scratch of_left of_right : List ℕ) → n ≤ length before → {why : Refusal}
    → NotHeld (plan_of (take n before)) why
    → project n before scratch of_left of_right ≡ refuses n before scratch (number_of why)
not-held n before scratch of_left of_right fits (no_bytes e) = empty-plan (project-call of_left of_right) n before scratch fits e
not-held n before scratch of_left of_right fits (no_good number e) = no-plan (project-call of_left of_right) n before scratch fits number e

-- ---- what the calls require

-- An extraction that was read is held.
pub holds_of : (n : ℕ) (before : List ℕ) (x : Extraction) → n ≤ length before → AllBytes before
    → HeldIs (take n before) (Ok (there.Extraction x)) (plan_of (take n before)) NoClaim → HoldsExtraction n before x
holds_of n before x fits bytes good =
    let back = plan-back (take n before) (extracted good.0) (bytes-up-to n before bytes) good.2 in
    record { X = good.0; fits = fits; there = record { bytes = back.0; good = back.1; read = good.1; in_row = good.3 }; is = good.2 }

pub extraction-fits : {n : ℕ} {plan scratch of_left of_right : List ℕ} {places : ℕ} {x : Extraction}
    → Ready n plan scratch x of_left of_right places → (row : List ℕ) → length row ≡ places → ExtractionFits (take n plan) x row
extraction-fits {n} {plan} r row long =
    let h = r.holds in
    record {
      X = h.X;
      there = h.there;
      room = omega (arith, few-spots h.X, fewer-spots h.X h.there.good, size n plan h.fits h.there, r.room, long);
    }
