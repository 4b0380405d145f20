-- Whole extractions and held plans: the predicate, the remainder, the end.
use Prim.Native.Nat.{ℕ, ◌+◌, ◌≤◌, ◌<◌}
use native.Mathlib.Omega.{arith}
use mathlib.Core.Path.{◌≡◌, refl, sym, ap, ◌∙◌, subst}
use mathlib.Core.List.{List, [], ◌∷◌, ◌++◌}
use mathlib.Core.Option.{Option}
use lib.ListN.{length, length-append, length-drop, drop, get_or}
use lib.Dec.{eqb}
use borrow.Author.Tests.{eqb-true, eqb-false, eq-eqb, ne_eqb}
use mathlib.Core.Bool.{Bool, true, false}
use Rattle.definitions.specs.Words.Basics as definitions
use Rattle.definitions.specs.Words.Basics.{ok, refused, map_result, big_endian}
use Rattle.definitions.specs.Words.Expression.{Expr, Frame, Predicate, Extraction, Plan, empty, held, extracted}
use Rattle.definitions.specs.Bytes.Encode.{predicate_fields}
use Rattle.definitions.specs.Bytes.Good.{AllBytes}
use Rattle.definitions.specs.Bytes.Readers.{Read, read, stopped, Reader, continue, ◌>>◌, give, byte, number, require_length, at_end, result_of}
use Rattle.definitions.specs.Bytes.Decode.{predicate_of_kind, extraction_body}
use Rattle.definitions.specs.Bytes.Plans.{whole_extraction, frame_of, extraction_of, plan_of_kind, plan_of}
use Rattle.theorems.proofs.ReaderLaws.{after, halts, passes, fails}
use Rattle.theorems.proofs.Tools.{bytes-from}
use Rattle.theorems.proofs.Inverse.{byte-back, number-back}
use Rattle.theorems.proofs.InverseFrame.{opened}
use Rattle.theorems.proofs.InversePlan.{predicate-bytes}
use Rattle.sedona_query_planner.specs.declared.spatial_predicate.SpatialPredicate.{SpatialPredicate}
use Rattle.node_reader.specs.Fields.{ReadsAt}
use Rattle.node_reader.specs.Places.{NoClaim}
use Rattle.frame_reader.specs.Frames.{first_of, PhysicalIs, PhysicalHeld}
use Rattle.definitions.specs.Calls.Base.{table_fits}
use Rattle.node_table.specs.declared.NodeRecord.{NodeRecord as Lent}
use Rattle.node_table.specs.Records.{nodes_of}
use Rattle.filter_tree.specs.Trees.{Recorded}
use Rattle.std.proofs.Common.{inl, inr}
use Rattle.std.specs.Prelude.{Result, Ok, Err}
use Rattle.std.specs.Prelude as std
use Rattle.terms.specs.declared.refusals.Refusal.{Refusal}
use Rattle.terms.specs.declared.refusals.Refusal.TheVariants.{PlanEmpty, NoGoodPlan}
use Rattle.frame_reader.specs.declared.frame_bodies.Frame as frames
use Rattle.plan_reader.specs.Predicates.{InRow}
use Rattle.plan_reader.specs.Plans.{RemainderIs, WholeIs, HeldIs, HeldByTable, no_bytes, no_good}
use Rattle.plan_reader.specs.declared.extraction_bodies.Extraction as extractions
use Rattle.plan_reader.specs.declared.extraction_bodies.Held.{Held}
use Rattle.plan_reader.specs.declared.extraction_bodies.Held.TheVariants as variants
use Rattle.frame_reader.proofs.Wholes.{regroup, none_after, some_after}

-- ---- remainders

-- What is right for the rest is right for the whole.
pub follows : (s : List ℕ) (at place before : ℕ) (whole rest : Reader (Option Frame)) (r : Result (std.Option frames.Frame × ℕ) Refusal)
    → whole before (drop at s) ≡ rest before (drop place s) → RemainderIs s place before r rest → RemainderIs s at before r whole
follows s at place before whole rest (Ok r) e h = (h.0, h.1, h.2, h.3, e ∙ h.4)
follows s at place before whole rest (Err why) e h = e ∙ h

-- ---- places

-- What stands before the bytes from a place on ends there.
ends-at : (s x : List ℕ) (at next : ℕ) → at ≤ length s → next ≤ length s → drop at s ≡ x ++ drop next s → next ≡ at + length x
ends-at s x at next low high e =
    omega (arith, low, high, ap length e, length-append x (drop next s), length-drop at s, length-drop next s)

-- A predicate after a number of two bytes ends after its fields.
pub predicate-ends : (s : List ℕ) (at value start kind : ℕ) (p : SpatialPredicate) {count next : ℕ} {P : Predicate} → AllBytes s
    → at ≤ length s → (start ≤ length s) × ReadsAt s at start value (number 2) → next ≤ length s
    → predicate_of_kind kind 0 (drop start s) ≡ read P count (drop next s) → InRow p next
    → InRow p (at + 2 + length (predicate_fields P))
unfolding big_endian
predicate-ends s at value start kind p {count} {next} {P} bytes low (within, position) high predicate row =
    let two : start ≡ at + 2 =
    ends-at s (big_endian 2 value) at start low within (number-back 2 0 0 value _ _ (bytes-from at s bytes) (position 0)).0 in
    let fields : next ≡ start + length (predicate_fields P) =
    ends-at s (predicate_fields P) start next within high
    (predicate-bytes 0 count kind _ _ P (bytes-from start s bytes) (omega arith) predicate) in
    subst (InRow p) (fields ∙ ap (λ (n : ℕ). n + length (predicate_fields P)) two) row

-- The first byte ends at 1.
pub first-place : (s : List ℕ) (first at : ℕ) → at ≤ length s → first_of 0 s ≡ read first 0 (drop at s) → at ≡ 1
unfolding first_of
first-place s first at low e =
    opened s byte e (λ short read. ends-at s (first ∷ []) 0 at (omega arith) low (byte-back 0 0 first s _ read).0)

-- Its bytes are few enough.
pub first-short : (s : List ℕ) (first : ℕ) (t : List ℕ) → first_of 0 s ≡ read first 0 t → length s ≤ 16384
unfolding first_of
first-short s first t e = opened s byte e (λ short g. short)

-- ---- whole extractions

abbrev ending : Extraction → Reader Extraction
ending X = at_end >> give X

module _ (s : List ℕ) where
  opens : whole_extraction 0 s ≡ continue (first_of 0 s) (λ first n t. continue (extraction_body first n t) ending)
  unfolding whole_extraction first_of
  opens = sym (regroup (require_length 0 s) (λ b. byte) (λ first n t. continue (extraction_body first n t) ending))

  results : {r : Read Extraction} → whole_extraction 0 s ≡ r → extraction_of s ≡ result_of r
  unfolding extraction_of
  results e = ap result_of e

  pub unopened : {number : ℕ} → first_of 0 s ≡ stopped number → extraction_of s ≡ refused number
  unfolding result_of
  unopened e = results (opens ∙ halts _ e)

  module _ (first at : ℕ) (e : first_of 0 s ≡ read first 0 (drop at s)) where
    pub body-stops : {number : ℕ} → extraction_body first 0 (drop at s) ≡ stopped number → extraction_of s ≡ refused number
    unfolding result_of
    body-stops f = results (opens ∙ after _ e ∙ halts ending f)

    module _ (X : Extraction) (end count : ℕ) (f : extraction_body first 0 (drop at s) ≡ read X count (drop end s)) where
      last : whole_extraction 0 s ≡ ending X count (drop end s)
      last = opens ∙ after _ e ∙ after ending f

      pub ends : end ≡ length s → extraction_of s ≡ ok X
      unfolding at_end result_of
      ends z = results (last ∙ passes 7 (give X) count (drop end s) (none_after s end z))

      pub goes_on : end ≤ length s → (end ≡ length s → ⊥) → extraction_of s ≡ refused 7
      unfolding at_end result_of
      goes_on low z = results (last ∙ fails 7 (give X) count (drop end s) (some_after s end low z))

-- ---- held plans

nothing-held : (s : List ℕ) → length s ≡ 0 → plan_of s ≡ ok empty
unfolding plan_of
nothing-held [] h = refl
nothing-held (b ∷ s) h = absurd (omega arith)

frame-held : (s : List ℕ) → get_or s 0 0 ≡ 1 → plan_of s ≡ map_result held (frame_of s)
unfolding plan_of plan_of_kind
frame-held [] e = absurd (omega arith)
frame-held (b ∷ s) e = rw (eq-eqb b 1 e)

extraction-held : (s : List ℕ) → 0 < length s → (get_or s 0 0 ≡ 1 → ⊥) → plan_of s ≡ map_result extracted (extraction_of s)
unfolding plan_of plan_of_kind
extraction-held [] h e = absurd (omega arith)
extraction-held (b ∷ s) h e = rw (ne_eqb b 1 e)

module _ (s : List ℕ) (claim : (at i : ℕ) → Expr → Type 0) {empty : Bool} (is : empty ≡ eqb (length s) 0) where
  pub empty-plan : empty ≡ true → HeldIs s (Err PlanEmpty) (plan_of s) claim
  empty-plan none = no_bytes (nothing-held s (eqb-true (length s) 0 (sym is ∙ none)))

  module _ (some : empty ≡ false) (other : get_or s 0 0 ≡ 1 → ⊥) where
    told : plan_of s ≡ map_result extracted (extraction_of s)
    told = extraction-held s (omega (arith, eqb-false (length s) 0 (sym is ∙ some))) other

    pub extraction-plan : {x : extractions.Extraction} → WholeIs s (Ok x) (extraction_of s)
        → HeldIs s (Ok (variants.Extraction x)) (plan_of s) claim
    extraction-plan h = (h.0, h.1, told ∙ ap (map_result extracted) h.2, h.3)

    pub no-extraction : (why : Refusal) → WholeIs s (Err why) (extraction_of s) → HeldIs s (Err NoGoodPlan) (plan_of s) claim
    no-extraction why h = no_good _ (told ∙ ap (map_result extracted) h)

module _ (s : List ℕ) (claim : (at i : ℕ) → Expr → Type 0) (first : get_or s 0 0 ≡ 1) where
  pub frame-plan : {f : frames.Frame} → PhysicalIs s (Ok f) (frame_of s) claim → HeldIs s (Ok (variants.Frame f)) (plan_of s) claim
  frame-plan h = (h.0, h.1, frame-held s first ∙ ap (map_result held) h.2, h.3)

  pub no-frame : (why : Refusal) → PhysicalIs s (Err why) (frame_of s) claim → HeldIs s (Err NoGoodPlan) (plan_of s) claim
  no-frame why h = no_good _ (frame-held s first ∙ ap (map_result held) h)

-- What the row holds left out.
pub without-claim : (s : List ℕ) (claim : (at i : ℕ) → Expr → Type 0) (result : definitions.Result Plan) (r : Result Held Refusal)
    → HeldIs s r result claim → HeldIs s r result NoClaim
without-claim s claim result (Ok (variants.Frame f)) h = (h.0, h.1, h.2, tt)
without-claim s claim result (Ok (variants.Extraction x)) h = h
without-claim s claim result (Err why) h = h

-- ---- a plan that is held to a table

none-held : (F : Frame) → ◌≡◌ {A = definitions.Result Plan} (ok empty) (ok (held F)) → ⊥
none-held F e = cc

-- Bytes that do not begin as a frame hold none.
frameless : (s : List ℕ) (F : Frame) → (get_or s 0 0 ≡ 1 → ⊥) → plan_of s ≡ ok (held F) → ⊥
unfolding plan_of plan_of_kind
frameless [] F other e = none-held F e
frameless (b ∷ s) F other e = by (extraction_of (b ∷ s)) (sym (extraction-held (b ∷ s) (omega arith) other) ∙ e)
  where
    by : (r : definitions.Result Extraction) → map_result extracted r ≡ ok (held F) → ⊥
    by (ok X) e = cc
    by (refused number) e = cc

pub none-first : (s : List ℕ) → length s ≡ 0 → get_or s 0 0 ≡ 1 → ⊥
none-first [] h e = omega (arith, e)
none-first (b ∷ s) h e = omega (arith, h)

module _ (table : List Lent) (s : List ℕ) where
  pub no-frame-held : (get_or s 0 0 ≡ 1 → ⊥) → (r : Result Held Refusal) → HeldIs s r (plan_of s) NoClaim
      → HeldByTable s table r (plan_of s)
  no-frame-held other (Ok (variants.Frame f)) h = absurd (frameless s h.0 other h.2)
  no-frame-held other (Ok (variants.Extraction x)) h = h
  no-frame-held other (Err why) h = inl h

  module _ (first : get_or s 0 0 ≡ 1) where
    pub frame-held-to : {f : frames.Frame} → PhysicalHeld s table (Ok f) (frame_of s)
        → HeldByTable s table (Ok (variants.Frame f)) (plan_of s)
    frame-held-to h = frame-plan s (Recorded table) first h

    -- What is no good frame is no good plan; with the records of a good one the table does not begin.
    pub no-frame-held-to : (why : Refusal) → PhysicalHeld s table (Err why) (frame_of s) → HeldByTable s table (Err NoGoodPlan) (plan_of s)
    unfolding table_fits
    no-frame-held-to why (inl bad) = inl (no-frame s NoClaim first why bad)
    no-frame-held-to why (inr others) = by (frame_of s) refl
      where
        by : (r : definitions.Result Frame) → frame_of s ≡ r → HeldByTable s table (Err NoGoodPlan) (plan_of s)
        by (ok F) e = inr (refl, ap (table_fits (nodes_of table)) (frame-held s first ∙ ap (map_result held) e) ∙ others F e)
        by (refused number) e = inl (no_good number (frame-held s first ∙ ap (map_result held) e))
