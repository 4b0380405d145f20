-- The truth value of an extraction is that of its frame, and exchange reads the values of left and right exchanged.
use Rattle.std.specs.Prelude.{if◌then◌else◌}
use Prim.Native.Nat.{ℕ, zero, suc, ◌<◌}
use native.Mathlib.Nat.{not-suc-le-zero, le_of_suc-le-suc}
use mathlib.Core.Path.{◌≡◌, refl, sym, ap, ap₂, ◌∙◌, subst, fun_ext}
use mathlib.Core.Bool.{Bool, true, false}
use mathlib.Core.List.{List, [], ◌∷◌, map}
use mathlib.Core.Option
use mathlib.Core.Option.{Option, none, some}
use lib.ListN.{length, take, get_or}
use lib.Dec.{ltb}
use borrow.Author.Tests.{ltb-true}
use Rattle.definitions.specs.Words.Basics.{keep}
use Rattle.definitions.specs.Words.Expression.{left, right, no_side, Expr, Record, Frame, relation, distance, knn, Extraction, Plan, empty, held, extracted}
use Rattle.definitions.specs.Bytes.Decode.{index_below}
use Rattle.definitions.specs.Words.References.{columns_of, record_at}
use Rattle.definitions.specs.Filter.Extract.{Pick, pick, without, referenced, new_index, prune, take_pick, Matcher, matches_by, extraction_by}
use Rattle.definitions.specs.Filter.Exchange.{negate, exchange_record, exchange_frame, exchange_predicate, exchange_extraction, exchange_plan}
use Rattle.definitions.specs.Lists.Machine.{machine_plan, extraction_or}
use Rattle.definitions.specs.Bytes.Good.{InRange}
use Rattle.definitions.specs.Meaning.Values.{and_value, Valuation, Meaning, value, frame_columns, frame_value, predicate_value, and_remainder, extraction_value, plan_value, exchanged_values, FairBy}
use Rattle.theorems.proofs.Columns.{all_both, columns-below}
use Rattle.theorems.proofs.Taken.{Taken, leaf-in-range, rest-in-range, RestIs}
use Rattle.definitions.specs.Meaning.Matchers.{Valued, Lawful, Symmetric}
use Rattle.theorems.proofs.Pick.{Picked, picked, leaf_at, pick-taken, pick-matches}
use Rattle.theorems.proofs.ExtractGood.{references}
use Rattle.theorems.proofs.Exchange.{child-at, side-at}
use Rattle.theorems.proofs.Values.{and_rest, taken-value, map-value, form-symmetric}

-- ---- the remainder

-- A kept record stands at its new index.
kept-at-by : (test : Record → Bool) (r : Record) (rs : List Record) (i : ℕ) (t : Bool)
    → record_at (keep test rs) (new_index test rs i) ≡ record_at rs i
    → record_at (if t then r ∷ keep test rs else keep test rs) (length (if t then r ∷ keep test (take i rs) else keep test (take i rs)))
    ≡ record_at rs i
unfolding record_at new_index
kept-at-by test r rs i true h = h
kept-at-by test r rs i false h = h

pub kept_at : (test : Record → Bool) (rs : List Record) (i : ℕ) → i < length rs → test (record_at rs i) ≡ true
    → record_at (keep test rs) (new_index test rs i) ≡ record_at rs i
unfolding record_at new_index keep
kept_at test [] i h e = absurd (not-suc-le-zero h)
kept_at test (r ∷ rs) zero h e =
    ap (λ (t : Bool). get_or (if t then r ∷ keep test rs else keep test rs) 0 (record { side = no_side; child = 0; tag = 0 })) e
kept_at test (r ∷ rs) (suc i) h e = kept-at-by test r rs i (test r) (kept_at test rs i (le_of_suc-le-suc h) e)

pub prune-value : (M : Meaning) (v : Valuation) (rs : List Record) (e : Expr) → InRange (index_below (length rs)) e
    → frame_value M v (prune rs e) ≡ value M (frame_columns v rs) e
unfolding frame_value prune frame_columns
prune-value M v rs e r =
    let test : Record → Bool = referenced rs e in
    sym (map-value M (frame_columns v rs) (frame_columns v (keep test rs)) (new_index test rs) e
    (all_both (λ i. ltb i (length rs) ≡ true) (λ i. test (record_at rs i) ≡ true)
    (λ i. frame_columns v rs i ≡ frame_columns v (keep test rs) (new_index test rs i))
    (λ i b t. ap (λ (x : Record). v x.side x.child) (sym (kept_at test rs i (ltb-true i (length rs) b) t)))
    (columns_of e) (columns-below (length rs) e r) (references rs e)))

-- ---- the extraction

rest-value : (M : Meaning) (v : Valuation) (rs : List Record) (x : ℕ) (rest : Option Expr) → RestIs (InRange (index_below (length rs))) rest
    → and_rest M (frame_columns v rs) x rest ≡ and_remainder M v x (Option.map (prune rs) rest)
unfolding and_rest and_remainder
rest-value M v rs x none r = refl
rest-value M v rs x (some e) r = ap (and_value x) (sym (prune-value M v rs e r))

abbrev pub SameValue : Meaning → Valuation → Frame → Option Extraction → Type 0
SameValue M v F none = Unit {0}
SameValue M v F (some X) = extraction_value M v X ≡ frame_value M v F

module _ {match : Matcher} {Asks : Meaning → Type 0} (laws : Lawful match Asks) (M : Meaning) (v : Valuation) (F : Frame)
    (asked : Asks M) (range : InRange (index_below (length F.records)) F.expr) where
  take-value : (p : Option Pick) → Picked (matches_by match F) F p → SameValue M v F (take_pick F p)
  unfolding take_pick extraction_value frame_value
  take-value none h = tt
  take-value (some p) h =
      let rs : List Record = F.records in
      let f : ℕ → ℕ = frame_columns v rs in
      let leaf : Expr = leaf_at F p.position in
      let rest : Option Expr = without p.position F.expr in
      let t : Taken F.expr leaf rest = pick-taken match F p h in
      let same : value M f leaf ≡ predicate_value M v p.predicate =
      subst (Valued M v (value M f leaf)) (pick-matches match F p h)
      (laws.means M v rs leaf asked (leaf-in-range (index_below (length rs)) t range)) in
      sym (taken-value M f t
      ∙ rest-value M v rs (value M f leaf) rest (rest-in-range (index_below (length rs)) t range)
      ∙ ap (λ (x : ℕ). and_remainder M v x (Option.map (prune rs) rest)) same)

  -- The extraction of a frame has the frame's value, where the matcher has what it asks.
  pub value-by : SameValue M v F (extraction_by match F)
  unfolding extraction_by
  value-by = take-value (pick (matches_by match F)) (picked (matches_by match F) F)

-- ---- the exchange

exchanged-columns : (v : Valuation) (rs : List Record) (i : ℕ)
    → frame_columns v (map exchange_record rs) i ≡ frame_columns (exchanged_values v) rs i
unfolding frame_columns exchanged_values
exchanged-columns v rs i = ap₂ v (side-at rs i) (child-at rs i)

frame-exchange-value : (M : Meaning) (v : Valuation) (F : Frame) → frame_value M v (exchange_frame F) ≡ frame_value M (exchanged_values v) F
unfolding frame_value exchange_frame
frame-exchange-value M v F = ap (λ (f : ℕ → ℕ). value M f F.expr) (fun_ext (exchanged-columns v F.records))

-- A fair meaning is one that exchange respects.
pub fair-symmetric : {match : Matcher} (M : Meaning) → FairBy match M → Symmetric M
unfolding predicate_value exchange_predicate exchanged_values negate
fair-symmetric M fair v (relation t l r) = fair.relation_inverse t (value M (v right) l) (value M (v left) r)
fair-symmetric M fair v (distance form side l r d) =
    form-symmetric M fair form (value M (v left) r) (value M (v right) l) (value M (v (negate side)) d)
fair-symmetric M fair v (knn k sp probe t l r) = refl

remainder-exchange-value : (M : Meaning) (v : Valuation) (x : ℕ) (R : Option Frame)
    → and_remainder M v x (Option.map exchange_frame R) ≡ and_remainder M (exchanged_values v) x R
unfolding and_remainder
remainder-exchange-value M v x none = refl
remainder-exchange-value M v x (some F) = ap (and_value x) (frame-exchange-value M v F)

pub plan-exchange-value : (M : Meaning) → Symmetric M → (v : Valuation) (p : Plan)
    → plan_value M v (exchange_plan p) ≡ plan_value M (exchanged_values v) p
unfolding plan_value exchange_plan extraction_value exchange_extraction
plan-exchange-value M turns v empty = refl
plan-exchange-value M turns v (held F) = frame-exchange-value M v F
plan-exchange-value M turns v (extracted X) =
    ap (λ (x : ℕ). and_remainder M v x (Option.map exchange_frame X.remainder)) (turns v X.predicate)
    ∙ remainder-exchange-value M v (predicate_value M (exchanged_values v) X.predicate) X.remainder

-- ---- the machine's plan

base-value : (M : Meaning) (v : Valuation) (F : Frame) (x : Option Extraction) → SameValue M v F x
    → plan_value M v (extraction_or (held F) x) ≡ frame_value M v F
unfolding extraction_or plan_value
base-value M v F none h = refl
base-value M v F (some X) h = h

-- Whatever the list of calls, the plan has the frame's value; odd, with the values of left and right exchanged.
module _ {match : Matcher} {Asks : Meaning → Type 0} (laws : Lawful match Asks) (M : Meaning) (turns : Symmetric M)
    (v : Valuation) (F : Frame) (asked : Asks M) (range : InRange (index_below (length F.records)) F.expr) where
  pub machine-value : (e o : Bool)
      → plan_value M v (machine_plan match F (record { is_extracted = e; is_odd = o }))
      ≡ frame_value M (if o then exchanged_values v else v) F
  unfolding machine_plan plan_value
  machine-value true true =
      plan-exchange-value M turns v (extraction_or (held F) (extraction_by match F))
      ∙ base-value M (exchanged_values v) F (extraction_by match F) (value-by laws M (exchanged_values v) F asked range)
  machine-value true false = base-value M v F (extraction_by match F) (value-by laws M v F asked range)
  machine-value false true = plan-exchange-value M turns v (held F)
  machine-value false false = refl
