-- A call's outcome is made from what it writes, or from its refusal: a refusal gives back what it was given, and what is written fits.
use Rattle.std.specs.Prelude.{if◌then◌else◌}
use Prim.Native.Nat.{ℕ, ◌≤◌}
use native.Mathlib.Omega.{arith}
use mathlib.Core.Path.{◌≡◌, refl, sym, ap, subst}
use mathlib.Core.Bool.{Bool, true, false, false≢true}
use mathlib.Core.List.{List}
use mathlib.Core.Option.{Option, none, some}
use lib.ListN.{length, take, drop, length-append, length-drop}
use lib.Seq.{take-append_seam, drop-append_seam, length-take-le}
use lib.Dec.{leb}
use borrow.Author.Tests.{leb-true}
use Rattle.definitions.specs.Words.Basics.{Result, ok, refused}
use Rattle.definitions.specs.Words.Expression.{Frame, Extraction, Plan, empty, held, extracted}
use Rattle.definitions.specs.Bytes.Encode.{frame_bytes, plan_bytes}
use Rattle.definitions.specs.Bytes.Plans.{frame_of, plan_of}
use Rattle.definitions.specs.Filter.Extract.{Matcher, extraction_by}
use Rattle.definitions.specs.Calls.Base.{written_over, filled_by, table_fits, finish_load, load, Outcome, finish, held_plan, new_after_exchange, exchange, matched_bytes, new_after_extract_by, extract_filled_by, extract_by}
use Rattle.definitions.specs.Lists.Machine.{Kind, extract_call, exchange_call}
use Rattle.definitions.specs.Bytes.Good.{AllBytes, nodes, GoodPlan}
use Rattle.definitions.specs.Bytes.NodeTable.{NodeRecord, node_table}
use Rattle.definitions.specs.Lists.Sessions.{make_by, accepted}
use Rattle.definitions.specs.Meaning.Values.{Meaning}
use Rattle.definitions.specs.Meaning.Matchers.{Lawful}
use Rattle.definitions.specs.Claims.Calls.{SameFrom, Filled, LoadWrote, CallWrote}
use Rattle.theorems.proofs.Tools.{by-test}
use Rattle.theorems.proofs.InversePlan.{plan-back}
use Rattle.theorems.proofs.ExtractGood.{GoodExtraction, good-by}
use Rattle.theorems.proofs.ExchangeGood.{plan-as-long}
use Rattle.theorems.proofs.Lengths.{bytes-up-to}
use Rattle.theorems.proofs.NodeTables.{table-nests-by}
use Rattle.theorems.proofs.ListTheorem.{Taken, taken-by}

-- ---- a refusal

loaded-keeps : (frame : List ℕ) (n : ℕ) (buffer : List ℕ) (table : List NodeRecord) (x : Result Frame)
    → accepted (finish_load frame n buffer table x).answer ≡ false
    → ((finish_load frame n buffer table x).n ≡ n) × ((finish_load frame n buffer table x).buffer ≡ buffer)
    × ((finish_load frame n buffer table x).table ≡ table)
unfolding finish_load filled_by accepted
loaded-keeps frame n buffer table (ok F) a = absurd (false≢true (sym a))
loaded-keeps frame n buffer table (refused number) a = (refl, refl, refl)

pub finish-keeps : (n : ℕ) (buffer scratch : List ℕ) (x : Result (List ℕ)) → accepted (finish n buffer scratch x).answer ≡ false
    → ((finish n buffer scratch x).n ≡ n) × ((finish n buffer scratch x).buffer ≡ buffer) × ((finish n buffer scratch x).scratch ≡ scratch)
unfolding finish accepted
finish-keeps n buffer scratch (ok bytes) a = absurd (false≢true (sym a))
finish-keeps n buffer scratch (refused number) a = (refl, refl, refl)

pub load-keeps : (frame : List ℕ) (n : ℕ) (buffer : List ℕ) (table : List NodeRecord) → accepted (load frame n buffer table).answer ≡ false
    → ((load frame n buffer table).n ≡ n) × ((load frame n buffer table).buffer ≡ buffer) × ((load frame n buffer table).table ≡ table)
unfolding load
load-keeps frame n buffer table a = loaded-keeps frame n buffer table _ a

-- An extract writes what it makes of the held plan, or gives 10 where the table does not fit.
pub extract-writes : (match : Matcher) (n : ℕ) (buffer scratch : List ℕ) (table : List NodeRecord) (P : Outcome → Type 0)
    → P (finish n buffer scratch (new_after_extract_by match n (length scratch) (held_plan n buffer)))
    → P (finish n buffer scratch (refused 10)) → P (extract_by match n buffer scratch table)
unfolding extract_by extract_filled_by
extract-writes match n buffer scratch table P h k = by-test P (table_fits table (held_plan n buffer)) _ _ (λ _. h) (λ _. k)

pub make-keeps : (match : Matcher) (kind : Kind) (n : ℕ) (buffer scratch : List ℕ) (table : List NodeRecord)
    → accepted (make_by match kind n buffer scratch table).answer ≡ false
    → ((make_by match kind n buffer scratch table).n ≡ n) × ((make_by match kind n buffer scratch table).buffer ≡ buffer)
    × ((make_by match kind n buffer scratch table).scratch ≡ scratch)
unfolding make_by exchange
make-keeps match extract_call n buffer scratch table a =
    extract-writes match n buffer scratch table
    (λ (o : Outcome). accepted o.answer ≡ false → (o.n ≡ n) × (o.buffer ≡ buffer) × (o.scratch ≡ scratch))
    (finish-keeps n buffer scratch _) (finish-keeps n buffer scratch (refused 10)) a
make-keeps match exchange_call n buffer scratch table a = finish-keeps n buffer scratch _ a

-- ---- bytes written over others

pub over-same : {A : Type 0} (bytes buffer : List A) → length bytes ≤ length buffer
    → SameFrom (length bytes) buffer (written_over bytes buffer)
unfolding written_over
over-same bytes buffer fits = record {
  as_many = simp (length-append, length-drop) (omega arith);
  rest = drop-append_seam bytes (drop (length bytes) buffer);
}

pub over_first : {A : Type 0} (bytes buffer : List A) → take (length bytes) (written_over bytes buffer) ≡ bytes
unfolding written_over
over_first bytes buffer = take-append_seam bytes (drop (length bytes) buffer)

-- ---- load

pub fills : (F : Frame) (table : List NodeRecord) → nodes F.expr ≤ length table → Filled F table (filled_by (ok F) table)
unfolding filled_by
fills F table enough =
    let count : length (node_table F) ≡ nodes F.expr = (table-nests-by F).0 in record {
      enough = enough;
      records = rw (← count) (over_first (node_table F) table);
      others = subst (λ (k : ℕ). SameFrom k table (written_over (node_table F) table)) count
          (over-same (node_table F) table (omega (arith, count, enough)));
    }

pub load-wrote : (frame : List ℕ) (n : ℕ) (buffer : List ℕ) (table : List NodeRecord) → accepted (load frame n buffer table).answer ≡ true
    → LoadWrote frame buffer table (load frame n buffer table)
unfolding load
load-wrote frame n buffer table a =
    let t : Taken frame n buffer table (frame_of frame) = taken-by frame n buffer table a in
    subst (LoadWrote frame buffer table) (sym t.done) (unfold finish_load in record {
      answer = refl;
      size = refl;
      plan = over_first frame buffer;
      others = over-same frame buffer t.fits;
      filled = (t.frame-taken, t.is, fills t.frame-taken table t.enough);
    })

-- ---- extract and exchange

module _ (n : ℕ) (buffer scratch : List ℕ) where
  -- What is to be written, if anything is, fits the plan buffer, and the old plan the scratch.
  abbrev pub Fit : Result (List ℕ) → Type 0
  Fit (ok bytes) = (length bytes ≤ length buffer) × (n ≤ length scratch) × (n ≤ length buffer)
  Fit (refused number) = Unit {0}

  pub finish-wrote : (x : Result (List ℕ)) → Fit x → accepted (finish n buffer scratch x).answer ≡ true
      → CallWrote n buffer scratch (finish n buffer scratch x)
  unfolding finish accepted
  finish-wrote (ok bytes) fit a =
      let size : length (take n buffer) ≡ n = length-take-le n buffer fit.2 in record {
        answer = refl;
        copied = subst (λ (k : ℕ). take k (written_over (take n buffer) scratch) ≡ take n buffer) size (over_first (take n buffer) scratch);
        others = over-same bytes buffer fit.0;
        others_of_scratch =
            subst (λ (k : ℕ). SameFrom k scratch (written_over (take n buffer) scratch)) size
            (over-same (take n buffer) scratch (omega (arith, size, fit.1)));
      }
  finish-wrote (refused number) fit a = absurd (false≢true a)

  if-fit : (b : Bool) (x : Result (List ℕ)) → leb n (length scratch) ≡ b → (n ≤ length scratch → Fit x) → Fit (if b then x else refused 9)
  if-fit true x e h = h (leb-true n (length scratch) e)
  if-fit false x e h = tt

  module _ (fits : n ≤ length buffer) where
    -- An exchanged plan is as long as the plan, an extraction no longer.
    exchange-fit : (p : Plan) → plan_bytes p ≡ take n buffer → Fit (new_after_exchange n (length scratch) (ok p))
    unfolding new_after_exchange
    exchange-fit empty e = tt
    exchange-fit (held F) e =
        if-fit (leb n (length scratch)) _ refl
        (λ room. (omega (arith, plan-as-long (held F), ap length e, length-take-le n buffer fits), room, fits))
    exchange-fit (extracted X) e =
        if-fit (leb n (length scratch)) _ refl
        (λ room. (omega (arith, plan-as-long (extracted X), ap length e, length-take-le n buffer fits), room, fits))

    taken-fit : (F : Frame) (x : Option Extraction) → GoodExtraction F x → frame_bytes F ≡ take n buffer → n ≤ length scratch
        → Fit (matched_bytes x)
    unfolding matched_bytes plan_bytes
    taken-fit F none g e room = tt
    taken-fit F (some X) g e room = (omega (arith, g.1, ap length e, length-take-le n buffer fits), room, fits)

    extract-fit : {match : Matcher} {Asks : Meaning → Type 0} → Lawful match Asks → (p : Plan) → GoodPlan p
        → plan_bytes p ≡ take n buffer → Fit (new_after_extract_by match n (length scratch) (ok p))
    unfolding new_after_extract_by plan_bytes
    extract-fit laws empty g e = tt
    extract-fit {match} laws (held F) g e =
        if-fit (leb n (length scratch)) _ refl (λ room. taken-fit F (extraction_by match F) (good-by laws F g) e room)
    extract-fit laws (extracted X) g e = tt

  -- What is written from a plan fits if it fits for every good plan that the first n bytes are, and nothing is written for a refusal.
  held-fit : (write : Result Plan → Result (List ℕ)) → AllBytes buffer → ((number : ℕ) → Fit (write (refused number)))
      → (n ≤ length buffer → (p : Plan) → GoodPlan p → plan_bytes p ≡ take n buffer → Fit (write (ok p)))
      → Fit (write (held_plan n buffer))
  unfolding held_plan
  held-fit write bytes none_from All-from = by-room (leb n (length buffer)) refl where
    of-plan : n ≤ length buffer → (r : Result Plan) → plan_of (take n buffer) ≡ r → Fit (write r)
    of-plan fits (ok p) e =
        let back = plan-back (take n buffer) p (bytes-up-to n buffer bytes) e in All-from fits p back.1 (sym back.0)
    of-plan fits (refused number) e = none_from number

    by-room : (b : Bool) → leb n (length buffer) ≡ b → Fit (write (if b then plan_of (take n buffer) else refused 10))
    by-room true e = of-plan (leb-true n (length buffer) e) (plan_of (take n buffer)) refl
    by-room false e = none_from 10

  pub make-wrote : {match : Matcher} {Asks : Meaning → Type 0} → Lawful match Asks → (kind : Kind)
      → (table : List NodeRecord) → AllBytes buffer → accepted (make_by match kind n buffer scratch table).answer ≡ true
      → CallWrote n buffer scratch (make_by match kind n buffer scratch table)
  unfolding make_by exchange
  make-wrote {match} laws extract_call table bytes a =
      extract-writes match n buffer scratch table (λ (o : Outcome). accepted o.answer ≡ true → CallWrote n buffer scratch o)
      (finish-wrote _ (held-fit (new_after_extract_by match n (length scratch)) bytes (λ number. unfold new_after_extract_by in tt)
      (λ fits p g e. extract-fit fits laws p g e)))
      (finish-wrote (refused 10) tt) a
  make-wrote laws exchange_call table bytes a =
      finish-wrote _ (held-fit (new_after_exchange n (length scratch)) bytes (λ number. unfold new_after_exchange in tt)
      (λ fits p g e. exchange-fit fits p e)) a
