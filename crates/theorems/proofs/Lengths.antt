-- A plan that a call leaves is a good plan's bytes, and those are at most 16,384.
use Rattle.std.specs.Prelude.{if◌then◌else◌}
use Prim.Native.Nat.{ℕ, zero, suc, ◌≤◌}
use native.Mathlib.Omega.{arith}
use mathlib.Core.Path.{◌≡◌, refl, sym, subst}
use mathlib.Core.Bool.{Bool, true, false}
use mathlib.Core.List.{List, [], ◌∷◌}
use mathlib.Core.Option.{Option, none, some}
use lib.ListN.{length, take}
use lib.Dec.{leb}
use borrow.Author.Tests.{leb-true}
use Rattle.definitions.specs.Words.Basics.{Result, ok, refused}
use Rattle.definitions.specs.Words.Expression.{Frame, Extraction, Plan, empty, held, extracted}
use Rattle.definitions.specs.Bytes.Encode.{plan_bytes}
use Rattle.definitions.specs.Bytes.Plans.{frame_of, plan_of}
use Rattle.definitions.specs.Filter.Extract.{Matcher, extraction_by}
use Rattle.definitions.specs.Filter.Exchange.{exchange_plan}
use Rattle.definitions.specs.Calls.Base.{new_after_load, finish_load, load, finish, held_plan, new_after_exchange, exchange, matched_bytes, new_after_extract_by, extract_filled_by, extract_by, table_fits, walked_by, walk_filled_by, extract_walk_by}
use Rattle.definitions.specs.Bytes.NodeTable.{NodeRecord}
use Rattle.definitions.specs.Lists.Machine.{Kind, extract_call, exchange_call}
use Rattle.definitions.specs.Lists.Sessions.{make_by}
use Rattle.definitions.specs.Bytes.Good.{AllBytes, GoodPlan}
use Rattle.definitions.specs.Meaning.Values.{Meaning}
use Rattle.definitions.specs.Meaning.Matchers.{Lawful}
use Rattle.theorems.proofs.InverseFrame.{refused_not_ok, same_ok, frame_back}
use Rattle.theorems.proofs.InversePlan.{plan-back}
use Rattle.theorems.proofs.ExtractGood.{GoodExtraction, good-by}
use Rattle.theorems.proofs.ExchangeGood.{exchange-good}
use Rattle.theorems.proofs.Pick.{few-leaves}
use Rattle.theorems.proofs.Walks.{walk-bounded-by}
use Rattle.definitions.specs.Claims.Walk.{WalkShort}

-- Bytes, if there are any, are at most 16,384.
abbrev Short : Result (List ℕ) → Type 0
Short (ok bytes) = length bytes ≤ 16384
Short (refused number) = Unit {0}

if-short : (b : Bool) (x : Result (List ℕ)) (number : ℕ) → Short x → Short (if b then x else refused number)
if-short true x number h = h
if-short false x number h = tt

-- ---- load

loaded-short : (frame : List ℕ) (n : ℕ) (buffer : List ℕ) (table : List NodeRecord) (x : Result Frame) {m : ℕ}
    → length frame ≤ 16384 → (finish_load frame n buffer table x).answer ≡ ok m → m ≤ 16384
unfolding finish_load
loaded-short frame n buffer table (ok F) h e = subst (λ k. k ≤ 16384) (same_ok _ _ e) h
loaded-short frame n buffer table (refused number) h e = absurd (refused_not_ok _ _ e)

read_short : (frame : List ℕ) (n : ℕ) (buffer : List ℕ) (table : List NodeRecord) (r : Result Frame) {m : ℕ}
    → AllBytes frame → frame_of frame ≡ r
    → (finish_load frame n buffer table (new_after_load frame (length buffer) (length table) r)).answer ≡ ok m → m ≤ 16384
unfolding new_after_load plan_bytes
read_short frame n buffer table (ok F) bytes e is =
    let back = frame_back frame F bytes e in
    loaded-short frame n buffer table _ (subst (λ (s : List ℕ). length s ≤ 16384) (sym back.0) back.1.few_bytes) is
read_short frame n buffer table (refused number) bytes e is = unfold finish_load in absurd (refused_not_ok _ _ is)

pub load-is-short : (frame : List ℕ) (n : ℕ) (buffer : List ℕ) (table : List NodeRecord) (m : ℕ) → AllBytes frame
    → (load frame n buffer table).answer ≡ ok m → m ≤ 16384
unfolding load
load-is-short frame n buffer table m bytes e = read_short frame n buffer table (frame_of frame) bytes refl e

-- ---- extract and exchange

finish-short : (n : ℕ) (buffer scratch : List ℕ) (x : Result (List ℕ)) {m : ℕ} → Short x → (finish n buffer scratch x).answer ≡ ok m
    → m ≤ 16384
unfolding finish
finish-short n buffer scratch (ok bytes) h e = subst (λ k. k ≤ 16384) (same_ok _ _ e) h
finish-short n buffer scratch (refused number) h e = absurd (refused_not_ok _ _ e)

-- The first of some bytes are bytes.
pub bytes-up-to : (n : ℕ) (s : List ℕ) → AllBytes s → AllBytes (take n s)
bytes-up-to zero s h = tt
bytes-up-to (suc n) [] h = tt
bytes-up-to (suc n) (b ∷ s) h = (h.0, bytes-up-to n s h.1)

-- What is held, if anything is, is a good plan.
abbrev pub Good : Result Plan → Type 0
Good (ok p) = GoodPlan p
Good (refused number) = Unit {0}

plan-good : (s : List ℕ) (r : Result Plan) → AllBytes s → plan_of s ≡ r → Good r
plan-good s (ok p) bytes e = (plan-back s p bytes e).1
plan-good s (refused number) bytes e = tt

pub held-good : (n : ℕ) (buffer : List ℕ) → AllBytes buffer → Good (held_plan n buffer)
unfolding held_plan
held-good n buffer bytes = held-if (leb n (length buffer)) where
  held-if : (b : Bool) → Good (if b then plan_of (take n buffer) else refused 10)
  held-if true = plan-good (take n buffer) (plan_of (take n buffer)) (bytes-up-to n buffer bytes) refl
  held-if false = tt

-- A plan that is held lies in the plan buffer, and is read from its first n bytes.
pub held-is : (n : ℕ) (buffer : List ℕ) (p : Plan) → held_plan n buffer ≡ ok p → (n ≤ length buffer) × (plan_of (take n buffer) ≡ ok p)
unfolding held_plan
held-is n buffer p e = by-room (leb n (length buffer)) refl e where
  by-room : (b : Bool) → leb n (length buffer) ≡ b → (if b then plan_of (take n buffer) else refused 10) ≡ ok p
      → (n ≤ length buffer) × (plan_of (take n buffer) ≡ ok p)
  by-room true t q = (leb-true n (length buffer) t, q)
  by-room false t q = absurd (refused_not_ok 10 p q)

extracted-short : (F : Frame) (x : Option Extraction) → GoodExtraction F x → Short (matched_bytes x)
unfolding matched_bytes
extracted-short F (some X) g = g.0.few_bytes
extracted-short F none g = tt

exchange-short : (n room : ℕ) (r : Result Plan) → Good r → Short (new_after_exchange n room r)
unfolding new_after_exchange
exchange-short n room (ok empty) g = tt
exchange-short n room (ok (held F)) g =
    if-short (leb n room) (ok (plan_bytes (exchange_plan (held F)))) 9 (exchange-good (held F) g).few_bytes
exchange-short n room (ok (extracted X)) g =
    if-short (leb n room) (ok (plan_bytes (exchange_plan (extracted X)))) 9 (exchange-good (extracted X) g).few_bytes
exchange-short n room (refused number) g = tt

module _ {match : Matcher} {Asks : Meaning → Type 0} (laws : Lawful match Asks) where
  extract-short : (n room : ℕ) (r : Result Plan) → Good r → Short (new_after_extract_by match n room r)
  unfolding new_after_extract_by
  extract-short n room (ok empty) g = tt
  extract-short n room (ok (held F)) g =
      if-short (leb n room) (matched_bytes (extraction_by match F)) 9 (extracted-short F (extraction_by match F) (good-by laws F g))
  extract-short n room (ok (extracted X)) g = tt
  extract-short n room (refused number) g = tt

  -- The table decides between what is written and 10.
  tabled-short : (n : ℕ) (buffer scratch : List ℕ) (b : Bool) (x : Result (List ℕ)) {m : ℕ} → Short x
      → (if b then finish n buffer scratch x else finish n buffer scratch (refused 10)).answer ≡ ok m → m ≤ 16384
  tabled-short n buffer scratch true x h e = finish-short n buffer scratch x h e
  tabled-short n buffer scratch false x h e = finish-short n buffer scratch (refused 10) tt e

  pub make-short : (kind : Kind) (n : ℕ) (buffer scratch : List ℕ) (table : List NodeRecord) (m : ℕ) → AllBytes buffer
      → (make_by match kind n buffer scratch table).answer ≡ ok m → m ≤ 16384
  unfolding make_by extract_by extract_filled_by exchange
  make-short extract_call n buffer scratch table m bytes e =
      tabled-short n buffer scratch (table_fits table (held_plan n buffer)) _
      (extract-short n (length scratch) _ (held-good n buffer bytes)) e
  make-short exchange_call n buffer scratch table m bytes e =
      finish-short n buffer scratch _ (exchange-short n (length scratch) _ (held-good n buffer bytes)) e

-- ---- the walk that an extract carries

if-few : (b : Bool) (w : ℕ) → w ≤ 2047 → (if b then w else 0) ≤ 2047
if-few true w h = h
if-few false w h = omega arith

walked-short : (match : Matcher) (n room : ℕ) (r : Result Plan) → Good r → walked_by match n room r ≤ 2047
unfolding walked_by
walked-short match n room (ok empty) g = omega arith
walked-short match n room (ok (held F)) g =
    if-few (leb n room) _ (omega (arith, walk-bounded-by match F, few-leaves F g))
walked-short match n room (ok (extracted X)) g = omega arith
walked-short match n room (refused number) g = omega arith

pub walk-short-by : WalkShort
unfolding extract_walk_by walk_filled_by
walk-short-by match n buffer scratch table bytes =
    if-few (table_fits table (held_plan n buffer)) _ (walked-short match n (length scratch) (held_plan n buffer) (held-good n buffer bytes))
