-- What an accepted extract or exchange writes is made of the plan that it found.
use Rattle.std.specs.Prelude.{if◌then◌else◌}
use Prim.Native.Nat.{ℕ}
use mathlib.Core.Path.{◌≡◌, refl}
use mathlib.Core.Bool.{Bool, true, false, false≢true}
use mathlib.Core.List.{List}
use mathlib.Core.Option.{Option, none, some}
use lib.ListN.{length, take}
use lib.Dec.{leb}
use Rattle.definitions.specs.Words.Basics.{Result, ok, refused}
use Rattle.definitions.specs.Words.Expression.{Frame, Extraction, Plan, empty, held, extracted}
use Rattle.definitions.specs.Bytes.Encode.{plan_bytes}
use Rattle.definitions.specs.Filter.Extract.{Matcher, extraction_by}
use Rattle.definitions.specs.Filter.Exchange.{exchange_plan}
use Rattle.definitions.specs.Calls.Base.{Outcome, finish, held_plan, new_after_exchange, exchange, matched_bytes, new_after_extract_by}
use Rattle.definitions.specs.Lists.Machine.{Kind, extract_call, exchange_call}
use Rattle.definitions.specs.Bytes.NodeTable.{NodeRecord}
use Rattle.definitions.specs.Lists.Sessions.{make_by, accepted}
use Rattle.definitions.specs.Claims.Calls.{PlanWritten}
use Rattle.theorems.proofs.Changes.{over_first, extract-writes}

module _ (n : ℕ) (buffer scratch : List ℕ) where
  -- The first n bytes of what a call leaves.
  abbrev left : Result (List ℕ) → List ℕ
  left x = take (finish n buffer scratch x).n (finish n buffer scratch x).buffer

  abbrev Taken : Result (List ℕ) → Type 0
  Taken x = accepted (finish n buffer scratch x).answer ≡ true

  if-written : (b : Bool) (bytes : List ℕ) → Taken (if b then ok bytes else refused 9) → left (if b then ok bytes else refused 9) ≡ bytes
  unfolding finish accepted
  if-written true bytes a = over_first bytes buffer
  if-written false bytes a = absurd (false≢true a)

  exchange-written : (r : Result Plan) → Taken (new_after_exchange n (length scratch) r)
      → (p : Plan) × (r ≡ ok p) × (left (new_after_exchange n (length scratch) r) ≡ plan_bytes (exchange_plan p))
  unfolding new_after_exchange
  exchange-written (refused number) a = unfold finish accepted in absurd (false≢true a)
  exchange-written (ok empty) a = unfold finish accepted in absurd (false≢true a)
  exchange-written (ok (held F)) a = (held F, refl, if-written (leb n (length scratch)) _ a)
  exchange-written (ok (extracted X)) a = (extracted X, refl, if-written (leb n (length scratch)) _ a)

  matched-written : (b : Bool) (x : Option Extraction) → Taken (if b then matched_bytes x else refused 9)
      → (X : Extraction) × (x ≡ some X) × (left (if b then matched_bytes x else refused 9) ≡ plan_bytes (extracted X))
  unfolding matched_bytes finish accepted
  matched-written true (some X) a = (X, refl, over_first (plan_bytes (extracted X)) buffer)
  matched-written true none a = absurd (false≢true a)
  matched-written false x a = absurd (false≢true a)

  extract-written : (match : Matcher) (r : Result Plan) → Taken (new_after_extract_by match n (length scratch) r)
      → (F : Frame) × (X : Extraction) × (r ≡ ok (held F)) × (extraction_by match F ≡ some X)
      × (left (new_after_extract_by match n (length scratch) r) ≡ plan_bytes (extracted X))
  unfolding new_after_extract_by
  extract-written match (refused number) a = unfold finish accepted in absurd (false≢true a)
  extract-written match (ok empty) a = unfold finish accepted in absurd (false≢true a)
  extract-written match (ok (extracted X)) a = unfold finish accepted in absurd (false≢true a)
  extract-written match (ok (held F)) a =
      let (X, is, bytes) = matched-written (leb n (length scratch)) (extraction_by match F) a in (F, X, refl, is, bytes)

  refused-taken : (A : Type 0) → Taken (refused 10) → A
  unfolding finish accepted
  refused-taken A a = absurd (false≢true a)

pub plans-written : (match : Matcher) (kind : Kind) (n : ℕ) (buffer scratch : List ℕ) (table : List NodeRecord)
    → accepted (make_by match kind n buffer scratch table).answer ≡ true
    → PlanWritten match kind n buffer (make_by match kind n buffer scratch table)
unfolding make_by exchange
plans-written match extract_call n buffer scratch table a =
    extract-writes match n buffer scratch table (λ (o : Outcome). accepted o.answer ≡ true → PlanWritten match extract_call n buffer o)
    (extract-written n buffer scratch match (held_plan n buffer)) (refused-taken n buffer scratch _) a
plans-written match exchange_call n buffer scratch table a = exchange-written n buffer scratch (held_plan n buffer) a
