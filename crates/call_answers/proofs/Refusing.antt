-- What extract, exchange and merge have in common: a call that makes its new plan of the held one, and its refusals 10, 11 and 12.
use Rattle.std.specs.Prelude.{if◌then◌else◌}
use Prim.Native.Nat.{ℕ, ◌≤◌, ◌<◌}
use mathlib.Core.Path.{◌≡◌, refl, ap, ◌∙◌}
use mathlib.Core.Bool.{Bool}
use mathlib.Core.List.{List}
use lib.ListN.{length, take}
use borrow.Author.Tests.{lt-leb}
use Rattle.definitions.specs.Words.Basics.{Result, ok, refused, map_result}
use Rattle.definitions.specs.Words.Expression.{Frame, Extraction, Plan, empty, extracted}
use Rattle.definitions.specs.Bytes.Encode.{frame_bytes}
use Rattle.definitions.specs.Bytes.Plans.{frame_of, plan_of}
use Rattle.definitions.specs.Bytes.NodeTable.{NodeRecord}
use Rattle.definitions.specs.Filter.Extract.{Matcher}
use Rattle.definitions.specs.Calls.Base.{filled_by, Outcome, finish, held_plan, new_after_exchange, exchange, new_after_extract_by, extract_filled_by}
use Rattle.definitions.specs.Calls.Merge.{new_after_merge, MergeOutcome, with_table, merge}
use Rattle.call_answers.proofs.Keeping.{held-is}

-- A call by what it makes of the held plan, given n and both buffers' lengths, by how it ends with that, and by what a refusal leaves.
pub record Call {O A : Type 0} (call : ℕ → (before scratch : List ℕ) → O) (ends : ℕ → (before scratch : List ℕ) → Result A → O)
    (refuse : ℕ → (before scratch : List ℕ) → (number : ℕ) → O) (new : (n scratch room : ℕ) → Result Plan → Result A) : Type 0 where
  pub opens : (n : ℕ) (before scratch : List ℕ)
      → call n before scratch ≡ ends n before scratch (new n (length scratch) (length before) (held_plan n before))
  pub refusal : (n : ℕ) (before scratch : List ℕ) (number : ℕ) → ends n before scratch (refused number) ≡ refuse n before scratch number
  pub bad : (n scratch room number : ℕ) → new n scratch room (refused number) ≡ refused 10
  pub none : (n scratch room : ℕ) → new n scratch room (ok empty) ≡ refused 11

-- A call that is refused keeps everything.
abbrev pub refuses : (n : ℕ) (before scratch : List ℕ) → (number : ℕ) → Outcome
refuses n before scratch number = record { answer = refused number; n = n; buffer = before; scratch = scratch }

-- A call that ends by `finish`.
pub finishing : {call : ℕ → (before scratch : List ℕ) → Outcome} {new : (n scratch room : ℕ) → Result Plan → Result (List ℕ)}
    → ((n : ℕ) (before scratch : List ℕ)
    → call n before scratch ≡ finish n before scratch (new n (length scratch) (length before) (held_plan n before)))
    → ((n scratch room number : ℕ) → new n scratch room (refused number) ≡ refused 10)
    → ((n scratch room : ℕ) → new n scratch room (ok empty) ≡ refused 11) → Call call finish refuses new
unfolding finish
finishing opens bad none = record { opens = opens; refusal = λ n before scratch number. refl; bad = bad; none = none }

pub exchange-call : Call exchange finish refuses (λ n scratch room. new_after_exchange n scratch)
unfolding exchange new_after_exchange
exchange-call = finishing (λ n before scratch. refl) (λ n scratch room number. refl) (λ n scratch room. refl)

pub extract-call : (match : Matcher)
    → Call (extract_filled_by match) finish refuses (λ n scratch room. new_after_extract_by match n scratch)
unfolding extract_filled_by new_after_extract_by
extract-call match = finishing (λ n before scratch. refl) (λ n scratch room number. refl) (λ n scratch room. refl)

module _ (table : List NodeRecord) where
  -- A merge that is refused keeps the table too.
  abbrev pub merge-refuses : (n : ℕ) (before scratch : List ℕ) → (number : ℕ) → MergeOutcome
  merge-refuses n before scratch number =
      record { answer = refused number; n = n; buffer = before; scratch = scratch; table = table }

  -- What a merge leaves, by the frame that it made.
  abbrev pub merge-ends : (n : ℕ) (before scratch : List ℕ) → Result Frame → MergeOutcome
  merge-ends n before scratch x = with_table (finish n before scratch (map_result frame_bytes x)) (filled_by x table)

  merge-refusal : (n : ℕ) (before scratch : List ℕ) (number : ℕ)
      → merge-ends n before scratch (refused number) ≡ merge-refuses n before scratch number
  unfolding with_table finish filled_by
  merge-refusal n before scratch number = refl

  -- A frame that is refused.
  pub frame_refused : (frame : List ℕ) (n : ℕ) (before scratch : List ℕ) (number : ℕ) → frame_of frame ≡ refused number
      → merge frame n before scratch table ≡ merge-refuses n before scratch number
  unfolding merge new_after_merge
  frame_refused frame n before scratch number e = rw e (merge-refusal n before scratch number)

  -- A merge of a good frame.
  pub merge-call : (frame : List ℕ) (new : Frame) → frame_of frame ≡ ok new
      → Call (λ n before scratch. merge frame n before scratch table) merge-ends merge-refuses
      (λ n scratch room. new_after_merge n scratch room (length table) (ok new))
  unfolding merge new_after_merge
  merge-call frame new e = record {
    opens = λ n before scratch.
        ap (λ (r : Result Frame).
        merge-ends n before scratch (new_after_merge n (length scratch) (length before) (length table) r (held_plan n before))) e;
    refusal = merge-refusal;
    bad = λ n scratch room number. refl;
    none = λ n scratch room. refl;
  }

module _ {O A : Type 0} {call : ℕ → (before scratch : List ℕ) → O} {ends : ℕ → (before scratch : List ℕ) → Result A → O}
    {refuse : ℕ → (before scratch : List ℕ) → (number : ℕ) → O} {new : (n scratch room : ℕ) → Result Plan → Result A}
    (is : Call call ends refuse new) (n : ℕ) (before scratch : List ℕ) where
  pub outcome : {r : Result Plan} {b : Result A} → held_plan n before ≡ r → new n (length scratch) (length before) r ≡ b
      → call n before scratch ≡ ends n before scratch b
  outcome e f =
      is.opens n before scratch
      ∙ ap (λ (r : Result Plan). ends n before scratch (new n (length scratch) (length before) r)) e
      ∙ ap (ends n before scratch) f

  refused-with : {r : Result Plan} (number : ℕ) → held_plan n before ≡ r → new n (length scratch) (length before) r ≡ refused number
      → call n before scratch ≡ refuse n before scratch number
  refused-with number e f = outcome e f ∙ is.refusal n before scratch number

  pub no-room-for-n : length before < n → call n before scratch ≡ refuse n before scratch 10
  unfolding held_plan
  no-room-for-n h =
      refused-with 10 (ap (λ (b : Bool). if b then plan_of (take n before) else refused 10) (lt-leb n (length before) h))
      (is.bad n (length scratch) (length before) 10)

  module _ (fits : n ≤ length before) where
    pub no-plan : (number : ℕ) → plan_of (take n before) ≡ refused number → call n before scratch ≡ refuse n before scratch 10
    no-plan number e = refused-with 10 (held-is n before fits e) (is.bad n (length scratch) (length before) number)

    pub empty-plan : plan_of (take n before) ≡ ok empty → call n before scratch ≡ refuse n before scratch 11
    empty-plan e = refused-with 11 (held-is n before fits e) (is.none n (length scratch) (length before))

    -- Where the call takes no extraction.
    pub extracted-before : ((X : Extraction) → new n (length scratch) (length before) (ok (extracted X)) ≡ refused 12)
        → (X : Extraction) → plan_of (take n before) ≡ ok (extracted X) → call n before scratch ≡ refuse n before scratch 12
    extracted-before only X e = refused-with 12 (held-is n before fits e) (only X)
