-- What the calls answer is what their lines give.
use Rattle.std.specs.Prelude.{if◌then◌else◌, Result as Either, Ok, Err}
use Prim.Native.Nat.{ℕ, zero, suc, ◌+◌, ◌/◌, ◌%◌, ◌≤◌, ◌<◌}
use native.Mathlib.Omega.{arith}
use mathlib.Core.Path.{◌≡◌, refl, sym, ap, ◌∙◌}
use mathlib.Core.Bool.{Bool, true, false}
use mathlib.Core.List.{List, [], ◌∷◌, ◌++◌, map}
use lib.ListN.{length, take, drop, replicate, length-append, length-replicate}
use Rattle.definitions.specs.Words.Basics.{Result, ok, refused, map_result, any, same_name, big_endian}
use Rattle.definitions.specs.Bytes.Encode.{side_number}
use Rattle.definitions.specs.Words.Expression.{Expr, Side, Frame}
use Rattle.definitions.specs.Words.Leaves.{leaves}
use Rattle.definitions.specs.Bytes.Plans.{frame_of, logical_of}
use Rattle.definitions.specs.Calls.Base.{LoadOutcome, Outcome, written_over, new_after_load, finish_load, load, finish, held_plan, new_after_extract, extract_filled_by, new_after_exchange, exchange}
use Rattle.definitions.specs.Bytes.NodeTable.{NodeRecord, blank}
use Rattle.definitions.specs.Lists.Machine.{Kind, extract_call, exchange_call}
use Rattle.definitions.specs.Calls.Logical.{LogicalAnswer, logical_answer, logical, logical_bytes}
use Rattle.definitions.specs.Filter.Names.{leaf_name, distinct, spatial_names}
use Rattle.definitions.specs.Lists.Program.{Kept, LineOutcome, refused_line, load_line, logical_line, line_call, call_line}
use Rattle.theorems.proofs.InversePlan.{refused_not_ok}
use Rattle.terms.specs.Refusals.{number_of}
use Rattle.terms.specs.declared.refusals.Refusal.{Refusal}
use Rattle.call_answers.specs.Outcomes.{Answered as CallAnswered, answer_of, n_after, LoadIs, OutcomeIs}
use Rattle.call_answers.specs.declared.answers.Loaded.{Loaded}
use Rattle.call_load.specs.Loads.{LoadedIs}
use Rattle.lines.specs.declared.answers.LineGiven.TheVariants.{Logical}
use Rattle.lines.specs.Answers.{plan_length, kept_as, AnswerIs}
use Rattle.lines.specs.Calling.{line_answer}
use Rattle.lines.specs.Scratch.{call_scratch}

-- ---- the answer of a call

-- What a line gives for a call's answer, n and plan buffer.
abbrev given : (answer : Result ℕ) (n : ℕ) (plan : List ℕ) → LineOutcome
given answer n plan = record { answer = map_result (λ m. take m plan) answer; kept = record { n = n; buffer = plan } }

answer-given : (a : CallAnswered) (n : ℕ) (plan : List ℕ) → plan_length (line_answer a) ≤ length plan
    → AnswerIs (given (answer_of a) (n_after n a) plan) n plan (line_answer a)
answer-given (Ok m) n plan h = record { answer = refl; kept = refl; fits = h }
answer-given (Err why) n plan h = record { answer = refl; kept = refl; fits = h }

-- A plan that was written is in its buffer.
plan-written : (bytes before : List ℕ) {after : List ℕ} {m : ℕ} → ok (length bytes) ≡ ok m → written_over bytes before ≡ after
    → m ≤ length after
unfolding written_over
plan-written bytes before {after} {m} e f =
    let size : length bytes ≡ m = cc in
    omega (arith, simp length-append at (ap length f))

-- ---- load

loaded-fits : (x : Result Frame) (frame : List ℕ) (n : ℕ) (before : List ℕ) (table : List NodeRecord) {m k : ℕ} {after : List ℕ}
    {filled : List NodeRecord}
    → finish_load frame n before table x ≡ record { answer = ok m; n = k; buffer = after; table = filled } → m ≤ length after
unfolding finish_load
loaded-fits (ok F) frame n before table e = plan-written frame before (ap (λ (o : LoadOutcome). o.answer) e)
    (ap (λ (o : LoadOutcome). o.buffer) e)
loaded-fits (refused number) frame n before table e = absurd (refused_not_ok _ _ (ap (λ (o : LoadOutcome). o.answer) e))

load_fits : (frame before : List ℕ) {after : List ℕ} (table : List NodeRecord) {filled : List NodeRecord} (a : CallAnswered)
    → LoadIs frame before after table filled a → plan_length (line_answer a) ≤ length after
unfolding load
load_fits frame before table (Ok m) is =
    loaded-fits (new_after_load frame (length before) (length table) (frame_of frame)) frame 0 before table (is 0)
load_fits frame before table (Err why) is = omega arith

-- The new plan's length, or why the load is refused.
abbrev pub loaded_length : Either Loaded Refusal → CallAnswered
loaded_length (Ok r) = Ok r.length
loaded_length (Err why) = Err why

abbrev blanks : List NodeRecord
blanks = replicate 1024 blank

module _ (frame before : List ℕ) {after : List ℕ} (n : ℕ) where
  load-given : {filled : List NodeRecord} (a : CallAnswered) → LoadIs frame before after blanks filled a
      → AnswerIs (load_line frame (kept_as n before)) n after (line_answer a)
  unfolding load_line
  load-given a is =
      rw (ap (λ (o : LoadOutcome). given o.answer o.n o.buffer) (is n)) (answer-given a n after (load_fits frame before blanks a is))

  pub load_gives : (r : Either Loaded Refusal) → LoadedIs frame before after 1024 r
      → AnswerIs (load_line frame (kept_as n before)) n after (line_answer (loaded_length r))
  load_gives (Ok r) loaded = load-given (Ok r.length) (loaded.2 blanks (length-replicate {A = NodeRecord} 1024 blank))
  load_gives (Err why) loaded = load-given (Err why) (loaded blanks (length-replicate {A = NodeRecord} 1024 blank))

-- ---- extract and exchange

-- What their line gives does not depend on what the scratch holds.
abbrev made : Outcome → LineOutcome
made o = given o.answer o.n o.buffer

any-scratch : (n : ℕ) (before s t : List ℕ) (x : Result (List ℕ)) → made (finish n before s x) ≡ made (finish n before t x)
unfolding finish
any-scratch n before s t (ok bytes) = refl
any-scratch n before s t (refused number) = refl

same-call : (kind : Kind) (n : ℕ) (before s t : List ℕ) → length s ≡ length t
    → made (line_call kind n before s) ≡ made (line_call kind n before t)
unfolding line_call extract_filled_by exchange
same-call extract_call n before s t e = rw e (any-scratch n before s t (new_after_extract n (length t) (held_plan n before)))
same-call exchange_call n before s t e = rw e (any-scratch n before s t (new_after_exchange n (length t) (held_plan n before)))

finish-fits : (x : Result (List ℕ)) (n : ℕ) (before s : List ℕ) {m k : ℕ} {after t : List ℕ}
    → finish n before s x ≡ record { answer = ok m; n = k; buffer = after; scratch = t } → m ≤ length after
unfolding finish
finish-fits (ok bytes) n before s e = plan-written bytes before (ap (λ (o : Outcome). o.answer) e) (ap (λ (o : Outcome). o.buffer) e)
finish-fits (refused number) n before s e = absurd (refused_not_ok _ _ (ap (λ (o : Outcome). o.answer) e))

call_fits : (kind : Kind) (n : ℕ) (before s : List ℕ) {after t : List ℕ} (a : CallAnswered)
    → OutcomeIs (line_call kind n before s) n after t a
    → plan_length (line_answer a) ≤ length after
unfolding line_call extract_filled_by exchange
call_fits extract_call n before s (Ok m) is = finish-fits (new_after_extract n (length s) (held_plan n before)) n before s is
call_fits exchange_call n before s (Ok m) is = finish-fits (new_after_exchange n (length s) (held_plan n before)) n before s is
call_fits kind n before s (Err why) is = omega arith

call-gives : (kind : Kind) (n : ℕ) (before s : List ℕ) {after t : List ℕ} (a : CallAnswered)
    → OutcomeIs (line_call kind n before s) n after t a → length s ≡ 16384
    → AnswerIs (call_line kind [] (kept_as n before)) n after (line_answer a)
unfolding call_line
call-gives kind n before s {after} a is size =
    rw (same-call kind n before (replicate 16384 0) s (length-replicate {A = ℕ} 16384 0 ∙ sym size) ∙ ap made is)
    (answer-given a n after (call_fits kind n before s a is))

-- Nothing but the scratch that it was lent is left there.
call-leaves : (kind : Kind) (n : ℕ) (before s : List ℕ) {after t : List ℕ} (a : CallAnswered)
    → OutcomeIs (line_call kind n before s) n after t a
    → t ≡ call_scratch kind [] (kept_as n before) s
unfolding call_scratch
call-leaves kind n before s a is = sym (ap (λ (o : Outcome). o.scratch) is)

-- More bytes follow, or none.
more_bytes : (size : ℕ) (bytes : List ℕ) → 1 < size → 1 < length bytes → (b : ℕ) × (more : List ℕ) × (drop 1 (take size bytes) ≡ b ∷ more)
more_bytes zero bytes h k = absurd (omega arith)
more_bytes (suc zero) bytes h k = absurd (omega arith)
more_bytes (suc (suc size)) [] h k = absurd (omega arith)
more_bytes (suc (suc size)) (a ∷ []) h k = absurd (omega arith)
more_bytes (suc (suc size)) (a ∷ b ∷ bytes) h k = (b, take size bytes, refl)

pub more-follow : (kind : Kind) (size : ℕ) (bytes : List ℕ) (kept : Kept) → 1 < size → 1 < length bytes
    → refused_line 7 kept ≡ call_line kind (drop 1 (take size bytes)) kept
unfolding call_line
more-follow kind size bytes kept h k = rw (more_bytes size bytes h k).2 refl

pub more-leave : (kind : Kind) (size : ℕ) (bytes : List ℕ) (kept : Kept) (s : List ℕ) → 1 < size → 1 < length bytes
    → s ≡ call_scratch kind (drop 1 (take size bytes)) kept s
unfolding call_scratch
more-leave kind size bytes kept s h k = rw (more_bytes size bytes h k).2 refl

none-follow : (size : ℕ) (bytes : List ℕ) → size ≤ 1 → drop 1 (take size bytes) ≡ []
none-follow zero bytes h = refl
none-follow (suc zero) [] h = refl
none-follow (suc zero) (a ∷ bytes) h = refl
none-follow (suc (suc size)) bytes h = absurd (omega arith)

-- A line with no more bytes gives what its call answers, and leaves what it leaves.
pub alone-gives : (kind : Kind) (size : ℕ) (bytes : List ℕ) → size ≤ 1 → (n : ℕ) (before s : List ℕ) {after t : List ℕ} (a : CallAnswered)
    → OutcomeIs (line_call kind n before s) n after t a → length s ≡ 16384
    → AnswerIs (call_line kind (drop 1 (take size bytes)) (kept_as n before)) n after (line_answer a)
    × (t ≡ call_scratch kind (drop 1 (take size bytes)) (kept_as n before) s)
alone-gives kind size bytes h n before s a is long =
    rw (none-follow size bytes h) (call-gives kind n before s a is long, call-leaves kind n before s a is)

-- ---- logical

one_of : (b : Bool) {m n : ℕ} → m ≤ n → (if b then 1 else 0) + m ≤ suc n
one_of true h = omega arith
one_of false h = omega arith

distinct-below : (names found : List (List ℕ)) → distinct names found ≤ length names
unfolding distinct
distinct-below [] found = omega arith
distinct-below (name ∷ names) found = one_of (any (same_name name) found) (distinct-below names found)

all-names : length spatial_names ≡ 15
unfolding spatial_names
all-names = refl

names-below : (x : Result Expr) {found : LogicalAnswer} → ok found ≡ map_result logical_answer x → found.names < 256
unfolding logical_answer
names-below (ok e) {found} is =
    let same : found ≡ logical_answer e = cc in
    rw same (omega (arith, distinct-below spatial_names (map leaf_name (leaves e)), all-names))
names-below (refused number) is = absurd (refused_not_ok _ _ (sym is))

pub few-names : (frame : List ℕ) {found : LogicalAnswer} → ok found ≡ logical frame → found.names < 256
unfolding logical
few-names frame is = names-below (logical_of frame) is

-- The mask's bytes, high first.
mask-bytes : (mask : ℕ) → mask / 256 % 256 ∷ mask % 256 ∷ [] ≡ big_endian 2 mask
unfolding big_endian
mask-bytes mask = let low : mask / 1 % 256 ≡ mask % 256 = omega arith in cc

pub names-give : (frame : List ℕ) {mask names : ℕ} {side : Side} → ok (record { mask = mask; names = names; side = side }) ≡ logical frame
    → (n : ℕ) (plan : List ℕ)
    → AnswerIs (logical_line frame (kept_as n plan)) n plan (Ok (Logical (mask / 256 % 256) (mask % 256) names (side_number side)))
unfolding logical_line logical_bytes
names-give frame {mask} {names} {side} is n plan = record {
  answer = rw (← is) (ap (λ (l : List ℕ). ok (l ++ (names ∷ side_number side ∷ []))) (mask-bytes mask));
  kept = refl;
  fits = omega arith;
}

pub refusal-gives : (frame : List ℕ) (why : Refusal) → refused (number_of why) ≡ logical frame
    → (n : ℕ) (plan : List ℕ) → AnswerIs (logical_line frame (kept_as n plan)) n plan (Err why)
unfolding logical_line
refusal-gives frame why is n plan = record { answer = rw (← is) refl; kept = refl; fits = omega arith }
