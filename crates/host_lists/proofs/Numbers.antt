-- From a number the answer is known, and with extract the walk, because a refusal's number is from 1 to 24 and a length short; and every
-- call answers a short length or such a refusal.
use Rattle.std.specs.Prelude.{Ok, Err}
use Prim.Native.Nat.{ℕ, zero, suc, ◌+◌, ◌*◌, ◌/◌, ◌%◌, ◌≤◌}
use native.Mathlib.Omega.{arith}
use mathlib.Core.Path.{◌≡◌, refl, sym, ap, ◌∙◌, subst}
use mathlib.Core.Bool.{Bool, true, false, ◌&&◌, ◌||◌, false≢true}
use mathlib.Core.List.{List, [], ◌∷◌, map}
use lib.IntN.{pos, neg_ℤ}
use lib.Dec.{leb, eqb}
use borrow.Author.Tests.{leb-true, eqb-true}
use Rattle.definitions.specs.Words.Limits.{most_bytes}
use Rattle.definitions.specs.Words.Basics.{Result, ok, refused, any, all}
use Rattle.definitions.specs.Lists.Machine.{Kind, extract_call, exchange_call}
use Rattle.definitions.specs.Bytes.Good.{AllBytes}
use Rattle.definitions.specs.Bytes.NodeTable.{NodeRecord}
use Rattle.definitions.specs.Lists.Sessions.{make_by, accepted}
use Rattle.definitions.specs.Filter.Settings.{Settings}
use Rattle.definitions.specs.Lists.Settings.{make_under}
use Rattle.definitions.specs.Claims.Calls.{settled_refusals, load_refusals, exchange_refusals, merge_refusals, project_refusals, RefusedBy}
use Rattle.definitions.specs.Calls.Base.{Outcome}
use Rattle.definitions.specs.Calls.Merge.{merge}
use Rattle.host_calls.specs.Hosts.{hosted, hosted_walk}
use Rattle.theorems.proofs.Tools.{and-both}
use Rattle.theorems.proofs.InverseFrame.{same_ok, refused_not_ok}
use Rattle.theorems.proofs.Proved.{lengths_short, refusals-of-calls, merge-writes, all-settings, refusals-under}
use Rattle.call_answers.proofs.Settling.{by-settings}
use Rattle.terms.specs.Refusals.{number_of}
use Rattle.terms.specs.declared.refusals.Refusal.{Refusal}
use Rattle.terms.specs.declared.refusals.Refusal.TheVariants.{EmptyOrTooLong, WrongFirstByte, EndsInsideField, OutOfRange, TooManyOrTooDeep, NoSuchColumn, BytesAfterEnd, TooFewArguments, BufferTooShort, NoGoodPlan, PlanEmpty, AlreadyExtracted, NoLeafMatches, NotHexadecimal, TextBufferTooShort, MergedTooLarge, TableTooShort, NotExtracted, ListTooLong, NoSuchChild, NoSuchQueue, QueuedFrameTooLong, QueueFull, BadSettings}
use Rattle.call_answers.specs.Outcomes.{Answered, answer_of}
use Rattle.host_lists.specs.Numbers.{answered, walk_answered, walk_carried, IsAnswer, AnswerKnown, NumbersApart, WalkKnown, WalkNumbersApart, WithoutWalk, SettingsFit, AnswersOfCalls}

-- ---- minus a refusal's number

pub known-refusal : (k : ℕ) → 1 ≤ k → answered (neg_ℤ (pos k)) ≡ refused k
known-refusal zero h = absurd (omega (arith, h))
known-refusal (suc k) h = refl

pub answer-known : AnswerKnown
unfolding hosted
answer-known (ok m) h = refl
answer-known (refused k) h = known-refusal k h.0

pub numbers_apart : NumbersApart
numbers_apart a b h k e = sym (answer-known a h) ∙ ap answered e ∙ answer-known b k

-- ---- extract's number

walk-refusal : (k : ℕ) → 1 ≤ k → (walk_answered (neg_ℤ (pos k)) ≡ refused (k % 256)) × (walk_carried (neg_ℤ (pos k)) ≡ k / 256)
walk-refusal zero h = absurd (omega (arith, h))
walk-refusal (suc k) h = (refl, refl)

pub walk-known : WalkKnown
unfolding hosted_walk
walk-known w (ok m) h = (ap ok (omega arith), omega arith)
walk-known w (refused k) h =
    let (a, c) = walk-refusal (w * 256 + k) (omega arith) in
    (a ∙ ap refused (omega arith), c ∙ omega arith)

pub walk-numbers-apart : WalkNumbersApart
walk-numbers-apart w w' a b h k e =
    let one = walk-known w a h in
    let two = walk-known w' b k in
    (sym one.1 ∙ ap walk_carried e ∙ two.1, sym one.0 ∙ ap walk_answered e ∙ two.0)

pub without-walk : WithoutWalk
unfolding hosted hosted_walk
without-walk (ok m) = ap pos (omega arith)
without-walk (refused k) = let same : 0 * 256 + k ≡ k = omega arith in ap (λ (j : ℕ). neg_ℤ (pos j)) same

-- ---- the refusals

pub at-least-1 : (why : Refusal) → 1 ≤ number_of why
at-least-1 EmptyOrTooLong = omega arith
at-least-1 WrongFirstByte = omega arith
at-least-1 EndsInsideField = omega arith
at-least-1 OutOfRange = omega arith
at-least-1 TooManyOrTooDeep = omega arith
at-least-1 NoSuchColumn = omega arith
at-least-1 BytesAfterEnd = omega arith
at-least-1 TooFewArguments = omega arith
at-least-1 BufferTooShort = omega arith
at-least-1 NoGoodPlan = omega arith
at-least-1 PlanEmpty = omega arith
at-least-1 AlreadyExtracted = omega arith
at-least-1 NoLeafMatches = omega arith
at-least-1 NotHexadecimal = omega arith
at-least-1 TextBufferTooShort = omega arith
at-least-1 MergedTooLarge = omega arith
at-least-1 TableTooShort = omega arith
at-least-1 NotExtracted = omega arith
at-least-1 ListTooLong = omega arith
at-least-1 NoSuchChild = omega arith
at-least-1 NoSuchQueue = omega arith
at-least-1 QueuedFrameTooLong = omega arith
at-least-1 QueueFull = omega arith
at-least-1 BadSettings = omega arith

-- The number of an answer of the code.
pub known : (r : Answered) → answered (hosted (answer_of r)) ≡ answer_of r
unfolding hosted
known (Ok m) = refl
known (Err why) = known-refusal (number_of why) (at-least-1 why)

-- ---- each refusal of a call by its name

-- The numbers of a list are those of refusals.
abbrev pub Named : (numbers : List ℕ) → Type 0
Named numbers = (whys : List Refusal) × (map number_of whys ≡ numbers)

first-or : (k : ℕ) (why : Refusal) (rest b : Bool) → eqb k (number_of why) ≡ b → (b || rest) ≡ true
    → (rest ≡ true → (why : Refusal) × (number_of why ≡ k)) → (why : Refusal) × (number_of why ≡ k)
first-or k why rest true f e later = (why, sym (eqb-true k (number_of why) f))
first-or k why rest false f e later = later e

named_in : (whys : List Refusal) (k : ℕ) → any (eqb k) (map number_of whys) ≡ true → (why : Refusal) × (number_of why ≡ k)
unfolding any
named_in [] k e = absurd (false≢true e)
named_in (why ∷ whys) k e =
    first-or k why (any (eqb k) (map number_of whys)) (eqb k (number_of why)) refl e (λ later. named_in whys k later)

named-at : (numbers : List ℕ) → Named numbers → (k : ℕ) → any (eqb k) numbers ≡ true → (why : Refusal) × (number_of why ≡ k)
named-at numbers (whys, is) k e = named_in whys k (subst (λ (l : List ℕ). any (eqb k) l ≡ true) (sym is) e)

-- A value or one of these refusals is an answer of the code.
pub answer-from : (numbers : List ℕ) → Named numbers → (x : Result ℕ) → RefusedBy numbers x → (r : Answered) × (answer_of r ≡ x)
answer-from numbers named (ok m) h = (Ok m, refl)
answer-from numbers named (refused k) h = let (why, e) = named-at numbers named k h in (Err why, ap refused e)

pub load-named : Named load_refusals
unfolding load_refusals
load-named = (
  EmptyOrTooLong ∷ WrongFirstByte ∷ EndsInsideField ∷ OutOfRange ∷ TooManyOrTooDeep ∷ NoSuchColumn ∷ BytesAfterEnd ∷
      TooFewArguments ∷ BufferTooShort ∷ TableTooShort ∷ [],
  refl,
)

pub extract-named : Named settled_refusals
unfolding settled_refusals
extract-named =
    (BadSettings ∷ NoGoodPlan ∷ PlanEmpty ∷ AlreadyExtracted ∷ BufferTooShort ∷ NoLeafMatches ∷ [], refl)

pub exchange-named : Named exchange_refusals
unfolding exchange_refusals
exchange-named =
    (NoGoodPlan ∷ PlanEmpty ∷ BufferTooShort ∷ [], refl)

pub merge-named : Named merge_refusals
unfolding merge_refusals
merge-named = (
  EmptyOrTooLong ∷ WrongFirstByte ∷ EndsInsideField ∷ OutOfRange ∷ TooManyOrTooDeep ∷ NoSuchColumn ∷ BytesAfterEnd ∷
      TooFewArguments ∷ NoGoodPlan ∷ PlanEmpty ∷ AlreadyExtracted ∷ MergedTooLarge ∷ BufferTooShort ∷ TableTooShort ∷ [],
  refl,
)

pub project-named : Named project_refusals
unfolding project_refusals
project-named =
    (NoGoodPlan ∷ PlanEmpty ∷ NotExtracted ∷ ListTooLong ∷ BufferTooShort ∷ NoSuchChild ∷ [], refl)

-- ---- what the calls answer

module _ (most : ℕ) where
  -- A number from 1 on.
  abbrev pub in_range : ℕ → Bool
  in_range k = leb 1 k && leb k most

  range-of : (k : ℕ) → in_range k ≡ true → (1 ≤ k) × (k ≤ most)
  range-of k e =
      let both : (leb 1 k ≡ true) × (leb k most ≡ true) = and-both (leb 1 k) (leb k most) e in
      (leb-true 1 k both.0, leb-true k most both.1)

  first-of : (numbers : List ℕ) (n k : ℕ) (b : Bool) → eqb k n ≡ b → in_range n ≡ true → (b || any (eqb k) numbers) ≡ true
      → (any (eqb k) numbers ≡ true → (1 ≤ k) × (k ≤ most)) → (1 ≤ k) × (k ≤ most)
  first-of numbers n k true f range e later = range-of k (subst (λ (m : ℕ). in_range m ≡ true) (sym (eqb-true k n f)) range)
  first-of numbers n k false f range e later = later e

  -- One of a list of such.
  pub one_of : (numbers : List ℕ) → all in_range numbers ≡ true → (k : ℕ) → any (eqb k) numbers ≡ true → (1 ≤ k) × (k ≤ most)
  unfolding any all
  one_of [] range k e = absurd (false≢true e)
  one_of (n ∷ numbers) range k e =
      let both : (in_range n ≡ true) × (all in_range numbers ≡ true) = and-both (in_range n) (all in_range numbers) range in
      first-of numbers n k (eqb k n) refl both.0 e (λ later. one_of numbers both.1 k later)

is-answer : (numbers : List ℕ) → all (in_range 24) numbers ≡ true → (x : Result ℕ) → RefusedBy numbers x
    → ((m : ℕ) → x ≡ ok m → m ≤ most_bytes) → IsAnswer x
is-answer numbers range (ok m) h short = short m refl
is-answer numbers range (refused k) h short = one_of 24 numbers range k h

make-answer : (S : Settings) → SettingsFit S → (kind : Kind) (n : ℕ) (plan scratch : List ℕ) (table : List NodeRecord) → AllBytes plan
    → IsAnswer (make_under S kind n plan scratch table).answer
unfolding make_by make_under settled_refusals exchange_refusals all
make-answer S fits extract_call n plan scratch table bytes =
    is-answer settled_refusals refl _ (refusals-under.0 S n plan scratch table)
    (by-settings S n plan scratch table (λ (o : Outcome) (w : ℕ). (m : ℕ) → o.answer ≡ ok m → m ≤ most_bytes)
    (λ g m e. (all-settings S g).one_call.short extract_call n plan scratch table m bytes e) (λ m e. absurd (refused_not_ok 24 m e)) fits)
make-answer S fits exchange_call n plan scratch table bytes =
    is-answer exchange_refusals refl _ (refusals-of-calls.2 n plan scratch)
    (λ m e. lengths_short.1 exchange_call n plan scratch table m bytes e)

merge-short : (frame : List ℕ) (n : ℕ) (plan scratch : List ℕ) (table : List NodeRecord) (m : ℕ)
    → (merge frame n plan scratch table).answer ≡ ok m → m ≤ most_bytes
unfolding accepted
merge-short frame n plan scratch table m e =
    let (old, new, found, given, wrote) = merge-writes frame n plan scratch table (ap accepted e) in
    let size : (merge frame n plan scratch table).n ≡ m = same_ok _ _ (sym wrote.wrote.answer ∙ e) in
    subst (λ (k : ℕ). k ≤ most_bytes) size wrote.short

pub answers-of-calls : AnswersOfCalls
unfolding load_refusals merge_refusals project_refusals all
answers-of-calls = (
  λ frame n plan table bytes. is-answer load_refusals refl _ (refusals-of-calls.0 frame n plan table)
      (λ m e. lengths_short.0 frame n plan table m bytes e),
  make-answer,
  λ frame n plan scratch table. is-answer merge_refusals refl _ (refusals-of-calls.5 frame n plan scratch table)
      (merge-short frame n plan scratch table),
  λ n plan scratch of_left of_right bytes. is-answer project_refusals refl _ (refusals-of-calls.6 n plan scratch of_left of_right)
      (λ m e. lengths_short.2 n plan scratch of_left of_right m bytes e),
)
