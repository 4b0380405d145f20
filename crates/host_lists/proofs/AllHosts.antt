-- A host's extract_all is the definition's: rounds and length are small, so both are known from its number.
use Prim.Native.Nat.{ℕ, zero, suc, ◌/◌, ◌%◌, ◌≤◌}
use native.Mathlib.Omega.{arith}
use mathlib.Core.Path.{◌≡◌, refl, sym, ap, ◌∙◌, subst}
use mathlib.Core.Bool.{Bool, true, false}
use mathlib.Core.List.{List}
use lib.IntN.{ℤ, pos, neg_ℤ}
use lib.ListN.{length, take}
use Rattle.definitions.specs.Words.Basics.{Result, ok, refused, all}
use Rattle.definitions.specs.Words.Expression.{Frame, held}
use Rattle.definitions.specs.Bytes.Plans.{frame_of}
use Rattle.definitions.specs.Filter.Extract.{matches_by}
use Rattle.definitions.specs.Bytes.Good.{AllBytes, GoodPlan}
use Rattle.definitions.specs.Lists.Sessions.{accepted}
use Rattle.host_calls.specs.Hosts.{hosted_all}
use Rattle.definitions.specs.Claims.Calls.{SameFrom, RefusedBy, all_refusals}
use Rattle.definitions.specs.Calls.ExtractAll.{AllOutcome, conjuncts_bytes, finish_all, extract_all_by}
use Rattle.definitions.specs.Filter.Conjuncts.{conjuncts_by, match_count}
use Rattle.definitions.specs.Filter.Settings.{Settings, good_settings, match_under, GoodSettings}
use Rattle.definitions.specs.Calls.Settings.{extract_all_under}
use Rattle.theorems.proofs.InverseFrame.{same_ok, frame_back}
use Rattle.theorems.proofs.Proved.{all-settings, bad-settings, refusals-under}
use Rattle.host_calls.specs.Hosted.{AllHosted}
use Rattle.host_calls.proofs.AllSmall.{all_small}
use Rattle.host_lists.specs.Numbers.{SettingsFit}
use Rattle.host_lists.specs.AllHosts.{all_answered, rounds_carried, HostAll}
use Rattle.host_lists.proofs.Numbers.{one_of}

-- ---- one number

refusal-known : (k : ℕ) → 1 ≤ k → (all_answered (neg_ℤ (pos k)) ≡ refused k) × (rounds_carried (neg_ℤ (pos k)) ≡ 0)
refusal-known zero h = absurd (omega (arith, h))
refusal-known (suc k) h = (refl, refl)

-- A length below 65,536, or a refusal from 1 on without rounds.
abbrev Small : (rounds : ℕ) → Result ℕ → Type 0
Small rounds (ok n) = n ≤ 16384
Small rounds (refused k) = (1 ≤ k) × (rounds ≡ 0)

number-known : (rounds : ℕ) (x : Result ℕ) → Small rounds x
    → (all_answered (hosted_all rounds x) ≡ x) × (rounds_carried (hosted_all rounds x) ≡ rounds)
unfolding hosted_all
number-known rounds (ok n) h = (ap ok (omega arith), omega arith)
number-known rounds (refused k) (h, none) = let (a, c) = refusal-known k h in (a, c ∙ sym none)

-- ---- the call

module _ (S : Settings) (fits : SettingsFit S) (frame before : List ℕ) where
  abbrev outcome : AllOutcome
  outcome = extract_all_under S frame before

  no-rounds : (b : Bool) → good_settings S ≡ b → (k : ℕ) → outcome.answer ≡ refused k → outcome.rounds ≡ 0
  unfolding accepted finish_all
  no-rounds true g k e =
      let under = all-settings S (record { good = g; width = fits }) in
      let same : outcome ≡ extract_all_by (match_under S) frame before = under.call_all frame before in
      ap (λ (o : AllOutcome). o.rounds) same
      ∙ (under.all_call.keeps frame before (ap accepted (sym (ap (λ (o : AllOutcome). o.answer) same) ∙ e))).no_rounds
  no-rounds false g k e = ap (λ (o : AllOutcome). o.rounds) ((bad-settings S g).1 frame before)

  small : AllBytes frame → (x : Result ℕ) → outcome.answer ≡ x → Small outcome.rounds x
  unfolding all_refusals all
  small bytes (ok n) e = (all_small S fits frame before outcome.buffer outcome.rounds outcome.answer refl bytes n e).0
  small bytes (refused k) e = (
    (one_of 24 all_refusals refl k (subst (RefusedBy all_refusals) e (refusals-under.1 S frame before))).0,
    no-rounds (good_settings S) refl k e,
  )

  all_known : (after : List ℕ) (z : ℤ) → AllHosted frame outcome after z
      → (all_answered z ≡ outcome.answer) × (rounds_carried z ≡ outcome.rounds)
  all_known after z (bytes, number, left) =
      let (a, c) = number-known outcome.rounds outcome.answer (small bytes outcome.answer refl) in
      (ap all_answered number ∙ a, ap rounds_carried number ∙ c)

module _ (S : Settings) (good : GoodSettings S) (frame before after : List ℕ) (number : ℕ)
    (is : AllHosted frame (extract_all_under S frame before) after (pos number)) where
  abbrev plain : AllOutcome
  plain = extract_all_by (match_under S) frame before

  all-takes : (F : Frame) × (frame_of frame ≡ ok F) × (number / 65536 ≡ match_count (matches_by (match_under S) F))
      × (take (number % 65536) after ≡ conjuncts_bytes (conjuncts_by (match_under S) F)) × SameFrom (number % 65536) before after
  unfolding accepted
  all-takes =
      let under = all-settings S good in
      let same : extract_all_under S frame before ≡ plain = under.call_all frame before in
      let known = all_known S good.width frame before after (pos number) is in
      let given : plain.answer ≡ ok (number % 65536) = sym (known.0 ∙ ap (λ (o : AllOutcome). o.answer) same) in
      let (F, of, wrote, short, few) = under.all_call.writes frame before is.0 (ap accepted given) in
      let plan : GoodPlan (held F) = (frame_back frame F is.0 of).1 in
      let size : number % 65536 ≡ length (conjuncts_bytes (conjuncts_by (match_under S) F)) = same_ok _ _ (sym given ∙ wrote.answer) in
      let left : plain.buffer ≡ after = sym (is.2 ∙ ap (λ (o : AllOutcome). o.buffer) same) in (
        F,
        of,
        known.1 ∙ ap (λ (o : AllOutcome). o.rounds) same ∙ wrote.how_many ∙ (under.takes_all.how_many F plan).0,
        ap (λ (n : ℕ). take n after) size
            ∙ ap (λ (s : List ℕ). take (length (conjuncts_bytes (conjuncts_by (match_under S) F))) s) (sym left) ∙ wrote.written,
        subst (λ (n : ℕ). SameFrom n before after) (sym size)
            (subst (SameFrom (length (conjuncts_bytes (conjuncts_by (match_under S) F))) before) left wrote.others),
      )

pub host-all : HostAll
host-all = record { known = all_known; takes = all-takes }
