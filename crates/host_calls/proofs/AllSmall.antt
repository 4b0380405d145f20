-- Rounds and length are small, so the answer is one number.
use Prim.Native.Nat.{ℕ, ◌≤◌, ◌<◌}
use native.Mathlib.Omega.{arith}
use mathlib.Core.Path.{◌≡◌, refl, sym, ap, ◌∙◌}
use mathlib.Core.Bool.{Bool, true, false}
use mathlib.Core.List.{List}
use lib.IntN.{ℤ}
use lib.ListN.{length}
use Rattle.definitions.specs.Words.Limits.{four_bytes}
use Rattle.definitions.specs.Words.Basics.{Result, ok, refused}
use Rattle.definitions.specs.Bytes.Good.{AllBytes}
use Rattle.host_calls.specs.Hosts.{hosted_all}
use Rattle.definitions.specs.Lists.Sessions.{accepted}
use Rattle.definitions.specs.Calls.ExtractAll.{AllOutcome, finish_all, extract_all_by}
use Rattle.definitions.specs.Filter.Conjuncts.{conjuncts_by}
use Rattle.definitions.specs.Filter.Settings.{Settings, good_settings, match_under}
use Rattle.definitions.specs.Calls.Settings.{extract_all_under}
use Rattle.theorems.proofs.InverseFrame.{same_ok}
use Rattle.theorems.proofs.Proved.{all-settings, bad-settings}
use Rattle.host_calls.specs.Hosted.{AllHosted}

module _ (S : Settings) (width : S.greatest_k < four_bytes) (frame before after : List ℕ) (rounds : ℕ) (answer : Result ℕ)
    (is : extract_all_under S frame before ≡ record { answer = answer; rounds = rounds; buffer = after }) where
  small_by : (b : Bool) → good_settings S ≡ b → AllBytes frame → (n : ℕ) → answer ≡ ok n → (n ≤ 16384) × (rounds ≤ 1024)
  unfolding accepted finish_all
  small_by true g bytes n e =
      let under = all-settings S (record { good = g; width = width }) in
      let same : extract_all_by (match_under S) frame before ≡ record { answer = answer; rounds = rounds; buffer = after } =
      sym (under.call_all frame before) ∙ is in
      let given : (extract_all_by (match_under S) frame before).answer ≡ ok n = ap (λ (o : AllOutcome). o.answer) same ∙ e in
      let (F, of, wrote, short, few) = under.all_call.writes frame before bytes (ap accepted given) in
      let size = same_ok n _ (sym given ∙ wrote.answer) in
      let many : rounds ≡ length (conjuncts_by (match_under S) F).taken = sym (ap (λ (o : AllOutcome). o.rounds) same) ∙ wrote.how_many in
      (omega (arith, size, short), omega (arith, many, few))
  small_by false g bytes n e =
      let bad : answer ≡ refused 24 = ap (λ (o : AllOutcome). o.answer) (sym is ∙ (bad-settings S g).1 frame before) in
      let z : ◌≡◌ {A = ℕ} 0 1 = cc in absurd (omega arith)

  -- An answer that is a length is at most 16,384, with at most 1,024 rounds.
  pub all_small : AllBytes frame → (n : ℕ) → answer ≡ ok n → (n ≤ 16384) × (rounds ≤ 1024)
  all_small = small_by (good_settings S) refl

  pub all-hosted : AllBytes frame → (z : ℤ) → z ≡ hosted_all rounds answer → AllHosted frame (extract_all_under S frame before) after z
  all-hosted bytes z e = rw (e, is) (bytes, refl, refl)
