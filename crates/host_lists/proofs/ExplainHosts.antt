-- A host's explain is the definition's: its answer is one number, so what the definition's calls are claimed to do holds of it.
use Prim.Native.Nat.{ℕ, zero, suc, ◌/◌, ◌%◌, ◌≤◌}
use native.Mathlib.Omega.{arith}
use mathlib.Core.Path.{◌≡◌, refl, sym, ap, ◌∙◌, subst}
use mathlib.Core.Bool.{Bool, true, false, false≢true}
use mathlib.Core.List.{List}
use lib.IntN.{ℤ, pos, neg_ℤ}
use lib.ListN.{length, take}
use lib.Dec.{leb}
use borrow.Author.Tests.{leb-true, leb-false}
use Rattle.definitions.specs.Words.Basics.{Result, ok, refused, all, big_endian}
use Rattle.definitions.specs.Words.Expression.{Frame}
use Rattle.definitions.specs.Words.Leaves.{leaves}
use Rattle.definitions.specs.Bytes.Plans.{frame_of}
use Rattle.host_calls.specs.Hosts.{hosted}
use Rattle.definitions.specs.Lists.Sessions.{accepted}
use Rattle.definitions.specs.Claims.Calls.{SameFrom, RefusedBy, all_refusals}
use Rattle.definitions.specs.Filter.Settings.{Settings, GoodSettings}
use Rattle.definitions.specs.Filter.Verdicts.{verdict_bytes, explained}
use Rattle.definitions.specs.Calls.Explain.{ExplainOutcome, finish_explain, explain}
use Rattle.theorems.proofs.InverseFrame.{same_ok, frame_back}
use Rattle.theorems.proofs.Proved.{explain-calls, answer-is-the-bill}
use Rattle.host_calls.specs.Hosted.{ExplainHosted}
use Rattle.host_lists.specs.Numbers.{SettingsFit}
use Rattle.host_lists.specs.ExplainHosts.{explain_answered, Told, HostExplain}
use Rattle.host_lists.proofs.Numbers.{one_of}

-- ---- one number

refusal-known : (k : ℕ) → 1 ≤ k → explain_answered (neg_ℤ (pos k)) ≡ refused k
refusal-known zero h = absurd (omega (arith, h))
refusal-known (suc k) h = refl

number-known : (x : Result ℕ) → RefusedBy all_refusals x → explain_answered (hosted x) ≡ x
unfolding hosted all_refusals all
number-known (ok n) h = refl
number-known (refused k) h = refusal-known k (one_of 24 all_refusals refl k h).0

explain-known : (S : Settings) → SettingsFit S → (frame before after : List ℕ) (z : ℤ)
    → ExplainHosted frame (explain S frame before) after z → explain_answered z ≡ (explain S frame before).answer
explain-known S fits frame before after z (bytes, number, left) =
    ap explain_answered number ∙ number-known (explain S frame before).answer (explain-calls.refusals S frame before)

-- ---- an accepted call

module _ (S : Settings) (good : GoodSettings S) (frame before after : List ℕ) (number : ℕ)
    (is : ExplainHosted frame (explain S frame before) after (pos number)) where
  given : (explain S frame before).answer ≡ ok number
  given = sym (explain-known S good.width frame before after (pos number) is)

  not-refused : {k : ℕ} {buffer : List ℕ} → explain S frame before ≡ record { answer = refused k; buffer = buffer } → ⊥
  unfolding accepted
  not-refused e = false≢true (ap (λ (o : ExplainOutcome). accepted o.answer) (sym e) ∙ ap accepted given)

  by-room : (F : Frame) → frame_of frame ≡ ok F → (b : Bool) → leb (length (leaves F.expr)) (length before) ≡ b
      → Told S F before after number
  unfolding finish_explain
  by-room F e true room =
      let back = frame_back frame F is.0 e in
      let wrote = (explain-calls.good S good.good).writes frame before F e (leb-true _ _ room) in
      let size : number ≡ explained (verdict_bytes S F) = same_ok _ _ (sym given ∙ wrote.0) in
      let bill = answer-is-the-bill S good F back.1 in
      let counted : number % 65536 ≡ length (leaves F.expr) = ap (λ (n : ℕ). n % 65536) size ∙ bill.0 in
      record {
        counted = counted;
        unbilled = λ none. ap (λ (n : ℕ). n / 65536) size ∙ bill.2 none;
        billed = λ X e. ap (λ (n : ℕ). big_endian 3 (n / 65536)) size ∙ bill.3 X e;
        verdicts = ap (λ (n : ℕ). take n after) counted ∙ ap (take (length (leaves F.expr))) is.2 ∙ wrote.1;
        others = subst (λ (n : ℕ). SameFrom n before after) (sym counted)
            (subst (SameFrom (length (leaves F.expr)) before) (sym is.2) wrote.2);
      }
  by-room F e false room = absurd (not-refused ((explain-calls.good S good.good).short frame before F e (leb-false _ _ room)))

  by-frame : (r : Result Frame) → frame_of frame ≡ r → (F : Frame) × (frame_of frame ≡ ok F) × Told S F before after number
  unfolding finish_explain
  by-frame (ok F) e = (F, e, by-room F e (leb (length (leaves F.expr)) (length before)) refl)
  by-frame (refused k) e = absurd (not-refused ((explain-calls.good S good.good).refuses frame before k e))

  explain-tells : (F : Frame) × (frame_of frame ≡ ok F) × Told S F before after number
  explain-tells = by-frame (frame_of frame) refl

pub host-explain : HostExplain
host-explain = record { known = explain-known; tells = explain-tells }
