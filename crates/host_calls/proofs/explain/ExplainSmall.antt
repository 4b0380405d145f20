-- The answer of an accepted call is five bytes, so it is one number.
use Prim.Native.Nat.{ℕ, ◌<◌}
use native.Mathlib.Omega.{arith}
use mathlib.Core.Path.{◌≡◌, refl, sym, ap, ◌∙◌}
use mathlib.Core.Bool.{Bool, true, false, false≢true}
use mathlib.Core.List.{List}
use lib.IntN.{ℤ}
use lib.ListN.{length}
use lib.Dec.{leb}
use borrow.Author.Tests.{leb-true, leb-false}
use Rattle.definitions.specs.Words.Limits.{four_bytes}
use Rattle.definitions.specs.Words.Basics.{Result, ok, refused}
use Rattle.definitions.specs.Words.Expression.{Frame}
use Rattle.definitions.specs.Words.Leaves.{leaves}
use Rattle.definitions.specs.Bytes.Plans.{frame_of}
use Rattle.definitions.specs.Bytes.Good.{AllBytes}
use Rattle.host_calls.specs.Hosts.{hosted}
use Rattle.definitions.specs.Lists.Sessions.{accepted}
use Rattle.definitions.specs.Filter.Settings.{Settings, good_settings}
use Rattle.definitions.specs.Filter.Verdicts.{verdict_bytes, explained}
use Rattle.definitions.specs.Calls.Explain.{ExplainOutcome, finish_explain, explain}
use Rattle.theorems.proofs.InverseFrame.{same_ok, frame_back}
use Rattle.theorems.proofs.Proved.{explain-calls, answer-is-the-bill}
use Rattle.host_calls.specs.Hosted.{ExplainHosted}

module _ (S : Settings) (width : S.greatest_k < four_bytes) (frame before after : List ℕ) (n : ℕ)
    (is : explain S frame before ≡ record { answer = ok n; buffer = after }) where
  -- It was not refused.
  not-refused : {k : ℕ} {buffer : List ℕ} → explain S frame before ≡ record { answer = refused k; buffer = buffer } → ⊥
  unfolding accepted
  not-refused e = false≢true (ap (λ (o : ExplainOutcome). accepted o.answer) (sym e ∙ is))

  by-room : AllBytes frame → good_settings S ≡ true → (F : Frame) → frame_of frame ≡ ok F
      → (b : Bool) → leb (length (leaves F.expr)) (length before) ≡ b → n < 1099511627776
  unfolding finish_explain
  by-room bytes g F e true room =
      let back = frame_back frame F bytes e in
      let wrote = (explain-calls.good S g).writes frame before F e (leb-true _ _ room) in
      let size : n ≡ explained (verdict_bytes S F) = same_ok _ _ (sym (ap (λ (o : ExplainOutcome). o.answer) is) ∙ wrote.0) in
      omega (arith, size, (answer-is-the-bill S (record { good = g; width = width }) F back.1).1)
  by-room bytes g F e false room =
      absurd (not-refused ((explain-calls.good S g).short frame before F e (leb-false _ _ room)))

  by-frame : AllBytes frame → good_settings S ≡ true → (r : Result Frame) → frame_of frame ≡ r → n < 1099511627776
  unfolding finish_explain
  by-frame bytes g (ok F) e = by-room bytes g F e (leb (length (leaves F.expr)) (length before)) refl
  by-frame bytes g (refused k) e = absurd (not-refused ((explain-calls.good S g).refuses frame before k e))

  by-settings : AllBytes frame → (b : Bool) → good_settings S ≡ b → n < 1099511627776
  unfolding finish_explain
  by-settings bytes true g = by-frame bytes g (frame_of frame) refl
  by-settings bytes false g = absurd (not-refused (explain-calls.bad S g frame before))

  pub explain-small : AllBytes frame → n < 1099511627776
  explain-small bytes = by-settings bytes (good_settings S) refl

pub explain-hosted : (S : Settings) (frame before after : List ℕ) (answer : Result ℕ)
    → explain S frame before ≡ record { answer = answer; buffer = after } → AllBytes frame → (z : ℤ) → z ≡ hosted answer
    → ExplainHosted frame (explain S frame before) after z
explain-hosted S frame before after answer is bytes z e = rw (e, is) (bytes, refl, refl)
