-- The lengths that exchange, project and print answer are short, so each answer is one number.
use Rattle.std.specs.Prelude.{Ok, Err}
use Prim.Native.Nat.{ℕ}
use native.Mathlib.Omega.{arith}
use mathlib.Core.Path.{◌≡◌, refl, sym, ap, ◌∙◌}
use mathlib.Core.List.{List, []}
use lib.IntN.{ℤ}
use lib.ListN.{length}
use Rattle.definitions.specs.Calls.Base.{Outcome, exchange}
use Rattle.host_calls.specs.Hosts.{hosted}
use Rattle.definitions.specs.Lists.Machine.{exchange_call}
use Rattle.definitions.specs.Lists.Sessions.{make_by, accepted}
use Rattle.definitions.specs.Bytes.Printed.{printed}
use Rattle.definitions.specs.Calls.Print.{PrintOutcome}
use Rattle.definitions.specs.Calls.Project.{project}
use Rattle.definitions.specs.Bytes.Good.{AllBytes}
use Rattle.theorems.proofs.InverseFrame.{same_ok, frame_back}
use Rattle.theorems.proofs.Proved.{lengths_short, text-is-short, print-given}
use Rattle.call_answers.specs.Outcomes.{Answered, answer_of, OutcomeIs, PrintIs}
use Rattle.host_calls.specs.Hosted.{PrintHosted}
use Rattle.host_calls.specs.Short.{ShortLength}

pub exchange-short : (n : ℕ) (before scratch after kept : List ℕ) (r : Answered)
    → OutcomeIs (exchange n before scratch) n after kept r → AllBytes before → ShortLength r
unfolding make_by
exchange-short n before scratch after kept (Ok m) is bytes =
    omega (arith, lengths_short.1 exchange_call n before scratch [] m bytes (ap (λ (o : Outcome). o.answer) is))
exchange-short n before scratch after kept (Err why) is bytes = tt

pub projected-short : (n : ℕ) (before scratch of_left of_right after kept : List ℕ) (r : Answered)
    → OutcomeIs (project n before scratch of_left of_right) n after kept r → AllBytes before → ShortLength r
projected-short n before scratch of_left of_right after kept (Ok m) is bytes =
    omega (arith, lengths_short.2 n before scratch of_left of_right m bytes (ap (λ (o : Outcome). o.answer) is))
projected-short n before scratch of_left of_right after kept (Err why) is bytes = tt

module _ (frame before after : List ℕ) (r : Answered) (is : PrintIs frame before after r) where
  pub text-short : AllBytes frame → ShortLength r
  unfolding accepted
  text-short = short r is where
    short : (r : Answered) → PrintIs frame before after r → AllBytes frame → ShortLength r
    short (Ok m) is bytes =
        let (F, wrote) = print-given frame before (ap (λ (o : PrintOutcome). accepted o.answer) is) in
        let size : m ≡ length (printed F.expr) = same_ok m _ (sym (ap (λ (o : PrintOutcome). o.answer) is) ∙ wrote.answer) in
        omega (arith, (text-is-short F (frame_back frame F bytes wrote.given).1).1)
    short (Err why) is bytes = tt

  pub print-hosted : (z : ℤ) → z ≡ hosted (answer_of r) → PrintHosted frame before after z
  print-hosted z e = rw (e, is) (refl, refl)
