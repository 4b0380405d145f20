-- A call that met its contract gives the definition's answer, and that, as one number, is the host's.
use Prim.Native.Nat.{ℕ}
use mathlib.Core.Path.{◌≡◌, refl}
use mathlib.Core.List.{List}
use lib.IntN.{ℤ}
use Rattle.definitions.specs.Calls.Base.{Outcome}
use Rattle.definitions.specs.Bytes.Good.{AllBytes}
use Rattle.host_calls.specs.Hosts.{hosted, hosted_walk}
use Rattle.call_answers.specs.Outcomes.{Answered, answer_of, OutcomeIs, ExtractIs}
use Rattle.call_answers.specs.declared.answers.Extracted.{Extracted}
use Rattle.host_calls.specs.Hosted.{CallHosted, ExtractHosted}

pub call-hosted : (before : List ℕ) → AllBytes before → (o : Outcome) (n : ℕ) (after kept : List ℕ) (r : Answered)
    → OutcomeIs o n after kept r
    → (z : ℤ) → z ≡ hosted (answer_of r) → CallHosted before o after kept z
call-hosted before bytes o n after kept r is z e = rw (e, is) (bytes, refl, refl, refl)

pub extract-hosted : (before : List ℕ) → AllBytes before → (o : Outcome) (walk n : ℕ) (after kept : List ℕ) (r : Extracted)
    → ExtractIs o walk n after kept r → (z : ℤ) → z ≡ hosted_walk r.walk (answer_of r.answer) → ExtractHosted before o walk after kept z
extract-hosted before bytes o walk n after kept r is z e = rw (e, is.outcome, is.carried) (bytes, refl, refl, refl)
