-- The two-bit machine: fed a frame and, for each call of a list, its kind and the length of its scratch. 01's matcher is `match_leaf`.
use Rattle.std.specs.Prelude.{ℕ, Bool, true, false, not, List, [], ◌∷◌, length, leb, if◌then◌else◌}
use Rattle.std.proofs.Math.Option.{Option, none, some}
use Rattle.definitions.specs.Words.Basics.{Result, ok, refused}
use Rattle.definitions.specs.Words.Expression.{Frame, Extraction, Plan, held, extracted}
use Rattle.definitions.specs.Bytes.Encode.{plan_bytes}
use Rattle.definitions.specs.Filter.Extract.{Matcher, extraction_by}
use Rattle.definitions.specs.Filter.OneWalk.{walk_length_by}
use Rattle.definitions.specs.Filter.Exchange.{exchange_plan}

-- The calls of a list: extract and exchange.
pub data Kind : Type 0 where
  extract_call exchange_call : Kind

-- The extracted bit and the odd bit.
pub record Bits : Type 0 where
  pub is_extracted : Bool
  pub is_odd : Bool

-- One call as the machine is fed it: its kind and the length of its scratch.
pub record Fed : Type 0 where
  pub kind : Kind
  pub room : ℕ

-- An extraction as plan. (The plan given beside it is never seen, because the bit is 1 only where there is an extraction.)
unfoldable pub extraction_or : Plan → Option Extraction → Plan
extraction_or plan none = plan
extraction_or plan (some X) = extracted X

-- F, or its extraction where that bit is 1; exchanged once where the odd bit is 1.
unfoldable pub machine_plan : Matcher → Frame → Bits → Plan
machine_plan match F bits =
    let base : Plan = if bits.is_extracted then extraction_or (held F) (extraction_by match F) else held F in
    if bits.is_odd then exchange_plan base else base

-- The length of the machine's plan.
unfoldable pub machine_length : Matcher → Frame → Bits → ℕ
machine_length match F bits = length (plan_bytes (machine_plan match F bits))

-- The machine's answer, the walk that it carries (request 10), and its bits afterwards.
pub record Step : Type 0 where
  pub answer : Result ℕ
  pub walk : ℕ
  pub bits : Bits

-- A refused call gives its number and changes neither bit.
unfoldable pub refuse_step : Bits → ℕ → Step
refuse_step bits number = record { answer = refused number; walk = 0; bits = bits }

-- An accepted call gives the length of the machine's new plan.
unfoldable pub accept_step : Matcher → Frame → Bits → Step
accept_step match F bits = record { answer = ok (machine_length match F bits); walk = 0; bits = bits }

-- A step that carries a walk.
abbrev pub with_walk : ℕ → Step → Step
with_walk walk step = record { answer = step.answer; walk = walk; bits = step.bits }

-- 13 if no AND-leaf of F matches, else the extracted bit becomes 1.
unfoldable pub take_step : Matcher → Frame → Bits → Option Extraction → Step
take_step match F bits none = refuse_step bits 13
take_step match F bits (some X) = accept_step match F (record { is_extracted = true; is_odd = bits.is_odd })

-- Exchange: 9, else the odd bit flips. Extract: 12, 9, 13, else the extracted bit becomes 1; once it has read the leaves it carries their
-- walk.
unfoldable pub machine_step : Matcher → Frame → Bits → Kind → (room : ℕ) → Step
machine_step match F bits exchange_call room =
    if leb (machine_length match F bits) room
    then accept_step match F (record { is_extracted = bits.is_extracted; is_odd = not bits.is_odd })
    else refuse_step bits 9
machine_step match F bits extract_call room =
    if bits.is_extracted then refuse_step bits 12 else
    if leb (machine_length match F bits) room then with_walk (walk_length_by match F) (take_step match F bits (extraction_by match F)) else
    refuse_step bits 9

-- The answers of a list of calls, the walks that they carry, and the bits at its end.
pub record Run : Type 0 where
  pub answers : List (Result ℕ)
  pub walks : List ℕ
  pub bits : Bits

-- The machine fed a list of calls.
unfoldable pub machine_run : Matcher → Frame → Bits → List Fed → Run
machine_run match F bits [] = record { answers = []; walks = []; bits = bits }
machine_run match F bits (c ∷ cs) =
    let step : Step = machine_step match F bits c.kind c.room in
    let after : Run = machine_run match F step.bits cs in
    record { answers = step.answer ∷ after.answers; walks = step.walk ∷ after.walks; bits = after.bits }

-- Both bits are 0 at the start.
unfoldable pub fresh : Bits
fresh = record { is_extracted = false; is_odd = false }
