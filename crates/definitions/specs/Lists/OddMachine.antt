-- Request 7 of document 02: a machine with the odd bit alone, for an extraction that is held. (Ours.)
use Rattle.std.specs.Prelude.{ℕ, Bool, not, List, [], ◌∷◌, length, leb, if◌then◌else◌}
use Rattle.definitions.specs.Words.Basics.{Result, ok, refused}
use Rattle.definitions.specs.Words.Expression.{Extraction}
use Rattle.definitions.specs.Bytes.Encode.{plan_bytes}
use Rattle.definitions.specs.Filter.Exchange.{extracted_plan}
use Rattle.definitions.specs.Lists.Machine.{Kind, extract_call, exchange_call, Fed}

-- The length of that plan. (Ours.)
unfoldable pub odd_length : Extraction → (odd : Bool) → ℕ
odd_length X odd = length (plan_bytes (extracted_plan X odd))

-- The machine's answer, and its bit afterwards. (Ours.)
pub record OddStep : Type 0 where
  pub answer : Result ℕ
  pub is_odd : Bool

-- Exchange: 9, else the odd bit flips. Extract: 12. (Ours.)
unfoldable pub odd_step : Extraction → (odd : Bool) → Kind → (room : ℕ) → OddStep
odd_step X odd exchange_call room =
    if leb (odd_length X odd) room
    then record { answer = ok (odd_length X (not odd)); is_odd = not odd }
    else record { answer = refused 9; is_odd = odd }
odd_step X odd extract_call room = record { answer = refused 12; is_odd = odd }

-- The answers of a list of calls, and the bit at its end. (Ours.)
pub record OddRun : Type 0 where
  pub answers : List (Result ℕ)
  pub is_odd : Bool

-- The machine fed a list of calls. (Ours.)
unfoldable pub odd_run : Extraction → (odd : Bool) → List Fed → OddRun
odd_run X odd [] = record { answers = []; is_odd = odd }
odd_run X odd (c ∷ cs) =
    let step : OddStep = odd_step X odd c.kind c.room in
    let after : OddRun = odd_run X step.is_odd cs in
    record { answers = step.answer ∷ after.answers; is_odd = after.is_odd }
