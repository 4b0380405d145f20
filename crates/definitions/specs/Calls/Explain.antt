-- The call explain: 24, 1 to 8, 9. (Ours, beyond document 02.)
use Rattle.std.specs.Prelude.{ℕ, List, length, leb, if◌then◌else◌}
use Rattle.definitions.specs.Words.Basics.{Result, ok, refused}
use Rattle.definitions.specs.Words.Expression.{Frame}
use Rattle.definitions.specs.Bytes.Plans.{frame_of}
use Rattle.definitions.specs.Filter.Settings.{Settings, good_settings}
use Rattle.definitions.specs.Filter.Verdicts.{verdict_bytes, explained}
use Rattle.definitions.specs.Calls.Base.{written_over}

-- What the call gives: the answer or a refusal, and the lent buffer afterwards.
pub record ExplainOutcome : Type 0 where
  pub answer : Result ℕ
  pub buffer : List ℕ

-- The verdicts of a good frame as bytes; 9 where the buffer is shorter than the number of its AND-leaves.
unfoldable pub new_verdicts : Settings → (room : ℕ) → Result Frame → Result (List ℕ)
new_verdicts S room (refused number) = refused number
new_verdicts S room (ok F) = if leb (length (verdict_bytes S F)) room then ok (verdict_bytes S F) else refused 9

-- The bytes at the buffer's start, those after them as they were; a refusal writes nothing.
unfoldable pub finish_explain : (buffer : List ℕ) → Result (List ℕ) → ExplainOutcome
finish_explain buffer (ok bytes) = record { answer = ok (explained bytes); buffer = written_over bytes buffer }
finish_explain buffer (refused number) = record { answer = refused number; buffer = buffer }

-- The call takes a frame and a lent buffer, under settings.
unfoldable pub explain : Settings → (frame buffer : List ℕ) → ExplainOutcome
explain S frame buffer =
    if good_settings S then finish_explain buffer (new_verdicts S (length buffer) (frame_of frame)) else finish_explain buffer (refused 24)
