-- A host's own call `spatialjoin_explain`, by the relation that its contract cites. (Ours, beyond document 02.)
use Rattle.std.specs.Prelude.{ℕ, suc, ◌/◌, ◌%◌, ◌≡◌, List, ℤ, pos, negsuc, length, take}
use Rattle.std.proofs.Math.Option.{none, some}
use Rattle.definitions.specs.Words.Basics.{Result, ok, refused, big_endian}
use Rattle.definitions.specs.Words.Expression.{Frame, Extraction}
use Rattle.definitions.specs.Bytes.Encode.{extraction_bytes}
use Rattle.definitions.specs.Words.Leaves.{leaves}
use Rattle.definitions.specs.Bytes.Plans.{frame_of}
use Rattle.definitions.specs.Filter.Extract.{extraction_by}
use Rattle.definitions.specs.Claims.Calls.{SameFrom}
use Rattle.definitions.specs.Filter.Settings.{Settings, match_under, GoodSettings}
use Rattle.definitions.specs.Filter.Verdicts.{verdict_bytes}
use Rattle.definitions.specs.Calls.Explain.{explain}
use Rattle.host_calls.specs.Hosted.{ExplainHosted}
use Rattle.host_lists.specs.Numbers.{SettingsFit}

-- The answer that a host reads off its number, which is minus the refusal's below 0.
abbrev pub explain_answered : ℤ → Result ℕ
explain_answered (pos number) = ok number
explain_answered (negsuc less) = refused (suc less)

-- What an accepted call told of a good frame F: its last two bytes say how many conjuncts there are, those before are 0 where none can be
-- indexed, else the first three bytes of the plan that extract would leave; the verdicts are at the buffer's start.
pub record Told (S : Settings) (F : Frame) (before after : List ℕ) (number : ℕ) : Type 0 where
  pub counted : number % 65536 ≡ length (leaves F.expr)
  pub unbilled : extraction_by (match_under S) F ≡ none → number / 65536 ≡ 0
  pub billed : (X : Extraction) → extraction_by (match_under S) F ≡ some X → big_endian 3 (number / 65536) ≡ take 3 (extraction_bytes X)
  pub verdicts : take (number % 65536) after ≡ verdict_bytes S F
  pub others : SameFrom (number % 65536) before after

pub record HostExplain : Type 0 where
  -- From the number of a call its answer is known, whatever the settings of 32 bits.
  pub known : (S : Settings) → SettingsFit S → (frame before after : List ℕ) (z : ℤ)
      → ExplainHosted frame (explain S frame before) after z → explain_answered z ≡ (explain S frame before).answer
  -- An accepted one had a good frame, and told its bill and its verdicts.
  pub tells : (S : Settings) → GoodSettings S → (frame before after : List ℕ) (number : ℕ)
      → ExplainHosted frame (explain S frame before) after (pos number)
      → (F : Frame) × (frame_of frame ≡ ok F) × Told S F before after number
