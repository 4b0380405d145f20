-- Request 14 of a host's own call `spatialjoin_extract_all`, by the relation that its contract cites.
use Rattle.std.specs.Prelude.{ℕ, suc, ◌/◌, ◌%◌, ◌≡◌, List, ℤ, pos, negsuc, take}
use Rattle.definitions.specs.Words.Basics.{Result, ok, refused}
use Rattle.definitions.specs.Words.Expression.{Frame}
use Rattle.definitions.specs.Bytes.Plans.{frame_of}
use Rattle.definitions.specs.Filter.Extract.{matches_by}
use Rattle.definitions.specs.Claims.Calls.{SameFrom}
use Rattle.definitions.specs.Filter.Conjuncts.{conjuncts_by, match_count}
use Rattle.definitions.specs.Calls.ExtractAll.{conjuncts_bytes}
use Rattle.definitions.specs.Filter.Settings.{Settings, match_under, GoodSettings}
use Rattle.definitions.specs.Calls.Settings.{extract_all_under}
use Rattle.host_calls.specs.Hosted.{AllHosted}
use Rattle.host_lists.specs.Numbers.{SettingsFit}

-- The answer that a host reads off its number: a length is what is left over from 65,536s, a number below 0 is minus the refusal's.
abbrev pub all_answered : ℤ → Result ℕ
all_answered (pos number) = ok (number % 65536)
all_answered (negsuc less) = refused (suc less)

-- The rounds are how many of them there are; a refusal has none.
abbrev pub rounds_carried : ℤ → ℕ
rounds_carried (pos number) = number / 65536
rounds_carried (negsuc less) = 0

pub record HostAll : Type 0 where
  -- From the number of a call answer and rounds are known, whatever the settings of 32 bits.
  pub known : (S : Settings) → SettingsFit S → (frame before after : List ℕ) (z : ℤ)
      → AllHosted frame (extract_all_under S frame before) after z
      → (all_answered z ≡ (extract_all_under S frame before).answer) × (rounds_carried z ≡ (extract_all_under S frame before).rounds)
  -- An accepted one had a good frame: so many of its AND-leaves match as there were rounds, the bytes at the buffer's start are those of
  -- all its conjuncts, and the bytes after them are as they were.
  pub takes : (S : Settings) → GoodSettings S → (frame before after : List ℕ) (number : ℕ)
      → AllHosted frame (extract_all_under S frame before) after (pos number)
      → (F : Frame) × (frame_of frame ≡ ok F) × (number / 65536 ≡ match_count (matches_by (match_under S) F))
      × (take (number % 65536) after ≡ conjuncts_bytes (conjuncts_by (match_under S) F)) × SameFrom (number % 65536) before after
