-- Two hosts from the same frame and with the same settings, whatever each of them exchanged: the same leaf and the same price line.
use Rattle.std.specs.Prelude.{ℕ, ◌≡◌, true, false, List, ℤ, length, take, leb}
use Rattle.definitions.specs.Words.Expression.{Frame, Extraction}
use Rattle.definitions.specs.Bytes.Encode.{plan_bytes}
use Rattle.definitions.specs.Lists.Machine.{extract_call}
use Rattle.definitions.specs.Lists.Sessions.{Made, accepted}
use Rattle.definitions.specs.Filter.Extract.{matches_by}
use Rattle.definitions.specs.Filter.Settings.{Settings, match_under, GoodSettings}
use Rattle.definitions.specs.Claims.Pick.{TookAmong}
use Rattle.definitions.specs.Filter.Exchange.{extracted_plan}
use Rattle.host_lists.specs.Numbers.{walk_answered}
use Rattle.host_lists.specs.HostLists.{MadeHosted, HostRun, plan, extracted, odd}

pub record HostsAgreeUnder (S : Settings) : Type 0 where
  -- Where both extracted, both hold the extraction of one and the same AND-leaf, exchanged or not, and with it the same first byte, which
  -- sets the rate, and the same position.
  pub same_leaf : (F : Frame) (calls calls' : List Made) (r : HostRun S F calls) (r' : HostRun S F calls')
      → extracted r ≡ true → extracted r' ≡ true
      → (X : Extraction) × TookAmong (matches_by (match_under S) F) F X
      × (plan r ≡ plan_bytes (extracted_plan X (odd r))) × (plan r' ≡ plan_bytes (extracted_plan X (odd r')))
      × (take 3 (plan r) ≡ take 3 (plan r'))
  -- Where one extracted, an extract of the other that has room is accepted: never is a join indexed on one and filtered on the other.
  pub never_mixed : (F : Frame) (calls calls' : List Made) (r : HostRun S F calls) (r' : HostRun S F calls')
      → extracted r ≡ true → extracted r' ≡ false → (scratch after kept : List ℕ) (z : ℤ)
      → MadeHosted S extract_call r'.last scratch after kept z → accepted (walk_answered z) ≡ leb r'.last.n (length scratch)

-- At one go for all settings that do not get 24.
abbrev pub HostsAgree : Type 0
HostsAgree = (S : Settings) → GoodSettings S → HostsAgreeUnder S
