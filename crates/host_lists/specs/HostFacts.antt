-- One exported call of a host, whatever the settings: demand 1 of it, what it gives with settings that get 24, and that every call runs.
use Rattle.std.specs.Prelude.{ℕ, ◌*◌, ◌-◌, ◌≤◌, ◌≡◌, true, false, List, [], ℤ, pos, neg_ℤ, eqb}
use Rattle.definitions.specs.Words.Limits.{most_nodes}
use Rattle.definitions.specs.Words.Basics.{ok, refused}
use Rattle.definitions.specs.Words.Expression.{Frame, held}
use Rattle.definitions.specs.Filter.OneWalk.{walk_length_by}
use Rattle.definitions.specs.Calls.Base.{held_plan}
use Rattle.definitions.specs.Lists.Machine.{extract_call}
use Rattle.definitions.specs.Bytes.Good.{AllBytes}
use Rattle.definitions.specs.Lists.Sessions.{accepted}
use Rattle.definitions.specs.Filter.Settings.{Settings, good_settings, match_under}
use Rattle.definitions.specs.Lists.History.{Call, loading, making, merging, projecting, FrameIsBytes}
use Rattle.node_table.specs.Records.{nodes_of}
use Rattle.host_lists.specs.Numbers.{walk_answered, walk_carried, answered_by, carried_by, number_by, IsAnswer, SettingsFit}
use Rattle.host_lists.specs.HostLists.{Host, MadeHosted, HostCall}

-- The scratch that a call is lent; load has none.
abbrev pub scratch_of : Call → List ℕ
scratch_of (loading frame) = []
scratch_of (making c) = c.scratch
scratch_of (merging frame scratch) = scratch
scratch_of (projecting scratch of_left of_right) = scratch

-- What the call left in it.
abbrev pub scratch_left : (S : Settings) (b : Host) (c : Call) (a : Host) (z : ℤ) → HostCall S b c a z → List ℕ
scratch_left S b (loading frame) a z is = []
scratch_left S b (making c) a z is = is.0
scratch_left S b (merging frame scratch) a z is = is.0
scratch_left S b (projecting scratch of_left of_right) a z is = is.0

-- Demand 1: every number is that of a length of at most 16,384 or of one of the refusals 1 to 24, extract's with a walk of at most 2,047.
abbrev pub HostNumbers : Type 0
HostNumbers =
    (S : Settings) → SettingsFit S → (b : Host) (c : Call) (a : Host) (z : ℤ) → HostCall S b c a z
    → (z ≡ number_by c (carried_by c z) (answered_by c z)) × IsAnswer (answered_by c z) × (carried_by c z ≤ 2 * most_nodes - 1)

-- Demand 1: a refused call changes neither plan nor scratch, nor n, nor the table's records.
abbrev pub HostKeeps : Type 0
HostKeeps =
    (S : Settings) → SettingsFit S → (b : Host) (c : Call) (a : Host) (z : ℤ) (is : HostCall S b c a z) → accepted (answered_by c z) ≡ false
    → (a.plan ≡ b.plan) × (scratch_left S b c a z is ≡ scratch_of c) × (a.n ≡ b.n) × (nodes_of a.table ≡ nodes_of b.table)

-- Request 10: the walk that is read off an extract's number is that of the frame that is held, with a length and with 13, else 0.
abbrev pub HostWalks : Type 0
HostWalks =
    (S : Settings) → SettingsFit S → (b : Host) (scratch after kept : List ℕ) (z : ℤ) → MadeHosted S extract_call b scratch after kept z
    → (accepted (walk_answered z) ≡ true
    → (F : Frame) × (held_plan b.n b.plan ≡ ok (held F)) × (walk_carried z ≡ walk_length_by (match_under S) F))
    × (walk_answered z ≡ refused 13
    → (F : Frame) × (held_plan b.n b.plan ≡ ok (held F)) × (walk_carried z ≡ walk_length_by (match_under S) F))
    × ((number : ℕ) → walk_answered z ≡ refused number → eqb number 13 ≡ false → walk_carried z ≡ 0)

-- Request 13: with settings that are not good every extract gives minus 24, wherever it stands in a list, and changes nothing.
abbrev pub HostRefuses : Type 0
HostRefuses =
    (S : Settings) → good_settings S ≡ false → (b : Host) (scratch after kept : List ℕ) (z : ℤ)
    → MadeHosted S extract_call b scratch after kept z
    → (z ≡ neg_ℤ (pos 24)) × (after ≡ b.plan) × (kept ≡ scratch)

-- From every host whose plan buffer holds bytes every call with a frame of bytes runs: what is claimed of calls is claimed of something.
abbrev pub EveryCallRuns : Type 0
EveryCallRuns =
    (S : Settings) (b : Host) (c : Call) → AllBytes b.plan → FrameIsBytes c → (a : Host) × (z : ℤ) × HostCall S b c a z
