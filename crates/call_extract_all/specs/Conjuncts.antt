-- All indexable conjuncts of a good frame, and what is written of them.
use Rattle.std.specs.Prelude.{ℕ, ◌/◌, ◌≤◌, min, ◌≡◌, List, map, length}
use Rattle.definitions.specs.Words.Limits.{most_bytes, most_nodes}
use Rattle.definitions.specs.Words.Expression as tree
use Rattle.definitions.specs.Words.Expression.{held}
use Rattle.definitions.specs.Bytes.Encode.{frame_bytes, remainder_bytes}
use Rattle.definitions.specs.Words.Leaves.{leaves}
use Rattle.definitions.specs.Filter.Extract.{Matcher}
use Rattle.definitions.specs.Bytes.Good.{GoodPlan}
use Rattle.definitions.specs.Filter.Settings.{Settings, match_under, GoodSettings}
use Rattle.definitions.specs.Filter.Conjuncts.{match_count, last_remainder, conjuncts_by}
use Rattle.definitions.specs.Calls.ExtractAll.{conjuncts_bytes}
use Rattle.expression.specs.Places.{Holds}
use Rattle.byte_writer.specs.Written.{Wrote}
use Rattle.frame_reader.specs.Frames.{FrameAt}
use Rattle.frame_reader.specs.declared.frame_bodies.Frame.{Frame}
use Rattle.leaf_pick.specs.Picks.{matches}
use Rattle.call_extract_all.specs.Listings.{match_flag}
use Rattle.call_extract_all.specs.declared.conjuncts.Taken.{Taken}

-- s is the good frame F.
pub record GoodAt (s : List ℕ) (f : Frame) (F : tree.Frame) : Type 0 where
  pub stands : FrameAt s f (length s) F
  pub bytes : s ≡ frame_bytes F
  pub good : GoodPlan (held F)

-- ---- the last remainder

-- Its AND-leaves have these flags, of which so many are 1.
pub record FlaggedLeaves (match : Matcher) (gone : List ℕ) (rounds : ℕ) (F : tree.Frame) : Type 0 where
  pub counted : length (leaves F.expr) ≡ length gone
  pub matching : rounds ≡ match_count (matches match F.records F.expr)
  pub flags : Holds gone 0 (map match_flag (matches match F.records F.expr))

abbrev pub last_left_bytes : Matcher → tree.Frame → List ℕ
last_left_bytes match F = remainder_bytes (last_remainder match F)

-- There is such a frame with a matcher, and room for what is left of it; it was written.
pub record LeftFits (s : List ℕ) (f : Frame) (gone : List ℕ) (rounds : ℕ) (row out : List ℕ) : Type 0 where
  pub match : Matcher
  pub frame : tree.Frame
  pub at : GoodAt s f frame
  pub told : FlaggedLeaves match gone rounds frame
  pub long : length s ≤ length row
  pub room : length (last_left_bytes match frame) ≤ length out

abbrev pub LeftPut : (s : List ℕ) (f : Frame) (gone : List ℕ) (rounds : ℕ) (before after : List ℕ) → ℕ → Type 0
LeftPut s f gone rounds before after r =
    (match : Matcher) (F : tree.Frame) → GoodAt s f F → FlaggedLeaves match gone rounds F
    → (r ≡ length (last_left_bytes match F)) × Wrote (last_left_bytes match F) before after

-- ---- all of it

abbrev pub all_bytes : Matcher → tree.Frame → List ℕ
all_bytes match F = conjuncts_bytes (conjuncts_by match F)

-- All conjuncts of a frame were written: so many rounds, so many bytes.
pub record AllIs (match : Matcher) (F : tree.Frame) (before after : List ℕ) (r : Taken) : Type 0 where
  pub rounds : r.rounds ≡ length (conjuncts_by match F).taken
  pub size : r.length ≡ length (all_bytes match F)
  pub wrote : Wrote (all_bytes match F) before after

-- Memory enough for a frame of these bytes: a row as long as a good one, and a flag for each of its nodes.
pub record Memory (s row gone : List ℕ) : Type 0 where
  pub long : min most_bytes (length s) ≤ length row
  pub flags : min most_nodes (length s / 3) ≤ length gone

-- There is a good frame, the settings are good, and there is room for all its conjuncts; they were written.
pub record AllFits (S : Settings) (s : List ℕ) (f : Frame) (row gone out : List ℕ) : Type 0 where
  pub settings : GoodSettings S
  pub frame : tree.Frame
  pub at : GoodAt s f frame
  pub memory : Memory s row gone
  pub room : length (all_bytes (match_under S) frame) ≤ length out

abbrev pub AllPut : Matcher → (s : List ℕ) (f : Frame) (before after : List ℕ) → Taken → Type 0
AllPut match s f before after r = (F : tree.Frame) → GoodAt s f F → AllIs match F before after r
