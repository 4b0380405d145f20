-- The counts of two frames that are merged, and the limits that they are under together.
use Rattle.std.specs.Prelude.{ℕ, suc, ◌+◌, ◌≤◌, Bool, ◌||◌, ltb}
use Rattle.definitions.specs.Words.Limits.{most_bytes, most_nodes, most_levels, most_records}
use Rattle.frame_reader.specs.declared.frame_bodies.Frame.{Frame}
use Rattle.call_merge.specs.declared.given.Frames.{Frames}

-- Two frames of n and m bytes, each within the limits.
pub record Counts (n m : ℕ) (f g : Frame) : Type 0 where
  pub bytes : (n ≤ most_bytes) × (m ≤ most_bytes)
  pub nodes : (f.nodes ≤ most_nodes) × (g.nodes ≤ most_nodes)
  pub records : (f.columns ≤ most_records) × (g.columns ≤ most_records)

-- Whether they are over a limit once merged.
abbrev pub over_together : (n m : ℕ) → Frames → Bool
over_together n m p =
    ltb (suc most_bytes) (n + m)
    || (ltb most_nodes (suc (p.old.nodes + p.new.nodes)) || (ltb most_levels p.depth || ltb most_records (p.old.columns + p.new.columns)))
