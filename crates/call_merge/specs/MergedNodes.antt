-- The records of the nodes of a merged frame.
use Rattle.std.specs.Prelude.{ℕ, ◌+◌, ◌-◌, ◌≤◌, ◌<◌, ◌≡◌, List, ◌∷◌, ◌++◌, map, length, get_or, Result, Ok, Err}
use Rattle.definitions.specs.Words.Limits.{most_bytes, most_nodes, two_bytes}
use Rattle.definitions.specs.Words.Expression as tree
use Rattle.definitions.specs.Bytes.Encode.{expr_bytes}
use Rattle.definitions.specs.Bytes.Decode.{index_below}
use Rattle.definitions.specs.Bytes.Good.{nodes}
use Rattle.definitions.specs.Filter.Merge.{merge_frames}
use Rattle.expression.specs.Nodes.{Stands}
use Rattle.node_table.specs.Records.{RowHas, blank}
use Rattle.node_table.specs.declared.NodeRecord.{NodeRecord as Lent}
use Rattle.frame_reader.specs.declared.frame_bodies.Frame.{Frame}
use Rattle.terms.specs.declared.refusals.Refusal.{Refusal}
use Rattle.call_answers.specs.declared.answers.Loaded.{Loaded}

-- ---- what is put

-- The record of a node that stands so many bytes further on.
abbrev pub moved : (by : ℕ) → Lent → Lent
moved by r = record { kind = r.kind; start = r.start + by; end = r.end + by }

-- Two bytes still hold where each of these nodes starts and ends, so many bytes further on.
abbrev pub Movable : (by : ℕ) → List Lent → Type 0
Movable by row = (i : ℕ) → i < length row → ((get_or row i blank).start + by < two_bytes) × ((get_or row i blank).end + by < two_bytes)

-- Both frames' records can be moved to where their filters stand once merged, and there is room for them and for the And's.
pub record Joinable (room : ℕ) (old new : List Lent) (n : ℕ) (g : Frame) (r : Loaded) : Type 0 where
  pub own : (r.root < two_bytes) × (r.length < two_bytes)
  pub some : (1 ≤ g.root) × (1 ≤ n)
  pub near : (g.root ≤ most_bytes) × (n ≤ most_bytes)
  pub held : Movable (g.root - 1) old
  pub given : Movable (n - 1) new
  pub all : length old + length new + 1 ≤ room

-- The And's, those of the held frame moved, those of the new one moved.
abbrev pub joined_nodes : (old new : List Lent) (n : ℕ) → Frame → Loaded → List Lent
joined_nodes old new n g r =
    record { kind = 2; start = r.root; end = r.length } ∷ (map (moved (g.root - 1)) old ++ map (moved (n - 1)) new)

-- ---- the merged frame

-- The merged frame of F and G, which were read as f and g from n and m bytes: where its filter stands and ends, and how many nodes it has.
pub record Merged (F G : tree.Frame) (f g : Frame) (n m : ℕ) (after : List ℕ) (r : Loaded) : Type 0 where
  pub stands : Stands (index_below (length (merge_frames F G).records)) after r.root (merge_frames F G).expr
  pub begins : r.root + 3 ≡ f.root + g.root
  pub ends : r.root + length (expr_bytes (merge_frames F G).expr) ≡ r.length
  pub size : r.length + 1 ≡ n + m
  pub count : r.count ≡ f.nodes + g.nodes + 1
  pub roots : (3 ≤ f.root) × (3 ≤ g.root)
  pub old_end : f.root + length (expr_bytes F.expr) ≡ n
  pub sized : (f.nodes ≡ nodes F.expr) × (g.nodes ≡ nodes G.expr)
  pub short : r.length ≤ most_bytes
  pub few : r.count ≤ most_nodes

abbrev pub MergedAt : (F G : tree.Frame) (f g : Frame) (n m : ℕ) (after : List ℕ) → Result Loaded Refusal → Type 0
MergedAt F G f g n m after (Ok r) = Merged F G f g n m after r
MergedAt F G f g n m after (Err why) = Unit {0}

-- The records of its nodes are the row's first.
abbrev pub MergedRow : (after : List ℕ) → Result Loaded Refusal → (row : List Lent) → Type 0
MergedRow after (Ok r) row = RowHas after r.root r.count row
MergedRow after (Err why) row = Unit {0}
