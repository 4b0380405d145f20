-- What the answers about whole frames say: where records and expression stand.
use Rattle.std.specs.Prelude.{ℕ, ◌+◌, ◌*◌, ◌/◌, ◌≤◌, min, ◌≡◌, ◌⊎◌, Bool, false, List, length, drop, eqb, Result, Ok, Err}
use Rattle.definitions.specs.Words.Limits.{most_nodes}
use Rattle.definitions.specs.Words.Basics as basics
use Rattle.definitions.specs.Words.Basics.{ok, refused}
use Rattle.definitions.specs.Words.Expression as tree
use Rattle.definitions.specs.Bytes.Encode.{records_bytes}
use Rattle.definitions.specs.Bytes.Readers.{read, stopped, Reader, ◌>>=◌, ◌>>◌, give, require, byte, require_length}
use Rattle.definitions.specs.Bytes.Decode.{index_below, fields, expression, frame_body}
use Rattle.definitions.specs.Bytes.Good.{nodes}
use Rattle.definitions.specs.Bytes.NodeTable.{node_table, begins_with}
use Rattle.terms.specs.Refusals.{number_of}
use Rattle.terms.specs.declared.refusals.Refusal.{Refusal}
use Rattle.node_reader.specs.Places.{ExprAt}
use Rattle.expression.specs.Places.{Between}
use Rattle.frame_reader.specs.declared.frame_bodies.Frame.{Frame}
use Rattle.frame_reader.specs.declared.frame_bodies.Counted.{Counted}
use Rattle.frame_reader.specs.declared.frame_bodies.FrameHead.{FrameHead}
use Rattle.frame_reader.specs.declared.frames.LogicalFrame.{LogicalFrame}
use Rattle.node_table.specs.declared.NodeRecord.{NodeRecord as Lent}
use Rattle.node_table.specs.Records.{nodes_of}
use Rattle.filter_tree.specs.Trees.{Recorded}

-- The length (1) and the first byte.
unfoldable pub first_of : Reader ℕ
first_of = do
  require_length
  byte

-- The same of a frame of a sort, whose first byte it is (2).
unfoldable pub opening : (sort : ℕ) → Reader Bool
opening sort = do
  first ← first_of
  require 2 (eqb first sort)

-- The frame F stands in s up to `end`: so many records from their place on, then its expression, of so many nodes.
pub record FrameAt (s : List ℕ) (f : Frame) (end : ℕ) (F : tree.Frame) : Type 0 where
  pub counted : f.columns ≡ length F.records
  pub records : Between s f.records f.root (records_bytes F.records)
  pub expr : ExprAt (index_below (length F.records)) s f.root end F.expr
  pub sized : f.nodes ≡ nodes F.expr

-- A frame's records stand in s, and its expression is still to be read, from the place after them.
pub record HeadAt (s : List ℕ) (at : ℕ) (h : FrameHead) : Type 0 where
  pub rows : List tree.Record
  pub within : h.root ≤ length s
  pub counted : h.columns ≡ length rows
  pub stands : Between s h.records h.root (records_bytes rows)
  pub reads : (n : ℕ)
      → frame_body n (drop at s) ≡ (expression (index_below h.columns) >>= λ e. give (record { records = rows; expr = e })) n
      (drop h.root s)

abbrev pub HeadIs : List ℕ → (at : ℕ) → Result FrameHead Refusal → Type 0
HeadIs s at (Ok h) = HeadAt s at h
HeadIs s at (Err why) = (n : ℕ) → frame_body n (drop at s) ≡ stopped (number_of why)

-- A frame after its first byte was read, `before` nodes counted up to its place and at most 1,024 in all; what is claimed of a row that
-- may hold its nodes from that index on.
abbrev pub BodyIs : List ℕ → (at before : ℕ) → Result (Counted Frame) Refusal → Reader tree.Frame
    → (claim : (at i : ℕ) → tree.Expr → Type 0) → Type 0
BodyIs s at before (Ok b) reader claim =
    (b.next ≤ length s) × (F : tree.Frame) × (reader before (drop at s) ≡ read F b.count (drop b.next s)) × FrameAt s b.read b.next F
    × (b.count ≡ before + b.read.nodes) × (b.count ≤ most_nodes) × claim b.read.root before F.expr
BodyIs s at before (Err why) reader claim = reader before (drop at s) ≡ stopped (number_of why)

-- The same of a frame whose records are a table's first; or it is refused, or whatever frame is read there has other records.
abbrev pub BodyHeld : List ℕ → (at : ℕ) → List Lent → Result (Counted Frame) Refusal → Type 0
BodyHeld s at table (Ok b) = BodyIs s at 0 (Ok b) frame_body (Recorded table)
BodyHeld s at table (Err why) =
    (frame_body 0 (drop at s) ≡ stopped (number_of why))
    ⊎ ((F : tree.Frame) (n : ℕ) (rest : List ℕ) → frame_body 0 (drop at s) ≡ read F n rest
    → Recorded table (at + 2 + 5 * length F.records) 0 F.expr → ⊥)

-- It was read from the first byte on, and its records are the first of these.
abbrev pub BodyRead : List ℕ → List Lent → Counted Frame → Type 0
BodyRead s nodes b =
    (at : ℕ) × (opens : Bool) × (opening 1 0 s ≡ read opens 0 (drop at s)) × BodyIs s at 0 (Ok b) frame_body (Recorded nodes)

-- A row has room for the nodes of any frame in s: at most 1,024, and a third of its bytes.
abbrev pub Roomy : (s : List ℕ) → List Lent → Type 0
Roomy s row = min most_nodes (length s / 3) ≤ length row

-- A whole physical frame, and what is claimed of a row that may hold its nodes.
abbrev pub PhysicalIs : List ℕ → Result Frame Refusal → basics.Result tree.Frame → (claim : (at i : ℕ) → tree.Expr → Type 0) → Type 0
PhysicalIs s (Ok f) result claim = (F : tree.Frame) × FrameAt s f (length s) F × (result ≡ ok F) × claim f.root 0 F.expr
PhysicalIs s (Err why) result claim = result ≡ refused (number_of why)

-- A whole physical frame whose records are a table's first; or it is refused, or it is a good one with whose records the table does not
-- begin.
abbrev pub PhysicalHeld : List ℕ → List Lent → Result Frame Refusal → basics.Result tree.Frame → Type 0
PhysicalHeld s table (Ok f) result = PhysicalIs s (Ok f) result (Recorded table)
PhysicalHeld s table (Err why) result =
    (result ≡ refused (number_of why)) ⊎ ((F : tree.Frame) → result ≡ ok F → begins_with (node_table F) (nodes_of table) ≡ false)

-- A whole logical frame: its expression stands there and has so many nodes; and what is claimed of a row that may hold them.
abbrev pub LogicalIs : List ℕ → Result LogicalFrame Refusal → basics.Result tree.Expr → (claim : (at i : ℕ) → tree.Expr → Type 0) → Type 0
LogicalIs s (Ok f) result claim =
    (e : tree.Expr) × ExprAt fields s f.root (length s) e × (result ≡ ok e) × (f.nodes ≡ nodes e) × claim f.root 0 e
LogicalIs s (Err why) result claim = result ≡ refused (number_of why)
