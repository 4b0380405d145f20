-- Request 6 of document 02: what is claimed of the table of a frame's nodes; crate `theorems` proves each claim.
use Rattle.std.specs.Prelude.{ℕ, ◌+◌, ◌*◌, ◌-◌, ◌≤◌, ◌<◌, ◌≡◌, true, false, List, [], ◌∷◌, ◌++◌, length, take, drop, get_or}
use Rattle.definitions.specs.Words.Basics.{ok, refused}
use Rattle.definitions.specs.Words.Limits.{most_bytes, most_nodes}
use Rattle.definitions.specs.Words.Expression.{Expr, column, literal, and, binary, call, other, field, Exprs, nil, cons, Frame, Extraction, held, extracted}
use Rattle.definitions.specs.Bytes.Encode.{expr_bytes, frame_bytes}
use Rattle.definitions.specs.Bytes.Good.{AllBytes, nodes, GoodPlan}
use Rattle.definitions.specs.Bytes.NodeTable.{NodeRecord, node_table, begins_with, blank}
use Rattle.definitions.specs.Filter.Extract.{Matcher}
use Rattle.definitions.specs.Filter.Exchange.{exchange_frame}
use Rattle.definitions.specs.Calls.Base.{load, table_fits, held_plan, extract_filled_by, extract_by}
use Rattle.definitions.specs.Calls.Merge.{merge}
use Rattle.definitions.specs.Lists.Sessions.{Made, SessionBy, after}
use Rattle.definitions.specs.Meaning.Values.{Meaning}
use Rattle.definitions.specs.Meaning.Matchers.{Lawful}

-- Records that fill the bytes from one place to another: none, or a node, inside it after its head those of its children, which end
-- where it ends, and then those that begin there.
pub data Nested : (start end : ℕ) → List NodeRecord → Type 0 where
  no_node : {at : ℕ} → Nested at at []
  first_node : {start first next end : ℕ} {inside more : List NodeRecord} (kind : ℕ) → start < first → Nested first next inside
      → Nested next end more → Nested start end (record { kind = kind; start = start; end = next } ∷ (inside ++ more))

-- Each record starts after the one before it.
abbrev pub Rising : List NodeRecord → Type 0
Rising [] = Unit {0}
Rising (a ∷ []) = Unit {0}
Rising (a ∷ (b ∷ more)) = (a.start < b.start) × Rising (b ∷ more)

-- The table has one record a node, and they nest, from where the expression starts to the frame's end.
abbrev pub TableNests : Type 0
TableNests =
    (F : Frame)
    → (length (node_table F) ≡ nodes F.expr)
    × Nested (3 + 5 * length F.records) (length (frame_bytes F)) (node_table F)
    × Rising (node_table F)

unfoldable mutual
  -- The nodes of an expression in prefix order, each with all below it. (Ours.)
  pub nodes_in_order : Expr → List Expr
  nodes_in_order (column index tag) = column index tag ∷ []
  nodes_in_order (literal type bytes) = literal type bytes ∷ []
  nodes_in_order (and l r) = and l r ∷ (nodes_in_order l ++ nodes_in_order r)
  nodes_in_order (binary operator l r) = binary operator l r ∷ (nodes_in_order l ++ nodes_in_order r)
  nodes_in_order (call name arguments) = call name arguments ∷ row_in_order arguments
  nodes_in_order (other tag children) = other tag children ∷ row_in_order children
  nodes_in_order (field bits tag) = field bits tag ∷ []

  -- Those of several expressions. (Ours.)
  pub row_in_order : Exprs → List Expr
  row_in_order nil = []
  row_in_order (cons e es) = nodes_in_order e ++ row_in_order es

-- A record names the bytes of a node: the byte at its start is its kind, and those from start to end are the node's.
pub record NamesNode (bytes : List ℕ) (node : Expr) (r : NodeRecord) : Type 0 where
  pub kind : get_or bytes r.start 0 ≡ r.kind
  pub own : take (r.end - r.start) (drop r.start bytes) ≡ expr_bytes node
  pub inside : r.end ≤ length bytes

-- Each record of a good frame's table names the bytes of its node in the frame, which are at most 16,384.
abbrev pub TableNamesBytes : Type 0
TableNamesBytes =
    (F : Frame) → GoodPlan (held F)
    → (length (nodes_in_order F.expr) ≡ length (node_table F))
    × ((i : ℕ) → i < length (node_table F)
    → NamesNode (frame_bytes F) (get_or (nodes_in_order F.expr) i F.expr) (get_or (node_table F) i blank))
    × (length (frame_bytes F) ≤ most_bytes)

-- Starts and ends of records, each at most this.
abbrev pub Within : (most : ℕ) → List NodeRecord → Type 0
Within most [] = Unit {0}
Within most (r ∷ more) = (r.start ≤ most) × (r.end ≤ most) × Within most more

-- Those of a good frame are at most 16,384.
abbrev pub PositionsFit : Type 0
PositionsFit = (F : Frame) → GoodPlan (held F) → Within most_bytes (node_table F)

-- Exchange moves no node.
abbrev pub TableExchanged : Type 0
TableExchanged = (F : Frame) → node_table (exchange_frame F) ≡ node_table F

-- A table begins with records exactly when these are its first.
abbrev pub BeginsExactly : Type 0
BeginsExactly =
    (records table : List NodeRecord)
    → (begins_with records table ≡ true → take (length records) table ≡ records)
    × (take (length records) table ≡ records → begins_with records table ≡ true)

-- ---- the calls

-- From a held frame, after any list of calls with a lawful matcher, the table fits what is held then, for exchange moves no node.
abbrev pub TableStays : Type 1
TableStays =
    (match : Matcher) (Asks : Meaning → Type 0) → Lawful match Asks
    → (F : Frame) (s : SessionBy match F) (calls : List Made)
    → table_fits s.table (held_plan (after s calls).n (after s calls).buffer) ≡ true

-- With a table that fits extract is what it is without one, whatever the matcher,
abbrev pub ExtractFilled : Type 0
ExtractFilled =
    (match : Matcher) (n : ℕ) (buffer scratch : List ℕ) (table : List NodeRecord) → table_fits table (held_plan n buffer) ≡ true
    → extract_by match n buffer scratch table ≡ extract_filled_by match n buffer scratch

-- and with one that does not it gives 10 and keeps everything. A frame is held then.
abbrev pub ExtractUnfilled : Type 0
ExtractUnfilled =
    (match : Matcher) (n : ℕ) (buffer scratch : List ℕ) (table : List NodeRecord) → table_fits table (held_plan n buffer) ≡ false
    → (extract_by match n buffer scratch table ≡ record { answer = refused 10; n = n; buffer = buffer; scratch = scratch })
    × ((F : Frame) × (held_plan n buffer ≡ ok (held F)) × (begins_with (node_table F) table ≡ false))

-- With an extraction held it gives 12, whatever the table.
abbrev pub ExtractTwice : Type 0
ExtractTwice =
    (match : Matcher) (n : ℕ) (buffer scratch : List ℕ) (table : List NodeRecord) (X : Extraction) → held_plan n buffer ≡ ok (extracted X)
    → (extract_by match n buffer scratch table).answer ≡ refused 12

-- A good frame has at most 1,024 nodes, so load and merge never give 17 to a table of 1,024 records.
abbrev pub NeverTooShort : Type 0
NeverTooShort =
    ((frame : List ℕ) (n : ℕ) (buffer : List ℕ) (table : List NodeRecord) → AllBytes frame → most_nodes ≤ length table
    → (load frame n buffer table).answer ≡ refused 17 → ⊥)
    × ((frame : List ℕ) (n : ℕ) (buffer scratch : List ℕ) (table : List NodeRecord) → most_nodes ≤ length table
    → (merge frame n buffer scratch table).answer ≡ refused 17 → ⊥)
