-- The records of an expression's nodes, as they are scanned.
use Rattle.std.specs.Prelude.{ℕ, ◌+◌, ◌≤◌, ◌≡◌, List, [], ◌∷◌, ◌++◌, length, take, drop, ltb, eqb, if◌then◌else◌}
use Rattle.definitions.specs.Words.Expression.{Expr, Exprs, nil, cons, and}
use Rattle.definitions.specs.Bytes.Encode.{expr_bytes, exprs_bytes}
use Rattle.definitions.specs.Bytes.Good.{nodes, nodes_all}
use Rattle.definitions.specs.Words.Leaves.{leaves}
use Rattle.definitions.specs.Bytes.NodeTable.{NodeRecord, nodes_from, row_from}
use Rattle.definitions.specs.Bytes.Decode.{Columns}
use Rattle.expression.specs.Nodes.{Stands, Row}
use Rattle.node_table.specs.Records.{nodes_of}
use Rattle.node_table.specs.declared.NodeRecord.{NodeRecord as Lent}

-- ---- records that are an expression's

-- Records of which the first, if there is one, starts at this place or further on.
abbrev pub Later : (end : ℕ) → List NodeRecord → Type 0
Later end [] = Unit {0}
Later end (r ∷ more) = end ≤ r.start

-- From index i on these are the records of the expression at a place, and the one after them starts no sooner than it ends.
pub record Noded (nodes : List Lent) (at i : ℕ) (t : Expr) : Type 0 where
  pub rest : List NodeRecord
  pub is : drop i (nodes_of nodes) ≡ nodes_from at t ++ rest
  pub later : Later (at + length (expr_bytes t)) rest

-- The same of several expressions.
pub record NodedAll (nodes : List Lent) (at i : ℕ) (ts : Exprs) : Type 0 where
  pub rest : List NodeRecord
  pub is : drop i (nodes_of nodes) ≡ row_from at ts ++ rest
  pub later : Later (at + length (exprs_bytes ts)) rest

-- From index i on the records of a row are those of the expression at a place, whatever comes after them.
abbrev pub Recorded : List Lent → (at i : ℕ) → Expr → Type 0
Recorded row at i t = take (length (nodes_from at t)) (drop i (nodes_of row)) ≡ nodes_from at t

-- They are, if the row has room for them.
abbrev pub RecordedIfRoom : List Lent → (at i : ℕ) → Expr → Type 0
RecordedIfRoom row at i t = i + nodes t ≤ length row → Recorded row at i t

-- A node has this index; what is claimed of it and of where it stands.
abbrev pub Node : List Lent → (i : ℕ) → Type 0
Node nodes i = (at : ℕ) × (t : Expr) × Noded nodes at i t

abbrev pub OfNode : List Lent → (i : ℕ) → ((at : ℕ) → Expr → Type 0) → Type 0
OfNode nodes i P = (at : ℕ) (t : Expr) → Noded nodes at i t → P at t

-- The node of this index stands at its place in the bytes; what is claimed of it.
abbrev pub TreeNode : List ℕ → List Lent → (i : ℕ) → Type 0
TreeNode s nodes i = (c : Columns) × (at : ℕ) × (t : Expr) × Stands c s at t × Noded nodes at i t

abbrev pub OfTreeNode : List ℕ → List Lent → (i : ℕ) → (Expr → Type 0) → Type 0
OfTreeNode s nodes i P = (c : Columns) (at : ℕ) (t : Expr) → Stands c s at t → Noded nodes at i t → P t

-- An expression has this index, and stands at its place.
pub record Indexed (c : Columns) (s : List ℕ) (nodes : List Lent) (i : ℕ) (t : Expr) : Type 0 where
  pub at : ℕ
  pub stands : Stands c s at t
  pub noded : Noded nodes at i t

-- Two expressions in a row, the first of which has this index; what is claimed of them.
abbrev pub TreePair : List ℕ → List Lent → (i : ℕ) → Type 0
TreePair s nodes i =
    (c : Columns) × (at : ℕ) × (l : Expr) × (r : Expr) × Row c s at 2 (cons l (cons r nil)) × NodedAll nodes at i (cons l (cons r nil))

abbrev pub OfTreePair : List ℕ → List Lent → (i : ℕ) → (Columns → Expr → Expr → Type 0) → Type 0
OfTreePair s nodes i P =
    (c : Columns) (at : ℕ) (l r : Expr) → Row c s at 2 (cons l (cons r nil)) → NodedAll nodes at i (cons l (cons r nil)) → P c l r

-- The records from one index up to another are those of several expressions in a row, of which the first has the first index.
abbrev pub RowUpTo : List Lent → (i past : ℕ) → Type 0
RowUpTo nodes i past =
    (at : ℕ) × (t : Expr) × (more : Exprs) × NodedAll nodes at i (cons t more) × (past ≡ i + nodes_all (cons t more))

-- The records of two expressions, and perhaps more after them.
abbrev pub Begin : (nodes : List Lent) (at i : ℕ) (a b : Expr) → Type 0
Begin nodes at i a b = (more : Exprs) × NodedAll nodes at i (cons a (cons b more))

-- ---- records that are scanned

-- Those that start before an end, up to the first that does not.
unfoldable pub below : (end : ℕ) → List NodeRecord → List NodeRecord
below end [] = []
below end (r ∷ more) = if ltb r.start end then r ∷ below end more else []

-- The places of those of a kind.
unfoldable pub places_of : (kind : ℕ) → List NodeRecord → List ℕ
places_of kind [] = []
places_of kind (r ∷ more) = if eqb r.kind kind then r.start ∷ places_of kind more else places_of kind more

-- ---- the And above an AND-leaf

-- The AND-leaf at a position, from 0, of the expression whose root has index i is that of this index; `above` is the index of the And
-- above it, `up` that of the And above the expression.
pub data LeafIndex (leaf above : ℕ) : (up : ℕ) → Expr → (i position : ℕ) → Type 0 where
  here : {up : ℕ} {t : Expr} {i : ℕ} → leaves t ≡ t ∷ [] → leaf ≡ i → above ≡ up → LeafIndex leaf above up t i 0
  in_left : {up : ℕ} {l r : Expr} {i position : ℕ} → LeafIndex leaf above i l (i + 1) position
      → LeafIndex leaf above up (and l r) i position
  in_right : {up : ℕ} {l r : Expr} {i position : ℕ} → LeafIndex leaf above i r (i + 1 + nodes l) position
      → LeafIndex leaf above up (and l r) i (length (leaves l) + position)

-- An AND-leaf of the whole table has this index; the root counts as its own parent.
abbrev pub IsLeaf : List Lent → (leaf : ℕ) → Type 0
IsLeaf nodes leaf = (at : ℕ) × (t : Expr) × (above : ℕ) × (position : ℕ) × Noded nodes at 0 t × LeafIndex leaf above 0 t 0 position

abbrev pub AboveIs : List Lent → (leaf r : ℕ) → Type 0
AboveIs nodes leaf r =
    (at : ℕ) (t : Expr) (above position : ℕ) → Noded nodes at 0 t → LeafIndex leaf above 0 t 0 position → r ≡ above
