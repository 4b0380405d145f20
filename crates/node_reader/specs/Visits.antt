-- What is done with the nodes that a walk reads, whatever it is: each node is opened, all below it is done, it is closed.
use Rattle.std.specs.Prelude.{ℕ, ◌+◌, ◌≤◌, ◌≡◌, Bool, true, false, ◌⊎◌, List, length, drop, Result, Ok, Err}
use Rattle.definitions.specs.Words.Expression.{Expr, Exprs, nil, cons}
use Rattle.definitions.specs.Bytes.Readers.{read, stopped, Reader}
use Rattle.definitions.specs.Bytes.Encode.{expr_bytes, exprs_bytes}
use Rattle.definitions.specs.Bytes.Good.{AllBytes, nodes, nodes_all}
use Rattle.definitions.specs.Bytes.NodeTable.{kind_byte}
use Rattle.expression.specs.Nodes.{head_bytes, children_of}
use Rattle.terms.specs.Refusals.{number_of}
use Rattle.terms.specs.declared.refusals.Refusal.{Refusal}
use Rattle.definitions.specs.Words.Limits.{most_nodes}
use Rattle.node_reader.specs.Nodes.{NodeHead}
use Rattle.expression.specs.declared.heads.Head.{Head}
use Rattle.node_reader.specs.declared.walk.Walked.{Walked}
use Rattle.definitions.specs.Bytes.Decode as decode
use Rattle.std.specs.Prelude.{get_or, ◌<◌}

-- It was done, or it was not.
abbrev pub Did : Bool → (done refused : Type 0) → Type 0
Did true done refused = done
Did false done refused = refused

-- What opening and closing a node do to a visitor, and when a visitor refuses it: the node's index, its kind and start, its end. It takes
-- these places.
pub record Deeds (V : Type 0) : Type 1 where
  pub Place : ℕ → Type 0
  pub Open : V → (i kind at : ℕ) → V → Type 0
  pub Close : V → (i end : ℕ) → V → Type 0
  pub NotOpen : V → (i kind at : ℕ) → Type 0
  pub NotClose : V → (i end : ℕ) → Type 0

-- A node with nothing below it was opened and closed, or it was not.
abbrev pub LeafDone : {V : Type 0} → Deeds V → V → (i kind at end : ℕ) → V → Type 0
LeafDone {V = V} D v i kind at end w = (u : V) × D.Open v i kind at u × D.Close u i end w

abbrev pub LeafRefused : {V : Type 0} → Deeds V → V → (i kind at end : ℕ) → Type 0
LeafRefused {V = V} D v i kind at end =
    D.NotOpen v i kind at ⊎ ((u : V) × D.Open v i kind at u × D.NotClose u i end)

-- All nodes of expressions in a row were visited, from index i on.
pub data RowVisited {V : Type 0} (D : Deeds V) : (at i : ℕ) → Exprs → V → V → Type 0 where
  none_visited : {at i : ℕ} {v : V} → RowVisited D at i nil v v
  one_visited : {at i : ℕ} {t : Expr} {ts : Exprs} {v u w x y : V} → D.Open v i (kind_byte t) at u
      → RowVisited D (at + length (head_bytes t)) (i + 1) (children_of t) u w → D.Close w i (at + length (expr_bytes t)) x
      → RowVisited D (at + length (expr_bytes t)) (i + nodes t) ts x y → RowVisited D at i (cons t ts) v y

-- All nodes of an expression were.
abbrev pub Visited : {V : Type 0} → Deeds V → (at i : ℕ) → Expr → V → V → Type 0
Visited {V = V} D at i t v w =
    (u : V) × (x : V) × D.Open v i (kind_byte t) at u × RowVisited D (at + length (head_bytes t)) (i + 1) (children_of t) u x
    × D.Close x i (at + length (expr_bytes t)) w

-- A visitor refused a node of expressions in a row, after it was given those before it.
pub data RowRefused {V : Type 0} (D : Deeds V) : (at i : ℕ) → Exprs → V → Type 0 where
  not_opened : {at i : ℕ} {t : Expr} {ts : Exprs} {v : V} → D.NotOpen v i (kind_byte t) at → RowRefused D at i (cons t ts) v
  refused_below : {at i : ℕ} {t : Expr} {ts : Exprs} {v u : V} → D.Open v i (kind_byte t) at u
      → RowRefused D (at + length (head_bytes t)) (i + 1) (children_of t) u → RowRefused D at i (cons t ts) v
  not_closed : {at i : ℕ} {t : Expr} {ts : Exprs} {v u x : V} → D.Open v i (kind_byte t) at u
      → RowVisited D (at + length (head_bytes t)) (i + 1) (children_of t) u x → D.NotClose x i (at + length (expr_bytes t))
      → RowRefused D at i (cons t ts) v
  refused_later : {at i : ℕ} {t : Expr} {ts : Exprs} {v w : V} → Visited D at i t v w
      → RowRefused D (at + length (expr_bytes t)) (i + nodes t) ts w → RowRefused D at i (cons t ts) v

-- ... of an expression.
abbrev pub Refused : {V : Type 0} → Deeds V → (at i : ℕ) → Expr → V → Type 0
Refused D at i t v = (ts : Exprs) → RowRefused D at i (cons t ts) v

-- A visitor refuses some node.
abbrev pub Refuses : {V : Type 0} → Deeds V → Type 0
Refuses {V = V} D =
    ((v : V) × (i : ℕ) × (kind : ℕ) × (at : ℕ) × D.NotOpen v i kind at) ⊎ ((v : V) × (i : ℕ) × (end : ℕ) × D.NotClose v i end)

-- Nodes were walked, `before` of them counted up to this place: what was read was visited. Or reading stopped
-- with this refusal, or the visitor refused a node, and has one to refuse in whatever can be read there.
abbrev pub VisitIs : {A : Type 0} → List ℕ → (at before : ℕ) → Result Walked Refusal → Reader A
    → (refuses : Type 0) → (visited : (end index : ℕ) → A → Type 0) → (refused : A → Type 0) → Type 0
VisitIs {A = A} s at before (Ok walked) reader refuses visited refused =
    (walked.next ≤ length s) × (a : A) × (reader before (drop at s) ≡ read a walked.count (drop walked.next s))
    × visited walked.next walked.count a
VisitIs {A = A} s at before (Err why) reader refuses visited refused =
    (reader before (drop at s) ≡ stopped (number_of why))
    ⊎ (refuses × ((a : A) (n : ℕ) (rest : List ℕ) → reader before (drop at s) ≡ read a n rest → refused a))

-- A node with all below it.
abbrev pub NodeVisited : {V : Type 0} → Deeds V → (at i : ℕ) → V → V → (end index : ℕ) → Expr → Type 0
NodeVisited D at i v w end index t = (end ≡ at + length (expr_bytes t)) × (index ≡ i + nodes t) × Visited D at i t v w

-- Nodes in a row, each with all below it.
abbrev pub NodesVisited : {V : Type 0} → Deeds V → (at i : ℕ) → V → V → (end index : ℕ) → Exprs → Type 0
NodesVisited D at i v w end index ts =
    (end ≡ at + length (exprs_bytes ts)) × (index ≡ i + nodes_all ts) × RowVisited D at i ts v w

-- A walk of a node, of a row of nodes.
abbrev pub NodeVisit : {V : Type 0} → Deeds V → List ℕ → (at i : ℕ) → Result Walked Refusal → Reader Expr → V → V → Type 0
NodeVisit D s at i r reader v w =
    VisitIs s at i r reader (Refuses D) (NodeVisited D at i v w) (λ t. Refused D at i t v)

abbrev pub RowVisit : {V : Type 0} → Deeds V → List ℕ → (at i : ℕ) → Result Walked Refusal → Reader Exprs → V → V
    → Type 0
RowVisit D s at i r reader v w =
    VisitIs s at i r reader (Refuses D) (NodesVisited D at i v w) (λ ts. RowRefused D at i ts v)

-- A node's head was read, and the node was opened; one with nothing below it was closed too. Or the walk of the node ends here.
abbrev pub NodeOpened : {V : Type 0} → Deeds V → List ℕ → (at levels count : ℕ) → decode.Columns → Result Head Refusal → V → V
    → Type 0
NodeOpened D s at levels count c (Ok head) v w =
    NodeHead s at levels count c (Ok head) × AllBytes s × (head.children ≡ 0 → LeafDone D v count (get_or s at 0) at head.next w)
    × ((head.children ≡ 0 → ⊥) → D.Open v count (get_or s at 0) at w)
NodeOpened D s at levels count c (Err why) v w = NodeVisit D s at count (Err why) (decode.node c levels) v w

-- A walk that answers its refusal alone, and where it came to beside it.
abbrev pub placed : {A : Type 0} → Result A Refusal → Walked → Result Walked Refusal
placed (Ok done) walked = Ok walked
placed (Err why) walked = Err why

-- No walk counts fewer than there were, but for `above` more, and none past the limit.
abbrev pub Counted : (before above : ℕ) → Result Walked Refusal → Type 0
Counted before above (Ok walked) = (before < walked.count + above) × (walked.count ≤ most_nodes)
Counted before above (Err why) = Unit {0}
