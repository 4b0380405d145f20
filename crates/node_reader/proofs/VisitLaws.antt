-- What the visitors hold after a walk: the row has the records, the table has them, or it has not.
use Prim.Native.Nat.{ℕ, suc, ◌+◌, ◌≤◌, ◌<◌}
use native.Mathlib.Omega.{arith}
use native.Mathlib.Numerals.{add-one}
use native.Mathlib.Nat.{add-zero}
use mathlib.Core.Path.{◌≡◌, refl, sym, ap, ap₂, ◌∙◌, subst}
use mathlib.Core.List.{List, [], ◌∷◌, ◌++◌, map, map-append, map-map, map-id, append_assoc, append-nil}
use lib.ListN.{length, take, drop, set, get_or, length-append, length-map, length-drop, get_or-map, take-append-drop, length-take}
use lib.Seq.{drop-cons, take-suc-set, drop-set-lt, append_snoc, set_at, get_or_at, length-take-le, take_at, drop_at, drop-drop}
use Rattle.std.proofs.Common.{inl, inr}
use Rattle.definitions.specs.Words.Expression.{Expr, Exprs, nil, cons}
use Rattle.definitions.specs.Bytes.Encode.{expr_bytes}
use Rattle.definitions.specs.Bytes.Good.{nodes}
use Rattle.definitions.specs.Bytes.NodeTable.{NodeRecord, kind_byte, record_of, nodes_from, row_from}
use Rattle.expression.specs.Nodes.{head_bytes, children_of}
use Rattle.theorems.proofs.NodeTables.{node-count}
use Rattle.filter_tree.proofs.NodeLaws.{nodes-split}
use Rattle.node_table.proofs.Filling.{map-drop}
use Rattle.node_table.specs.Records.{node_of, nodes_of, struct_of, blank}
use Rattle.node_table.specs.declared.NodeRecord.{NodeRecord as Lent}
use Rattle.node_reader.specs.Visits.{Deeds, RowVisited, none_visited, one_visited, RowRefused, not_opened, refused_below, not_closed, refused_later, Refuses, NodeVisit, VisitIs}
use Rattle.node_reader.specs.Visitors.{OpenedAt, ClosedAt, StartsThere, EndsThere}
use Rattle.node_reader.specs.declared.visitors.Fill.{Fill}
use Rattle.node_reader.specs.declared.visitors.Check.{Check}
use Rattle.node_reader.specs.declared.visitors.Nothing.{Nothing}
use Rattle.definitions.specs.Words.Limits.{two_bytes}
use Rattle.definitions.specs.Bytes.Decode.{Columns, node}
use Rattle.std.specs.Prelude.{Result, Ok, Err}
use Rattle.terms.specs.declared.refusals.Refusal.{Refusal}
use Rattle.filter_tree.specs.Trees.{Recorded, RecordedIfRoom}
use Rattle.node_reader.specs.Visitors.{RecordsPut, RecordsAre}
use Rattle.node_reader.specs.declared.walk.Walked.{Walked}

-- ---- a row that is filled

abbrev pub Filling : Deeds Fill
Filling = record {
  Place = λ p. p < two_bytes;
  Open = λ v i kind at w. (w.row.ghost_name ≡ v.row.ghost_name) × OpenedAt v.row.now i kind at w.row.now;
  Close = λ v i end w. (w.row.ghost_name ≡ v.row.ghost_name) × ClosedAt v.row.now i end w.row.now;
  NotOpen = λ v i kind at. ⊥;
  NotClose = λ v i end. ⊥;
}

-- x was put into a row from index i on.
abbrev pub PutFrom : (i : ℕ) → (x before after : List Lent) → Type 0
PutFrom i x before after = after ≡ take i before ++ (x ++ drop (i + length x) before)

nothing-put : (i : ℕ) (before : List Lent) → PutFrom i [] before before
nothing-put i before = sym (take-append-drop i before) ∙ ap (λ (k : ℕ). take i before ++ drop k before) (sym (add-zero i))

-- x from a on, then y after it.
both-put : (a : ℕ) (x y before middle after : List Lent) → a ≤ length before → PutFrom a x before middle
    → PutFrom (a + length x) y middle after
    → PutFrom a (x ++ y) before after
both-put a x y before middle after room one two =
    let rest : List Lent = drop (a + length x) before in
    let written : middle ≡ (take a before ++ x) ++ rest = one ∙ sym (append_assoc (take a before) x rest) in
    let size : length (take a before ++ x) ≡ a + length x = simp length-append (omega (arith, length-take-le a before room)) in
    let front : take (a + length x) middle ≡ take a before ++ x =
    ap (take (a + length x)) written ∙ take_at (take a before ++ x) rest (a + length x) size in
    let behind : drop (a + length x) middle ≡ rest = ap (drop (a + length x)) written
    ∙ drop_at (take a before ++ x) rest (a + length x) size in
    let both : a + length x + length y ≡ a + length (x ++ y) = simp length-append (omega arith) in
    let kept : drop (a + length x + length y) middle ≡ drop (a + length (x ++ y)) before =
    sym (drop-drop (length y) (a + length x) middle) ∙ ap (drop (length y)) behind ∙ drop-drop (length y) (a + length x) before
    ∙ ap (λ (k : ℕ). drop k before) both in
    two ∙ ap₂ ◌++◌ front (ap (λ (l : List Lent). y ++ l) kept)
    ∙ append_assoc (take a before) x (y ++ drop (a + length (x ++ y)) before)
    ∙ ap (λ (l : List Lent). take a before ++ l) (sym (append_assoc x y (drop (a + length (x ++ y)) before)))

-- A node is opened, others are put after it, it is closed.
closed-over : (i : ℕ) (x : Lent) (ys a b c d : List Lent) (end : ℕ) → i < length a → b ≡ set a i x → PutFrom (i + 1) ys b c
    → d ≡ set c i (record (get_or c i blank) { end = end }) → PutFrom i (record x { end = end } ∷ ys) a d
closed-over i x ys a b c d end room opened inside closed =
    let rest : List Lent = ys ++ drop (i + 1 + length ys) a in
    let size : i + 1 + length ys ≡ i + length (record x { end = end } ∷ ys) = omega arith in
    let front : take (i + 1) b ≡ take i a ++ (x ∷ []) = ap (take (i + 1)) opened ∙ ap (λ (k : ℕ). take k (set a i x)) (add-one i)
    ∙ take-suc-set a i x room in
    let behind : drop (i + 1 + length ys) b ≡ drop (i + 1 + length ys) a =
    ap (drop (i + 1 + length ys)) opened ∙ drop-set-lt (i + 1 + length ys) a i x (omega arith) in
    let whole : c ≡ take i a ++ (x ∷ rest) =
    inside ∙ ap₂ ◌++◌ front (ap (λ (l : List Lent). ys ++ l) behind) ∙ append_snoc (take i a) x rest in
    let own : get_or c i blank ≡ x =
    ap (λ (l : List Lent). get_or l i blank) whole ∙ get_or_at (take i a) x rest blank i (length-take-le i a (omega arith)) in
    closed
    ∙ ap₂ (λ (l : List Lent) (y : Lent). set l i (record y { end = end })) whole own
    ∙ set_at (take i a) x rest (record x { end = end }) i (length-take-le i a (omega arith))
    ∙ ap (λ (k : ℕ). take i a ++ (record x { end = end } ∷ (ys ++ drop k a))) size

pub record RowFilled (i : ℕ) (x : List NodeRecord) (v w : Fill) : Type 0 where
  pub name : w.row.ghost_name ≡ v.row.ghost_name
  pub same : length w.row.now ≡ length v.row.now
  pub put : i + length x ≤ length v.row.now → PutFrom i (map struct_of x) v.row.now w.row.now

-- One node with its children.
node-filled : (at i : ℕ) (t : Expr) (v u w x : Fill) → Filling.Open v i (kind_byte t) at u
    → RowFilled (i + 1) (row_from (at + length (head_bytes t)) (children_of t)) u w → Filling.Close w i (at + length (expr_bytes t)) x
    → RowFilled i (nodes_from at t) v x
unfolding record_of
node-filled at i t v u w x opened inside closed =
    let cs : List NodeRecord = row_from (at + length (head_bytes t)) (children_of t) in
    let split : nodes_from at t ≡ record_of at t ∷ cs = nodes-split at t in
    let size : length (nodes_from at t) ≡ suc (length cs) = ap length split in
    let same : length (map struct_of cs) ≡ length cs = length-map cs struct_of in
    record {
      name = closed.0 ∙ inside.name ∙ opened.0;
      same = closed.1.0 ∙ inside.same ∙ opened.1.0;
      put = λ fits.
          subst (λ (l : List NodeRecord). PutFrom i (map struct_of l) v.row.now x.row.now) (sym split)
          (closed-over i (record (get_or v.row.now i blank) { kind = kind_byte t; start = at }) (map struct_of cs) v.row.now u.row.now
          w.row.now x.row.now
          (at + length (expr_bytes t)) (omega (arith, size, fits)) (opened.1.1 (omega (arith, size, fits)))
          (inside.put (omega (arith, size, fits, opened.1.0)))
          (closed.1.1 (omega (arith, size, fits, inside.same, opened.1.0))));
    }

-- And others after it.
pub row-filled : {at i : ℕ} {ts : Exprs} {v w : Fill} → RowVisited Filling at i ts v w → RowFilled i (row_from at ts) v w
unfolding row_from
row-filled {i = i} {v = v} none_visited = record { name = refl; same = refl; put = λ fits. nothing-put i v.row.now }
row-filled {at} {i} {v = v} (one_visited {t = t} {ts = ts} {u = u} {w = w} {x = x} {y = y} opened inside closed rest) =
    let others : List NodeRecord = row_from (at + length (expr_bytes t)) ts in
    let a : RowFilled i (nodes_from at t) v x = node-filled at i t v u w x opened (row-filled inside) closed in
    let b : RowFilled (i + nodes t) others x y = row-filled rest in
    let one : length (nodes_from at t) ≡ nodes t = node-count at t in
    let here : length (map struct_of (nodes_from at t)) ≡ nodes t = length-map (nodes_from at t) struct_of ∙ one in
    let all : length (nodes_from at t ++ others) ≡ length (nodes_from at t) + length others = length-append (nodes_from at t) others in
    record {
      name = b.name ∙ a.name;
      same = b.same ∙ a.same;
      put = λ fits.
          subst (λ (l : List Lent). PutFrom i l v.row.now y.row.now) (sym (map-append struct_of (nodes_from at t) others))
          (both-put i (map struct_of (nodes_from at t)) (map struct_of others) v.row.now x.row.now y.row.now (omega (arith, all, fits))
          (a.put (omega (arith, one, all, fits)))
          (subst (λ (k : ℕ). PutFrom (i + k) (map struct_of others) x.row.now y.row.now) (sym here)
          (b.put (omega (arith, one, all, fits, a.same)))));
    }

pub never-refused : {at i : ℕ} {ts : Exprs} {v : Fill} → RowRefused Filling at i ts v → ⊥
never-refused (not_opened h) = h
never-refused (refused_below o h) = never-refused h
never-refused (not_closed o r h) = h
never-refused (refused_later o h) = never-refused h

willing : Refuses Filling → ⊥
willing (inl h) = h.4
willing (inr h) = h.3

pub filled : (s : List ℕ) (at count levels : ℕ) (c : Columns) (r : Result Walked Refusal) (v w : Fill) (after : List Lent)
    → (w.row.ghost_name ≡ v.row.ghost_name → after ≡ w.row.now) → NodeVisit Filling s at count r (node c levels) v w
    → VisitIs s at count r (node c levels) ⊥ (RecordsPut at count v.row.now after) (λ t. ⊥)
filled s at count levels c (Ok walked) v w after stays h =
    let o = h.3.2 in
    let put : RowFilled count (nodes_from at h.1) v w = node-filled at count h.1 v o.0 o.1 w o.2 (row-filled o.3) o.4 in
    let size : length (map struct_of (nodes_from at h.1)) ≡ nodes h.1 = length-map (nodes_from at h.1) struct_of ∙ node-count at h.1 in (
      h.0,
      h.1,
      h.2,
      (
        ap length (stays put.name) ∙ put.same,
        λ fits.
            stays put.name
            ∙ subst (λ (k : ℕ). w.row.now ≡ take count v.row.now ++ (map struct_of (nodes_from at h.1) ++ drop k v.row.now))
            (omega (arith, size, h.3.1)) (put.put (omega (arith, node-count at h.1, h.3.1, fits))),
      ),
    )
filled s at count levels c (Err why) v w after stays (inl stops) = inl stops
filled s at count levels c (Err why) v w after stays (inr (some, refuse)) = absurd (willing some)

-- A row into which they were put has them.
pub put-recorded : (at i end : ℕ) (t : Expr) (row after : List Lent) → RecordsPut at i row after end (i + nodes t) t
    → RecordedIfRoom after at i t
put-recorded at i end t row after (same, put) room =
    let records : List NodeRecord = nodes_from at t in
    let rest : List Lent = drop (i + nodes t) row in
    let front : length (take i row) ≡ i = length-take-le i row (omega (arith, same, room)) in
    let dropped : drop i after ≡ map struct_of records ++ rest =
    ap (drop i) (put (omega (arith, same, room))) ∙ drop_at (take i row) (map struct_of records ++ rest) i front in
    let back : map node_of (map struct_of records) ≡ records = map-map node_of struct_of records ∙ map-id records in
    ap (take (length records)) (sym (map-drop node_of i after) ∙ ap nodes_of dropped
    ∙ map-append node_of (map struct_of records) rest ∙ ap (λ (l : List NodeRecord). l ++ nodes_of rest) back)
    ∙ take_at records (nodes_of rest) (length records) refl

-- ---- nothing

abbrev pub Idle : Deeds Nothing
Idle = record {
  Place = λ p. Unit {0};
  Open = λ v i kind at w. Unit {0};
  Close = λ v i end w. Unit {0};
  NotOpen = λ v i kind at. ⊥;
  NotClose = λ v i end. ⊥;
}

idle : Refuses Idle → ⊥
idle (inl h) = h.4
idle (inr h) = h.3

pub only-read : (s : List ℕ) (at count levels : ℕ) (c : Columns) (r : Result Walked Refusal) (v w : Nothing)
    → NodeVisit Idle s at count r (node c levels) v w → VisitIs s at count r (node c levels) ⊥ (λ end index t. Unit {0}) (λ t. ⊥)
only-read s at count levels c (Ok walked) v w h = (h.0, h.1, h.2, tt)
only-read s at count levels c (Err why) v w (inl stops) = inl stops
only-read s at count levels c (Err why) v w (inr (some, refuse)) = absurd (idle some)

-- ---- a table that is held to

abbrev pub Checking : Deeds Check
Checking = record {
  Place = λ p. Unit {0};
  Open = λ v i kind at w. (w.table.now ≡ v.table.now) × StartsThere v.table.now i kind at;
  Close = λ v i end w. (w.table.now ≡ v.table.now) × EndsThere v.table.now i end;
  NotOpen = λ v i kind at. StartsThere v.table.now i kind at → ⊥;
  NotClose = λ v i end. EndsThere v.table.now i end → ⊥;
}

abbrev none : NodeRecord
none = node_of blank

-- The records stand in a list, one after the other.
abbrev Has : List NodeRecord → (i : ℕ) → List NodeRecord → Type 0
Has l i [] = Unit {0}
Has l i (r ∷ rs) = (i < length l) × (get_or l i none ≡ r) × Has l (suc i) rs

has-both : (l : List NodeRecord) (i : ℕ) (rs ss : List NodeRecord) → Has l i rs → Has l (i + length rs) ss → Has l i (rs ++ ss)
has-both l i [] ss h k = subst (λ (j : ℕ). Has l j ss) (add-zero i) k
has-both l i (r ∷ rs) ss h k =
    (h.0, h.1, has-both l (suc i) rs ss h.2 (subst (λ (j : ℕ). Has l j ss) (omega arith) k))

has-first : (l : List NodeRecord) (i : ℕ) (rs ss : List NodeRecord) → Has l i (rs ++ ss) → Has l i rs
has-first l i [] ss h = tt
has-first l i (r ∷ rs) ss h = (h.0, h.1, has-first l (suc i) rs ss h.2)

has-second : (l : List NodeRecord) (i : ℕ) (rs ss : List NodeRecord) → Has l i (rs ++ ss) → Has l (i + length rs) ss
has-second l i [] ss h = subst (λ (j : ℕ). Has l j ss) (sym (add-zero i)) h
has-second l i (r ∷ rs) ss h = subst (λ (j : ℕ). Has l j ss) (omega arith) (has-second l (suc i) rs ss h.2)

has-taken : (l : List NodeRecord) (i : ℕ) (rs : List NodeRecord) → Has l i rs → take (length rs) (drop i l) ≡ rs
has-taken l i [] h = refl
has-taken l i (r ∷ rs) h =
    ap (take (suc (length rs))) (drop-cons l i none h.0) ∙ ap₂ ◌∷◌ h.1 (has-taken l (suc i) rs h.2)

same-front : (a b : NodeRecord) (x y : List NodeRecord) → a ∷ x ≡ b ∷ y → (a ≡ b) × (x ≡ y)
same-front a b x y e = (cc, cc)

taken-has : (l : List NodeRecord) (i : ℕ) (rs : List NodeRecord) → take (length rs) (drop i l) ≡ rs → Has l i rs
taken-has l i [] e = tt
taken-has l i (r ∷ rs) e =
    let size = length-take (suc (length rs)) (drop i l) in
    let there : i < length l = omega (arith, ap length e, size, length-drop i l) in
    let split = same-front (get_or l i none) r (take (length rs) (drop (suc i) l)) rs
    (sym (ap (take (suc (length rs))) (drop-cons l i none there)) ∙ e) in
    (there, split.0, taken-has l (suc i) rs split.1)

same-record : (r : NodeRecord) (kind start end : ℕ) → r.kind ≡ kind → r.start ≡ start → r.end ≡ end
    → r ≡ record { kind = kind; start = start; end = end }
same-record r kind start end a b c = rw (sym a, sym b, sym c) refl

module _ (table : List Lent) (i : ℕ) where
  here : get_or (nodes_of table) i none ≡ node_of (get_or table i blank)
  here = get_or-map node_of table i blank

  size : length (nodes_of table) ≡ length table
  size = length-map table node_of

  -- A record that starts and ends so is the node's.
  whole : (at : ℕ) (t : Expr) → StartsThere table i (kind_byte t) at → EndsThere table i (at + length (expr_bytes t))
      → (i < length (nodes_of table)) × (get_or (nodes_of table) i none ≡ record_of at t)
  unfolding record_of
  whole at t starts ends =
      (omega (arith, size, starts.0), here ∙ same-record (node_of (get_or table i blank)) _ _ _ starts.1 starts.2 ends.1)

  starts-so : (at : ℕ) (t : Expr) → i < length (nodes_of table) → get_or (nodes_of table) i none ≡ record_of at t
      → StartsThere table i (kind_byte t) at
  unfolding record_of
  starts-so at t there e =
      let same : node_of (get_or table i blank) ≡ record_of at t = sym here ∙ e in
      (omega (arith, size, there), ap (λ (r : NodeRecord). r.kind) same, ap (λ (r : NodeRecord). r.start) same)

  ends-so : (at : ℕ) (t : Expr) → i < length (nodes_of table) → get_or (nodes_of table) i none ≡ record_of at t
      → EndsThere table i (at + length (expr_bytes t))
  unfolding record_of
  ends-so at t there e =
      let same : node_of (get_or table i blank) ≡ record_of at t = sym here ∙ e in
      (omega (arith, size, there), ap (λ (r : NodeRecord). r.end) same)

row-checked : {at i : ℕ} {ts : Exprs} {v w : Check} → RowVisited Checking at i ts v w
    → (w.table.now ≡ v.table.now) × Has (nodes_of v.table.now) i (row_from at ts)
unfolding row_from
row-checked none_visited = (refl, tt)
row-checked {at} {i} {v = v} (one_visited {t = t} {ts = ts} {u = u} {w = w} {x = x} {y = y} opened inside closed rest) =
    let table : List Lent = v.table.now in
    let cs : List NodeRecord = row_from (at + length (head_bytes t)) (children_of t) in
    let others : List NodeRecord = row_from (at + length (expr_bytes t)) ts in
    let a = row-checked inside in
    let b = row-checked rest in
    let below : w.table.now ≡ table = a.0 ∙ opened.0 in
    let after : x.table.now ≡ table = closed.0 ∙ below in
    let own = whole table i at t opened.1 (subst (λ (l : List Lent). EndsThere l i (at + length (expr_bytes t))) below closed.1) in
    let inner : Has (nodes_of table) (suc i) cs =
    subst (λ (j : ℕ). Has (nodes_of table) j cs) (add-one i) (subst (λ (l : List Lent). Has (nodes_of l) (i + 1) cs) opened.0 a.1) in
    let outer : Has (nodes_of table) (i + length (nodes_from at t)) others =
    subst (λ (k : ℕ). Has (nodes_of table) (i + k) others) (sym (node-count at t))
    (subst (λ (l : List Lent). Has (nodes_of l) (i + nodes t) others) after b.1) in (
      b.0 ∙ after,
      has-both (nodes_of table) i (nodes_from at t) others
          (subst (λ (l : List NodeRecord). Has (nodes_of table) i l) (sym (nodes-split at t)) (own.0, own.1, inner)) outer,
    )

-- What a table has of a row: the first one's own record, its children's, the others'.
module _ (table : List Lent) (at i : ℕ) (t : Expr) (ts : Exprs) (h : Has (nodes_of table) i (row_from at (cons t ts))) where
  parts : Has (nodes_of table) i (nodes_from at t ++ row_from (at + length (expr_bytes t)) ts)
  unfolding row_from
  parts = h

  first-parts : Has (nodes_of table) i (record_of at t ∷ row_from (at + length (head_bytes t)) (children_of t))
  first-parts =
      subst (λ (l : List NodeRecord). Has (nodes_of table) i l) (nodes-split at t)
      (has-first (nodes_of table) i (nodes_from at t) (row_from (at + length (expr_bytes t)) ts) parts)

  children-parts : Has (nodes_of table) (i + 1) (row_from (at + length (head_bytes t)) (children_of t))
  children-parts =
      subst (λ (j : ℕ). Has (nodes_of table) j (row_from (at + length (head_bytes t)) (children_of t))) (sym (add-one i)) first-parts.2

  other-parts : Has (nodes_of table) (i + nodes t) (row_from (at + length (expr_bytes t)) ts)
  other-parts =
      subst (λ (k : ℕ). Has (nodes_of table) (i + k) (row_from (at + length (expr_bytes t)) ts)) (node-count at t)
      (has-second (nodes_of table) i (nodes_from at t) (row_from (at + length (expr_bytes t)) ts) parts)

row-refused : {at i : ℕ} {ts : Exprs} {v : Check} → RowRefused Checking at i ts v → Has (nodes_of v.table.now) i (row_from at ts) → ⊥
row-refused {at} {i} {v = v} (not_opened {t = t} {ts = ts} refusal) h =
    let f = first-parts v.table.now at i t ts h in refusal (starts-so v.table.now i at t f.0 f.1)
row-refused {at} {i} {v = v} (refused_below {t = t} {ts = ts} {u = u} opened below) h =
    row-refused below
    (subst (λ (l : List Lent). Has (nodes_of l) (i + 1) (row_from (at + length (head_bytes t)) (children_of t))) (sym opened.0)
    (children-parts v.table.now at i t ts h))
row-refused {at} {i} {v = v} (not_closed {t = t} {ts = ts} {u = u} {x = x} opened inside refusal) h =
    let f = first-parts v.table.now at i t ts h in
    let a = row-checked inside in
    refusal (subst (λ (l : List Lent). EndsThere l i (at + length (expr_bytes t))) (sym (a.0 ∙ opened.0))
    (ends-so v.table.now i at t f.0 f.1))
row-refused {at} {i} {v = v} (refused_later {t = t} {ts = ts} {w = w} one later) h =
    let a = row-checked one.3 in
    let same : w.table.now ≡ v.table.now = one.4.0 ∙ a.0 ∙ one.2.0 in
    row-refused later
    (subst (λ (l : List Lent). Has (nodes_of l) (i + nodes t) (row_from (at + length (expr_bytes t)) ts)) (sym same)
    (other-parts v.table.now at i t ts h))

alone : (at : ℕ) (t : Expr) → row_from at (cons t nil) ≡ nodes_from at t
unfolding row_from
alone at t = append-nil (nodes_from at t)

pub checked : (s : List ℕ) (at count levels : ℕ) (c : Columns) (r : Result Walked Refusal) (v w : Check)
    → NodeVisit Checking s at count r (node c levels) v w
    → VisitIs s at count r (node c levels) (Unit {0}) (RecordsAre at count v.table.now)
    (λ t. Recorded v.table.now at count t → ⊥)
checked s at count levels c (Ok walked) v w h =
    let o = h.3.2 in
    let row : RowVisited Checking at count (cons h.1 nil) v w = one_visited o.2 o.3 o.4 none_visited in (
      h.0,
      h.1,
      h.2,
      (
        h.3.0,
        h.3.1,
        has-taken (nodes_of v.table.now) count (nodes_from at h.1)
            (subst (λ (l : List NodeRecord). Has (nodes_of v.table.now) count l) (alone at h.1) (row-checked row).1),
      ),
    )
checked s at count levels c (Err why) v w (inl stops) = inl stops
checked s at count levels c (Err why) v w (inr (some, refuse)) =
    inr (
      tt,
      λ t n rest e has. row-refused (refuse t n rest e nil)
          (subst (λ (l : List NodeRecord). Has (nodes_of v.table.now) count l) (sym (alone at t))
          (taken-has (nodes_of v.table.now) count (nodes_from at t) has)),
    )
