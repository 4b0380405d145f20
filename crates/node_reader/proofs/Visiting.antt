-- The two walks, whatever is done with the nodes: what each return needs, over lists.
use Prim.Native.Nat.{ℕ, zero, suc, ◌+◌, ◌-◌, ◌≤◌, ◌<◌}
use native.Mathlib.Nat.{sub-zero}
use native.Mathlib.Omega.{arith}
use mathlib.Core.Path.{◌≡◌, refl, sym, ap, ◌∙◌, subst}
use mathlib.Core.List.{List, ◌++◌}
use lib.ListN.{length, drop, get_or, length-drop, length-append}
use Rattle.std.specs.Prelude.{Result, Ok, Err}
use Rattle.std.proofs.Common.{inl, inr}
use Rattle.definitions.specs.Words.Expression.{Expr, Exprs, nil, cons}
use Rattle.definitions.specs.Bytes.Encode.{expr_bytes, exprs_bytes}
use Rattle.definitions.specs.Bytes.Readers.{Read, read, stopped, Reader, continue, ◌>>=◌, give}
use Rattle.definitions.specs.Bytes.Decode.{repeat_exprs, Columns, node}
use Rattle.definitions.specs.Bytes.Good.{AllBytes, nodes, nodes_all}
use Rattle.definitions.specs.Bytes.NodeTable.{kind_byte}
use Rattle.expression.specs.Nodes.{head_bytes, children_of, Stands}
use Rattle.expression.proofs.Standing.{kind-is, tree-length}
use Rattle.expression.specs.declared.heads.Head.{Head}
use Rattle.terms.specs.Refusals.{number_of}
use Rattle.terms.specs.declared.refusals.Refusal.{Refusal}
use Rattle.theorems.proofs.ReaderLaws.{after, halts, step, given, same_read, stopped-not-read}
use Rattle.theorems.proofs.Inverse.{NodeBack, node-back, after-bytes, join}
use Rattle.filter_tree.proofs.NodeLaws.{kind-byte}
use Rattle.node_reader.specs.Nodes.{NodeHead}
use Rattle.node_reader.specs.Visits.{Counted, Deeds, LeafDone, LeafRefused, RowVisited, none_visited, one_visited, Visited, RowRefused, not_opened, refused_below, not_closed, refused_later, Refused, NodeVisit, RowVisit}
use Rattle.node_reader.specs.declared.walk.Walked.{Walked}
use Rattle.node_reader.proofs.Standing.{There, node-there, bytes-from}
use Rattle.node_reader.proofs.Walks.{as-many}

-- ---- the row

module _ {V : Type 0} (D : Deeds V) (s : List ℕ) (at count : ℕ) (child : Reader Expr) where
  none-visited : (v : V) → at ≤ length s
      → RowVisit D s at count (Ok (record { next = at; count = count })) (repeat_exprs 0 child) v v
  unfolding repeat_exprs exprs_bytes nodes_all
  none-visited v w = (w, nil, refl, (omega arith, omega arith, none_visited))

  -- The first is refused, whatever comes after it.
  first-fails : (v w : V) (many : ℕ) (why : Refusal)
      → NodeVisit D s at count (Err why) child v w
      → RowVisit D s at count (Err why) (repeat_exprs (suc many) child) v w
  unfolding repeat_exprs
  first-fails v w many why (inl stops) = inl (halts _ stops)
  first-fails v w many why (inr (some, refuse)) =
      inr (
        some,
        λ es n rest e. step (child count (drop at s)) _ e (λ x n₁ s₁ e₁ f₁. step (repeat_exprs many child n₁ s₁) _ f₁ (λ xs n₂ s₂ e₂ f₂.
            given (λ ys m t. RowRefused D at count ys v) (cons x xs) es n₂ n s₂ rest f₂ (refuse x n₁ s₁ e₁ xs))),
      )

  module _ (v u : V) (first : Walked)
      (one : NodeVisit D s at count (Ok first) child v u)
    where
      before-row : (ts : Exprs) (w : V) → RowVisited D first.next first.count ts u w → RowVisited D at count (cons one.1 ts) v w
      before-row ts w row =
          let o = one.3.2 in
          one_visited o.2 o.3 o.4
          (subst (λ (p : ℕ). RowVisited D p (count + nodes one.1) ts u w) one.3.0
          (subst (λ (i : ℕ). RowVisited D first.next i ts u w) one.3.1 row))

      before-refused : (ts : Exprs) → RowRefused D first.next first.count ts u → RowRefused D at count (cons one.1 ts) v
      before-refused ts row =
          refused_later one.3.2
          (subst (λ (p : ℕ). RowRefused D p (count + nodes one.1) ts u) one.3.0
          (subst (λ (i : ℕ). RowRefused D first.next i ts u) one.3.1 row))

      in-front : (many : ℕ) (r : Result Walked Refusal) (w : V)
          → RowVisit D s first.next first.count r (repeat_exprs many child) u w
          → RowVisit D s at count r (repeat_exprs (suc many) child) v w
      unfolding repeat_exprs exprs_bytes nodes_all
      in-front many (Ok all) w h = (
        h.0,
        cons one.1 h.1,
        after _ one.2 ∙ after _ h.2,
        (simp length-append (omega (arith, one.3.0, h.3.0)), omega (arith, one.3.1, h.3.1), before-row h.1 w h.3.2),
      )
      in-front many (Err why) w (inl stops) = inl (after _ one.2 ∙ halts _ stops)
      in-front many (Err why) w (inr (some, refuse)) =
          inr (
            some,
            λ es n rest e. step (child count (drop at s)) _ e (λ x n₁ s₁ e₁ f₁. step (repeat_exprs many child n₁ s₁) _ f₁ (λ xs n₂ s₂ e₂ f₂.
                given (λ ys m t. RowRefused D at count ys v) (cons x xs) es n₂ n s₂ rest f₂
                (given (λ y m t. repeat_exprs many child m t ≡ read xs n₂ s₂ → RowRefused D at count (cons y xs) v) one.1 x first.count n₁
                (drop first.next s) s₁ (sym one.2 ∙ e₁) (λ g. before-refused xs (refuse xs n₂ s₂ g)) e₂))),
          )

-- What the loop over a row keeps after `done` of the nodes; `kept` is what is known of the limit on nodes.
pub record InVisitsOf {V : Type 0} (kept : Type 0) (D : Deeds V) (s : List ℕ) (at count many : ℕ) (child : Reader Expr) (v : V)
    (next total done : ℕ) (u : V)
    : Type 0 where
  pub place : next ≤ length s
  pub low : count ≤ total
  pub high : kept
  pub rest : (r : Result Walked Refusal) (w : V)
      → RowVisit D s next total r (repeat_exprs (many - done) child) u w
      → RowVisit D s at count r (repeat_exprs many child) v w

-- The nodes counted so far are within the limit.
abbrev pub InVisits : {V : Type 0} (D : Deeds V) (s : List ℕ) (at count many : ℕ) (child : Reader Expr) (v : V)
    (next total done : ℕ) (u : V) → Type 0
InVisits D s at count many child v next total done u = InVisitsOf (total ≤ 1024) D s at count many child v next total done u

-- They are if those before the row were, or if one of the row was read.
abbrev pub InAnyVisits : {V : Type 0} (D : Deeds V) (s : List ℕ) (at count many : ℕ) (child : Reader Expr) (v : V)
    (next total done : ℕ) (u : V) → Type 0
InAnyVisits D s at count many child v next total done u =
    InVisitsOf ((done ≡ 0 → count ≤ 1024) → total ≤ 1024) D s at count many child v next total done u

module _ {V : Type 0} {D : Deeds V} {s : List ℕ} {at count many : ℕ} {child : Reader Expr} {v : V} {next total done : ℕ} {u : V} where
  pub any-within : InAnyVisits D s at count many child v next total done u → count ≤ 1024
      → InVisits D s at count many child v next total done u
  any-within inv few = record { place = inv.place; low = inv.low; high = inv.high (λ e. few); rest = inv.rest }

  pub within-any : InVisits D s at count many child v next total done u → InAnyVisits D s at count many child v next total done u
  within-any inv = record { place = inv.place; low = inv.low; high = λ few. inv.high; rest = inv.rest }

module _ {V : Type 0} (D : Deeds V) (s : List ℕ) (at count many : ℕ) (child : Reader Expr) (v : V) where
  pub any-visits-begin : at ≤ length s → InAnyVisits D s at count many child v at count 0 v
  any-visits-begin w = record {
    place = w;
    low = omega arith;
    high = λ few. few refl;
    rest = λ r u h. rw sub-zero at h;
  }

  pub visits-begin : at ≤ length s → count ≤ 1024 → InVisits D s at count many child v at count 0 v
  visits-begin w few = any-within (any-visits-begin w) few

module _ {V : Type 0} {kept : Type 0} {D : Deeds V} {s : List ℕ} {at count many : ℕ} {child : Reader Expr} {v : V}
    {next total done : ℕ} {u : V}
    (inv : InVisitsOf kept D s at count many child v next total done u) where
  more : (fewer : ℕ) → many - done ≡ suc fewer → (r : Result Walked Refusal) (w : V)
      → RowVisit D s next total r (repeat_exprs (suc fewer) child) u w
      → RowVisit D s at count r (repeat_exprs many child) v w
  more fewer e r w h = inv.rest r w (rw e h)

  pub visits-go-on : done < many → (first : Walked) {u₁ : V}
      → NodeVisit D s next total (Ok first) child u u₁
      → Counted total 0 (Ok first)
      → InVisits D s at count many child v first.next first.count (done + 1) u₁
  visits-go-on some first {u₁} one counted = record {
    place = one.0;
    low = omega (arith, inv.low, counted.0);
    high = counted.1;
    rest = λ r w visit. more (many - (done + 1)) (omega arith) r w
        (in-front D s next total child u u₁ first one (many - (done + 1)) r w visit);
  }

  pub visits-fail : done < many → (why : Refusal) (u₁ : V)
      → NodeVisit D s next total (Err why) child u u₁
      → RowVisit D s at count (Err why) (repeat_exprs many child) v u₁
  visits-fail some why u₁ one =
      more (many - (done + 1)) (omega arith) (Err why) u₁ (first-fails D s next total child u u₁ (many - (done + 1)) why one)

  pub visits-end : many ≤ done
      → RowVisit D s at count (Ok (record { next = next; count = total })) (repeat_exprs many child) v u
  visits-end none =
      let e : many - done ≡ 0 = omega arith in
      inv.rest (Ok (record { next = next; count = total })) u
      (rw e (none-visited D s next total child u inv.place))

pub visits-counted : {V : Type 0} {D : Deeds V} {s : List ℕ} {at count many : ℕ} {child : Reader Expr} {v : V} {next total done : ℕ}
    {u : V} → InAnyVisits D s at count many child v next total done u
    → many ≤ done → (many ≡ 0 → count ≤ 1024) → Counted count 1 (Ok (record { next = next; count = total }))
visits-counted inv none few = (omega (arith, inv.low), inv.high (λ e. few (omega (arith, none, e))))

-- ---- the node

-- The bytes of several nodes that were read.
row-bytes : (c : Columns) (levels k n m : ℕ) (s t : List ℕ) (es : Exprs) → AllBytes s → n ≤ 1024
    → repeat_exprs k (node c levels) n s ≡ read es m t → s ≡ exprs_bytes es ++ t
unfolding repeat_exprs exprs_bytes
row-bytes c levels zero n m s t es h few e = given (λ x m t. s ≡ exprs_bytes x ++ t) nil es n m s t e refl
row-bytes c levels (suc k) n m s t es h few e =
    step (node c levels n s) _ e (λ x n₁ s₁ e₁ f₁.
    let first : NodeBack c levels n n₁ s s₁ x = node-back c levels n n₁ s s₁ x h few e₁ in
    step (repeat_exprs k (node c levels) n₁ s₁) _ f₁ (λ xs n₂ s₂ e₂ f₂.
    given (λ ys m t. s ≡ exprs_bytes ys ++ t) (cons x xs) es n₂ m s₂ t f₂
    (join (expr_bytes x) (exprs_bytes xs) s s₁ s₂ first.bytes
    (row-bytes c levels k n₁ n₂ s₁ s₂ xs (after-bytes (expr_bytes x) s₁ s first.bytes h) first.few e₂))))

module _ {V : Type 0} (D : Deeds V) (c : Columns) (s : List ℕ) (at levels count : ℕ) (head : Head)
    (above : NodeHead s at levels count c (Ok head)) (bytes : AllBytes s) (within : at ≤ length s) where
  few : count ≤ 1024
  few = omega (arith, above.5)

  children : Reader Exprs
  children = repeat_exprs head.children (node c (levels - 1))

  stands : (t : Expr) (n : ℕ) (rest : List ℕ) → node c levels count (drop at s) ≡ read t n rest → Stands c s at t
  stands t n rest e =
      let b = node-back c levels count n (drop at s) rest t (bytes-from at s bytes) few e in
      record { bytes = record { rest = rest; bytes = b.bytes; within = within }; in_range = b.in_range }

  byte-is : {kind : ℕ} (t : Expr) → Stands c s at t → kind ≡ get_or s at 0 → kind ≡ kind_byte t
  byte-is t h e = e ∙ sym (kind-is h) ∙ kind-byte t

  -- It is not opened.
  pub opening-fails : {v : V} {kind : ℕ} → kind ≡ get_or s at 0 → D.NotOpen v count kind at → (w : V) (why : Refusal)
      → NodeVisit D s at count (Err why) (node c levels) v w
  opening-fails {v} {kind} e refusal w why =
      inr (
        inl (v, count, kind, at, refusal),
        λ t n rest r ts. not_opened
            (subst (λ (k : ℕ). D.NotOpen v count k at) (byte-is t (stands t n rest r) e) refusal),
      )

  -- Where its children begin.
  first-child : (es : Exprs) (n : ℕ) (rest : List ℕ) → repeat_exprs head.children (node c (levels - 1)) (count + 1) (drop head.next s)
      ≡ read es n rest
      → (t : Expr) → children_of t ≡ es → (m : ℕ) → node c levels count (drop at s) ≡ read t m rest → head.next ≡ at + length (head_bytes t)
  first-child es n rest e t same m r =
      let b = node-back c levels count m (drop at s) rest t (bytes-from at s bytes) few r in
      let row : drop head.next s ≡ exprs_bytes es ++ rest = row-bytes c (levels - 1) head.children (count + 1) n (drop head.next s) rest es
      (bytes-from head.next s bytes) (omega (arith, above.5)) e in
      let whole : length s - at ≡ length (expr_bytes t) + length rest = sym (length-drop at s) ∙ ap length b.bytes
      ∙ length-append (expr_bytes t) rest in
      let part : length s - head.next ≡ length (exprs_bytes es) + length rest =
      sym (length-drop head.next s) ∙ ap length row ∙ length-append (exprs_bytes es) rest in
      let size : length (exprs_bytes (children_of t)) ≡ length (exprs_bytes es) = ap (λ (x : Exprs). length (exprs_bytes x)) same in
      omega (arith, whole, part, size, tree-length t, above.0, within)

  module _ {v u : V} {kind : ℕ} (is : kind ≡ get_or s at 0) (opened : D.Open v count kind at u) where
    -- Its children are not read, or one is refused.
    pub below-fails : (w x : V) (why : Refusal)
        → RowVisit D s head.next (count + 1) (Err why) (repeat_exprs head.children (node c (levels - 1))) u x
        → NodeVisit D s at count (Err why) (node c levels) v w
    below-fails w x why (inl stops) = inl (above.2 ∙ halts _ stops)
    below-fails w x why (inr (some, refuse)) =
        inr (
          some,
          λ t n rest r ts. step (repeat_exprs head.children (node c (levels - 1)) (count + 1) (drop head.next s)) _ (sym above.2 ∙ r)
              (λ es n₁ s₁ e₁ f₁.
              let same = same_read (above.1 es) t n₁ n s₁ rest f₁ in
              let its : children_of t ≡ es = ap children_of (sym same.0)
              ∙ above.3 es (as-many (node c (levels - 1)) head.children (count + 1) n₁ _ s₁ es e₁) in
              let begins : head.next ≡ at + length (head_bytes t) = first-child es n₁ s₁ e₁ t its n (r ∙ ap (read t n) (sym same.2)) in
              refused_below (subst (λ (k : ℕ). D.Open v count k at u) (byte-is t (stands t n rest r) is) opened)
              (subst (λ (p : ℕ). RowRefused D p (count + 1) (children_of t) u) begins
              (subst (λ (ys : Exprs). RowRefused D head.next (count + 1) ys u) (sym its) (refuse es n₁ s₁ e₁)))),
        )

    module _ {x : V} (walked : Walked)
        (h : RowVisit D s head.next (count + 1) (Ok walked) (repeat_exprs head.children (node c (levels - 1))) u x) where
      itself : Expr
      itself = above.1 h.1

      reads : node c levels count (drop at s) ≡ read itself walked.count (drop walked.next s)
      unfolding itself
      reads = above.2 ∙ after _ h.2

      its-children : children_of itself ≡ h.1
      unfolding itself
      its-children = above.3 h.1 (as-many (node c (levels - 1)) head.children (count + 1) walked.count (drop head.next s)
          (drop walked.next s) h.1 h.2)

      there : There c s at count walked.next walked.count itself
      there = node-there c s at levels count bytes within few h.0 reads

      begins : head.next ≡ at + length (head_bytes itself)
      begins = first-child h.1 walked.count (drop walked.next s) h.2 itself its-children walked.count reads

      opened-itself : D.Open v count (kind_byte itself) at u
      opened-itself = subst (λ (k : ℕ). D.Open v count k at u) (byte-is itself there.stands is) opened

      row-itself : RowVisited D (at + length (head_bytes itself)) (count + 1) (children_of itself) u x
      row-itself =
          subst (λ (p : ℕ). RowVisited D p (count + 1) (children_of itself) u x) begins
          (subst (λ (ys : Exprs). RowVisited D head.next (count + 1) ys u x) (sym its-children) h.3.2)

      pub node-visited : {w : V} → D.Close x count walked.next w
          → NodeVisit D s at count (Ok walked) (node c levels) v w
      node-visited {w} closed = (
        h.0,
        itself,
        reads,
        (
          there.span.ends,
          there.counted,
          (u, x, opened-itself, row-itself, subst (λ (p : ℕ). D.Close x count p w) there.span.ends closed),
        ),
      )

      -- It is not closed.
      pub closing-fails : (w : V) → D.NotClose x count walked.next → (why : Refusal)
          → NodeVisit D s at count (Err why) (node c levels) v w
      closing-fails w refusal why =
          inr (
            inr (x, count, walked.next, refusal),
            λ t n rest r ts. subst (λ (y : Expr). RowRefused D at count (cons y ts) v)
                (same_read itself t walked.count n (drop walked.next s) rest (sym reads ∙ r)).0
                (not_closed opened-itself row-itself (subst (λ (p : ℕ). D.NotClose x count p) there.span.ends refusal)),
          )

-- A leaf has no children to visit.
no-child : {V : Type 0} (D : Deeds V) (c : Columns) (s : List ℕ) (at levels count : ℕ) (head : Head)
    → NodeHead s at levels count c (Ok head) → head.children ≡ 0 → (u : V)
    → RowVisit D s head.next (count + 1) (Ok (record { next = head.next; count = count + 1 }))
    (repeat_exprs head.children (node c (levels - 1))) u u
no-child D c s at levels count head above none u =
    visits-end (any-visits-begin D s head.next (count + 1) head.children (node c (levels - 1)) u above.0) (omega arith)

module _ {V : Type 0} (D : Deeds V) (c : Columns) (s : List ℕ) (at levels count : ℕ) (head : Head)
    (above : NodeHead s at levels count c (Ok head)) (bytes : AllBytes s) (within : at ≤ length s) {v : V} {kind : ℕ}
    (is : kind ≡ get_or s at 0) (none : head.children ≡ 0) (w : V) where
  pub leaf-visited : LeafDone D v count kind at head.next w
      → NodeVisit D s at count (Ok (record { next = head.next; count = count + 1 })) (node c levels) v w
  leaf-visited d =
      node-visited D c s at levels count head above bytes within is d.1 (record { next = head.next; count = count + 1 })
      (no-child D c s at levels count head above none d.0) d.2

  pub leaf-fails : (why : Refusal) → LeafRefused D v count kind at head.next → NodeVisit D s at count (Err why) (node c levels) v w
  leaf-fails why (inl d) = opening-fails D c s at levels count head above bytes within is d w why
  leaf-fails why (inr d) =
      closing-fails D c s at levels count head above bytes within is d.1 (record { next = head.next; count = count + 1 })
      (no-child D c s at levels count head above none d.0) w d.2 why

-- ---- the root, which is a row of one

nil-not-refused : {V : Type 0} (D : Deeds V) (at i : ℕ) (v : V) → RowRefused D at i nil v → ⊥
nil-not-refused D at i v h = elim h [ ]

only-first : {V : Type 0} (D : Deeds V) (at i : ℕ) (t : Expr) (v : V) → RowRefused D at i (cons t nil) v → Refused D at i t v
only-first D at i t v (not_opened h) ts = not_opened h
only-first D at i t v (refused_below o h) ts = refused_below o h
only-first D at i t v (not_closed o r h) ts = not_closed o r h
only-first D at i t v (refused_later o h) ts = absurd (nil-not-refused D _ _ _ h)

one-stops : (child : Reader Expr) (r : Read Expr) (number : ℕ)
    → continue r (λ x. repeat_exprs 0 child >>= λ es. give (cons x es)) ≡ stopped number → r ≡ stopped number
unfolding repeat_exprs
one-stops child (read x n s) number e = absurd (stopped-not-read number (cons x nil) n s (sym e))
one-stops child (stopped k) number e = cc

the-one : {V : Type 0} (D : Deeds V) (at i : ℕ) (t : Expr) (v w : V) → RowVisited D at i (cons t nil) v w → Visited D at i t v w
the-one D at i t v w (one_visited {u = u} {w = x} o inside c none_visited) = (u, x, o, inside, c)

module _ {V : Type 0} (D : Deeds V) (s : List ℕ) (at count : ℕ) (child : Reader Expr) (v w : V) where
  pub root-fails : (why : Refusal) → RowVisit D s at count (Err why) (repeat_exprs 1 child) v w
      → NodeVisit D s at count (Err why) child v w
  unfolding repeat_exprs
  root-fails why (inl stops) = inl (one-stops child (child count (drop at s)) (number_of why) stops)
  root-fails why (inr (some, refuse)) =
      inr (some, λ t n rest e. only-first D at count t v (refuse (cons t nil) n rest (after _ e)))

  pub root-visited : (walked : Walked) → RowVisit D s at count (Ok walked) (repeat_exprs 1 child) v w
      → NodeVisit D s at count (Ok (record { next = walked.next; count = walked.count })) child v w
  unfolding repeat_exprs exprs_bytes nodes_all
  root-visited walked h =
      step (child count (drop at s)) _ h.2 (λ x n₁ s₁ e₁ f₁.
      let same : (cons x nil ≡ h.1) × (n₁ ≡ walked.count) × (s₁ ≡ drop walked.next s) =
      same_read (cons x nil) h.1 n₁ walked.count s₁ (drop walked.next s) f₁ in
      let ends : walked.next ≡ at + length (exprs_bytes (cons x nil)) = h.3.0
      ∙ ap (λ (ts : Exprs). at + length (exprs_bytes ts)) (sym same.0) in
      let index : walked.count ≡ count + nodes_all (cons x nil) = h.3.1 ∙ ap (λ (ts : Exprs). count + nodes_all ts) (sym same.0) in (
        h.0,
        x,
        e₁ ∙ ap (λ (k : ℕ). read x k s₁) same.1 ∙ ap (read x walked.count) same.2,
        (
          (let end : walked.next ≡ at + (length (expr_bytes x) + 0) = simp length-append at ends in omega (arith, end)),
          omega (arith, index),
          the-one D at count x v w (subst (λ (ts : Exprs). RowVisited D at count ts v w) (sym same.0) h.3.2),
        ),
      ))

  pub root-is : (r : Result Walked Refusal) → RowVisit D s at count r (repeat_exprs 1 child) v w → NodeVisit D s at count r child v w
  root-is (Ok walked) h = root-visited walked h
  root-is (Err why) h = root-fails why h
