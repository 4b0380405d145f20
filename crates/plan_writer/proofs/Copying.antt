-- Copies with new indexes: the nodes of an expression stand one after another, in the copy as in the original, and a column's new index is
-- put over the old one, so what is behind a node that was passed is right, and what is before it is still as it was.
use Prim.Native.Nat.{ℕ, ◌+◌, ◌-◌, ◌≤◌, ◌<◌}
use native.Mathlib.Omega.{arith}
use mathlib.Core.Path.{◌≡◌, refl, sym, ap, ap₂, ◌∙◌, subst}
use mathlib.Core.List.{List, [], ◌∷◌, ◌++◌, append-nil, append_assoc}
use lib.ListN.{length, get_or, take, drop, length-append, take-append-drop}
use lib.Seq.{take_at, drop_at, length-take-le}
use Rattle.definitions.specs.Words.Basics.{big_endian}
use Rattle.definitions.specs.Words.Expression.{Expr, column, literal, and, binary, call, other, field, Exprs, nil, cons, count}
use Rattle.definitions.specs.Bytes.Encode.{expr_bytes, exprs_bytes}
use Rattle.definitions.specs.Bytes.Decode.{index_below}
use Rattle.definitions.specs.Words.References.{map_columns, map_columns_all}
use Rattle.theorems.proofs.Columns.{map-count, map-length}
use Rattle.expression.specs.Places.{Holds, Between, short_at}
use Rattle.expression.specs.Nodes.{head_bytes, children_of, kind_of, Stands, Tree, OfTree}
use Rattle.expression.specs.Heads.{HeadIs}
use Rattle.expression.specs.declared.heads.Head.{Head}
use Rattle.expression.proofs.Placed.{fits}
use Rattle.expression.proofs.Standing.{head-children, kind-is, after-head, spans-between}
use Rattle.expression.proofs.OneTree.{of_tree}
use Rattle.expression.proofs.InOrder.{and_then, then-bytes, UpTo, alone, first-up-to, opened, none-up-to, some-up-to}
use Rattle.byte_writer.specs.Written.{WroteAt}
use Rattle.byte_writer.specs.Writing.{Room, PutsAt, same}
use Rattle.byte_writer.proofs.Written.{over, standing}
use Rattle.plan_writer.specs.Copies.{copy_of, copies_of, InTable, PatchFits, Patched}
use Rattle.plan_writer.proofs.Fields.{column-is, column-size}

-- ---- what is written for a node

-- Its head, and its children with their indexes changed.
pub map-node : (f : ℕ → ℕ) (t : Expr) → (kind_of t ≡ 0 → ⊥)
    → expr_bytes (map_columns f t) ≡ head_bytes t ++ exprs_bytes (map_columns_all f (children_of t))
unfolding kind_of expr_bytes head_bytes children_of map_columns
map-node f (column i g) n = absurd (n refl)
map-node f (literal y v) n = sym (append-nil _)
map-node f (and l r) n = rw (append-nil (expr_bytes (map_columns f r)))
map-node f (binary o l r) n = rw (append-nil (expr_bytes (map_columns f r)))
map-node f (call name args) n = rw (append_assoc name (count args ∷ []) (exprs_bytes (map_columns_all f args)), map-count f args)
map-node f (other g cs) n = rw (append_assoc (big_endian 2 g) (count cs ∷ []) (exprs_bytes (map_columns_all f cs)), map-count f cs)
map-node f (field b g) n = sym (append-nil _)

map-then : (f : ℕ → ℕ) (ts us : Exprs) → map_columns_all f (and_then ts us) ≡ and_then (map_columns_all f ts) (map_columns_all f us)
unfolding and_then map_columns_all
map-then f nil us = refl
map-then f (cons t ts) us = ap (cons (map_columns f t)) (map-then f ts us)

-- ---- an index put over another

abbrev pub put_index : (place index : ℕ) (s : List ℕ) → List ℕ
put_index place index s = take place s ++ (big_endian 2 index ++ drop (place + 2) s)

pub put-between : (a y z : List ℕ) (w v : ℕ) → w ≡ length a → length y ≡ 2 → put_index w v (a ++ (y ++ z)) ≡ a ++ (big_endian 2 v ++ z)
put-between a y z w v e two =
    let size : length (a ++ y) ≡ w + 2 = omega (arith, length-append a y) in
    ap₂ (λ (x u : List ℕ). x ++ (big_endian 2 v ++ u)) (take_at a (y ++ z) w (sym e))
    (ap (drop (w + 2)) (sym (append_assoc a y z)) ∙ drop_at (a ++ y) z (w + 2) size)

-- In a column, behind x and before z.
pub column-between : (x z : List ℕ) (i g v w : ℕ) → w ≡ length x + 1
    → put_index w v (x ++ (expr_bytes (column i g) ++ z)) ≡ x ++ (expr_bytes (column v g) ++ z)
unfolding expr_bytes big_endian
column-between x z i g v w e =
    let more : List ℕ = big_endian 2 g ++ z in
    ap (put_index w v) (sym (append_assoc x (0 ∷ []) (big_endian 2 i ++ more)))
    ∙ put-between (x ++ (0 ∷ [])) (big_endian 2 i) more w v (omega (arith, length-append x (0 ∷ []))) refl
    ∙ append_assoc x (0 ∷ []) (big_endian 2 v ++ more)

-- ---- what the loop keeps

-- The nodes that are left, as they were, behind what is done; x is what it will be.
pub record Patching (s : List ℕ) (start end : ℕ) (to : List ℕ) (w : ℕ) (x : List ℕ) (next : ℕ) (out : List ℕ) : Type 0 where
  pub trees : Exprs
  pub left : UpTo (index_below (length to)) s next end trees
  pub low : start ≤ next
  pub done : List ℕ
  pub rest : List ℕ
  pub size : length done ≡ w + (next - start)
  pub now : out ≡ done ++ (exprs_bytes trees ++ rest)
  pub whole : x ≡ done ++ (copies_of to trees ++ rest)

-- What it will be.
abbrev pub patched : {s : List ℕ} {start end : ℕ} {to : List ℕ} {w : ℕ} {before : List ℕ} → PatchFits s start end to w before → List ℕ
patched {to = to} {w = w} {before = before} p = take w before ++ (copy_of to p.tree ++ p.copied.rest)

module _ {s : List ℕ} {start end : ℕ} {to : List ℕ} {w : ℕ} where
  pub patching-begins : {before : List ℕ} (p : PatchFits s start end to w before) → Patching s start end to w (patched p) start before
  unfolding exprs_bytes map_columns_all
  patching-begins {before} p = record {
    trees = cons p.tree nil;
    left = alone p.stands;
    low = omega arith;
    done = take w before;
    rest = p.copied.rest;
    size = length-take-le w before p.copied.within ∙ omega arith;
    now =
        sym (take-append-drop w before) ∙ ap (λ (l : List ℕ). take w before ++ l)
        (p.copied.bytes ∙ ap (λ (l : List ℕ). l ++ p.copied.rest) (sym (append-nil (expr_bytes p.tree))));
    whole = ap (λ (l : List ℕ). take w before ++ (l ++ p.copied.rest)) (sym (append-nil (copy_of to p.tree)));
  }

  module _ {x : List ℕ} {next : ℕ} {out : List ℕ} (inv : Patching s start end to w x next out) where
    pub patching-ends : end ≤ next → out ≡ x
    unfolding exprs_bytes map_columns_all
    patching-ends past = none-up-to
        (λ ts. out ≡ inv.done ++ (exprs_bytes ts ++ inv.rest) → x ≡ inv.done ++ (copies_of to ts ++ inv.rest) → out ≡ x)
        (λ e k. e ∙ sym k) past inv.trees inv.left inv.now inv.whole

    module _ (more : next < end) where
      pub patching-tree : (t : Expr) × Stands (index_below (length to)) s next t
      patching-tree = some-up-to (λ ts. (t : Expr) × Stands (index_below (length to)) s next t) (λ t us h. (t, first-up-to h)) more
          inv.trees inv.left

      pub tree-there : Tree s next
      tree-there = (index_below (length to), patching-tree.0, patching-tree.1)

      -- A column: its bytes lie within s, its index is in the table, and there is room for the new one.
      module _ (zero : get_or s next 0 ≡ 0) where
        abbrev index : ℕ
        index = short_at s (next + 1)

        pub column-within : (next + 5 ≤ length s) × (index < length to)
        column-within =
            let own = column-is patching-tree.1 zero in
            (omega (arith, fits own.bytes, column-size index (short_at s (next + 3))), own.below)

        pub column-room : w + (next - start) + 5 ≤ length out
        unfolding exprs_bytes
        column-room = some-up-to (λ ts. out ≡ inv.done ++ (exprs_bytes ts ++ inv.rest) → w + (next - start) + 5 ≤ length out)
            (λ t us h e.
            let own = column-is (first-up-to h) zero in
            omega (
              arith,
              inv.size,
              ap length e,
              length-append inv.done ((expr_bytes t ++ exprs_bytes us) ++ inv.rest),
              length-append (expr_bytes t ++ exprs_bytes us) inv.rest,
              length-append (expr_bytes t) (exprs_bytes us),
              ap (λ (t : Expr). length (expr_bytes t)) own.tree,
              column-size index (short_at s (next + 3)),
            )) more inv.trees inv.left inv.now

        module _ {after : List ℕ} {r : ℕ} (put : WroteAt (w + (next - start) + 1) (big_endian 2 (get_or to index 0)) out after r) where
          passed : (i g : ℕ) (us : Exprs) → i ≡ index → UpTo (index_below (length to)) s next end (cons (column i g) us)
              → out ≡ inv.done ++ (exprs_bytes (cons (column i g) us) ++ inv.rest)
              → x ≡ inv.done ++ (copies_of to (cons (column i g) us) ++ inv.rest) → Patching s start end to w x (next + 5) after
          unfolding exprs_bytes map_columns_all map_columns children_of and_then head_bytes big_endian
          passed i g us same h e k =
              let v : ℕ = get_or to i 0 in
              let x : List ℕ = inv.done in
              let z : List ℕ = exprs_bytes us ++ inv.rest in
              record {
                trees = us;
                left = opened h (next + 5) refl;
                low = omega (arith, inv.low);
                done = x ++ expr_bytes (column v g);
                rest = inv.rest;
                size = omega (arith, inv.low, inv.size, length-append x (expr_bytes (column v g)), column-size v g);
                now =
                    put.out ∙ ap (λ (j : ℕ). put_index (w + (next - start) + 1) (get_or to j 0) out) (sym same)
                    ∙ ap (put_index (w + (next - start) + 1) v) (e ∙ ap (λ (l : List ℕ). x ++ l)
                    (append_assoc (expr_bytes (column i g)) (exprs_bytes us) inv.rest))
                    ∙ column-between x z i g v (w + (next - start) + 1) (omega (arith, inv.size))
                    ∙ sym (append_assoc x (expr_bytes (column v g)) z);
                whole =
                    k ∙ ap (λ (l : List ℕ). x ++ l) (append_assoc (expr_bytes (column v g)) (copies_of to us) inv.rest)
                    ∙ sym (append_assoc x (expr_bytes (column v g)) (copies_of to us ++ inv.rest));
              }

          pub column-passed : Patching s start end to w x (next + 5) after
          column-passed = some-up-to
              (λ ts. out ≡ inv.done ++ (exprs_bytes ts ++ inv.rest) → x ≡ inv.done ++ (copies_of to ts ++ inv.rest)
              → Patching s start end to w x (next + 5) after)
              (λ t us h. subst (λ (t : Expr). UpTo (index_below (length to)) s next end (cons t us)
              → out ≡ inv.done ++ (exprs_bytes (cons t us) ++ inv.rest)
              → x ≡ inv.done ++ (copies_of to (cons t us) ++ inv.rest) → Patching s start end to w x (next + 5) after)
              (sym (column-is (first-up-to h) zero).tree) (passed index (short_at s (next + 3)) us refl) h)
              more inv.trees inv.left inv.now inv.whole

      -- Any other node: its head is passed.
      module _ (some : get_or s next 0 ≡ 0 → ⊥) (head : Head) (is : OfTree s next (HeadIs next head)) where
        pub head-later : next < head.next
        head-later = after-head patching-tree.1 head.next (is (index_below (length to)) patching-tree.0 patching-tree.1).next

        opening : (t : Expr) (us : Exprs) → UpTo (index_below (length to)) s next end (cons t us)
            → out ≡ inv.done ++ (exprs_bytes (cons t us) ++ inv.rest) → x ≡ inv.done ++ (copies_of to (cons t us) ++ inv.rest)
            → Patching s start end to w x head.next out
        unfolding exprs_bytes map_columns_all
        opening t us h e k =
            let there = (is (index_below (length to)) t (first-up-to h)).next in
            let own : List ℕ = head_bytes t in
            let below : Exprs = children_of t in
            let bytes : expr_bytes t ++ exprs_bytes us ≡ own ++ exprs_bytes (and_then below us) =
            ap (λ (l : List ℕ). l ++ exprs_bytes us) (head-children t) ∙ append_assoc own (exprs_bytes below) (exprs_bytes us)
            ∙ ap (λ (l : List ℕ). own ++ l) (sym (then-bytes below us)) in
            let copies : copy_of to t ++ copies_of to us ≡ own ++ copies_of to (and_then below us) =
            ap (λ (l : List ℕ). l ++ copies_of to us)
            (map-node (λ index. get_or to index 0) t (λ z. some (sym (kind-is (first-up-to h)) ∙ z)))
            ∙ append_assoc own (copies_of to below) (copies_of to us)
            ∙ ap (λ (l : List ℕ). own ++ l)
            (sym (then-bytes (map_columns_all (λ index. get_or to index 0) below) (map_columns_all (λ index. get_or to index 0) us))
            ∙ ap exprs_bytes (sym (map-then (λ index. get_or to index 0) below us))) in
            record {
              trees = and_then below us;
              left = opened h head.next there;
              low = omega (arith, inv.low, there);
              done = inv.done ++ own;
              rest = inv.rest;
              size = omega (arith, inv.low, inv.size, there, length-append inv.done own);
              now =
                  e ∙ ap (λ (l : List ℕ). inv.done ++ (l ++ inv.rest)) bytes
                  ∙ ap (λ (l : List ℕ). inv.done ++ l) (append_assoc own (exprs_bytes (and_then below us)) inv.rest)
                  ∙ sym (append_assoc inv.done own (exprs_bytes (and_then below us) ++ inv.rest));
              whole =
                  k ∙ ap (λ (l : List ℕ). inv.done ++ (l ++ inv.rest)) copies
                  ∙ ap (λ (l : List ℕ). inv.done ++ l) (append_assoc own (copies_of to (and_then below us)) inv.rest)
                  ∙ sym (append_assoc inv.done own (copies_of to (and_then below us) ++ inv.rest));
            }

        pub head-passed : Patching s start end to w x head.next out
        head-passed = some-up-to
            (λ ts. out ≡ inv.done ++ (exprs_bytes ts ++ inv.rest) → x ≡ inv.done ++ (copies_of to ts ++ inv.rest)
            → Patching s start end to w x head.next out) opening more inv.trees inv.left inv.now inv.whole

-- ---- the whole

module _ {s : List ℕ} {start end : ℕ} {to : List ℕ} {w : ℕ} {before : List ℕ} (p : PatchFits s start end to w before) where
  pub all-patched : {after : List ℕ} → after ≡ patched p → Patched s start end to w before after
  all-patched {after} is t h there = of_tree
      (λ t. Holds before w (expr_bytes t) → WroteAt w (copy_of to t) before after (w + length (copy_of to t)))
      p.stands.stands
      (λ k. record {
        ends = refl;
        out = is ∙ ap (λ (l : List ℕ). take w before ++ (copy_of to p.tree ++ l))
            (sym (drop_at (take w before ++ expr_bytes p.tree) p.copied.rest (w + length (copy_of to p.tree))
            (omega (
              arith,
              length-append (take w before) (expr_bytes p.tree),
              length-take-le w before p.copied.within,
              map-length (λ index. get_or to index 0) p.tree,
            )))
            ∙ ap (drop (w + length (copy_of to p.tree))) (append_assoc (take w before) (expr_bytes p.tree) p.copied.rest
            ∙ ap (λ (l : List ℕ). take w before ++ l) (sym p.copied.bytes) ∙ take-append-drop w before));
      })
      (index_below (length to)) t h.stands there

-- The copy that is patched: its bytes, and what was put over them.
module _ (to : List ℕ) {s : List ℕ} {start end w : ℕ} {before : List ℕ} (p : Room (InTable s start end to) (copy_of to) w before) where
  same-length : (t : Expr) → length (copy_of to t) ≡ length (expr_bytes t)
  same-length = map-length (λ index. get_or to index 0)

  pub copy-room : Room (Between s start end) same w before
  copy-room = record { it = expr_bytes p.it; stands = spans-between p.stands; room = omega (arith, p.room, same-length p.it) }

  module _ {middle : List ℕ} {v : ℕ} (copy : PutsAt (Between s start end) same w before middle v) where
    stood : (t : Expr) → InTable s start end to t → Holds middle w (expr_bytes t)
    stood t h = standing (omega (arith, p.room)) (copy.wrote (expr_bytes t) (spans-between h))

    pub copy-fits : PatchFits s start end to w middle
    copy-fits = record { tree = p.it; stands = p.stands; copied = stood p.it p.stands }

    pub copy-patched : {after : List ℕ} → Patched s start end to w middle after
        → PutsAt (InTable s start end to) (copy_of to) w before after v
    copy-patched is = record {
      wrote = λ t h.
          over (omega (arith, p.room)) (copy.wrote (expr_bytes t) (spans-between h)) (sym (same-length t)) (is t h (stood t h));
    }
