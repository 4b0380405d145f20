-- `print_node` and `print_children`: what their calls require, and what was written when they return.
use Prim.Native.Nat.{ℕ, suc, ◌+◌, ◌-◌, ◌≤◌, ◌<◌}
use native.Mathlib.Omega.{arith}
use native.Mathlib.Numerals.{add-one}
use mathlib.Core.Path.{◌≡◌, refl, sym, ap, ◌∙◌, subst}
use mathlib.Core.List.{List, ◌++◌}
use lib.ListN.{length, get_or, length-append}
use Rattle.definitions.specs.Words.Expression.{Expr, Exprs, cons}
use Rattle.definitions.specs.Bytes.Encode.{exprs_bytes}
use Rattle.definitions.specs.Bytes.Decode.{index_below}
use Rattle.definitions.specs.Bytes.Printed.{printed}
use Rattle.expression.specs.Nodes.{children_of, Row, OfTree}
use Rattle.expression.specs.Heads.{HeadIs}
use Rattle.expression.specs.declared.heads.Head.{Head}
use Rattle.expression.proofs.Standing.{tree-length, children-stand, first-stands, rest-stands, no-children, some-children, after-head, after-node}
use Rattle.byte_writer.specs.Written.{WroteAt}
use Rattle.byte_writer.specs.Writing.{Room, PutsAt}
use Rattle.byte_writer.proofs.Written.{chain, nothing-wrote}
use Rattle.printing.specs.Marks.{opening_of, before_of, closing_of, PhysicalAt}
use Rattle.printing.specs.Texts.{texts_from, PrintIs, NodePrinted, RowFits, RowPrinted}
use Rattle.printing.specs.declared.texts.Printed.{Printed}
use Rattle.printing.proofs.MarkLaws.{leaf-whole}
use Rattle.printing.proofs.NodeTexts.{node-text}

-- ---- a node

-- The room for a node's text is that for its three parts.
parts : (t : Expr) → length (printed t) ≡ length (opening_of t) + (length (texts_from 0 t (children_of t)) + length (closing_of t))
parts t = ap length (node-text t) ∙ simp length-append

module _ {s : List ℕ} {at w : ℕ} {before : List ℕ} (p : Room (PhysicalAt s at) printed w before) where
  pub opening-room : Room (PhysicalAt s at) opening_of w before
  opening-room = record { it = p.it; stands = p.stands; room = omega (arith, p.room, parts p.it) }

  module _ {first : ℕ} {opened : List ℕ} (put : PutsAt (PhysicalAt s at) opening_of w before opened first)
      (long : length opened ≡ length before) (head : Head) (is : OfTree s at (HeadIs at head)) where
    head_of : {t : Expr} → PhysicalAt s at t → HeadIs at head t
    head_of {t} h = is (index_below h.bound) t h.stands

    pub children-later : at < head.next
    children-later = after-head p.stands.stands head.next (head_of p.stands).next

    row_of : {t : Expr} (h : PhysicalAt s at t) → Row (index_below h.bound) s head.next head.children (children_of t)
    row_of h = children-stand h.stands head.next head.children (head_of h).next (head_of h).children

    -- A column or a literal is written then.
    pub leaf-printed : get_or s at 0 < 2 → NodePrinted s at w before opened (record { read = head.next; wrote = first })
    leaf-printed few t h =
        let whole = leaf-whole few t h in
        record { read = omega (arith, (head_of h).next, tree-length t, whole.1); out = rw whole.0 (put.wrote t h) }

    pub children-fit : RowFits s at head.next head.children 0 first opened
    children-fit = record {
      above = p.it;
      above_at = p.stands;
      bound = p.stands.bound;
      trees = children_of p.it;
      row = row_of p.stands;
      room = omega (arith, p.room, parts p.it, (put.wrote p.it p.stands).ends);
    }

    module _ {r : Printed} {filled : List ℕ} (row : RowPrinted s at head.next head.children 0 first opened filled r)
        (same : length filled ≡ length opened) where
      children-of : {t : Expr} (h : PhysicalAt s at t)
          → PrintIs head.next (length (exprs_bytes (children_of t))) first (texts_from 0 t (children_of t)) opened filled r
      children-of {t} h = row t h h.bound (children_of t) (row_of h)

      pub closing-room : Room (PhysicalAt s at) closing_of r.wrote filled
      closing-room = record {
        it = p.it;
        stands = p.stands;
        room =
            omega (arith, p.room, parts p.it, (put.wrote p.it p.stands).ends, (children-of p.stands).out.ends);
      }

      pub node-printed : {end : ℕ} {after : List ℕ} → PutsAt (PhysicalAt s at) closing_of r.wrote filled after end
          → NodePrinted s at w before after (record { read = r.read; wrote = end })
      node-printed close t h =
          let row = children-of h in
          let open-fits : first ≤ length opened = omega (arith, children-fit.room) in
          record {
            read = omega (arith, row.read, (head_of h).next, tree-length t);
            out = rw (node-text t) (chain (omega (arith, p.room)) (put.wrote t h) (chain open-fits row.out (close.wrote t h)));
          }

-- ---- a row

-- What the loop keeps: what is right for the children left is right for the whole row.
pub record Printing (s : List ℕ) (parent at n w : ℕ) (before : List ℕ) (read wrote position : ℕ) (out : List ℕ) : Type 0 where
  pub there : RowFits s parent read (n - position) position wrote out
  pub below : position ≤ n
  pub low : at ≤ read
  pub same : length out ≡ length before
  pub rest : (after : List ℕ) (r : Printed) → RowPrinted s parent read (n - position) position wrote out after r
      → RowPrinted s parent at n 0 w before after r

module _ {s : List ℕ} {parent at n w : ℕ} {before : List ℕ} where
  pub printing-begins : RowFits s parent at n 0 w before → Printing s parent at n w before at w 0 before
  printing-begins p =
      let all : n ≡ n - 0 = omega arith in
      record {
        there = subst (λ (m : ℕ). RowFits s parent at m 0 w before) all p;
        below = omega arith;
        low = omega arith;
        same = refl;
        rest = λ after r is. subst (λ (m : ℕ). RowPrinted s parent at m 0 w before after r) (sym all) is;
      }

  module _ {read wrote position : ℕ} {out : List ℕ} (inv : Printing s parent at n w before read wrote position out) where
    pub printing-ends : n ≤ position → RowPrinted s parent at n 0 w before out (record { read = read; wrote = wrote })
    unfolding exprs_bytes texts_from
    printing-ends none = inv.rest out (record { read = read; wrote = wrote }) (λ above h bound ts row. no-children
        (λ ts. PrintIs read (length (exprs_bytes ts)) wrote (texts_from position above ts) out out (record { read = read; wrote = wrote }))
        (record { read = omega arith; out = nothing-wrote out wrote }) ts (omega (arith, row.counted)))

    module _ (more : position < n) where
      -- What a first child and its text are, and how much room they have.
      first-child : (P : Type 0) → ((t : Expr) (us : Exprs) → Row (index_below inv.there.bound) s read (n - position) (cons t us)
          → wrote + length (before_of position inv.there.above) + length (printed t)
          + length (texts_from (position + 1) inv.there.above us) ≤ length out → P) → P
      unfolding texts_from
      first-child P f =
          let p = inv.there in
          some-children
          (λ ts. Row (index_below p.bound) s read (n - position) ts → wrote + length (texts_from position p.above ts) ≤ length out → P)
          (λ t us row room. f t us row
          (omega (
            arith,
            room,
            length-append (before_of position p.above) (printed t ++ texts_from (suc position) p.above us),
            length-append (printed t) (texts_from (suc position) p.above us),
            ap (λ (k : ℕ). length (texts_from k p.above us)) (add-one position),
          )))
          p.trees (omega (arith, p.row.counted)) p.row p.room

      pub before-room : Room (PhysicalAt s parent) (before_of position) wrote out
      before-room = first-child (Room (PhysicalAt s parent) (before_of position) wrote out)
          (λ t us row room. record { it = inv.there.above; stands = inv.there.above_at; room = omega (arith, room) })

      module _ {v : ℕ} {middle : List ℕ} (put : PutsAt (PhysicalAt s parent) (before_of position) wrote out middle v)
          (long : length middle ≡ length out) where
        v-is : v ≡ wrote + length (before_of position inv.there.above)
        v-is = (put.wrote inv.there.above inv.there.above_at).ends

        pub child-room : Room (PhysicalAt s read) printed v middle
        child-room = first-child (Room (PhysicalAt s read) printed v middle) (λ t us row room. record {
          it = t;
          stands = record { bound = inv.there.bound; stands = first-stands row };
          room = omega (arith, room, v-is);
        })

        module _ {r : Printed} {after : List ℕ} (one : NodePrinted s read v middle after r) (kept : length after ≡ length middle) where
          -- The children after the first.
          others : {bound : ℕ} {t : Expr} {us : Exprs} → Row (index_below bound) s read (n - position) (cons t us)
              → Row (index_below bound) s r.read (n - (position + 1)) us
          others {bound} {t} row =
              rest-stands row r.read (n - (position + 1)) (one t (record { bound = bound; stands = first-stands row })).read
              (omega arith)

          others-fit : RowFits s parent r.read (n - (position + 1)) (position + 1) r.wrote after
          others-fit = first-child (RowFits s parent r.read (n - (position + 1)) (position + 1) r.wrote after)
              (λ t us row room. record {
                above = inv.there.above;
                above_at = inv.there.above_at;
                bound = inv.there.bound;
                trees = us;
                row = others row;
                room = omega (arith, room, v-is, (one t (record { bound = inv.there.bound; stands = first-stands row })).out.ends);
              })

          others-printed : (last : List ℕ) (q : Printed)
              → RowPrinted s parent r.read (n - (position + 1)) (position + 1) r.wrote after last q
              → RowPrinted s parent read (n - position) position wrote out last q
          unfolding exprs_bytes texts_from
          others-printed last q is above h bound ts row = some-children
              (λ ts. Row (index_below bound) s read (n - position) ts
              → PrintIs read (length (exprs_bytes ts)) wrote (texts_from position above ts) out last q)
              (λ t us row.
              let first = one t (record { bound = bound; stands = first-stands row }) in
              let rest = is above h bound us (others row) in
              let text : WroteAt r.wrote (texts_from (suc position) above us) after last q.wrote = rw add-one at rest.out in
              record {
                read = simp length-append (omega (arith, first.read, rest.read));
                out = chain (omega (arith, before-room.room)) (put.wrote above h)
                    (chain (omega (arith, child-room.room)) first.out text);
              }) ts (omega (arith, row.counted)) row

          pub printing-goes-on : Printing s parent at n w before r.read r.wrote (position + 1) after
          printing-goes-on = record {
            there = others-fit;
            below = omega arith;
            low =
                omega (
                  arith,
                  inv.low,
                  after-node child-room.stands.stands r.read
                      (one child-room.it child-room.stands).read,
                );
            same = kept ∙ long ∙ inv.same;
            rest = λ last q is. inv.rest last q (others-printed last q is);
          }
