-- The loop of `text_size`: nodes in prefix order, the characters of those passed and those of what still stands.
use Prim.Native.Nat.{ℕ, ◌+◌, ◌≤◌, ◌<◌}
use native.Mathlib.Omega.{arith}
use mathlib.Core.Path.{◌≡◌, refl, sym, ap, ◌∙◌}
use mathlib.Core.List.{List, ◌++◌, append_assoc}
use lib.ListN.{length, drop, length-append, length-drop}
use lib.Seq.{drop-drop, drop-append_seam}
use Rattle.definitions.specs.Words.Expression.{Expr, Exprs, nil, cons}
use Rattle.definitions.specs.Bytes.Encode.{exprs_bytes}
use Rattle.definitions.specs.Bytes.Decode.{index_below}
use Rattle.definitions.specs.Bytes.Printed.{printed}
use Rattle.expression.specs.Nodes.{head_bytes, children_of, Tree, OfTree}
use Rattle.expression.specs.Heads.{HeadIs}
use Rattle.expression.specs.declared.heads.Head.{Head}
use Rattle.expression.proofs.Standing.{head-children, children-in-range, node-some, after-head}
use Rattle.expression.proofs.InOrder.{and_then, then-bytes, then-in-range}
use Rattle.printing.specs.Marks.{own_size, PhysicalAt, PhysicalWith, OfPhysicalWith}
use Rattle.printing.specs.Texts.{RowToEnd, TextThere, OfText}
use Rattle.printing.proofs.NodeTexts.{sizes, node-size}

-- ---- several expressions and then others

then-sizes : (ts us : Exprs) → sizes (and_then ts us) ≡ sizes ts + sizes us
unfolding and_then sizes
then-sizes nil us = omega arith
then-sizes (cons t ts) us = omega (arith, then-sizes ts us)

-- ---- the first of a row that goes to the end

module _ {s : List ℕ} {at bound : ℕ} where
  pub first-at : {t : Expr} {ts : Exprs} → RowToEnd s at bound (cons t ts) → PhysicalAt s at t
  unfolding exprs_bytes
  first-at {t} {ts} row = record {
    bound = bound;
    stands = record {
      bytes = record { rest = exprs_bytes ts; bytes = row.bytes; within = row.within };
      in_range = row.in_range.0;
    };
  }

  -- After its head come its children, and then the others.
  pub opened : {t : Expr} {ts : Exprs} → RowToEnd s at bound (cons t ts) → (p : ℕ) → p ≡ at + length (head_bytes t)
      → RowToEnd s p bound (and_then (children_of t) ts)
  unfolding exprs_bytes
  opened {t} {ts} row p e =
      let h : List ℕ = head_bytes t in
      let rest : List ℕ = exprs_bytes (children_of t) ++ exprs_bytes ts in
      let whole : drop at s ≡ h ++ rest =
      row.bytes ∙ ap (λ (l : List ℕ). l ++ exprs_bytes ts) (head-children t)
      ∙ append_assoc h (exprs_bytes (children_of t)) (exprs_bytes ts) in
      let long : length s ≡ at + length h + length rest =
      omega (arith, row.within, length-drop at s, ap length whole, length-append h rest) in
      record {
        bytes = ap (λ (k : ℕ). drop k s) e ∙ sym (drop-drop (length h) at s) ∙ ap (drop (length h)) whole ∙ drop-append_seam h rest
            ∙ sym (then-bytes (children_of t) ts);
        in_range =
            then-in-range (index_below bound) (children_of t) ts (children-in-range (index_below bound) t row.in_range.0) row.in_range.1;
        within = omega (arith, long);
      }

-- Such a row is empty exactly at the end.
none-left : {s : List ℕ} {at bound : ℕ} (ts : Exprs) → RowToEnd s at bound ts → length s ≤ at → sizes ts ≡ 0
unfolding sizes
none-left nil row end = refl
none-left (cons t ts) row end = absurd (omega (arith, node-some (first-at row).stands))

some_left : {s : List ℕ} {at bound : ℕ} (P : Exprs → Type 0) → at < length s → ((t : Expr) (us : Exprs) → P (cons t us))
    → (ts : Exprs) → RowToEnd s at bound ts → P ts
unfolding exprs_bytes
some_left {s} {at} P more f nil row = absurd (omega (arith, length-drop at s, ap length row.bytes))
some_left P more f (cons t ts) row = f t ts

-- ---- what the loop keeps

-- What stands from a place up to the end, and its characters with those that were counted.
pub record Left (s : List ℕ) (next size : ℕ) : Type 0 where
  pub bound : ℕ
  pub trees : Exprs
  pub row : RowToEnd s next bound trees
  pub few : size + sizes trees ≤ 26620

-- What is right for what is left is right for the whole.
pub record Sizing (s : List ℕ) (at next size : ℕ) : Type 0 where
  pub there : Left s next size
  pub rest : (r : ℕ) → ((bound : ℕ) (ts : Exprs) → RowToEnd s next bound ts → r ≡ size + sizes ts)
      → OfText s at (λ t. r ≡ length (printed t))

pub sizing-begins : {s : List ℕ} {at : ℕ} → TextThere s at → Sizing s at at 0
unfolding sizes
sizing-begins p = record {
  there = record { bound = p.1.bound; trees = cons p.0 nil; row = p.1.row; few = omega (arith, p.2) };
  rest = λ r is t h. omega (arith, is h.bound (cons t nil) h.row);
}

module _ {s : List ℕ} {at next size : ℕ} (inv : Sizing s at next size) where
  pub sizing-ends : length s ≤ next → OfText s at (λ t. size ≡ length (printed t))
  sizing-ends end = inv.rest size (λ bound ts row. omega (arith, none-left ts row end))

  module _ (more : next < length s) where
    -- A node stands there.
    pub node-there : (t : Expr) × PhysicalAt s next t
    node-there = some_left (λ ts. RowToEnd s next inv.there.bound ts → (t : Expr) × PhysicalAt s next t) more
        (λ t us row. (t, first-at row)) inv.there.trees inv.there.row inv.there.row

    pub tree-there : Tree s next
    tree-there = (index_below node-there.1.bound, node-there.0, node-there.1.stands)

    module _ (head : Head) (is : OfTree s next (HeadIs next head)) where
      head_of : {t : Expr} → PhysicalAt s next t → HeadIs next head t
      head_of {t} h = is (index_below h.bound) t h.stands

      pub counted : PhysicalWith s next head.children
      counted = (node-there.0, node-there.1, (head_of node-there.1).children)

      pub head-later : next < head.next
      head-later = after-head node-there.1.stands head.next (head_of node-there.1).next

      module _ (own : ℕ) (sized : OfPhysicalWith s next head.children (λ t. own ≡ own_size t)) where
        -- One node on: its own characters are counted, its children come first among what is left.
        node-on : {bound : ℕ} {t : Expr} {us : Exprs} → RowToEnd s next bound (cons t us)
            → RowToEnd s head.next bound (and_then (children_of t) us) × (own + sizes (and_then (children_of t) us) ≡ sizes (cons t us))
        unfolding sizes
        node-on {bound} {t} {us} row =
            let h = head_of (first-at row) in (
              opened row head.next h.next,
              omega (arith, then-sizes (children_of t) us, node-size t, sized t (first-at row) h.children),
            )

        pub sizing-goes-on : Sizing s at head.next (size + own)
        sizing-goes-on = record {
          there = some_left (λ ts. RowToEnd s next inv.there.bound ts → size + sizes ts ≤ 26620 → Left s head.next (size + own)) more
              (λ t us row few.
              let on = node-on row in
              record { bound = inv.there.bound; trees = and_then (children_of t) us; row = on.0; few = omega (arith, on.1) })
              inv.there.trees inv.there.row inv.there.row inv.there.few;
          rest = λ r is. inv.rest r
              (λ bound ts row. some_left (λ ts. RowToEnd s next bound ts → r ≡ size + sizes ts) more
              (λ t us row.
              let on = node-on row in
              omega (arith, on.1, is bound (and_then (children_of t) us) on.0))
              ts row row);
        }

        pub size_small : size + own ≤ 26620
        size_small = omega (arith, sizing-goes-on.there.few)
