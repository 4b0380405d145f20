-- Where expressions end: what the loop of `end_children` keeps, one expression as a row of one, and one cut where
-- it ends.
use Prim.Native.Nat.{ℕ, ◌+◌, ◌-◌, ◌≤◌, ◌<◌}
use native.Mathlib.Omega.{arith}
use mathlib.Core.Path.{◌≡◌, refl, sym, ap, ◌∙◌}
use mathlib.Core.List.{List, [], append-nil}
use lib.ListN.{length, take, drop, length-append}
use lib.Seq.{length-take-le, take_at}
use Rattle.std.proofs.lemmas.List.{drop-take}
use Rattle.definitions.specs.Words.Expression.{Expr, Exprs, nil, cons}
use Rattle.definitions.specs.Bytes.Encode.{expr_bytes, exprs_bytes}
use Rattle.definitions.specs.Bytes.Decode.{Columns}
use Rattle.expression.specs.Nodes.{children_of, Stands, Row, Tree, OfTree, Trees, OfTrees}
use Rattle.expression.specs.Heads.{HeadIs}
use Rattle.expression.specs.declared.heads.Head.{Head}
use Rattle.expression.proofs.Placed.{fits}
use Rattle.expression.proofs.Standing.{tree-length, first-stands, one-row, no-children, some-children, after-head}
use Rattle.expression.proofs.OneTree.{of-trees}
use Rattle.expression.proofs.InOrder.{and_then, then-bytes, opened-row, as-few}

-- What the loop keeps: so many expressions are left, which end where all do.
pub record Ending (c : Columns) (s : List ℕ) (end next left : ℕ) : Type 0 where
  pub trees : Exprs
  pub row : Row c s next left trees
  pub ends : end ≡ next + length (exprs_bytes trees)

module _ {c : Columns} {s : List ℕ} {end next left : ℕ} (inv : Ending c s end next left) where
  pub ending-ends : left ≤ 0 → next ≡ end
  unfolding exprs_bytes
  ending-ends none = no-children (λ ts. end ≡ next + length (exprs_bytes ts) → next ≡ end) (λ e. omega (arith, e)) inv.trees
      (omega (arith, inv.row.counted)) inv.ends

  module _ (some : 0 < left) where
    pub ending-tree : Tree s next
    ending-tree = some-children (λ ts. Row c s next left ts → Tree s next) (λ t ts w. (c, t, first-stands w)) inv.trees
        (omega (arith, inv.row.counted)) inv.row

    module _ (head : Head) (is : OfTree s next (HeadIs next head)) where
      pub ending-later : next < head.next
      ending-later =
          let there = ending-tree in
          after-head there.2 head.next (is there.0 there.1 there.2).next

      pub ending-passed : Ending c s end head.next (left - 1 + head.children)
      unfolding exprs_bytes
      ending-passed = some-children
          (λ ts. Row c s next left ts → end ≡ next + length (exprs_bytes ts) → Ending c s end head.next (left - 1 + head.children))
          (λ t ts w e.
          let h = is c t (first-stands w) in
          record {
            trees = and_then (children_of t) ts;
            row = opened-row w head.next (left - 1 + head.children) h.next (omega (arith, h.children));
            ends = omega (
              arith,
              e,
              h.next,
              tree-length t,
              length-append (expr_bytes t) (exprs_bytes ts),
              ap length (then-bytes (children_of t) ts),
              length-append (exprs_bytes (children_of t)) (exprs_bytes ts),
            );
          }) inv.trees (omega (arith, inv.row.counted)) inv.row inv.ends

      -- They are no more than the bytes.
      pub ending-few : left - 1 + head.children ≤ length s
      ending-few =
          let on = ending-passed in
          omega (arith, on.row.counted, as-few on.trees, fits on.row.bytes)

module _ {s : List ℕ} {at : ℕ} where
  pub ending-begins : {n : ℕ} (p : Trees s at n) → Ending p.0 s (at + length (exprs_bytes p.1)) at n
  ending-begins p = record { trees = p.1; row = p.2; ends = refl }

  pub all-end : {n r : ℕ} (p : Trees s at n) → r ≡ at + length (exprs_bytes p.1) → OfTrees s at n (λ ts. r ≡ at + length (exprs_bytes ts))
  all-end {n} {r} p is = of-trees (λ ts. r ≡ at + length (exprs_bytes ts)) p.2 is

  -- One expression is a row of one.
  pub one-there : Tree s at → Trees s at 1
  one-there p = (p.0, cons p.1 nil, one-row p.2)

  pub one-ends : {r : ℕ} → OfTrees s at 1 (λ ts. r ≡ at + length (exprs_bytes ts)) → OfTree s at (λ t. r ≡ at + length (expr_bytes t))
  unfolding exprs_bytes
  one-ends is c t h = is c (cons t nil) (one-row h) ∙ ap (λ (l : List ℕ). at + length l) (append-nil (expr_bytes t))

-- An expression stands in the bytes up to its end alone.
module _ {c : Columns} {s : List ℕ} {at end : ℕ} {t : Expr} (h : Stands c s at t) (is : end ≡ at + length (expr_bytes t)) where
  pub length-cut : length (take end s) ≡ at + length (expr_bytes t)
  length-cut = length-take-le end s (omega (arith, is, fits h.bytes)) ∙ is

  pub cut-stands : Stands c (take end s) at t
  cut-stands = record {
    bytes = record {
      rest = [];
      bytes = ap (λ (k : ℕ). drop at (take k s)) is ∙ drop-take at (length (expr_bytes t)) s
          ∙ ap (take (length (expr_bytes t))) h.bytes.bytes ∙ take_at (expr_bytes t) h.bytes.rest (length (expr_bytes t)) refl
          ∙ sym (append-nil (expr_bytes t));
      within = omega (arith, length-cut);
    };
    in_range = h.in_range;
  }
