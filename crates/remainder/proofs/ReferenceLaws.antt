-- What the loop of `collect_column_references` keeps: marking the columns of the nodes that are left makes of the flags what they will be.
use Prim.Native.Nat.{ℕ, ◌+◌, ◌≤◌, ◌<◌}
use native.Mathlib.Omega.{arith}
use mathlib.Core.Path.{◌≡◌, refl, sym, ap, ◌∙◌, subst}
use mathlib.Core.List.{List, ◌++◌, append-nil, append_assoc}
use lib.ListN.{length, get_or, set, length-set}
use Rattle.definitions.specs.Words.Basics.{big_endian}
use Rattle.definitions.specs.Words.Expression.{Expr, column, Exprs, nil, cons}
use Rattle.definitions.specs.Bytes.Decode.{index_below}
use Rattle.definitions.specs.Words.References.{columns_of, columns_of_all}
use Rattle.expression.specs.Places.{short_at}
use Rattle.expression.specs.Nodes.{head_bytes, children_of, Stands, Tree, OfTree}
use Rattle.expression.specs.Heads.{HeadIs}
use Rattle.expression.specs.declared.heads.Head.{Head}
use Rattle.expression.proofs.OfKind.{no-own-columns}
use Rattle.expression.proofs.Placed.{fits}
use Rattle.expression.proofs.Standing.{kind-is, after-head}
use Rattle.expression.proofs.OneTree.{of_tree}
use Rattle.expression.proofs.InOrder.{and_then, UpTo, alone, first-up-to, opened, none-up-to, some-up-to}
use Rattle.plan_writer.proofs.Fields.{column-is, column-size}
use Rattle.remainder.specs.References.{marked, Flagged, Collected}

columns-then : (ts us : Exprs) → columns_of_all (and_then ts us) ≡ columns_of_all ts ++ columns_of_all us
unfolding and_then columns_of_all
columns-then nil us = refl
columns-then (cons t ts) us = rw (columns-then ts us) (sym (append_assoc (columns_of t) (columns_of_all ts) (columns_of_all us)))

-- The nodes that are left, with a flag for each of `bound` columns; x is what the flags will be.
pub record Collecting (s : List ℕ) (end bound : ℕ) (x : List ℕ) (next : ℕ) (used : List ℕ) : Type 0 where
  pub trees : Exprs
  pub left : UpTo (index_below bound) s next end trees
  pub same : length used ≡ bound
  pub whole : x ≡ marked (columns_of_all trees) used

module _ {s : List ℕ} {at end : ℕ} where
  pub collecting-begins : {before : List ℕ} (p : Flagged s at end before)
      → Collecting s end (length before) (marked (columns_of p.0) before) at before
  unfolding columns_of_all
  collecting-begins {before} p = record {
    trees = cons p.0 nil;
    left = alone p.1;
    same = refl;
    whole = ap (λ (l : List ℕ). marked l before) (sym (append-nil (columns_of p.0)));
  }

  pub all-collected : (before : List ℕ) {after : List ℕ} (p : Flagged s at end before) → after ≡ marked (columns_of p.0) before
      → Collected s at end before after
  all-collected before {after} p is t h =
      of_tree (λ t. after ≡ marked (columns_of t) before) p.1.stands is (index_below (length before)) t h.stands

module _ {s : List ℕ} {end bound : ℕ} {x : List ℕ} {next : ℕ} {used : List ℕ} (inv : Collecting s end bound x next used) where
  pub collecting-ends : end ≤ next → used ≡ x
  unfolding columns_of_all marked
  collecting-ends past = none-up-to (λ ts. x ≡ marked (columns_of_all ts) used → used ≡ x) (λ e. sym e) past inv.trees inv.left inv.whole

  module _ (more : next < end) where
    pub collecting-tree : (t : Expr) × Stands (index_below bound) s next t
    collecting-tree =
        some-up-to (λ ts. (t : Expr) × Stands (index_below bound) s next t) (λ t us h. (t, first-up-to h)) more inv.trees inv.left

    pub tree-there : Tree s next
    tree-there = (index_below bound, collecting-tree.0, collecting-tree.1)

    -- A column: its bytes lie within s, and it has a flag.
    module _ (zero : get_or s next 0 ≡ 0) where
      abbrev index : ℕ
      index = short_at s (next + 1)

      pub column-flag : (next + 5 ≤ length s) × (index < length used)
      column-flag =
          let own = column-is collecting-tree.1 zero in
          (omega (arith, fits own.bytes, column-size index (short_at s (next + 3))), omega (arith, own.below, inv.same))

      passed : (i g : ℕ) (us : Exprs) → i ≡ index → UpTo (index_below bound) s next end (cons (column i g) us)
          → x ≡ marked (columns_of_all (cons (column i g) us)) used → Collecting s end bound x (next + 5) (set used index 1)
      unfolding columns_of columns_of_all marked children_of and_then head_bytes big_endian
      passed i g us is h e = record {
        trees = us;
        left = opened h (next + 5) refl;
        same = simp length-set inv.same;
        whole = e ∙ ap (λ (j : ℕ). marked (columns_of_all us) (set used j 1)) is;
      }

      pub column-passed : Collecting s end bound x (next + 5) (set used index 1)
      column-passed = some-up-to (λ ts. x ≡ marked (columns_of_all ts) used → Collecting s end bound x (next + 5) (set used index 1))
          (λ t us h. subst (λ (t : Expr). UpTo (index_below bound) s next end (cons t us) → x ≡ marked (columns_of_all (cons t us)) used
          → Collecting s end bound x (next + 5) (set used index 1))
          (sym (column-is (first-up-to h) zero).tree) (passed index (short_at s (next + 3)) us refl) h)
          more inv.trees inv.left inv.whole

    -- Any other node: its head is passed.
    module _ (some : get_or s next 0 ≡ 0 → ⊥) (head : Head) (is : OfTree s next (HeadIs next head)) where
      pub head-later : next < head.next
      head-later = after-head collecting-tree.1 head.next (is (index_below bound) collecting-tree.0 collecting-tree.1).next

      opening : (t : Expr) (us : Exprs) → UpTo (index_below bound) s next end (cons t us) → x ≡ marked (columns_of_all (cons t us)) used
          → Collecting s end bound x head.next used
      unfolding columns_of_all
      opening t us h e = record {
        trees = and_then (children_of t) us;
        left = opened h head.next (is (index_below bound) t (first-up-to h)).next;
        same = inv.same;
        whole =
            e ∙ ap (λ (l : List ℕ). marked l used)
            (ap (λ (l : List ℕ). l ++ columns_of_all us) (no-own-columns t (λ k. some (sym (kind-is (first-up-to h)) ∙ k)))
            ∙ sym (columns-then (children_of t) us));
      }

      pub head-passed : Collecting s end bound x head.next used
      head-passed = some-up-to (λ ts. x ≡ marked (columns_of_all ts) used → Collecting s end bound x head.next used) opening more inv.trees
          inv.left inv.whole
