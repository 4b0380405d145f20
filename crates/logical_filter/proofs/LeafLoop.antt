-- The loop over And nodes and AND-leaves: the names that it has collected are those of the leaves that were passed.
mod KnnLeaf
use Rattle.std.specs.Prelude.{None, Some, if◌then◌else◌}
use Rattle.std.specs.Int.Bits.{or_zero_r}
use Rattle.std.specs.Prelude as prelude
use Prim.Native.Nat.{ℕ}
use mathlib.Core.Path.{◌≡◌, refl, sym, ap, ◌∙◌, subst}
use mathlib.Core.Bool.{Bool, true, false, false≢true}
use mathlib.Core.List.{List, [], ◌∷◌, ◌++◌, map, map-append, append_assoc, append-nil}
use mathlib.Core.Option.{Option}
use native.Mathlib.Omega.{arith}
use lib.ListN.{length}
use lib.Bits.{bit_or}
use Rattle.definitions.specs.Words.Basics.{any}
use Rattle.definitions.specs.Words.Expression.{Expr, column, literal, and, binary, call, other, field, Exprs}
use Rattle.definitions.specs.Words.Leaves.{leaves}
use Rattle.definitions.specs.Bytes.Decode.{Columns}
use Rattle.definitions.specs.Filter.Names.{spatial_names, leaf_name, mask}
use Rattle.node_table.specs.declared.NodeRecord.{NodeRecord as Lent}
use Rattle.filter_tree.specs.Trees.{TreeNode, OfTreeNode}
use Rattle.filter_tree.specs.Spines.{Reach, is_leaf, leaves_among, Reached, EachReached, SpineIs}
use Rattle.logical_filter.specs.Logicals.{BitIs, known, with_node, CollectedIs}
use Rattle.logical_filter.specs.QuerySides.{first_knn, KnnIs}
use Rattle.logical_filter.specs.declared.predicate_names.CollectedNames.{CollectedNames}
use Rattle.logical_filter.proofs.NameMasks.{mask_append}
use Rattle.logical_filter.proofs.NameWalk.{unnamed}
use Rattle.logical_filter.proofs.QueryWalk.{knn-append}
use Rattle.filter_tree.proofs.LeavesLeft.{LeavesLeft, FirstLeft, left-begins, left-first, left-ends}
use Rattle.logical_filter.proofs.LeafLoop.KnnLeaf.{knn-kept}

-- ---- an And has no bit

and-bit : (t : Expr) → is_leaf t ≡ false → mask spatial_names (leaf_name t ∷ []) ≡ 0
unfolding is_leaf leaf_name
and-bit (and l r) e = sym (unnamed refl)
and-bit (column i g) e = absurd (false≢true (sym e))
and-bit (literal y v) e = absurd (false≢true (sym e))
and-bit (binary o l r) e = absurd (false≢true (sym e))
and-bit (call name ts) e = absurd (false≢true (sym e))
and-bit (other g ts) e = absurd (false≢true (sym e))
and-bit (field b g) e = absurd (false≢true (sym e))

known-before : (knn : prelude.Option ℕ) (i : ℕ) → known knn 0 i ≡ knn
known-before (Some j) i = refl
known-before None i = refl

-- ---- the loop

-- What it keeps: the names that were collected are those of the leaves that were passed.
pub record Collecting (s : List ℕ) (nodes : List Lent) (left : List ℕ) (now : CollectedNames) (whole : Expr) : Type 0 where
  pub columns : Columns
  pub seen : List Expr
  pub to_come : LeavesLeft columns s nodes left seen whole
  pub names : now.mask ≡ mask spatial_names (map leaf_name seen)
  pub knn : KnnIs s nodes now.knn (first_knn seen)

pub collecting-begins : {c : Columns} {s : List ℕ} {nodes : List Lent} {i : ℕ} {left : List ℕ} {t : Expr} → SpineIs c s nodes i left t
    → Collecting s nodes left (record { mask = 0; knn = None }) t
unfolding mask spatial_names any first_knn
collecting-begins {c} is = record { columns = c; seen = []; to_come = left-begins is; names = refl; knn = refl }

module _ {s : List ℕ} {nodes : List Lent} {left : List ℕ} {whole : Expr} {now : CollectedNames}
    (inv : Collecting s nodes left now whole) where
  module _ {index : ℕ} {more : List ℕ} (is : left ≡ index ∷ more) where
    pub collecting-there : TreeNode s nodes index
    collecting-there =
        let first = left-first inv.to_come is in
        (inv.columns, first.at, first.tree, first.reached.stands, first.reached.noded)

    pub collecting-next : (bit : ℕ) → OfTreeNode s nodes index (BitIs bit) → Collecting s nodes more (with_node now bit index) whole
    collecting-next bit told = go (is_leaf first.tree) refl
      where
        first : FirstLeft inv.columns s nodes index more inv.seen whole
        first = left-first inv.to_come is

        own : BitIs bit first.tree
        own = told inv.columns first.at first.tree first.reached.stands first.reached.noded

        go : (b : Bool) → is_leaf first.tree ≡ b → Collecting s nodes more (with_node now bit index) whole
        go false k =
            let zero : bit ≡ 0 = own ∙ and-bit first.tree k in
            record {
              columns = inv.columns;
              seen = inv.seen;
              to_come = first.inner k;
              names = ap (bit_or now.mask) zero ∙ or_zero_r now.mask ∙ inv.names;
              knn = subst (λ (knn : _). KnnIs s nodes knn (first_knn inv.seen))
                  (sym (ap (λ (b : ℕ). known now.knn b index) zero ∙ known-before now.knn index)) inv.knn;
            }
        go true k =
            let name : List ℕ = leaf_name first.tree in
            record {
              columns = inv.columns;
              seen = inv.seen ++ (first.tree ∷ []);
              to_come = first.leaf k;
              names = ap (λ (m : ℕ). bit_or m bit) inv.names ∙ ap (bit_or (mask spatial_names (map leaf_name inv.seen))) own
                  ∙ sym (mask_append spatial_names (map leaf_name inv.seen) (name ∷ []))
                  ∙ ap (mask spatial_names) (sym (map-append leaf_name inv.seen (first.tree ∷ [])));
              knn = subst (λ (b : ℕ). KnnIs s nodes (known now.knn b index) (first_knn (inv.seen ++ (first.tree ∷ [])))) (sym own)
                  (subst (KnnIs s nodes (known now.knn (mask spatial_names (name ∷ [])) index))
                  (sym (knn-append inv.seen (first.tree ∷ [])))
                  (knn-kept first.reached.stands first.reached.noded now.knn (first_knn inv.seen) inv.knn));
            }

  pub all-collected : left ≡ [] → CollectedIs s nodes now whole
  all-collected is =
      let same = left-ends inv.to_come is in
      record {
        names = inv.names ∙ ap (λ (es : List Expr). mask spatial_names (map leaf_name es)) same;
        knn = subst (λ (es : List Expr). KnnIs s nodes now.knn (first_knn es)) same inv.knn;
      }
