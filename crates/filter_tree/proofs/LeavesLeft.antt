-- A loop over And nodes and AND-leaves, by the leaves that it has passed: the leaves among the nodes that are left come after them.
use Prim.Native.Nat.{ℕ, ◌<◌}
use native.Mathlib.Omega.{arith}
use mathlib.Core.Path.{◌≡◌, sym, ap, ◌∙◌}
use mathlib.Core.Bool.{true, false}
use mathlib.Core.List.{List, [], ◌∷◌, ◌++◌, map, append_assoc, append-nil}
use lib.ListN.{length, length-append}
use Rattle.definitions.specs.Words.Expression.{Expr}
use Rattle.definitions.specs.Words.Leaves.{leaves}
use Rattle.definitions.specs.Bytes.Decode.{Columns}
use Rattle.node_table.specs.declared.NodeRecord.{NodeRecord as Lent}
use Rattle.filter_tree.specs.Spines.{Reach, is_leaf, leaves_among, Reached, EachReached, SpineIs}

-- These indexes are left, and these leaves were passed.
pub record LeavesLeft (c : Columns) (s : List ℕ) (nodes : List Lent) (left : List ℕ) (seen : List Expr) (whole : Expr) : Type 0 where
  pub all : List Reach
  pub indexes : left ≡ map (λ x. x.index) all
  pub each : EachReached c s nodes all
  pub leaves : seen ++ leaves_among all ≡ leaves whole

-- The first of them, and what is then left.
pub record FirstLeft (c : Columns) (s : List ℕ) (nodes : List Lent) (index : ℕ) (more : List ℕ) (seen : List Expr)
    (whole : Expr) : Type 0 where
  pub at : ℕ
  pub tree : Expr
  pub reached : Reached c s nodes (record { index = index; at = at; tree = tree })
  pub inner : is_leaf tree ≡ false → LeavesLeft c s nodes more seen whole
  pub leaf : is_leaf tree ≡ true → LeavesLeft c s nodes more (seen ++ (tree ∷ [])) whole
  pub within : is_leaf tree ≡ true → length seen < length (leaves whole)

module _ {c : Columns} {s : List ℕ} {nodes : List Lent} {left : List ℕ} {whole : Expr} where
  pub left-begins : {i : ℕ} → SpineIs c s nodes i left whole → LeavesLeft c s nodes left [] whole
  left-begins is = record { all = is.all; indexes = is.indexes; each = is.each; leaves = is.leaves }

  module _ {seen : List Expr} (inv : LeavesLeft c s nodes left seen whole) where
    pub left-first : {index : ℕ} {more : List ℕ} → left ≡ index ∷ more → FirstLeft c s nodes index more seen whole
    unfolding leaves_among
    left-first {index} {more} is = go inv.all (sym inv.indexes ∙ is) inv.each inv.leaves
      where
        go : (all : List Reach) → map (λ x. x.index) all ≡ index ∷ more → EachReached c s nodes all
            → seen ++ leaves_among all ≡ leaves whole → FirstLeft c s nodes index more seen whole
        go [] e each ends = absurd (omega (arith, ap length e))
        go (x ∷ all) e each ends =
            let first : x.index ≡ index = cc in
            let rest : map (λ x. x.index) all ≡ more = cc in
            let taken : is_leaf x.tree ≡ true → seen ++ (x.tree ∷ leaves_among all) ≡ leaves whole = λ k. rw k at ends in
            record {
              at = x.at;
              tree = x.tree;
              reached = record { stands = each.0.stands; noded = rw first at each.0.noded };
              inner = λ k. record { all = all; indexes = sym rest; each = each.1; leaves = rw k at ends };
              leaf = λ k. record {
                all = all;
                indexes = sym rest;
                each = each.1;
                leaves = append_assoc seen (x.tree ∷ []) (leaves_among all) ∙ taken k;
              };
              within = λ k. omega (arith, ap length (taken k), length-append seen (x.tree ∷ leaves_among all));
            }

    pub left-ends : left ≡ [] → seen ≡ leaves whole
    unfolding leaves_among
    left-ends is = go inv.all (sym inv.indexes ∙ is) inv.leaves
      where
        go : (all : List Reach) → map (λ x. x.index) all ≡ [] → seen ++ leaves_among all ≡ leaves whole → seen ≡ leaves whole
        go (x ∷ all) e ends = absurd (omega (arith, ap length e))
        go [] e ends = sym (append-nil seen) ∙ ends
