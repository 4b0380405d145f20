-- A loop over the And nodes and AND-leaves: one further, and the end.
use Rattle.std.specs.Prelude.{if◌then◌else◌}
use Prim.Native.Nat.{ℕ, suc, ◌+◌, ◌≤◌, ◌<◌}
use native.Mathlib.Omega.{arith}
use native.Mathlib.Numerals.{add-one}
use mathlib.Core.Path.{◌≡◌, refl, sym, ap, ◌∙◌, subst}
use mathlib.Core.Bool.{Bool, true, false}
use mathlib.Core.List.{List, [], ◌∷◌, map}
use Rattle.std.proofs.Math.Option.{Option, none}
use lib.ListN.{length, drop, length-append, length-drop, length-map}
use lib.Seq.{drop-drop}
use Rattle.definitions.specs.Words.Expression.{Expr, column, literal, and, binary, call, other, field, Predicate}
use Rattle.definitions.specs.Filter.OneWalk.{reached}
use Rattle.definitions.specs.Bytes.Good.{nodes as nodes_in}
use Rattle.definitions.specs.Words.Leaves.{leaves}
use Rattle.definitions.specs.Bytes.Decode.{Columns}
use Rattle.expression.specs.Nodes.{Stands, OfTreeIn}
use Rattle.expression.specs.Leaves.{Both, NodeIs}
use Rattle.expression.specs.declared.leaves.Node.{Node}
use Rattle.expression.specs.declared.leaves.Node.TheVariants.{And}
use Rattle.expression.proofs.AndLeaves.{no-and, single-leaf}
use Rattle.node_table.specs.declared.NodeRecord.{NodeRecord as Lent}
use Rattle.filter_tree.specs.Trees.{Noded}
use Rattle.filter_tree.specs.Spines.{Reach, is_leaf, leaves_among, matches_among, SpineIs, Reached, EachReached, EachLeaf, LeafThere, OfSpine, Onward, OfOnward}
use Rattle.filter_tree.proofs.Scans.{noded-room}

-- ---- how many there are

reached-few : (match : Expr → Option Predicate) (t : Expr) → length (reached match t) ≤ nodes_in t
unfolding reached nodes_in
reached-few match (column i g) = omega arith
reached-few match (literal y v) = omega arith
reached-few match (and l r) = simp length-append (omega (arith, reached-few match l, reached-few match r))
reached-few match (binary o l r) = omega arith
reached-few match (call name ts) = omega arith
reached-few match (other g ts) = omega arith
reached-few match (field b g) = omega arith

matches-long : (match : Expr → Option Predicate) (all : List Reach) → length (matches_among match all) ≡ length all
unfolding matches_among
matches-long match [] = refl
matches-long match (x ∷ all) = ap suc (matches-long match all)

-- No more than there are records.
pub spine-few : {c : Columns} {s : List ℕ} {nodes : List Lent} {at i : ℕ} {left : List ℕ} {t : Expr} → SpineIs c s nodes i left t
    → Noded nodes at i t → i + length left ≤ length nodes
spine-few {t = t} is h =
    let match : Expr → Option Predicate = λ t. none in
    omega (
      arith,
      ap length is.indexes,
      length-map is.all (λ x. x.index),
      ap length (is.walk match),
      matches-long match is.all,
      reached-few match t,
      noded-room h,
    )

-- ---- one further

pub onward-begins : {s : List ℕ} {nodes : List Lent} {i : ℕ} {left : List ℕ} → OfSpine s nodes i left → OfOnward s nodes i left 0
onward-begins is c at t stands h =
    let here = is c at t stands h in
    record { all = here.all; indexes = here.indexes; leaves = here.leaves; each = here.each; spots = here.spots }

-- The next one, and what is then left.
pub record Next (c : Columns) (s : List ℕ) (nodes : List Lent) (i : ℕ) (index : ℕ) (more : List ℕ) (position : ℕ) (t : Expr) : Type 0 where
  pub x : Reach
  pub reached : Reached c s nodes x
  pub is : x.index ≡ index
  pub inner : is_leaf x.tree ≡ false → Onward c s nodes i more position t
  pub leaf : is_leaf x.tree ≡ true → Onward c s nodes i more (position + 1) t
  pub spot : is_leaf x.tree ≡ true → LeafThere t i position index
  pub within : is_leaf x.tree ≡ true → position < length (leaves t)
  pub first : is_leaf x.tree ≡ true → drop position (leaves t) ≡ x.tree ∷ drop (position + 1) (leaves t)

one-less : (l more : List Expr) (a : Expr) (p : ℕ) → a ∷ more ≡ drop p l → (more ≡ drop (p + 1) l) × (p < length l)
one-less l more a p e = (
  ap (drop 1) e ∙ drop-drop 1 p l,
  omega (arith, ap length e, length-drop p l),
)

pub among-inner : (x : Reach) (all : List Reach) {l : List Expr} → is_leaf x.tree ≡ false → leaves_among (x ∷ all) ≡ l
    → leaves_among all ≡ l
unfolding leaves_among
among-inner x all k e = rw k at e

pub among-leaf : (x : Reach) (all : List Reach) {l : List Expr} → is_leaf x.tree ≡ true → leaves_among (x ∷ all) ≡ l
    → x.tree ∷ leaves_among all ≡ l
unfolding leaves_among
among-leaf x all k e = rw k at e

module _ {c : Columns} {s : List ℕ} {nodes : List Lent} {i : ℕ} {left : List ℕ} {position : ℕ} {t : Expr} where
  pub next-of : Onward c s nodes i left position t → (index : ℕ) (more : List ℕ) → left ≡ index ∷ more
      → Next c s nodes i index more position t
  next-of inv index more is = go inv.all (sym inv.indexes ∙ is) inv.leaves inv.each inv.spots
    where
      go : (all : List Reach) → map (λ x. x.index) all ≡ index ∷ more → leaves_among all ≡ drop position (leaves t)
          → EachReached c s nodes all → EachLeaf (LeafThere t i) position all → Next c s nodes i index more position t
      go [] e f g h = absurd (omega (arith, ap length e))
      go (x ∷ all) e f g h =
          let first : x.index ≡ index = cc in
          let rest : map (λ x. x.index) all ≡ more = cc in
          record {
            x = x;
            reached = g.0;
            is = first;
            inner = λ k. record {
              all = all;
              indexes = sym rest;
              leaves = among-inner x all k f;
              each = g.1;
              spots = subst (λ (b : Bool). EachLeaf (LeafThere t i) (if b then suc position else position) all) k h.1;
            };
            leaf = λ k. record {
              all = all;
              indexes = sym rest;
              leaves = (one-less (leaves t) (leaves_among all) x.tree position (among-leaf x all k f)).0;
              each = g.1;
              spots = subst (λ (p : ℕ). EachLeaf (LeafThere t i) p all) (sym (add-one position))
                  (subst (λ (b : Bool). EachLeaf (LeafThere t i) (if b then suc position else position) all) k h.1);
            };
            spot = λ k. subst (LeafThere t i position) first (h.0 k);
            within = λ k. (one-less (leaves t) (leaves_among all) x.tree position (among-leaf x all k f)).1;
            first = λ k.
                let now = among-leaf x all k f in
                sym now ∙ ap {B = List Expr} (λ l. x.tree ∷ l) (one-less (leaves t) (leaves_among all) x.tree position now).0;
          }

nothing : (l : List Expr) (p : ℕ) → leaves_among [] ≡ drop p l → length (drop p l) ≡ 0
unfolding leaves_among
nothing l p f = sym (ap length f)

-- None is left: all leaves were passed.
pub onward-ends : {c : Columns} {s : List ℕ} {nodes : List Lent} {i : ℕ} {left : List ℕ} {position : ℕ} {t : Expr}
    → Onward c s nodes i left position t → left ≡ [] → length (leaves t) ≤ position
onward-ends {position = position} {t = t} inv is = go inv.all (sym inv.indexes ∙ is) inv.leaves
  where
    go : (all : List Reach) → map (λ x. x.index) all ≡ [] → leaves_among all ≡ drop position (leaves t) → length (leaves t) ≤ position
    go (x ∷ all) e f = absurd (omega (arith, ap length e))
    go [] e f = omega (arith, nothing (leaves t) position f, length-drop position (leaves t))

-- What is found of the node tells whether it is an And.
pub found-and : {c : Columns} {s : List ℕ} {at first : ℕ} {t : Expr} → Both and c s at first t → is_leaf t ≡ false
unfolding is_leaf
found-and b = ap is_leaf b.is

pub single-is-leaf : (t : Expr) → leaves t ≡ t ∷ [] → is_leaf t ≡ true
unfolding is_leaf
single-is-leaf (and l r) e = absurd (no-and l r e)
single-is-leaf (column i g) e = refl
single-is-leaf (literal y v) e = refl
single-is-leaf (binary o l r) e = refl
single-is-leaf (call name ts) e = refl
single-is-leaf (other g ts) e = refl
single-is-leaf (field b g) e = refl

pub found-leaf : {c : Columns} {s : List ℕ} {at : ℕ} {t : Expr} (node : Node) → OfTreeIn s at (λ c t. NodeIs c s at node t)
    → Stands c s at t
    → ((first : ℕ) → node ≡ And first → ⊥) → is_leaf t ≡ true
found-leaf {t = t} node is stands never = single-is-leaf t (single-leaf node is stands never)
