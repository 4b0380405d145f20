-- Arity: what each return of the functions about it answers.
use Rattle.std.specs.Prelude.{if◌then◌else◌}
use Prim.Native.Nat.{ℕ, ◌+◌}
use mathlib.Core.Path.{◌≡◌, refl, sym, ap, ◌∙◌, subst}
use mathlib.Core.Bool.{Bool, true, false, ◌&&◌, false≢true}
use mathlib.Core.List.{List, [], ◌∷◌}
use mathlib.Core.Option.{Option}
use lib.ListN.{drop, drop_of_length-le}
use lib.Dec.{leb}
use Rattle.definitions.specs.Words.Basics.{ascii, same_name, all}
use Rattle.definitions.specs.Words.Expression.{Relation, Expr, column, literal, and, binary, call, other, field, Exprs, count}
use Rattle.definitions.specs.Words.Leaves.{no_comparison, comparison, leaves, relation_named, relation_arity, call_arity, distance_arity, distance_arguments, comparison_arity, leaf_arity, arity}
use Rattle.definitions.specs.Bytes.Decode.{Columns}
use Rattle.expression.specs.Places.{part}
use Rattle.expression.specs.Leaves.{CallStands, PlainNode, plain_column, plain_literal, plain_other, plain_field}
use Rattle.expression.specs.declared.leaves.Called.{Called}
use Rattle.node_table.specs.declared.NodeRecord.{NodeRecord as Lent}
use Rattle.filter_tree.specs.Trees.{Noded, TreeNode, OfTreeNode}
use Rattle.filter_tree.specs.Spines.{is_leaf, OfSpine}
use Rattle.filter_tree.proofs.Onwards.{Next, onward-begins, next-of, onward-ends}
use Rattle.sedona_expr.specs.Parsed.{SidesOf, Arguments}
use Rattle.frame_reader.specs.Arities.{Asked, OfAsked}

-- ---- functions and comparisons

module _ {c : Columns} {s : List ℕ} {k : Called} {name : List ℕ} {args : Exprs} (st : CallStands c s k name args) {same : Bool}
    (e : same ≡ same_name (part s k.name k.end) (ascii "st_dwithin")) where
  pub call_needs : (type : Option Relation) → type ≡ relation_named (part s k.name k.end)
      → (if same then leb 3 k.count else relation_arity k.count type) ≡ call_arity name (count args)
  unfolding call_arity
  call_needs type f = rw (e, f, st.spelling, ← st.row.counted)

pub distance-needs : {c : Columns} {s : List ℕ} {first n : ℕ} {q : Option Exprs} → Arguments c s first n q → leb 2 n ≡ distance_arity q
unfolding distance_arity
distance-needs found = rw (found.is, ← found.row.counted)

module _ (operator : ℕ) (l r : Expr) where
  pub not-asked : comparison operator l r ≡ no_comparison → leaf_arity (binary operator l r) ≡ true
  unfolding leaf_arity comparison_arity
  not-asked e = rw e

  pub asked : {P : ℕ → Expr → Type 0} {measured bound : ℕ} (sides : SidesOf P measured bound (comparison operator l r))
      → leaf_arity (binary operator l r) ≡ distance_arity (distance_arguments sides.m)
  unfolding leaf_arity comparison_arity
  asked sides = ap comparison_arity sides.is

pub plain-needs : {t : Expr} → PlainNode t → leaf_arity t ≡ true
unfolding leaf_arity
plain-needs plain_column = refl
plain-needs plain_literal = refl
plain-needs plain_other = refl
plain-needs plain_field = refl

-- An And needs nothing itself.
pub and-needs : (l r : Expr) → leaf_arity (and l r) ≡ true
unfolding leaf_arity
and-needs l r = refl

inner-needs : (t : Expr) → is_leaf t ≡ false → leaf_arity t ≡ true
unfolding is_leaf
inner-needs (and l r) h = and-needs l r
inner-needs (column i g) h = absurd (false≢true (sym h))
inner-needs (literal y v) h = absurd (false≢true (sym h))
inner-needs (binary o l r) h = absurd (false≢true (sym h))
inner-needs (call name ts) h = absurd (false≢true (sym h))
inner-needs (other g ts) h = absurd (false≢true (sym h))
inner-needs (field b g) h = absurd (false≢true (sym h))

-- ---- the loop over the AND-leaves

pub asked-begins : {s : List ℕ} {nodes : List Lent} {i : ℕ} {left : List ℕ} → OfSpine s nodes i left → OfAsked s nodes i left
unfolding arity
asked-begins is c at t stands h = record { position = 0; onward = onward-begins is c at t stands h; rest = refl }

module _ {c : Columns} {s : List ℕ} {nodes : List Lent} {i : ℕ} {left : List ℕ} {t : Expr} (inv : Asked c s nodes i left t) where
  module _ {index : ℕ} {more : List ℕ} (is : left ≡ index ∷ more) where
    next : Next c s nodes i index more inv.position t
    next = next-of inv.onward index more is

    pub asked-node : TreeNode s nodes index
    asked-node =
        subst (λ (k : ℕ). TreeNode s nodes k) next.is (c, next.x.at, next.x.tree, next.reached.stands, next.reached.noded)

    module _ {enough : Bool} (says : OfTreeNode s nodes index (λ t. enough ≡ leaf_arity t)) where
      its : enough ≡ leaf_arity next.x.tree
      its =
          says c next.x.at next.x.tree next.reached.stands
          (subst (λ (k : ℕ). Noded nodes next.x.at k next.x.tree) next.is next.reached.noded)

      leaf-rest : is_leaf next.x.tree ≡ true → arity t ≡ (leaf_arity next.x.tree && all leaf_arity (drop (inv.position + 1) (leaves t)))
      unfolding all
      leaf-rest k = inv.rest ∙ ap (all leaf_arity) (next.first k)

      -- The node lacks an argument.
      pub lacks : enough ≡ false → false ≡ arity t
      lacks none = by (is_leaf next.x.tree) refl
        where
          by : (b : Bool) → is_leaf next.x.tree ≡ b → false ≡ arity t
          by true k = sym (leaf-rest k ∙ rw (sym its ∙ none))
          by false k = absurd (false≢true (sym none ∙ its ∙ inner-needs next.x.tree k))

      -- It has enough, or needs none.
      pub goes-on : enough ≡ true → Asked c s nodes i more t
      goes-on has = by (is_leaf next.x.tree) refl
        where
          by : (b : Bool) → is_leaf next.x.tree ≡ b → Asked c s nodes i more t
          by true k = record {
            position = inv.position + 1;
            onward = next.leaf k;
            rest = leaf-rest k ∙ rw (sym its ∙ has);
          }
          by false k = record { position = inv.position; onward = next.inner k; rest = inv.rest }

  pub all-asked : left ≡ [] → true ≡ arity t
  unfolding all
  all-asked is =
      sym (inv.rest ∙ ap (all leaf_arity) (drop_of_length-le (leaves t) {i = inv.position} (onward-ends inv.onward is)))
