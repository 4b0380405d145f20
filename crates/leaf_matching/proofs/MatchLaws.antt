-- Laws of matching: two geometries of a function, and requests that ask for no predicate of a kind.
use Prim.Native.Nat.{ℕ, ◌+◌, ◌-◌, ◌≤◌}
use native.Mathlib.Omega.{arith}
use mathlib.Core.Path.{◌≡◌, refl, sym, ap, ◌∙◌, subst}
use mathlib.Core.Bool.{Bool}
use mathlib.Core.List.{List}
use lib.ListN.{length}
use Rattle.definitions.specs.Words.Basics.{same_name}
use Rattle.definitions.specs.Words.Expression.{Expr, Exprs, cons, Record}
use Rattle.definitions.specs.Bytes.Encode.{expr_bytes}
use Rattle.definitions.specs.Bytes.Decode.{index_below}
use Rattle.definitions.specs.Filter.Match.{side_of, order_of}
use Rattle.expression.specs.Places.{part}
use Rattle.expression.specs.Nodes.{Row, Trees}
use Rattle.expression.specs.declared.leaves.Called.{Called}
use Rattle.leaf_matching.specs.Frames.{Over, OverAll, OverTwo, ArguedTwo, OfArgumentTwo, CallOver, CallFramed}
use Rattle.leaf_matching.specs.Sides.{order, GeometriesAre}
use Rattle.sedona_query_planner.specs.Predicates.{on_children, ArgumentAt}
use Rattle.leaf_matching.specs.declared.sides.Geometries.{Geometries}
use Rattle.leaf_matching.proofs.Framing.{first-over, rest_over}
use Rattle.expression.specs.Leaves.{OfCall}
use Rattle.node_table.specs.declared.NodeRecord.{NodeRecord as Lent}
use Rattle.filter_tree.specs.Trees.{NodedAll}
use Rattle.expression.proofs.Standing.{two-of}

-- ---- the first two arguments of a function

-- The two geometries, how they lie, and what follows them.
pub record Pair (s : List ℕ) (rec at n : ℕ) (records : List Record) (g : Geometries) (arguments : Exprs) : Type 0 where
  pub a : Expr
  pub b : Expr
  pub more : Exprs
  pub is : arguments ≡ cons a (cons b more)
  pub first : ArgumentAt (on_children records) s at g.second a
  pub second : ArgumentAt (on_children records) s g.second g.end b
  pub lie : order g.order ≡ order_of (side_of records a) (side_of records b)
  pub rest : Row (index_below (length records)) s g.end (n - 2) more

module _ {s : List ℕ} {rec at n : ℕ} {records : List Record} where
  two-over : {a b : Expr} {ts : Exprs} → 2 ≤ n → OverAll s rec at n records (cons a (cons b ts)) → OverTwo s rec at records a b
  two-over {a} h o = record { one = first-over o; two = first-over (rest_over o (at + length (expr_bytes a)) (n - 1) refl (omega arith)) }

arguments-over : {s : List ℕ} {rec : ℕ} {k : Called} {records : List Record} {name : List ℕ} {arguments : Exprs}
    → CallOver s rec k records name arguments → OverAll s rec k.first k.count records arguments
arguments-over o = record { entries = o.entries; row = o.stands.row }

module _ {s : List ℕ} {rec : ℕ} {k : Called} {nodes : List Lent} {i : ℕ} (noded : OfCall s k (λ c name. NodedAll nodes k.first i))
    (h : 2 ≤ k.count) where
  pub pair-argued : CallFramed s rec k → ArguedTwo s rec nodes i
  pair-argued p = two-of (λ ts. OverAll s rec k.first k.count p.0 ts → NodedAll nodes k.first i ts → ArguedTwo s rec nodes i)
      (λ a b more o held. (p.0, k.first, a, b, two-over h o, (more, held)))
      p.2 (omega (arith, p.3.stands.row.counted)) (arguments-over p.3) (noded _ p.1 p.2 p.3.stands)

  module _ (g : Geometries) (is : OfArgumentTwo s rec nodes i (λ at. GeometriesAre at g)) where
    pub call-pair : {records : List Record} {name : List ℕ} (arguments : Exprs) → CallOver s rec k records name arguments
        → Pair s rec k.first k.count records g arguments
    call-pair {records} {name} arguments over = two-of
        (λ ts. OverAll s rec k.first k.count records ts → NodedAll nodes k.first i ts → Pair s rec k.first k.count records g ts)
        (λ a b more o held.
        let two : OverTwo s rec k.first records a b = two-over h o in
        let lie : GeometriesAre k.first g records a b = is records k.first a b two (more, held) in
        record {
          a = a;
          b = b;
          more = more;
          is = refl;
          first = record { stands = two.one.tree; ends = lie.second };
          second = record { stands = (subst (λ (p : ℕ). Over s rec p records b) (sym lie.second) two.two).tree; ends = lie.end };
          lie = lie.order;
          rest = (rest_over (rest_over o g.second (k.count - 1) lie.second (omega arith)) g.end (k.count - 2) lie.end (omega arith)).row;
        })
        arguments (omega (arith, over.stands.row.counted)) (arguments-over over) (noded _ name arguments over.stands)

    -- What follows them.
    pub rest-trees : CallFramed s rec k → Trees s g.end (k.count - 2)
    rest-trees p =
        let pair : Pair s rec k.first k.count p.0 g p.2 = call-pair p.2 p.3 in
        (index_below (length p.0), pair.more, pair.rest)

module _ {s : List ℕ} {rec : ℕ} {k : Called} where
  -- The name that was compared is the function's.
  pub named : {records : List Record} {name : List ℕ} {arguments : Exprs} → CallOver s rec k records name arguments
      → (same : Bool) (x : List ℕ)
      → same ≡ same_name (part s k.name k.end) x → same_name name x ≡ same
  named o same x e = ap (λ (n : List ℕ). same_name n x) (sym o.stands.spelling) ∙ sym e
