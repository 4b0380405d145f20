-- The columns of an argument: what the loop over them keeps, and of two arguments in a row.
use Rattle.std.specs.Prelude.{Option, fold}
use Prim.Native.Nat.{ℕ, ◌+◌, ◌*◌, ◌≤◌}
use mathlib.Core.Path.{◌≡◌, refl, sym, ap, ap₂, ◌∙◌}
use mathlib.Core.List.{List, [], ◌∷◌, map}
use lib.ListN.{length, get_or}
use Rattle.definitions.specs.Words.Expression.{Side, Expr, column, Record}
use Rattle.definitions.specs.Bytes.Encode.{expr_bytes, record_bytes}
use Rattle.definitions.specs.Bytes.Decode.{index_below, side_numbered}
use Rattle.definitions.specs.Bytes.Good.{All, nodes as nodes_in}
use Rattle.definitions.specs.Words.References.{columns_of, record_at}
use Rattle.definitions.specs.Filter.Match.{side_of, order_of}
use Rattle.theorems.proofs.RoundTripPlan.{side-again}
use Rattle.expression.specs.Places.{short_at}
use Rattle.expression.specs.Nodes.{kind_of, Stands}
use Rattle.expression.proofs.Placed.{first}
use Rattle.expression.proofs.Standing.{kind-is}
use Rattle.terms.specs.Sides.{join_side}
use Rattle.terms.specs.declared.sides.JoinSide.{JoinSide}
use Rattle.node_table.specs.declared.NodeRecord.{NodeRecord as Lent}
use Rattle.filter_tree.proofs.Changing.{Changing, change-here, change-goes-on}
use Rattle.filter_tree.specs.Columns.{OfColumns}
use Rattle.filter_tree.specs.Trees.{Node, OfNode, Begin}
use Rattle.filter_tree.proofs.Children.{noded-first, noded-rest}
use Rattle.leaf_matching.specs.Frames.{Over, OverTwo, ArgumentAt, Argued, OfArgument, ArguedTwo, OfArgumentTwo}
use Rattle.leaf_matching.specs.Sides.{argument_side, order, nothing_seen, see, see_all, sides_seen, sides_in, GeometriesAre}
use Rattle.leaf_matching.specs.declared.sides.Sides.{Sides}
use Rattle.leaf_matching.specs.declared.sides.SeenSides.{SeenSides}
use Rattle.leaf_matching.specs.declared.sides.Order.{Order}
use Rattle.leaf_matching.proofs.Framing.{column-is, column_fits, entry-within}
use Rattle.leaf_matching.proofs.SideLaws.{seen_all}

-- ---- the answers

-- The side in a column's record.
pub column-side : {s : List ℕ} {rec at : ℕ} {records : List Record} {t : Expr} → Over s rec at records t → get_or s at 0 ≡ 0
    → (index : ℕ) → index ≡ short_at s (at + 1) → {x : Side} → x ≡ side_numbered (get_or s (rec + 5 * index) 0)
    → x ≡ (record_at records (short_at s (at + 1))).side
unfolding record_bytes
column-side {s} {rec} over e index number is =
    is ∙ ap (λ (i : ℕ). side_numbered (get_or s (rec + 5 * i) 0)) number ∙ ap side_numbered (first (column-is over e).entry) ∙ side-again _

-- What has been seen in the end is the side of the argument.
pub side-seen : (records : List Record) (t : Expr) {sides : Sides} {seen : SeenSides} → sides ≡ sides_seen seen
    → seen ≡ see_all nothing_seen (sides_in records (columns_of t)) → argument_side sides ≡ side_of records t
unfolding side_of
side-seen records t is saw =
    ap argument_side is ∙ ap (λ (seen : SeenSides). argument_side (sides_seen seen)) saw ∙ seen_all (sides_in records (columns_of t))

-- ---- the loop over the columns

-- A column over its record; its side seen.
abbrev pub ColumnOver : (s : List ℕ) (rec : ℕ) (records : List Record) (at : ℕ) → Type 0
ColumnOver s rec records at = (index : ℕ) × (tag : ℕ) × Over s rec at records (column index tag)

abbrev pub see_column : (s : List ℕ) (records : List Record) → SeenSides → (at : ℕ) → SeenSides
see_column s records seen at = see seen (record_at records (short_at s (at + 1))).side

pub seen-fold : (s : List ℕ) (records : List Record) (seen : SeenSides) (places : List ℕ)
    → fold (see_column s records) seen places ≡ see_all seen (sides_in records (map (λ p. short_at s (p + 1)) places))
unfolding see_all
seen-fold s records seen [] = refl
seen-fold s records seen (p ∷ places) = seen-fold s records (see_column s records seen p) places

-- A column has its bytes and its record, whose side is the one that is read.
module _ {s : List ℕ} {rec at : ℕ} {records : List Record} (p : ColumnOver s rec records at) where
  pub column-kind : get_or s at 0 ≡ 0
  unfolding kind_of
  column-kind = sym (kind-is p.2.tree)

  pub over-fits : at + 5 ≤ length s
  over-fits = column_fits (records, column p.0 p.1, p.2) column-kind

  pub over-entry : rec + 5 * short_at s (at + 1) + 5 ≤ length s
  over-entry = entry-within (records, column p.0 p.1, p.2) column-kind

-- What a loop keeps over the columns that are left.
abbrev pub SeesLeft : (s : List ℕ) (rec : ℕ) (left : List ℕ) (now : SeenSides) (records : List Record) (t : Expr) → Type 0
SeesLeft s rec left now records t =
    Changing (ColumnOver s rec records) (see_column s records) (see_all nothing_seen (sides_in records (columns_of t))) left now

pub left-begins : {s : List ℕ} {rec : ℕ} {nodes : List Lent} {i : ℕ} {left : List ℕ} → OfColumns s nodes i left
    → OfArgument s rec nodes i (SeesLeft s rec left nothing_seen)
left-begins {s} {rec} {left = left} are records t a =
    let here = are (index_below (length records)) a.at t a.over.tree a.noded in
    record {
      each = all-mapped left here.each;
      rest = seen-fold s records nothing_seen left ∙ ap (λ (xs : List ℕ). see_all nothing_seen (sides_in records xs)) here.indexes;
    }
  where
    all-mapped : (left : List ℕ)
        → All (λ p. (index : ℕ) × (tag : ℕ) × Stands (index_below (length records)) s p (column index tag)) left
        → All (ColumnOver s rec records) left
    all-mapped [] f = tt
    all-mapped (p ∷ left) f = ((f.0.0, f.0.1, record { entries = a.over.entries; tree = f.0.2 }), all-mapped left f.1)

module _ {s : List ℕ} {rec : ℕ} {left more : List ℕ} {place : ℕ} {seen goal : SeenSides} {records : List Record}
    (inv : Changing (ColumnOver s rec records) (see_column s records) goal left seen) (is : left ≡ place ∷ more) where
  pub left-here : ColumnOver s rec records place
  left-here = change-here inv is

  pub left-more : (index : ℕ) → index ≡ short_at s (place + 1) → (side : JoinSide)
      → join_side side ≡ side_numbered (get_or s (rec + 5 * index) 0) → (now : SeenSides) → now ≡ see seen (join_side side)
      → Changing (ColumnOver s rec records) (see_column s records) goal more now
  left-more index number side told now saw =
      change-goes-on inv is now (saw ∙ ap (see seen) (column-side left-here.2 (column-kind left-here) index number told))

-- ---- two arguments in a row

module _ {s : List ℕ} {rec i : ℕ} {nodes : List Lent} where
  first-of : {records : List Record} {at : ℕ} {x y : Expr} → OverTwo s rec at records x y → Begin nodes at i x y
      → ArgumentAt s rec nodes i records x
  first-of {at = at} over begin = record { at = at; over = over.one; noded = noded-first begin.1 }

  pub first-of-two : ArguedTwo s rec nodes i → Argued s rec nodes i
  first-of-two p = (p.0, p.2, first-of p.4 p.5)

  pub first-node : ArguedTwo s rec nodes i → Node nodes i
  first-node p = (p.1, p.2, noded-first p.5.1)

  module _ {k : ℕ} (told : OfNode nodes i (λ at t. k ≡ i + nodes_in t)) where
    second-of : {records : List Record} {at : ℕ} {x y : Expr} → OverTwo s rec at records x y → Begin nodes at i x y
        → ArgumentAt s rec nodes k records y
    second-of {at = at} {x} over begin = record {
      at = at + length (expr_bytes x);
      over = over.two;
      noded = noded-first (noded-rest begin.1 _ k refl (told at x (noded-first begin.1)));
    }

    pub second-of-two : ArguedTwo s rec nodes i → Argued s rec nodes k
    second-of-two p = (p.0, p.3, second-of p.4 p.5)

    pub second-node : ArguedTwo s rec nodes i → Node nodes k
    second-node p = let a = second-of p.4 p.5 in (a.at, p.3, a.noded)

    pub geometries-are : {middle end : ℕ} → OfNode nodes i (λ at t. middle ≡ at + length (expr_bytes t))
        → OfNode nodes k (λ at t. end ≡ at + length (expr_bytes t))
        → (a b : Sides) → OfArgument s rec nodes i (λ records t. argument_side a ≡ side_of records t)
        → OfArgument s rec nodes k (λ records t. argument_side b ≡ side_of records t)
        → (o : Option Order) → order o ≡ order_of (argument_side a) (argument_side b)
        → OfArgumentTwo s rec nodes i (λ at. GeometriesAre at (record { second = middle; end = end; order = o }))
    unfolding first-of second-of
    geometries-are one two a b left right o e records at x y over begin =
        let middle = one at x (first-of over begin).noded in record {
          second = middle;
          end = two _ y (second-of over begin).noded ∙ ap (λ (q : ℕ). q + length (expr_bytes y)) (sym middle);
          order = e ∙ ap₂ order_of (left records x (first-of over begin)) (right records y (second-of over begin));
        }
