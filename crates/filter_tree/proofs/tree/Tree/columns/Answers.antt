-- `columns`: the columns among the records of the node are its expression's.
use native.Mathlib.Omega.{arith}
use mathlib.Core.Path.{sym, ap, ◌∙◌, subst}
use Rattle.filter_tree.proofs.ColumnPlaces.{index_in, columns-read, each-column}
use Rattle.definitions.specs.Words.Expression.{column}
use Rattle.definitions.specs.Bytes.Good.{All}
use Rattle.expression.specs.Nodes.{Stands}
use mathlib.Core.List.{map}
use mathlib.Core.List.{List}
use Prim.Native.Nat.{ℕ}
use Rattle.filter_tree.proofs.Scans.{noded-within, noded-places, places-are}
use Rattle.filter_tree.proofs.tree.Tree.columns.Goals as goal

pub offset_bounds-self-i : goal.offset_bounds-self-i
offset_bounds-self-i c =
    omega (arith, noded-within c.requires.2, c.well_formed)

pub bounds-self-i : goal.bounds-self-i
bounds-self-i c =
    noded-within c.requires.2

pub returns : goal.returns
returns c =
    λ d at t stands h.
    let s = c.args.self.bytes.now in
    let P = λ (p : ℕ). (index : ℕ) × (tag : ℕ) × Stands d s p (column index tag) in
    let same = noded-places 0 h ∙ places-are at t in
    record {
      places = noded-places 0 h;
      indexes = ap (λ (l : List ℕ). map (index_in s) l) same ∙ columns-read at t stands;
      each = subst (All P) (sym same) (each-column P (λ p i g here. (i, g, here)) at t stands);
    }
