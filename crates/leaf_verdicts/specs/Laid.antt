-- Expressions that stand in the bytes of a frame, over the records of their columns, and whose nodes' records are in its table from an
-- index on.
use Rattle.std.specs.Prelude.{ℕ, List}
use Rattle.definitions.specs.Words.Expression.{Expr, Exprs, nil, cons, Record}
use Rattle.filter_tree.specs.Trees.{Noded, NodedAll}
use Rattle.node_table.specs.declared.NodeRecord.{NodeRecord as Lent}
use Rattle.leaf_matching.specs.Frames.{Over, OverAll, CallOver}
use Rattle.expression.specs.declared.leaves.Called.{Called}

-- One, several in a row, and a function by its name and arguments, the first of which has that index.
pub record Laid (s : List ℕ) (rec : ℕ) (nodes : List Lent) (at i : ℕ) (records : List Record) (t : Expr) : Type 0 where
  pub over : Over s rec at records t
  pub noded : Noded nodes at i t

pub record LaidAll (s : List ℕ) (rec : ℕ) (nodes : List Lent) (at i n : ℕ) (records : List Record) (ts : Exprs) : Type 0 where
  pub over : OverAll s rec at n records ts
  pub noded : NodedAll nodes at i ts

pub record CallLaid (s : List ℕ) (rec : ℕ) (nodes : List Lent) (k : Called) (i : ℕ) (records : List Record) (name : List ℕ)
    (arguments : Exprs) : Type 0 where
  pub over : CallOver s rec k records name arguments
  pub noded : NodedAll nodes k.first i arguments

-- There is one; what is claimed of each that is there.
abbrev pub AtIndex : (s : List ℕ) (rec : ℕ) (nodes : List Lent) (i : ℕ) → Type 0
AtIndex s rec nodes i = (at : ℕ) × (records : List Record) × (t : Expr) × Laid s rec nodes at i records t

abbrev pub OfIndex : (s : List ℕ) (rec : ℕ) (nodes : List Lent) (i : ℕ) → (List Record → Expr → Type 0) → Type 0
OfIndex s rec nodes i P = (at : ℕ) (records : List Record) (t : Expr) → Laid s rec nodes at i records t → P records t

-- The same of n in a row,
abbrev pub RowAt : (s : List ℕ) (rec : ℕ) (nodes : List Lent) (i n : ℕ) → Type 0
RowAt s rec nodes i n = (at : ℕ) × (records : List Record) × (ts : Exprs) × LaidAll s rec nodes at i n records ts

abbrev pub OfRow : (s : List ℕ) (rec : ℕ) (nodes : List Lent) (i n : ℕ) → (List Record → Exprs → Type 0) → Type 0
OfRow s rec nodes i n P =
    (at : ℕ) (records : List Record) (ts : Exprs) → LaidAll s rec nodes at i n records ts → P records ts

-- of two and perhaps more,
abbrev pub TwoAt : (s : List ℕ) (rec : ℕ) (nodes : List Lent) (i : ℕ) → Type 0
TwoAt s rec nodes i =
    (at n : ℕ) × (records : List Record) × (a b : Expr) × (more : Exprs)
    × LaidAll s rec nodes at i n records (cons a (cons b more))

abbrev pub OfTwoAt : (s : List ℕ) (rec : ℕ) (nodes : List Lent) (i : ℕ) → (List Record → Expr → Expr → Type 0) → Type 0
OfTwoAt s rec nodes i P =
    (at n : ℕ) (records : List Record) (a b : Expr) (more : Exprs)
    → LaidAll s rec nodes at i n records (cons a (cons b more)) → P records a b

-- of two alone, the sides of an operator,
abbrev pub PairAt : (s : List ℕ) (rec : ℕ) (nodes : List Lent) (i : ℕ) → Type 0
PairAt s rec nodes i =
    (at : ℕ) × (records : List Record) × (l r : Expr) × LaidAll s rec nodes at i 2 records (cons l (cons r nil))

abbrev pub OfPairAt : (s : List ℕ) (rec : ℕ) (nodes : List Lent) (i : ℕ) → (List Record → Expr → Expr → Type 0) → Type 0
OfPairAt s rec nodes i P =
    (at : ℕ) (records : List Record) (l r : Expr) → LaidAll s rec nodes at i 2 records (cons l (cons r nil)) → P records l r

-- and of a function.
abbrev pub CallAt : (s : List ℕ) (rec : ℕ) (nodes : List Lent) (k : Called) (i : ℕ) → Type 0
CallAt s rec nodes k i =
    (records : List Record) × (name : List ℕ) × (arguments : Exprs) × CallLaid s rec nodes k i records name arguments

abbrev pub OfCallAt : (s : List ℕ) (rec : ℕ) (nodes : List Lent) (k : Called) (i : ℕ) → (List Record → List ℕ → Exprs → Type 0)
    → Type 0
OfCallAt s rec nodes k i P =
    (records : List Record) (name : List ℕ) (arguments : Exprs) → CallLaid s rec nodes k i records name arguments
    → P records name arguments
