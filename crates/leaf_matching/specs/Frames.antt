-- An expression at a place, with the records of its columns at another.
use Rattle.std.specs.Prelude.{ℕ, ◌+◌, List, length}
use Rattle.definitions.specs.Words.Expression.{Expr, Exprs, Record}
use Rattle.definitions.specs.Bytes.Encode.{expr_bytes, records_bytes}
use Rattle.definitions.specs.Bytes.Decode.{index_below}
use Rattle.expression.specs.Places.{Holds}
use Rattle.expression.specs.Nodes.{Stands, Row}
use Rattle.expression.specs.Leaves.{CallStands}
use Rattle.expression.specs.declared.leaves.Called.{Called}
use Rattle.node_table.specs.declared.NodeRecord.{NodeRecord as Lent}
use Rattle.filter_tree.specs.Trees.{Noded, Begin}

-- t stands at a place, and the records of its columns at theirs.
pub record Over (s : List ℕ) (rec at : ℕ) (records : List Record) (t : Expr) : Type 0 where
  pub entries : Holds s rec (records_bytes records)
  pub tree : Stands (index_below (length records)) s at t

-- The same of n expressions in a row.
pub record OverAll (s : List ℕ) (rec at n : ℕ) (records : List Record) (ts : Exprs) : Type 0 where
  pub entries : Holds s rec (records_bytes records)
  pub row : Row (index_below (length records)) s at n ts

-- There are such records and such an expression; what is claimed of them.
abbrev pub Framed : List ℕ → ℕ → ℕ → Type 0
Framed s rec at = (records : List Record) × (t : Expr) × Over s rec at records t

abbrev pub OfFrame : List ℕ → ℕ → ℕ → (List Record → Expr → Type 0) → Type 0
OfFrame s rec at P = (records : List Record) (t : Expr) → Over s rec at records t → P records t

-- Two expressions in a row, and the records of their columns.
pub record OverTwo (s : List ℕ) (rec at : ℕ) (records : List Record) (a b : Expr) : Type 0 where
  pub one : Over s rec at records a
  pub two : Over s rec (at + length (expr_bytes a)) records b

-- The first of two such arguments has this index; what is claimed of them.
abbrev pub ArguedTwo : (s : List ℕ) (rec : ℕ) (nodes : List Lent) (i : ℕ) → Type 0
ArguedTwo s rec nodes i =
    (records : List Record) × (at : ℕ) × (a : Expr) × (b : Expr) × OverTwo s rec at records a b × Begin nodes at i a b

abbrev pub OfArgumentTwo : (s : List ℕ) (rec : ℕ) (nodes : List Lent) (i : ℕ) → ((at : ℕ) → List Record → Expr → Expr → Type 0) → Type 0
OfArgumentTwo s rec nodes i P =
    (records : List Record) (at : ℕ) (a b : Expr) → OverTwo s rec at records a b → Begin nodes at i a b → P at records a b

-- An argument over the records of its columns, its nodes' records from one index on.
pub record ArgumentAt (s : List ℕ) (rec : ℕ) (nodes : List Lent) (i : ℕ) (records : List Record) (t : Expr) : Type 0 where
  pub at : ℕ
  pub over : Over s rec at records t
  pub noded : Noded nodes at i t

abbrev pub Argued : (s : List ℕ) (rec : ℕ) (nodes : List Lent) (i : ℕ) → Type 0
Argued s rec nodes i = (records : List Record) × (t : Expr) × ArgumentAt s rec nodes i records t

abbrev pub OfArgument : (s : List ℕ) (rec : ℕ) (nodes : List Lent) (i : ℕ) → (List Record → Expr → Type 0) → Type 0
OfArgument s rec nodes i P = (records : List Record) (t : Expr) → ArgumentAt s rec nodes i records t → P records t

-- The name and arguments of a function, and the records of their columns.
pub record CallOver (s : List ℕ) (rec : ℕ) (k : Called) (records : List Record) (name : List ℕ) (arguments : Exprs) : Type 0 where
  pub entries : Holds s rec (records_bytes records)
  pub stands : CallStands (index_below (length records)) s k name arguments

abbrev pub CallFramed : List ℕ → ℕ → Called → Type 0
CallFramed s rec k = (records : List Record) × (name : List ℕ) × (arguments : Exprs) × CallOver s rec k records name arguments

abbrev pub OfCallFrame : List ℕ → ℕ → Called → (List Record → List ℕ → Exprs → Type 0) → Type 0
OfCallFrame s rec k P =
    (records : List Record) (name : List ℕ) (arguments : Exprs) → CallOver s rec k records name arguments → P records name arguments
