-- What frames, extractions and plans are, apart from their bytes.
use Rattle.std.specs.Prelude.{ℕ, suc, List, [], ◌∷◌}
use Prim.Native.String.{String}
use Rattle.std.proofs.Math.Option.{Option, none, some}

-- A side of the join; `no_side` is a mark column's, and that of an argument without columns.
pub data Side : Type 0 where
  left right no_side : Side

-- The nine spatial relations; `same_relation` decides whether two are the same.
pub data Relation : Type 0 where
  intersects contains within covers covered_by touches crosses overlaps equals : Relation
  deriving Discrete as same_relation

-- A relation type and the names of its functions.
pub record Named : Type 0 where
  pub type : Relation
  pub names : List String

-- The nine types in declaration order, which numbers them from 0, with their 13 names.
unfoldable pub relations : List Named
relations =
    record { type = intersects; names = "st_intersects" ∷ "rs_intersects" ∷ [] } ∷
    record { type = contains; names = "st_contains" ∷ "rs_contains" ∷ [] } ∷
    record { type = within; names = "st_within" ∷ "rs_within" ∷ [] } ∷
    record { type = covers; names = "st_covers" ∷ [] } ∷
    record { type = covered_by; names = "st_coveredby" ∷ "st_covered_by" ∷ [] } ∷
    record { type = touches; names = "st_touches" ∷ [] } ∷
    record { type = crosses; names = "st_crosses" ∷ [] } ∷
    record { type = overlaps; names = "st_overlaps" ∷ [] } ∷
    record { type = equals; names = "st_equals" ∷ [] } ∷ []

-- The relation that holds of the exchanged arguments.
unfoldable pub invert : Relation → Relation
invert intersects = intersects
invert contains = within
invert within = contains
invert covers = covered_by
invert covered_by = covers
invert touches = touches
invert crosses = crosses
invert overlaps = overlaps
invert equals = equals

mutual
  -- An expression; a literal's eight bytes are one number, `and` is the binary operator 0, `field` a logical column.
  pub data Expr : Type 0 where
    column : (index tag : ℕ) → Expr
    literal : (type bytes : ℕ) → Expr
    and : Expr → Expr → Expr
    binary : (operator : ℕ) → Expr → Expr → Expr
    call : (name : List ℕ) → (arguments : Exprs) → Expr
    other : (tag : ℕ) → (children : Exprs) → Expr
    field : (bits tag : ℕ) → Expr

  -- Arguments or children, in order.
  pub data Exprs : Type 0 where
    nil : Exprs
    cons : Expr → Exprs → Exprs

-- How many they are.
unfoldable pub count : Exprs → ℕ
count nil = 0
count (cons e es) = suc (count es)

-- ---- what an expression is

-- A function.
pub record Function : Type 0 where
  pub name : List ℕ
  pub arguments : Exprs

-- The function that an expression is, if it is one.
abbrev pub function_of : Expr → Option Function
function_of (call name arguments) = some (record { name = name; arguments = arguments })
function_of (column index tag) = none
function_of (literal type bytes) = none
function_of (and l r) = none
function_of (binary operator l r) = none
function_of (other tag children) = none
function_of (field bits tag) = none

-- A binary with an operator other than And.
pub record Binary : Type 0 where
  pub operator : ℕ
  pub l : Expr
  pub r : Expr

-- The binary that an expression is, if it is one.
abbrev pub binary_of : Expr → Option Binary
binary_of (binary operator l r) = some (record { operator = operator; l = l; r = r })
binary_of (column index tag) = none
binary_of (literal type bytes) = none
binary_of (and l r) = none
binary_of (call name arguments) = none
binary_of (other tag children) = none
binary_of (field bits tag) = none

-- A literal.
pub record Literal : Type 0 where
  pub type : ℕ
  pub bytes : ℕ

-- The literal that an expression is, if it is one.
abbrev pub literal_of : Expr → Option Literal
literal_of (literal type bytes) = some (record { type = type; bytes = bytes })
literal_of (column index tag) = none
literal_of (and l r) = none
literal_of (binary operator l r) = none
literal_of (call name arguments) = none
literal_of (other tag children) = none
literal_of (field bits tag) = none

-- ---- frames and plans

-- A column's record: the child's side, the column's index in that child, the host's number for the field.
pub record Record : Type 0 where
  pub side : Side
  pub child : ℕ
  pub tag : ℕ

-- A physical frame: an expression whose column indexes count these records.
pub record Frame : Type 0 where
  pub records : List Record
  pub expr : Expr

-- A spatial predicate; distance forms are 0 `st_dwithin`, 1 Lt, 2 LtEq, 3 Gt, 4 GtEq; ties 2 is absent.
pub data Predicate : Type 0 where
  relation : Relation → (l r : Expr) → Predicate
  distance : (form : ℕ) → (side : Side) → (l r bound : Expr) → Predicate
  knn : (k spheroid : ℕ) → (probe : Side) → (ties : ℕ) → (l r : Expr) → Predicate

-- A predicate, its leaf's position among the AND-leaves of the frame that it was taken from, from 0 (request 4), and what is left of that
-- frame.
pub record Extraction : Type 0 where
  pub position : ℕ
  pub predicate : Predicate
  pub remainder : Option Frame

-- What the first n bytes of the plan buffer hold.
pub data Plan : Type 0 where
  empty : Plan
  held : Frame → Plan
  extracted : Extraction → Plan
