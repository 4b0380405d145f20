-- Nodes, records, frames and extractions read from bytes; the lines of a `do` block are refused in their order.
use Rattle.std.specs.Prelude.{ℕ, zero, suc, Bool, true, ◌&&◌, map, get_or, leb, ltb, eqb, if◌then◌else◌}
use Rattle.std.proofs.Math.Option.{Option, none, some}
use Rattle.definitions.specs.Words.Limits.{most_nodes, most_levels, most_records, most_operator, most_name_bytes, first_name_byte, last_name_byte, most_children, two_bytes}
use Rattle.definitions.specs.Words.Expression.{Side, left, right, no_side, Relation, equals, relations, Expr, column, literal, and, binary, call, other, field, Exprs, nil, cons, Record, Frame, Predicate, relation, distance, knn, Extraction}
use Rattle.definitions.specs.Words.Literals.{literal_in_range, is_k}
use Rattle.definitions.specs.Words.Leaves.{arity}
use Rattle.definitions.specs.Bytes.Readers.{read, stopped, Reader, ◌>>=◌, ◌>>◌, give, refuse, require, byte, byte_up_to, byte_between, number, repeat}

-- ---- nodes

-- Which columns an expression may have: physical ones with an index below a bound, or logical ones (fields of the schemas).
pub data Columns : Type 0 where
  index_below : (bound : ℕ) → Columns
  fields : Columns

-- Kinds: 0 physical column, 1 literal, 2 binary, 3 function, 4 other, 5 logical column.
unfoldable pub allowed_kind : Columns → ℕ → Bool
allowed_kind (index_below bound) kind = leb kind 4
allowed_kind fields kind = leb 1 kind && leb kind 5

-- A physical column: index and name tag; lastly 6 where the index is not below the bound.
unfoldable pub column_node : (bound : ℕ) → Reader Expr
column_node bound = do
  index ← number 2
  tag ← number 2
  require 6 (ltb index bound)
  give (column index tag)

-- A logical column: bits and tag.
unfoldable pub field_node : Reader Expr
field_node = do
  bits ← byte_up_to 3
  tag ← number 2
  give (field bits tag)

-- A literal: type, and eight bytes as one field.
unfoldable pub literal_node : Reader Expr
literal_node = do
  type ← byte_up_to 6
  bytes ← number 8
  require 4 (literal_in_range type bytes)
  give (literal type bytes)

-- Operator 0 is And.
unfoldable pub binary_expr : (operator : ℕ) → Expr → Expr → Expr
binary_expr zero l r = and l r
binary_expr (suc o) l r = binary (suc o) l r

-- A binary node: operator and two children.
unfoldable pub binary_node : (child : Reader Expr) → Reader Expr
binary_node child = do
  operator ← byte_up_to most_operator
  l ← child
  r ← child
  give (binary_expr operator l r)

-- Arguments or children: one after another, `times` of them.
unfoldable pub repeat_exprs : (times : ℕ) → (child : Reader Expr) → Reader Exprs
repeat_exprs zero child = give nil
repeat_exprs (suc k) child = do
  e ← child
  es ← repeat_exprs k child
  give (cons e es)

-- A scalar function: name length, name bytes, argument count, arguments.
unfoldable pub call_node : (child : Reader Expr) → Reader Expr
call_node child = do
  size ← byte_between 1 most_name_bytes
  name ← repeat size (byte_between first_name_byte last_name_byte)
  arguments ← byte_up_to most_children
  es ← repeat_exprs arguments child
  give (call name es)

-- Any other node: tag, child count, children.
unfoldable pub other_node : (child : Reader Expr) → Reader Expr
other_node child = do
  tag ← number 2
  children ← byte_up_to most_children
  es ← repeat_exprs children child
  give (other tag es)

-- A column of the allowed sort.
unfoldable pub any_column : Columns → Reader Expr
any_column (index_below bound) = column_node bound
any_column fields = field_node

-- What follows an allowed kind byte; the kind that is left, 0 or 5, is a column.
unfoldable pub node_of_kind : Columns → (child : Reader Expr) → (kind : ℕ) → Reader Expr
node_of_kind columns child kind =
    if eqb kind 1 then literal_node else
    if eqb kind 2 then binary_node child else
    if eqb kind 3 then call_node child else
    if eqb kind 4 then other_node child else
    any_column columns

-- Counts one more node; 5 where 1,024 are counted already.
abbrev pub count_node : Reader Bool
count_node = λ n s. if ltb n most_nodes then read true (suc n) s else stopped 5

-- A kind byte: 3 if it is missing, 4 if it is not allowed.
unfoldable pub node_kind : Columns → Reader ℕ
node_kind columns = do
  kind ← byte
  require 4 (allowed_kind columns kind)
  give kind

-- A node with `levels` left for it and what is below it; 5 where none is left.
unfoldable pub node : Columns → (levels : ℕ) → Reader Expr
node columns zero = do
  kind ← node_kind columns
  refuse 5
node columns (suc levels) = do
  kind ← node_kind columns
  count_node
  node_of_kind columns (node columns levels) kind

-- An expression of depth at most 64.
unfoldable pub expression : Columns → Reader Expr
expression columns = node columns most_levels

-- ---- records and frames

-- Sides: 0 left, 1 right, 2 none. (Never seen above 2, because the byte is at most 2.)
unfoldable pub side_numbered : ℕ → Side
side_numbered number = if eqb number 0 then left else if eqb number 1 then right else no_side

-- A side with a number of at most `most`.
unfoldable pub side_up_to : (most : ℕ) → Reader Side
side_up_to most = do
  number ← byte_up_to most
  give (side_numbered number)

-- A record: side, child index, field tag.
unfoldable pub one_record : Reader Record
one_record = do
  side ← side_up_to 2
  child ← number 2
  tag ← number 2
  give (record { side = side; child = child; tag = tag })

-- The column count, 0 to 256.
unfoldable pub record_count : Reader ℕ
record_count = do
  columns ← number 2
  require 4 (leb columns most_records)
  give columns

-- A physical frame after its first byte.
unfoldable pub frame_body : Reader Frame
frame_body = do
  columns ← record_count
  records ← repeat columns one_record
  expr ← expression (index_below columns)
  give (record { records = records; expr = expr })

-- ---- extractions

-- An expression of a predicate, whose columns have no bound but their width.
unfoldable pub argument : Reader Expr
argument = expression (index_below two_bytes)

-- The relation type of a number. (Never seen above 8, because the byte is at most 8.)
unfoldable pub relation_numbered : ℕ → Relation
relation_numbered number = get_or (map (λ one. one.type) relations) number equals

-- A relation: type, left, right.
unfoldable pub relation_predicate : Reader Predicate
relation_predicate = do
  type ← byte_up_to 8
  l ← argument
  r ← argument
  give (relation (relation_numbered type) l r)

-- A distance: form, side, left, right, distance.
unfoldable pub distance_predicate : Reader Predicate
distance_predicate = do
  form ← byte_up_to 4
  side ← side_up_to 2
  l ← argument
  r ← argument
  bound ← argument
  give (distance form side l r bound)

-- A k: 4 where the number is none, which is 0 (request 5).
unfoldable pub k_field : Reader ℕ
k_field = do
  k ← number 4
  require 4 (is_k k)
  give k

-- KNN: k, spheroid, probe side, ties, left, right.
unfoldable pub knn_predicate : Reader Predicate
knn_predicate = do
  k ← k_field
  spheroid ← byte_up_to 1
  probe ← side_up_to 1
  ties ← byte_up_to 2
  l ← argument
  r ← argument
  give (knn k spheroid probe ties l r)

-- The predicate that a first byte announces.
unfoldable pub predicate_of_kind : ℕ → Reader Predicate
predicate_of_kind kind =
    if eqb kind 0x11 then relation_predicate else
    if eqb kind 0x12 then distance_predicate else
    if eqb kind 0x13 then knn_predicate else
    refuse 2

-- A remainder that is there: a physical frame after its first byte, with its arity (8).
unfoldable pub some_remainder : Reader (Option Frame)
some_remainder = do
  F ← frame_body
  require 8 (arity F.expr)
  give (some F)

-- What a remainder's first byte announces.
unfoldable pub remainder_of_kind : ℕ → Reader (Option Frame)
remainder_of_kind kind =
    if eqb kind 0 then give none else
    if eqb kind 1 then some_remainder else
    refuse 4

-- `00` for no remainder, or a physical frame.
unfoldable pub remainder : Reader (Option Frame)
remainder = do
  kind ← byte
  remainder_of_kind kind

-- An extraction after its first byte; a position of any value is good (request 4).
unfoldable pub extraction_body : (first : ℕ) → Reader Extraction
extraction_body first = do
  position ← number 2
  predicate ← predicate_of_kind first
  rest ← remainder
  give (record { position = position; predicate = predicate; remainder = rest })
