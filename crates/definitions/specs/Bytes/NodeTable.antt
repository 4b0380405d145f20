-- Request 6 of document 02: the table of a frame's nodes.
use Rattle.std.specs.Prelude.{ℕ, ◌+◌, ◌*◌, Bool, true, false, ◌&&◌, List, [], ◌∷◌, ◌++◌, length, eqb}
use Rattle.definitions.specs.Words.Expression.{Expr, column, literal, and, binary, call, other, field, Exprs, nil, cons, Frame}
use Rattle.definitions.specs.Bytes.Encode.{expr_bytes}

-- A node: its kind byte, where it starts, and where it ends, one past the whole node; the frame's first byte is at 0.
pub record NodeRecord : Type 0 where
  pub kind : ℕ
  pub start : ℕ
  pub end : ℕ

-- The kind byte of a node.
unfoldable pub kind_byte : Expr → ℕ
kind_byte (column index tag) = 0
kind_byte (literal type bytes) = 1
kind_byte (and l r) = 2
kind_byte (binary operator l r) = 2
kind_byte (call name arguments) = 3
kind_byte (other tag children) = 4
kind_byte (field bits tag) = 5

-- The record of a node that starts at a place.
unfoldable pub record_of : (at : ℕ) → Expr → NodeRecord
record_of at e = record { kind = kind_byte e; start = at; end = at + length (expr_bytes e) }

unfoldable mutual
  -- The records of an expression that starts at a place, in prefix order.
  pub nodes_from : (at : ℕ) → Expr → List NodeRecord
  nodes_from at (column index tag) = record_of at (column index tag) ∷ []
  nodes_from at (literal type bytes) = record_of at (literal type bytes) ∷ []
  nodes_from at (and l r) = record_of at (and l r) ∷ (nodes_from (at + 2) l ++ nodes_from (at + 2 + length (expr_bytes l)) r)
  nodes_from at (binary operator l r) =
      record_of at (binary operator l r) ∷ (nodes_from (at + 2) l ++ nodes_from (at + 2 + length (expr_bytes l)) r)
  nodes_from at (call name arguments) = record_of at (call name arguments) ∷ row_from (at + (3 + length name)) arguments
  nodes_from at (other tag children) = record_of at (other tag children) ∷ row_from (at + 4) children
  nodes_from at (field bits tag) = record_of at (field bits tag) ∷ []

  -- Those of several expressions, each where the one before ends.
  pub row_from : (at : ℕ) → Exprs → List NodeRecord
  row_from at nil = []
  row_from at (cons e es) = nodes_from at e ++ row_from (at + length (expr_bytes e)) es

-- The table of a frame: one record a node, in prefix order.
unfoldable pub node_table : Frame → List NodeRecord
node_table F = nodes_from (3 + 5 * length F.records) F.expr

-- Whether two records are equal.
unfoldable pub same_record : NodeRecord → NodeRecord → Bool
same_record a b = eqb a.kind b.kind && (eqb a.start b.start && eqb a.end b.end)

-- Whether a table begins with these records.
unfoldable pub begins_with : (records table : List NodeRecord) → Bool
begins_with [] table = true
begins_with (r ∷ records) [] = false
begins_with (r ∷ records) (t ∷ table) = same_record r t && begins_with records table

-- A record that no node has. (Ours.)
unfoldable pub blank : NodeRecord
blank = record { kind = 255; start = 0; end = 0 }
