-- What stays of an expression without some of its AND-leaves, and where it was written.
use Rattle.std.specs.Prelude.{ℕ, ◌+◌, ◌≤◌, ◌≡◌, Bool, true, false, List, [], ◌∷◌, map, length}
use Rattle.std.proofs.Math.Option.{Option, none, some}
use Rattle.definitions.specs.Words.Expression.{Expr}
use Rattle.definitions.specs.Bytes.Encode.{expr_bytes}
use Rattle.definitions.specs.Words.Leaves.{leaves}
use Rattle.definitions.specs.Bytes.Decode.{Columns}
use Rattle.definitions.specs.Filter.Conjuncts.{without_all}
use Rattle.expression.specs.Places.{Holds}
use Rattle.expression.specs.Nodes.{Stands}
use Rattle.byte_writer.specs.Written.{WroteAt}
use Rattle.remainder.specs.declared.rests.Stays.{Stays}

-- The bytes of what stays.
unfoldable pub bytes_left : Option Expr → List ℕ
bytes_left none = []
bytes_left (some e) = expr_bytes e

abbrev pub left_bytes : (goes : Expr → Bool) → Expr → List ℕ
left_bytes goes t = bytes_left (without_all goes t)

-- The flag of a leaf: 1 if it goes; those of an expression's AND-leaves.
abbrev pub flag_of : Bool → ℕ
flag_of true = 1
flag_of false = 0

abbrev pub gone_flags : (goes : Expr → Bool) → Expr → List ℕ
gone_flags goes t = map (λ leaf. flag_of (goes leaf)) (leaves t)

-- Some expression stands at a place, there is room for it up to `end`, and a flag for each AND-leaf up to its end.
pub record RestFits (s : List ℕ) (at end after : ℕ) (gone out : List ℕ) : Type 0 where
  pub columns : Columns
  pub tree : Expr
  pub stands : Stands columns s at tree
  pub room : length (expr_bytes tree) ≤ end
  pub within : end ≤ length out
  pub counted : length (leaves tree) ≤ after
  pub flagged : after ≤ length gone

-- What stays of it was written so that it ends at `end`, whatever the flags say which leaves go.
pub record RestPut (end after : ℕ) (gone before out : List ℕ) (r : Stays) (t : Expr) : Type 0 where
  pub counted : r.leaf + length (leaves t) ≡ after
  pub high : r.start ≤ end
  pub low : end ≤ r.start + length (expr_bytes t)
  pub wrote : (goes : Expr → Bool) → Holds gone r.leaf (gone_flags goes t) → WroteAt r.start (left_bytes goes t) before out end

-- An And's head was written before its sides, if both stay; else nothing.
pub record AndPut (left : Stays) (middle end : ℕ) (before out : List ℕ) (r : Stays) : Type 0 where
  pub leaf : r.leaf ≡ left.leaf
  pub no_left : left.start ≡ middle → (r.start ≡ left.start) × (out ≡ before)
  pub no_right : middle ≡ end → (r.start ≡ left.start) × (out ≡ before)
  pub both : (left.start ≡ middle → ⊥) → (middle ≡ end → ⊥)
      → (r.start + 2 ≡ left.start) × WroteAt r.start (2 ∷ 0 ∷ []) before out left.start
