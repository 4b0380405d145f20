-- What is left of a frame without the AND-leaves that go, and what is written of it.
use Rattle.std.specs.Prelude.{ℕ, ◌≤◌, ◌≡◌, Bool, List, length}
use Rattle.std.proofs.Math.Option.{map}
use Rattle.definitions.specs.Words.Expression.{Expr, Record}
use Rattle.definitions.specs.Bytes.Encode.{expr_bytes, remainder_bytes}
use Rattle.definitions.specs.Words.Leaves.{leaves}
use Rattle.definitions.specs.Filter.Extract.{prune}
use Rattle.definitions.specs.Filter.Conjuncts.{without_all}
use Rattle.expression.specs.Places.{Holds}
use Rattle.byte_writer.specs.Written.{Wrote}
use Rattle.remainder.specs.Rests.{gone_flags}
use Rattle.remainder.specs.Pruned.{Prunable}

-- Its bytes: `00`, or the frame of what stays, pruned.
abbrev pub last_bytes : (goes : Expr → Bool) → List Record → Expr → List ℕ
last_bytes goes records t = remainder_bytes (map (prune records) (without_all goes t))

-- Records in s and an expression over them whose AND-leaves have these flags.
pub record Left (s : List ℕ) (rec count : ℕ) (from : List ℕ) (at : ℕ) (gone : List ℕ) (goes : Expr → Bool) (records : List Record)
    (t : Expr)
    : Type 0 where
  pub frame : Prunable s rec count from at records t
  pub counted : length (leaves t) ≡ length gone
  pub flags : Holds gone 0 (gone_flags goes t)

-- There is one, room for its expression, and room for what is left; each was written.
pub record LastFits (s : List ℕ) (rec count : ℕ) (from : List ℕ) (at : ℕ) (gone : List ℕ) (row out : List ℕ) : Type 0 where
  pub goes : Expr → Bool
  pub records : List Record
  pub tree : Expr
  pub left : Left s rec count from at gone goes records tree
  pub short : length (expr_bytes tree) ≤ length row
  pub room : length (last_bytes goes records tree) ≤ length out

abbrev pub LastPut : (s : List ℕ) (rec count : ℕ) (from : List ℕ) (at : ℕ) (gone : List ℕ) (before after : List ℕ) → ℕ → Type 0
LastPut s rec count from at gone before after r =
    (goes : Expr → Bool) (records : List Record) (t : Expr) → Left s rec count from at gone goes records t
    → (r ≡ length (last_bytes goes records t)) × Wrote (last_bytes goes records t) before after
