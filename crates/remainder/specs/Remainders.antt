-- What is written of an expression without one of its AND-leaves, and of a whole remainder.
use Rattle.std.specs.Prelude.{ℕ, ◌≤◌, ◌≡◌, List, length}
use Rattle.std.proofs.Math.Option.{map}
use Rattle.definitions.specs.Words.Expression.{Expr, Record}
use Rattle.definitions.specs.Bytes.Encode.{expr_bytes, remainder_bytes}
use Rattle.definitions.specs.Bytes.Decode.{index_below}
use Rattle.definitions.specs.Filter.Extract.{without, prune}
use Rattle.byte_writer.specs.Written.{Wrote}
use Rattle.plan_writer.specs.Copies.{copy_of}
use Rattle.node_table.specs.declared.NodeRecord.{NodeRecord as Lent}
use Rattle.remainder.specs.Around.{SomeLeft, OfLeft}
use Rattle.remainder.specs.Pruned.{Prunable}
use Rattle.expression.specs.Cuts.{CutAt}
use Rattle.expression.specs.declared.cuts.Cut.{Cut}

-- ---- the expression

-- There is room for what is left of the expression; it was written, its columns renumbered by a table.
abbrev pub RestFits : (s : List ℕ) (nodes : List Lent) (to : List ℕ) → Cut → (out : List ℕ) → Type 0
RestFits s nodes to cut out = SomeLeft (index_below (length to)) s nodes cut (λ e. length (copy_of to e) ≤ length out)

abbrev pub RestCopied : (s : List ℕ) (nodes : List Lent) (to : List ℕ) → Cut → (before after : List ℕ) → ℕ → Type 0
RestCopied s nodes to cut before after r =
    OfLeft (index_below (length to)) s nodes cut (λ e. (r ≡ length (copy_of to e)) × Wrote (copy_of to e) before after)

-- It stands at the start as it was; then its columns are renumbered.
abbrev pub PatchFits : (s : List ℕ) (nodes : List Lent) (to : List ℕ) → Cut → (out : List ℕ) → Type 0
PatchFits s nodes to cut out = SomeLeft (index_below (length to)) s nodes cut (λ e. Wrote (expr_bytes e) out out)

abbrev pub Patched : (s : List ℕ) (nodes : List Lent) (to : List ℕ) → Cut → (before after : List ℕ) → Type 0
Patched s nodes to cut before after =
    OfLeft (index_below (length to)) s nodes cut (λ e. Wrote (expr_bytes e) before before → Wrote (copy_of to e) before after)

-- ---- a whole remainder

-- The bytes of what is left once the AND-leaf at a position is taken.
abbrev pub remainder_of : List Record → Expr → (position : ℕ) → List ℕ
remainder_of records t position = remainder_bytes (map (prune records) (without position t))

-- A frame of records and an expression, its leaf where the cut says, and room for the remainder.
pub record RemainderFits (s : List ℕ) (rec count : ℕ) (from : List ℕ) (at : ℕ) (cut : Cut) (out : List ℕ) : Type 0 where
  pub records : List Record
  pub tree : Expr
  pub up : ℕ
  pub position : ℕ
  pub frame : Prunable s rec count from at records tree
  pub cutting : CutAt cut up tree at position
  pub room : length (remainder_of records tree position) ≤ length out

abbrev pub RemainderPut : (s : List ℕ) (rec count : ℕ) (from : List ℕ) (at : ℕ) → Cut → (before after : List ℕ) → ℕ → Type 0
RemainderPut s rec count from at cut before after r =
    (records : List Record) (t : Expr) (up position : ℕ) → Prunable s rec count from at records t → CutAt cut up t at position
    → (r ≡ length (remainder_of records t position)) × Wrote (remainder_of records t position) before after
