-- An argument is copied where its columns keep their indexes.
use Prim.Native.Nat.{ℕ}
use native.Mathlib.Omega.{arith}
use mathlib.Core.Path.{◌≡◌, ap}
use mathlib.Core.List.{List}
use lib.ListN.{length}
use Rattle.std.specs.Prelude.{Option}
use Rattle.std.specs.Borrow.{Bor}
use Rattle.definitions.specs.Words.Expression.{Expr}
use Rattle.definitions.specs.Bytes.Encode.{expr_bytes}
use Rattle.expression.specs.Places.{Between}
use Rattle.expression.proofs.Standing.{spans-between}
use Rattle.byte_writer.specs.Writing.{Room, PutsAt, same}
use Rattle.plan_writer.specs.Arguments.{Stood, written}
use Rattle.plan_writer.specs.declared.arguments.Argument.{Argument}

module _ (indexes : Option (Bor (List ℕ))) (s : List ℕ) (a : Argument) where
  -- It is copied where that is what is to be written of it.
  module _ (same_bytes : (t : Expr) → written indexes a t ≡ expr_bytes t) where
    pub kept-room : {w : ℕ} {out : List ℕ} → Room (Stood indexes s a) (written indexes a) w out → Room (Between s a.start a.end) same w out
    kept-room p =
        record { it = expr_bytes p.it; stands = spans-between p.stands; room = omega (arith, p.room, ap length (same_bytes p.it)) }

    pub kept_put : {w r : ℕ} {before after : List ℕ} → PutsAt (Between s a.start a.end) same w before after r
        → PutsAt (Stood indexes s a) (written indexes a) w before after r
    kept_put {w} {r} {before} {after} put = record {
      wrote = λ t h. rw (same_bytes t) (put.wrote (expr_bytes t) (spans-between h));
    }
