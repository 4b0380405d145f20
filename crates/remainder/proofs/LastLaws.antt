-- What `put_rest` left, as nothing or as an expression that stands there.
use Prim.Native.Nat.{ℕ, ◌+◌, ◌≤◌, ◌<◌}
use native.Mathlib.Omega.{arith}
use mathlib.Core.Path.{◌≡◌, refl, sym, ap, subst}
use mathlib.Core.Bool.{Bool}
use mathlib.Core.List.{List, [], ◌∷◌}
use mathlib.Core.Option.{Option, none, some, map}
use lib.ListN.{length, set, replicate, length-replicate}
use Rattle.definitions.specs.Words.Expression.{Expr, column, literal, and, binary, call, other, field, Record}
use Rattle.definitions.specs.Bytes.Encode.{expr_bytes, frame_bytes, remainder_bytes}
use Rattle.definitions.specs.Bytes.Decode.{Columns, index_below}
use Rattle.definitions.specs.Filter.Extract.{prune}
use Rattle.definitions.specs.Bytes.Good.{InRange}
use Rattle.definitions.specs.Filter.Conjuncts.{and_both, unless, without_all}
use Rattle.theorems.proofs.Tools.{by-test}
use Rattle.theorems.proofs.Taken.{RestIs}
use Rattle.expression.specs.Places.{Holds}
use Rattle.byte_writer.specs.Written.{Wrote, WroteAt}
use Rattle.byte_writer.proofs.Written.{to_start, store, standing as stands-written}
use Rattle.remainder.specs.Rests.{bytes_left, left_bytes, gone_flags, RestPut}
use Rattle.remainder.specs.declared.rests.Stays.{Stays}
use Rattle.remainder.specs.Pruned.{Prunable, PrunedToEndFits, PrunedToEndPut}
use Rattle.remainder.specs.Last.{last_bytes, Left}
use Rattle.expression.proofs.Standing.{some_bytes}

-- ---- what stays is in range

unless-in : (P : Expr → Type 0) (goes : Expr → Bool) (e : Expr) → P e → RestIs P (unless goes e)
unfolding unless
unless-in P goes e h = by-test (RestIs P) (goes e) none (some e) (λ _. tt) (λ _. h)

both-in : (c : Columns) (x y : Option Expr) → RestIs (InRange c) x → RestIs (InRange c) y → RestIs (InRange c) (and_both x y)
unfolding and_both
both-in c none y h k = k
both-in c (some l) none h k = h
both-in c (some l) (some r) h k = (h, k)

stays-in : (c : Columns) (goes : Expr → Bool) (t : Expr) → InRange c t → RestIs (InRange c) (without_all goes t)
unfolding without_all
stays-in c goes (column i g) h = unless-in (InRange c) goes (column i g) h
stays-in c goes (literal y v) h = unless-in (InRange c) goes (literal y v) h
stays-in c goes (and l r) h = both-in c (without_all goes l) (without_all goes r) (stays-in c goes l h.0) (stays-in c goes r h.1)
stays-in c goes (binary o l r) h = unless-in (InRange c) goes (binary o l r) h
stays-in c goes (call n es) h = unless-in (InRange c) goes (call n es) h
stays-in c goes (other g es) h = unless-in (InRange c) goes (other g es) h
stays-in c goes (field b g) h = unless-in (InRange c) goes (field b g) h

-- A row as it is made has so many places.
pub zeros-room : (n : ℕ) → n ≤ length {A = ℕ} (replicate n 0)
zeros-room n = simp length-replicate (omega arith)

-- ---- the frame, for `put_rest`

module _ {s from : List ℕ} {rec count at : ℕ} {gone : List ℕ} {goes : Expr → Bool} {records : List Record} {t : Expr}
    (left : Left s rec count from at gone goes records t) where
  -- What it left.
  module _ {before rest : List ℕ} {r : Stays} (put : RestPut (length before) (length gone) gone before rest r t)
      (same : length rest ≡ length before) where
    wrote : WroteAt r.start (left_bytes goes t) before rest (length before)
    wrote = put.wrote goes (subst (λ (p : ℕ). Holds gone p (gone_flags goes t)) (omega (arith, put.counted, left.counted)) left.flags)

    -- Nothing:
    module _ (e : r.start ≡ length before) where
      none-by : (x : Option Expr) → WroteAt r.start (bytes_left x) before rest (length before)
          → remainder_bytes (map (prune records) x) ≡ 0 ∷ []
      unfolding bytes_left remainder_bytes
      none-by none w = refl
      none-by (some x) w = absurd (omega (arith, w.ends, some_bytes x))

      pub none-bytes : last_bytes goes records t ≡ 0 ∷ []
      none-bytes = none-by (without_all goes t) wrote

      pub none-put : (out : List ℕ) → 0 < length out
          → (1 ≡ length (last_bytes goes records t)) × Wrote (last_bytes goes records t) out (set out 0 0)
      none-put out least =
          subst (λ (x : List ℕ). (1 ≡ length x) × Wrote x out (set out 0 0)) (sym none-bytes) (to_start (store out 0 0 least))

    -- or an expression.
    module _ (n : r.start ≡ length before → ⊥) where
      pub record Standing : Type 0 where
        pub expr : Expr
        pub prunable : Prunable s rec count rest r.start records expr
        pub ends : length rest ≡ r.start + length (expr_bytes expr)
        pub bytes : last_bytes goes records t ≡ frame_bytes (prune records expr)

      standing_by : (x : Option Expr) → RestIs (InRange (index_below count)) x → WroteAt r.start (bytes_left x) before rest (length before)
          → remainder_bytes (map (prune records) x) ≡ last_bytes goes records t → Standing
      unfolding bytes_left remainder_bytes
      standing_by none h w e = absurd (n (omega (arith, w.ends)))
      standing_by (some x) h w e = record {
        expr = x;
        prunable = record {
          entries = left.frame.entries;
          few = left.frame.few;
          tree = record { bytes = stands-written (omega (arith, put.high)) w; in_range = h };
        };
        ends = omega (arith, same, w.ends);
        bytes = sym e;
      }

      pub standing : Standing
      standing = standing_by (without_all goes t) (stays-in (index_below count) goes t left.frame.tree.in_range) wrote refl

      pub pruned-fits : {out : List ℕ} → length (last_bytes goes records t) ≤ length out → PrunedToEndFits s rec count rest r.start out
      pruned-fits fits = record {
        records = records;
        tree = standing.expr;
        frame = standing.prunable;
        ends = standing.ends;
        room = omega (arith, ap length standing.bytes);
      }

      pub pruned-put : (out after : List ℕ) (m : ℕ) → PrunedToEndPut s rec count rest r.start out after m
          → (m ≡ length (last_bytes goes records t)) × Wrote (last_bytes goes records t) out after
      pruned-put out after m is =
          subst (λ (x : List ℕ). (m ≡ length x) × Wrote x out after) (sym standing.bytes)
          (is records standing.expr standing.prunable standing.ends)
