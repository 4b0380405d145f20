-- The nodes of expressions in prefix order: they stand one after another, each head right behind the one before, so that a loop that goes
-- from head to head up to an end comes to every node.
use Prim.Native.Nat.{ℕ, ◌+◌, ◌≤◌, ◌<◌}
use native.Mathlib.Omega.{arith}
use mathlib.Core.Path.{◌≡◌, refl, sym, ap, ◌∙◌, subst}
use mathlib.Core.List.{List, ◌++◌, append_assoc, append-nil}
use lib.ListN.{length, drop, length-append}
use lib.Seq.{drop-drop, drop-append_seam}
use Rattle.definitions.specs.Words.Expression.{Expr, Exprs, nil, cons, count}
use Rattle.definitions.specs.Bytes.Encode.{expr_bytes, exprs_bytes}
use Rattle.definitions.specs.Bytes.Decode.{Columns}
use Rattle.definitions.specs.Bytes.Good.{InRangeAll}
use Rattle.expression.specs.Places.{Holds, Between}
use Rattle.expression.specs.Nodes.{head_bytes, children_of, Stands, Spans, Row}
use Rattle.expression.proofs.Placed.{back}
use Rattle.expression.proofs.Standing.{head-children, children-in-range, spans-between, some_bytes}

-- ---- several expressions and then others

unfoldable pub and_then : Exprs → Exprs → Exprs
and_then nil us = us
and_then (cons t ts) us = cons t (and_then ts us)

pub then-bytes : (ts us : Exprs) → exprs_bytes (and_then ts us) ≡ exprs_bytes ts ++ exprs_bytes us
unfolding and_then exprs_bytes
then-bytes nil us = refl
then-bytes (cons t ts) us = rw (then-bytes ts us) (sym (append_assoc (expr_bytes t) (exprs_bytes ts) (exprs_bytes us)))

pub then-in-range : (c : Columns) (ts us : Exprs) → InRangeAll c ts → InRangeAll c us → InRangeAll c (and_then ts us)
unfolding and_then
then-in-range c nil us h k = k
then-in-range c (cons t ts) us h k = (h.0, then-in-range c ts us h.1 k)

then-count : (ts us : Exprs) → count (and_then ts us) ≡ count ts + count us
unfolding and_then count
then-count nil us = omega arith
then-count (cons t ts) us = omega (arith, then-count ts us)

-- ---- the first of several in a row

-- After its head come its children, and then the others.
pub opened-row : {c : Columns} {s : List ℕ} {at n : ℕ} {t : Expr} {ts : Exprs} → Row c s at n (cons t ts) → (p m : ℕ)
    → p ≡ at + length (head_bytes t) → m + 1 ≡ n + count (children_of t) → Row c s p m (and_then (children_of t) ts)
unfolding exprs_bytes count
opened-row {c} {s} {at} {n} {t} {ts} h p m e k =
    let y : List ℕ = exprs_bytes (children_of t) ++ exprs_bytes ts in
    record {
      bytes = subst (Holds s p) (sym (then-bytes (children_of t) ts))
          (back (head_bytes t) y (subst (Holds s at) (ap (λ (l : List ℕ). l ++ exprs_bytes ts) (head-children t)
          ∙ append_assoc (head_bytes t) (exprs_bytes (children_of t)) (exprs_bytes ts)) h.bytes) p e);
      in_range = then-in-range c (children_of t) ts (children-in-range c t h.in_range.0) h.in_range.1;
      counted = omega (arith, then-count (children_of t) ts, h.counted);
    }

-- No more of them than bytes.
pub as-few : (ts : Exprs) → count ts ≤ length (exprs_bytes ts)
unfolding exprs_bytes count
as-few nil = omega arith
as-few (cons t ts) = omega (arith, as-few ts, some_bytes t, length-append (expr_bytes t) (exprs_bytes ts))

-- ---- the first of several that stand up to an end

-- These expressions stand from a place up to an end.
pub record UpTo (c : Columns) (s : List ℕ) (at end : ℕ) (ts : Exprs) : Type 0 where
  pub between : Between s at end (exprs_bytes ts)
  pub in_range : InRangeAll c ts

module _ {c : Columns} {s : List ℕ} {at end : ℕ} where
  pub alone : {t : Expr} → Spans c s at end t → UpTo c s at end (cons t nil)
  unfolding exprs_bytes
  alone {t} h =
      let b = spans-between h in
      let e : expr_bytes t ++ exprs_bytes nil ≡ expr_bytes t = append-nil (expr_bytes t) in
      record {
        between = record {
          bytes = b.bytes ∙ ap (λ (l : List ℕ). l ++ drop end s) (sym e);
          ends = omega (arith, b.ends, ap length e);
          within = b.within;
        };
        in_range = (h.stands.in_range, tt);
      }

  pub first-up-to : {t : Expr} {ts : Exprs} → UpTo c s at end (cons t ts) → Stands c s at t
  unfolding exprs_bytes
  first-up-to {t} {ts} h = record {
    bytes = record {
      rest = exprs_bytes ts ++ drop end s;
      bytes = h.between.bytes ∙ append_assoc (expr_bytes t) (exprs_bytes ts) (drop end s);
      within = omega (arith, h.between.ends, h.between.within);
    };
    in_range = h.in_range.0;
  }

  -- After its head come its children, and then the others.
  pub opened : {t : Expr} {ts : Exprs} → UpTo c s at end (cons t ts) → (p : ℕ) → p ≡ at + length (head_bytes t)
      → UpTo c s p end (and_then (children_of t) ts)
  unfolding exprs_bytes
  opened {t} {ts} h p e =
      let x : List ℕ = head_bytes t in
      let y : List ℕ = exprs_bytes (children_of t) ++ exprs_bytes ts in
      let split : expr_bytes t ++ exprs_bytes ts ≡ x ++ y =
      ap (λ (l : List ℕ). l ++ exprs_bytes ts) (head-children t) ∙ append_assoc x (exprs_bytes (children_of t)) (exprs_bytes ts) in
      let whole : drop at s ≡ x ++ (y ++ drop end s) =
      h.between.bytes ∙ ap (λ (l : List ℕ). l ++ drop end s) split ∙ append_assoc x y (drop end s) in
      let then : exprs_bytes (and_then (children_of t) ts) ≡ y = then-bytes (children_of t) ts in
      record {
        between = record {
          bytes = ap (λ (k : ℕ). drop k s) e ∙ sym (drop-drop (length x) at s) ∙ ap (drop (length x)) whole
              ∙ drop-append_seam x (y ++ drop end s) ∙ ap (λ (l : List ℕ). l ++ drop end s) (sym then);
          ends = omega (arith, h.between.ends, ap length split, length-append x y, ap length then);
          within = h.between.within;
        };
        in_range = then-in-range c (children_of t) ts (children-in-range c t h.in_range.0) h.in_range.1;
      }

  -- There are none exactly at the end.
  pub none-up-to : (P : Exprs → Type 0) → P nil → end ≤ at → (ts : Exprs) → UpTo c s at end ts → P ts
  unfolding exprs_bytes
  none-up-to P f past nil h = f
  none-up-to P f past (cons t ts) h =
      absurd (omega (arith, h.between.ends, some_bytes t, length-append (expr_bytes t) (exprs_bytes ts)))

  pub some-up-to : (P : Exprs → Type 0) → ((t : Expr) (ts : Exprs) → UpTo c s at end (cons t ts) → P (cons t ts)) → at < end → (ts : Exprs)
      → UpTo c s at end ts → P ts
  unfolding exprs_bytes
  some-up-to P f more nil h = absurd (omega (arith, h.between.ends))
  some-up-to P f more (cons t ts) h = f t ts h
