-- The last remainder is a good frame, and each round's too.
use Rattle.std.specs.Prelude.{if◌then◌else◌}
use Prim.Native.Nat.{ℕ, zero, suc, ◌≤◌, ◌<◌}
use native.Mathlib.Omega.{arith}
use mathlib.Core.Path.{◌≡◌, refl, sym, ap₂, ◌∙◌}
use mathlib.Core.Bool.{Bool, true, false, ◌&&◌}
use mathlib.Core.List.{List, [], ◌∷◌}
use mathlib.Core.Option.{Option, none, some, map}
use lib.ListN.{length, get_or, length-append}
use Rattle.definitions.specs.Words.Basics.{any}
use Rattle.definitions.specs.Words.Expression.{Expr, column, literal, and, binary, call, other, field, Frame, Predicate, Extraction, held, extracted}
use Rattle.definitions.specs.Bytes.Encode.{expr_bytes, remainder_bytes, plan_bytes}
use Rattle.definitions.specs.Words.Leaves.{arity}
use Rattle.definitions.specs.Bytes.Decode.{Columns, index_below}
use Rattle.definitions.specs.Filter.Extract.{Pick, prune, Matcher, matches_by, is_match}
use Rattle.definitions.specs.Bytes.Good.{nodes, depth, InRange, ReadableFrame, plan_nodes, remainder_nodes, GoodPlan}
use Rattle.definitions.specs.Filter.Conjuncts.{and_both, unless, without_all, last_remainder}
use Rattle.definitions.specs.Claims.All.{EveryPick, GoodRest}
use Rattle.theorems.proofs.Tools.{by-test}
use Rattle.theorems.proofs.Taken.{RestIs, rest_bytes, and-both, arity-and}
use Rattle.theorems.proofs.ExtractGood.{rest-readable, rest-length, prune-nodes}
use Rattle.theorems.proofs.ExchangeGood.{frame-length, extraction-length}
use Rattle.theorems.proofs.AllRounds.{matches_leaf}

-- ---- what stays is within the whole

unless-is : (P : Expr → Type 0) (goes : Expr → Bool) (e : Expr) → P e → RestIs P (unless goes e)
unfolding unless
unless-is P goes e h = by (goes e)
  where
    by : (b : Bool) → RestIs P (if b then none else some e)
    by true = tt
    by false = h

both_is : (P Q R : Expr → Type 0) → ((l : Expr) → P l → R l) → ((r : Expr) → Q r → R r) → ((l r : Expr) → P l → Q r → R (and l r))
    → (x y : Option Expr) → RestIs P x → RestIs Q y → RestIs R (and_both x y)
unfolding and_both
both_is P Q R f g b none none h k = tt
both_is P Q R f g b none (some r) h k = g r k
both_is P Q R f g b (some l) none h k = f l h
both_is P Q R f g b (some l) (some r) h k = b l r h k

-- What holds of all leaves, and of an And or either side of it where it holds of both, holds of what stays.
module _ (P : Expr → Expr → Type 0) (goes : Expr → Bool) (same : (e : Expr) → P e e)
    (in_left : (l r x : Expr) → P l x → P (and l r) x) (in_right : (l r x : Expr) → P r x → P (and l r) x)
    (in_both : (l r x y : Expr) → P l x → P r y → P (and l r) (and x y)) where
  stays_within : (e : Expr) → RestIs (P e) (without_all goes e)
  unfolding without_all
  stays_within (column i t) = unless-is (P (column i t)) goes (column i t) (same (column i t))
  stays_within (literal type v) = unless-is (P (literal type v)) goes (literal type v) (same (literal type v))
  stays_within (and l r) =
      both_is (P l) (P r) (P (and l r)) (in_left l r) (in_right l r) (in_both l r) (without_all goes l)
      (without_all goes r) (stays_within l)
      (stays_within r)
  stays_within (binary o l r) = unless-is (P (binary o l r)) goes (binary o l r) (same (binary o l r))
  stays_within (call name es) = unless-is (P (call name es)) goes (call name es) (same (call name es))
  stays_within (other tag es) = unless-is (P (other tag es)) goes (other tag es) (same (other tag es))
  stays_within (field b t) = unless-is (P (field b t)) goes (field b t) (same (field b t))

-- Sizes, range and arity of what stays.
abbrev Within : Columns → Expr → Expr → Type 0
Within c e x =
    (depth x ≤ depth e) × (nodes x ≤ nodes e) × (length (expr_bytes x) ≤ length (expr_bytes e)) × (InRange c e → InRange c x)
    × (arity e ≡ true → arity x ≡ true)

arities : (l r : Expr) → arity (and l r) ≡ true → (arity l ≡ true) × (arity r ≡ true)
arities l r h = and-both (arity l) (arity r) (sym (arity-and l r) ∙ h)

within-left : (c : Columns) (l r x : Expr) → Within c l x → Within c (and l r) x
unfolding depth nodes expr_bytes
within-left c l r x h = (
  omega (arith, h.0),
  omega (arith, h.1),
  omega (arith, h.2, length-append (expr_bytes l) (expr_bytes r)),
  λ k. h.3 k.0,
  λ k. h.4 (arities l r k).0,
)

within-right : (c : Columns) (l r x : Expr) → Within c r x → Within c (and l r) x
unfolding depth nodes expr_bytes
within-right c l r x h = (
  omega (arith, h.0),
  omega (arith, h.1),
  omega (arith, h.2, length-append (expr_bytes l) (expr_bytes r)),
  λ k. h.3 k.1,
  λ k. h.4 (arities l r k).1,
)

within_both : (c : Columns) (l r x y : Expr) → Within c l x → Within c r y → Within c (and l r) (and x y)
unfolding depth nodes expr_bytes
within_both c l r x y h k = (
  omega (arith, h.0, k.0),
  omega (arith, h.1, k.1),
  omega (arith, h.2, k.2, length-append (expr_bytes l) (expr_bytes r), length-append (expr_bytes x) (expr_bytes y)),
  λ z. (h.3 z.0, k.3 z.1),
  λ z. arity-and x y ∙ ap₂ ◌&&◌ (h.4 (arities l r z).0) (k.4 (arities l r z).1),
)

within : (c : Columns) (goes : Expr → Bool) (e : Expr) → RestIs (Within c e) (without_all goes e)
within c goes e =
    stays_within (Within c) goes (λ e. (omega arith, omega arith, omega arith, λ h. h, λ h. h)) (within-left c) (within-right c)
    (within_both c) e

-- ---- the last remainder

module _ (F : Frame) (good : GoodPlan (held F)) where
  pruned-good : (rest : Option Expr) → RestIs (Within (index_below (length F.records)) F.expr) rest
      → GoodRest (map (prune F.records) rest)
  unfolding plan_bytes plan_nodes remainder_bytes rest_bytes
  pruned-good none h = tt
  pruned-good (some x) h =
      let frame : ReadableFrame F = good.readable in
      record {
        readable = rest-readable F.records (some x) frame.few frame.records_in_range (h.3 frame.expr.in_range)
            (omega (arith, h.0, frame.expr.shallow)) (h.4 frame.arity);
        few_nodes = omega (arith, prune-nodes F.records x, h.1, good.few_nodes);
        few_bytes = omega (arith, rest-length F.records (some x), frame-length F, h.2, good.few_bytes);
      }

  pub last-good : (match : Matcher) → GoodRest (last_remainder match F)
  unfolding last_remainder
  last-good match =
      by-test GoodRest (any is_match (matches_by match F)) _ (some F)
      (λ _. pruned-good (without_all (matches_leaf match F.records) F.expr)
      (within (index_below (length F.records)) (matches_leaf match F.records) F.expr)) (λ _. good)

-- ---- the remainder of a good extraction

remainder-good : (X : Extraction) (R : Option Frame) → X.remainder ≡ R → GoodPlan (extracted X) → GoodRest R
unfolding plan_bytes plan_nodes remainder_nodes remainder_bytes
remainder-good X none e g = tt
remainder-good X (some R) e g =
    let whole : GoodPlan (extracted (record { position = X.position; predicate = X.predicate; remainder = some R })) = rw e at g in
    record {
      readable = whole.readable.2;
      few_nodes = omega (arith, whole.few_nodes);
      few_bytes = omega (
        arith,
        whole.few_bytes,
        extraction-length
            (record { position = X.position; predicate = X.predicate; remainder = some R }),
      );
    }

pub rest-good : (X : Extraction) → GoodPlan (extracted X) → GoodRest X.remainder
rest-good X g = remainder-good X X.remainder refl g

-- ---- positions

found_below : (ms : List (Option Predicate)) (i : ℕ) (p : Predicate) → get_or ms i none ≡ some p → i < length ms
found_below [] i p e = let z : ◌≡◌ {A = ℕ} 0 1 = cc in absurd (omega arith)
found_below (m ∷ ms) zero p e = omega arith
found_below (m ∷ ms) (suc i) p e = omega (arith, found_below ms i p e)

pub all-below : (ms : List (Option Predicate)) (n : ℕ) (ps : List Pick) → length ms ≤ n
    → EveryPick (λ p. get_or ms p.position none ≡ some p.predicate) ps → EveryPick (λ p. p.position < n) ps
all-below ms n [] b h = tt
all-below ms n (p ∷ ps) b h = (omega (arith, found_below ms p.position p.predicate h.0), all-below ms n ps b h.1)
