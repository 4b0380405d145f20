-- What is left of an expression without one of its AND-leaves: which node goes, and the bytes before, between and behind what goes.
use Prim.Native.Nat.{ℕ, ◌+◌, ◌-◌, ◌≤◌, ◌<◌}
use native.Mathlib.Omega.{arith}
use mathlib.Core.Path.{◌≡◌, refl, sym, ap, ◌∙◌, subst}
use mathlib.Core.Bool.{Bool}
use Rattle.std.specs.Prelude.{if◌then◌else◌}
use mathlib.Core.List.{List, [], ◌∷◌, ◌++◌, append_assoc, append-nil}
use mathlib.Core.Option.{Option, none, some}
use lib.ListN.{length, length-append}
use borrow.Author.Tests.{lt-ltb, le-ltb}
use Rattle.definitions.specs.Words.Expression.{Expr, column, literal, and, binary, call, other, field}
use Rattle.definitions.specs.Bytes.Encode.{expr_bytes}
use Rattle.definitions.specs.Words.Leaves.{leaves}
use Rattle.definitions.specs.Bytes.Decode.{Columns}
use Rattle.definitions.specs.Filter.Extract.{without, and_left, and_right}
use Rattle.definitions.specs.Bytes.Good.{InRange}
use Rattle.expression.specs.Nodes.{left_of, right_of}
use Rattle.expression.specs.Cuts.{CutAt, here, in_left, in_right}
use Rattle.expression.specs.declared.cuts.Cut.{Cut}
use Rattle.expression.proofs.AndLeaves.{no-and, position-below}

-- An And has the bytes of its sides and two more.
pub size-and : (l r : Expr) → length (expr_bytes (and l r)) ≡ 2 + length (expr_bytes l) + length (expr_bytes r)
unfolding expr_bytes
size-and l r = simp length-append (omega arith)

-- ---- which node goes

-- e is left of the expression t at a place: one side of the And above the leaf, with the And nodes above that.
pub data LeftOf (cut : Cut) : (at : ℕ) (t e : Expr) → Type 0 where
  first_goes : {at : ℕ} {l r : Expr} → cut.parent ≡ at → cut.leaf ≡ left_of at → cut.end ≡ right_of at l → LeftOf cut at (and l r) r
  second_goes : {at : ℕ} {l r : Expr} → cut.parent ≡ at → cut.leaf ≡ right_of at l → cut.end ≡ right_of at l + length (expr_bytes r)
      → LeftOf cut at (and l r) l
  in_first : {at : ℕ} {l r e : Expr} → LeftOf cut (left_of at) l e → LeftOf cut at (and l r) (and e r)
  in_second : {at : ℕ} {l r e : Expr} → LeftOf cut (right_of at l) r e → LeftOf cut at (and l r) (and l e)

-- The other AND-leaves, as they were joined.
rest : {cut : Cut} {up : ℕ} {t : Expr} {at position : ℕ} → CutAt cut up t at position → Option Expr
rest (here lone leaf end parent) = none
rest (in_left {r = r} c) = some (and_left (rest c) r)
rest (in_right {l = l} c) = some (and_right l (rest c))

lone-without : (t : Expr) → leaves t ≡ t ∷ [] → (i : ℕ) → without i t ≡ none
unfolding without
lone-without (column i g) e p = refl
lone-without (literal y v) e p = refl
lone-without (and l r) e p = absurd (no-and l r e)
lone-without (binary o l r) e p = refl
lone-without (call name ts) e p = refl
lone-without (other g ts) e p = refl
lone-without (field b g) e p = refl

without-left : (i : ℕ) (l r : Expr) → i < length (leaves l) → without i (and l r) ≡ some (and_left (without i l) r)
unfolding without
without-left i l r h =
    ap (λ (b : Bool). some (if b then and_left (without i l) r else and_right l (without (i - length (leaves l)) r)))
    (lt-ltb i (length (leaves l)) h)

without-right : (j i : ℕ) (l r : Expr) → i ≡ length (leaves l) + j → without i (and l r) ≡ some (and_right l (without j r))
unfolding without
without-right j i l r e =
    let on : i - length (leaves l) ≡ j = omega arith in
    ap (λ (b : Bool). some (if b then and_left (without i l) r else and_right l (without (i - length (leaves l)) r)))
    (le-ltb i (length (leaves l)) (omega arith))
    ∙ ap (λ (k : ℕ). some (and_right l (without k r))) on

-- It is the definition's expression without the leaf.
rest-without : {cut : Cut} {up : ℕ} {t : Expr} {at position : ℕ} (c : CutAt cut up t at position) → without position t ≡ rest c
unfolding rest
rest-without (here {t = t} lone leaf end parent) = lone-without t lone 0
rest-without (in_left {l = l} {r = r} {position = i} c) =
    without-left i l r (position-below c) ∙ ap (λ (o : Option Expr). some (and_left o r)) (rest-without c)
rest-without (in_right {l = l} {r = r} {position = i} c) =
    without-right i (length (leaves l) + i) l r refl ∙ ap (λ (o : Option Expr). some (and_right l o)) (rest-without c)

-- Either the leaf is the whole expression, or something is left.
data Cutting (cut : Cut) (up : ℕ) (t : Expr) (at : ℕ) : Option Expr → Type 0 where
  whole : cut.leaf ≡ at → cut.end ≡ at + length (expr_bytes t) → cut.parent ≡ up → Cutting cut up t at none
  partly : {e : Expr} → LeftOf cut at t e → Cutting cut up t at (some e)

from-left : {cut : Cut} {up at : ℕ} {l r : Expr} {o : Option Expr} → Cutting cut at l (left_of at) o
    → Cutting cut up (and l r) at (some (and_left o r))
unfolding and_left
from-left (whole leaf end parent) = partly (first_goes parent leaf end)
from-left (partly e) = partly (in_first e)

from-right : {cut : Cut} {up at : ℕ} {l r : Expr} {o : Option Expr} → Cutting cut at r (right_of at l) o
    → Cutting cut up (and l r) at (some (and_right l o))
unfolding and_right
from-right (whole leaf end parent) = partly (second_goes parent leaf end)
from-right (partly e) = partly (in_second e)

cutting-of : {cut : Cut} {up : ℕ} {t : Expr} {at position : ℕ} (c : CutAt cut up t at position) → Cutting cut up t at (rest c)
unfolding rest
cutting-of (here lone leaf end parent) = whole leaf end parent
cutting-of (in_left c) = from-left (cutting-of c)
cutting-of (in_right c) = from-right (cutting-of c)

parted : {cut : Cut} {up : ℕ} {t e : Expr} {at : ℕ} {o : Option Expr} → Cutting cut up t at o → o ≡ some e → LeftOf cut at t e
parted (whole leaf end parent) is = absurd (cc)
parted {cut} {up} {t} {e} {at} (partly {e = k} left) is = let same : k ≡ e = cc in subst (LeftOf cut at t) same left

pub left-of : {cut : Cut} {up : ℕ} {t e : Expr} {at position : ℕ} → CutAt cut up t at position → without position t ≡ some e
    → LeftOf cut at t e
left-of c is = parted (cutting-of c) (sym (rest-without c) ∙ is)

-- ---- where the cut lies

pub record Spans (cut : Cut) (t : Expr) (at : ℕ) : Type 0 where
  pub parent : at ≤ cut.parent
  pub leaf : cut.parent + 2 ≤ cut.leaf
  pub some : cut.leaf ≤ cut.end
  pub end : cut.end ≤ at + length (expr_bytes t)

pub left-spans : {cut : Cut} {at : ℕ} {t e : Expr} → LeftOf cut at t e → Spans cut t at
left-spans (first_goes {l = l} {r = r} parent leaf end) =
    record { parent = omega arith; leaf = omega arith; some = omega arith; end = omega (arith, size-and l r) }
left-spans (second_goes {l = l} {r = r} parent leaf end) =
    record { parent = omega arith; leaf = omega arith; some = omega arith; end = omega (arith, size-and l r) }
left-spans (in_first {l = l} {r = r} k) =
    let s = left-spans k in
    record { parent = omega (arith, s.parent); leaf = s.leaf; some = s.some; end = omega (arith, s.end, size-and l r) }
left-spans (in_second {l = l} {r = r} k) =
    let s = left-spans k in
    record { parent = omega (arith, s.parent); leaf = s.leaf; some = s.some; end = omega (arith, s.end, size-and l r) }

-- What is left has so many bytes.
pub left-size : {cut : Cut} {at : ℕ} {t e : Expr} → LeftOf cut at t e
    → length (expr_bytes e) + 2 + (cut.end - cut.leaf) ≡ length (expr_bytes t)
left-size (first_goes {l = l} {r = r} parent leaf end) = omega (arith, size-and l r)
left-size (second_goes {l = l} {r = r} parent leaf end) = omega (arith, size-and l r)
left-size (in_first {l = l} {r = r} {e = e} k) = omega (arith, left-size k, size-and l r, size-and e r)
left-size (in_second {l = l} {r = r} {e = e} k) = omega (arith, left-size k, size-and l r, size-and l e)

pub left-range : {cut : Cut} {at : ℕ} {t e : Expr} → LeftOf cut at t e → (d : Columns) → InRange d t → InRange d e
left-range (first_goes parent leaf end) d h = h.1
left-range (second_goes parent leaf end) d h = h.0
left-range (in_first k) d h = (left-range k d h.0, h.1)
left-range (in_second k) d h = (h.0, left-range k d h.1)

-- ---- the three spans of bytes

pub record Pieces (cut : Cut) (at : ℕ) (t e : Expr) : Type 0 where
  pub before : List ℕ
  pub between : List ℕ
  pub gone : List ℕ
  pub behind : List ℕ
  pub of_all : expr_bytes t ≡ before ++ ((2 ∷ 0 ∷ []) ++ (between ++ (gone ++ behind)))
  pub of_left : expr_bytes e ≡ before ++ (between ++ behind)
  pub parent : at + length before ≡ cut.parent
  pub leaf : cut.parent + 2 + length between ≡ cut.leaf
  pub end : cut.leaf + length gone ≡ cut.end

pub pieces : {cut : Cut} {at : ℕ} {t e : Expr} → LeftOf cut at t e → Pieces cut at t e
unfolding expr_bytes
pieces (first_goes {l = l} {r = r} parent leaf end) = record {
  before = [];
  between = [];
  gone = expr_bytes l;
  behind = expr_bytes r;
  of_all = refl;
  of_left = refl;
  parent = omega arith;
  leaf = omega arith;
  end = omega arith;
}
pieces (second_goes {l = l} {r = r} parent leaf end) = record {
  before = [];
  between = expr_bytes l;
  gone = expr_bytes r;
  behind = [];
  of_all = ap (λ (x : List ℕ). 2 ∷ 0 ∷ (expr_bytes l ++ x)) (sym (append-nil (expr_bytes r)));
  of_left = sym (append-nil (expr_bytes l));
  parent = omega arith;
  leaf = omega arith;
  end = omega arith;
}
pieces (in_first {l = l} {r = r} {e = e} k) =
    let p = pieces k in
    record {
      before = 2 ∷ 0 ∷ p.before;
      between = p.between;
      gone = p.gone;
      behind = p.behind ++ expr_bytes r;
      of_all = rw p.of_all (simp append_assoc);
      of_left = rw p.of_left (simp append_assoc);
      parent = omega (arith, p.parent);
      leaf = p.leaf;
      end = p.end;
    }
pieces (in_second {l = l} {r = r} {e = e} k) =
    let p = pieces k in
    record {
      before = 2 ∷ 0 ∷ (expr_bytes l ++ p.before);
      between = p.between;
      gone = p.gone;
      behind = p.behind;
      of_all = rw p.of_all (simp append_assoc);
      of_left = rw p.of_left (simp append_assoc);
      parent = omega (arith, p.parent, length-append (expr_bytes l) p.before);
      leaf = p.leaf;
      end = p.end;
    }

-- ---- all of it

-- The expression e is left.
pub record Remains (cut : Cut) (t : Expr) (at position : ℕ) (e : Expr) : Type 0 where
  pub without-leaf : without position t ≡ some e
  pub in_range : (d : Columns) → InRange d t → InRange d e

-- Nothing is left where the leaf is the whole expression, and something where it is not.
nothing-there : {cut : Cut} {up : ℕ} {t : Expr} {at : ℕ} {o : Option Expr} → Cutting cut up t at o → at ≡ cut.leaf → o ≡ none
nothing-there (whole leaf end parent) is = refl
nothing-there (partly left) is = let s = left-spans left in absurd (omega (arith, s.parent, s.leaf))

pub nothing_left : {cut : Cut} {up : ℕ} {t : Expr} {at position : ℕ} → CutAt cut up t at position → at ≡ cut.leaf
    → without position t ≡ none
nothing_left c e = rest-without c ∙ nothing-there (cutting-of c) e

something-there : {cut : Cut} {up : ℕ} {t : Expr} {at : ℕ} {o : Option Expr} → Cutting cut up t at o → (at ≡ cut.leaf → ⊥)
    → (e : Expr) × (o ≡ some e) × LeftOf cut at t e
something-there (whole leaf end parent) n = absurd (n (sym leaf))
something-there (partly {e = e} left) n = (e, refl, left)

pub something-left : {cut : Cut} {up : ℕ} {t : Expr} {at position : ℕ} → CutAt cut up t at position → (at ≡ cut.leaf → ⊥)
    → (e : Expr) × Remains cut t at position e
something-left c n =
    let some-left = something-there (cutting-of c) n in
    (some-left.0, record { without-leaf = rest-without c ∙ some-left.1; in_range = left-range some-left.2 })
