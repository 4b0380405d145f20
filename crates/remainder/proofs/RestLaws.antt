-- What stays of an And by what stays of its sides; parts written from the end to the start.
use Rattle.std.specs.Prelude.{if◌then◌else◌}
use Prim.Native.Nat.{ℕ, ◌+◌, ◌-◌, ◌≤◌}
use native.Mathlib.Omega.{arith}
use mathlib.Core.Path.{◌≡◌, refl, sym, ap, ap₂, ◌∙◌, subst}
use mathlib.Core.Bool.{Bool, true, false}
use mathlib.Core.List.{List, [], ◌∷◌, ◌++◌, map, map-append, append_assoc, append-nil}
use mathlib.Core.Option.{Option, none, some}
use lib.ListN.{length, take, drop, get_or, set, length-append, length-map}
use lib.Seq.{take-append-le, drop_at, take-take, length-take-le}
use lib.Dec.{eqb}
use borrow.Author.Tests.{eqb-true, eqb-false}
use Rattle.definitions.specs.Words.Expression.{Expr, column, literal, and, binary, call, other, field}
use Rattle.definitions.specs.Bytes.Encode.{expr_bytes}
use Rattle.definitions.specs.Words.Leaves.{leaves}
use Rattle.definitions.specs.Filter.Conjuncts.{and_both, unless, without_all}
use Rattle.theorems.proofs.AllRounds.{leaves-some}
use Rattle.expression.specs.Places.{Holds}
use Rattle.expression.proofs.Placed.{first, front, back}
use Rattle.byte_writer.specs.Written.{WroteAt}
use Rattle.byte_writer.proofs.Written.{nothing-wrote, two-stores}
use Rattle.remainder.specs.Rests.{bytes_left, left_bytes, flag_of, gone_flags, RestPut, AndPut}
use Rattle.remainder.specs.declared.rests.Stays.{Stays}
use Rattle.expression.proofs.Standing.{some_bytes}

-- ---- from the end to the start

-- y from b on, and then x from a up to b.
pub below : {a b r : ℕ} {x y before middle after : List ℕ} → b ≤ length before → WroteAt b y before middle r → WroteAt a x middle after b
    → WroteAt a (x ++ y) before after r
below {a} {b} {r} {x} {y} {before} {middle} {after} room first second =
    let front : length (take b before) ≡ b = length-take-le b before room in
    let low : a ≤ b = omega (arith, second.ends) in
    let begin : take a middle ≡ take a before =
    ap (take a) first.out ∙ take-append-le a (take b before) _ (omega (arith, front)) ∙ take-take a b before low in
    let rest : drop (a + length x) middle ≡ y ++ drop (b + length y) before =
    ap₂ drop (sym second.ends) first.out ∙ drop_at (take b before) (y ++ drop (b + length y) before) b front in
    let size : b + length y ≡ a + length (x ++ y) = simp length-append (omega (arith, second.ends)) in
    record {
      ends = omega (arith, first.ends, size);
      out =
          second.out
          ∙ ap₂ ◌++◌ begin (ap (λ (l : List ℕ). x ++ l) rest ∙ sym (append_assoc x y _)
          ∙ ap (λ (k : ℕ). (x ++ y) ++ drop k before) size);
    }

-- ---- what stays of an And

-- Where one side is gone, no head is written.
none-left : (x y : Option Expr) → length (bytes_left x) ≡ 0 → bytes_left (and_both x y) ≡ bytes_left x ++ bytes_left y
unfolding bytes_left and_both
none-left none y e = refl
none-left (some l) y e = absurd (omega (arith, some_bytes l))

none_right : (x y : Option Expr) → length (bytes_left y) ≡ 0 → bytes_left (and_both x y) ≡ bytes_left x ++ bytes_left y
unfolding bytes_left and_both
none_right none y e = refl
none_right (some l) none e = sym (append-nil (expr_bytes l))
none_right (some l) (some r) e = absurd (omega (arith, some_bytes r))

both_left : (x y : Option Expr) → (length (bytes_left x) ≡ 0 → ⊥) → (length (bytes_left y) ≡ 0 → ⊥)
    → bytes_left (and_both x y) ≡ (2 ∷ 0 ∷ []) ++ (bytes_left x ++ bytes_left y)
unfolding bytes_left and_both expr_bytes
both_left none y p q = absurd (p refl)
both_left (some l) none p q = absurd (q refl)
both_left (some l) (some r) p q = refl

-- ---- a leaf

-- An AND-leaf stays, unless it goes.
lone : (goes : Expr → Bool) (t : Expr) → leaves t ≡ t ∷ [] → without_all goes t ≡ unless goes t
unfolding without_all leaves
lone goes (column i t) e = refl
lone goes (literal type v) e = refl
lone goes (and l r) e =
    absurd (omega (arith, leaves-some l, leaves-some r, sym (length-append (leaves l) (leaves r)) ∙ ap length e))
lone goes (binary o l r) e = refl
lone goes (call name es) e = refl
lone goes (other tag es) e = refl
lone goes (field b t) e = refl

-- Its flag.
flag-is : (goes : Expr → Bool) {t : Expr} → leaves t ≡ t ∷ [] → {gone : List ℕ} {at : ℕ} → Holds gone at (gone_flags goes t)
    → get_or gone at 0 ≡ flag_of (goes t)
flag-is goes {t} e {gone} {at} h =
    first (subst (Holds gone at) (ap (map (λ leaf. flag_of (goes leaf))) e) h)

left-by : (goes : Expr → Bool) {t : Expr} → leaves t ≡ t ∷ [] → (b : Bool) → goes t ≡ b
    → left_bytes goes t ≡ bytes_left (if b then none else some t)
unfolding unless
left-by goes {t} e b is = ap bytes_left (lone goes t e ∙ ap (λ (x : Bool). if x then none else some t) is)

pub leaf-goes : {end after : ℕ} {gone before : List ℕ} {t : Expr} → leaves t ≡ t ∷ [] → 1 ≤ after → (leaf : ℕ) → leaf ≡ after - 1
    → get_or gone leaf 0 ≡ 1 → RestPut end after gone before before (record { start = end; leaf = leaf }) t
unfolding bytes_left
leaf-goes {end} {after} {gone} {before} {t} single least leaf is flag = record {
  counted = omega (arith, ap length single);
  high = omega arith;
  low = omega arith;
  wrote = λ goes h. subst (λ (x : List ℕ). WroteAt end x before before end) (sym (gone-by goes (goes t) refl (flag-is goes single h)))
      (nothing-wrote before end);
}
  where
    gone-by : (goes : Expr → Bool) (b : Bool) → goes t ≡ b → get_or gone leaf 0 ≡ flag_of (goes t) → left_bytes goes t ≡ []
    gone-by goes true e f = left-by goes single true e
    gone-by goes false e f = absurd (omega (arith, flag, f ∙ ap flag_of e))

pub leaf-stays : {end after : ℕ} {gone before out : List ℕ} {t : Expr} → leaves t ≡ t ∷ [] → 1 ≤ after → (leaf start : ℕ) → leaf ≡ after - 1
    → (get_or gone leaf 0 ≡ 1 → ⊥) → start + length (expr_bytes t) ≡ end → {r : ℕ} → WroteAt start (expr_bytes t) before out r
    → RestPut end after gone before out (record { start = start; leaf = leaf }) t
unfolding bytes_left
leaf-stays {end} {after} {gone} {before} {out} {t} single least leaf start is flag size w = record {
  counted = omega (arith, ap length single);
  high = omega arith;
  low = omega arith;
  wrote = λ goes h. subst (λ (x : List ℕ). WroteAt start x before out end) (sym (stays_by goes (goes t) refl (flag-is goes single h)))
      (record { ends = sym size; out = w.out });
}
  where
    stays_by : (goes : Expr → Bool) (b : Bool) → goes t ≡ b → get_or gone leaf 0 ≡ flag_of (goes t) → left_bytes goes t ≡ expr_bytes t
    stays_by goes true e f = absurd (flag (f ∙ ap flag_of e))
    stays_by goes false e f = left-by goes single false e

-- ---- an And

module _ {end after middle : ℕ} {gone before turned sides out : List ℕ} {a b r : Stays} {l k : Expr} (within : end ≤ length before)
    (right : RestPut end after gone before turned b k) (is : middle ≡ b.start)
    (left : RestPut middle b.leaf gone turned sides a l) (head : AndPut a middle end sides out r) where
  abbrev P : Type 0
  P = RestPut end after gone before out r (and l k)

  flags-of : (goes : Expr → Bool) → gone_flags goes (and l k) ≡ gone_flags goes l ++ gone_flags goes k
  unfolding leaves
  flags-of goes = map-append (λ leaf. flag_of (goes leaf)) (leaves l) (leaves k)

  -- Both sides, one before the other.
  both-wrote : (goes : Expr → Bool) → Holds gone r.leaf (gone_flags goes (and l k))
      → WroteAt a.start (left_bytes goes l) turned sides middle
      × WroteAt a.start (left_bytes goes l ++ left_bytes goes k) before sides end
      × WroteAt b.start (left_bytes goes k) before turned end
  both-wrote goes h =
      let there : Holds gone a.leaf (gone_flags goes l ++ gone_flags goes k) =
      subst (λ (p : ℕ). Holds gone p (gone_flags goes l ++ gone_flags goes k)) head.leaf (subst (Holds gone r.leaf) (flags-of goes) h) in
      let one : WroteAt a.start (left_bytes goes l) turned sides middle = left.wrote goes
      (front (gone_flags goes l) (gone_flags goes k) there) in
      let two : WroteAt b.start (left_bytes goes k) before turned end =
      right.wrote goes (back (gone_flags goes l) (gone_flags goes k) there b.leaf
      (omega (arith, left.counted, length-map (leaves l) (λ leaf. flag_of (goes leaf))))) in
      (one, below (omega (arith, right.high)) two (subst (WroteAt a.start (left_bytes goes l) turned sides) is one), two)

  counted-and : r.leaf + length (leaves (and l k)) ≡ after
  unfolding leaves
  counted-and = simp length-append (omega (arith, head.leaf, left.counted, right.counted))

  -- No head where a side is gone,
  headless : (r.start ≡ a.start) × (out ≡ sides) → ((goes : Expr → Bool) → Holds gone r.leaf (gone_flags goes (and l k))
      → left_bytes goes (and l k) ≡ left_bytes goes l ++ left_bytes goes k) → P
  unfolding expr_bytes
  headless same bytes = record {
    counted = counted-and;
    high = omega (arith, same.0, left.high, is, right.high);
    low = simp length-append (omega (arith, same.0, left.low, is, right.low));
    wrote = λ goes h.
        rw (bytes goes h, same.0, same.1) (both-wrote goes h).1;
  }

  -- else one before both.
  headed : (r.start + 2 ≡ a.start) × WroteAt r.start (2 ∷ 0 ∷ []) sides out a.start → (a.start ≡ middle → ⊥) → (middle ≡ end → ⊥)
      → P
  unfolding expr_bytes without_all
  headed wrote no-left no-right = record {
    counted = counted-and;
    high = omega (arith, wrote.0, left.high, is, right.high);
    low = simp length-append (omega (arith, wrote.0, left.low, is, right.low));
    wrote = λ goes h.
        let w = both-wrote goes h in
        rw (both_left (without_all goes l) (without_all goes k) (λ e. no-left (omega (arith, w.0.ends)))
        (λ e. no-right (omega (arith, is, w.2.ends))))
        (below (omega (arith, left.high, is, right.high)) w.1 wrote.1);
  }

  by-sides : (p q : Bool) → eqb a.start middle ≡ p → eqb middle end ≡ q → P
  unfolding without_all
  by-sides true q e f =
      let same : a.start ≡ middle = eqb-true a.start middle e in
      headless (head.no_left same)
      (λ goes h. none-left (without_all goes l) (without_all goes k) (omega (arith, (both-wrote goes h).0.ends)))
  by-sides false true e f =
      let same : middle ≡ end = eqb-true middle end f in
      headless (head.no_right same)
      (λ goes h. none_right (without_all goes l) (without_all goes k) (omega (arith, is, (both-wrote goes h).2.ends)))
  by-sides false false e f =
      headed (head.both (eqb-false a.start middle e) (eqb-false middle end f)) (eqb-false a.start middle e) (eqb-false middle end f)

  pub and-put : P
  and-put = by-sides (eqb a.start middle) (eqb middle end) refl refl

-- ---- the head of an And

pub and-headed : {left : Stays} {middle end : ℕ} {before : List ℕ} → (left.start ≡ middle → ⊥) → (middle ≡ end → ⊥) → 2 ≤ left.start
    → left.start ≤ length before → (w : ℕ) → w ≡ left.start - 2
    → AndPut left middle end before (set (set before w 2) (w + 1) 0) (record { start = w; leaf = left.leaf })
and-headed {left} {middle} {end} {before} no-left no-right least most w is = record {
  leaf = refl;
  no_left = λ e. absurd (no-left e);
  no_right = λ e. absurd (no-right e);
  both = λ _ _.
      (omega arith, record { ends = omega arith; out = (two-stores before w 2 0 (omega arith)).out });
}
