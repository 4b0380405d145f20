-- Laws of writing to a buffer: byte by byte, and one part after another.
use Prim.Native.Nat.{ℕ, suc, ◌+◌, ◌-◌, ◌≤◌, ◌<◌}
use native.Mathlib.Omega.{arith}
use native.Mathlib.Numerals.{add-one}
use native.Mathlib.Nat.{zero-add, add-zero}
use mathlib.Core.Path.{◌≡◌, refl, sym, ap, ap₂, ◌∙◌}
use mathlib.Core.List.{List, [], ◌∷◌, ◌++◌, append_assoc, append-nil}
use lib.ListN.{length, take, drop, get_or, set, length-append, length-set, length-drop, length-take, drop_of_length-le, take-append-drop}
use lib.Seq.{drop-cons, take-suc, append_snoc, set_at, set_split, length-take-le, take_all, take_at, drop_at, drop-drop, take-append_seam}
use Rattle.expression.specs.Places.{Holds}
use Rattle.expression.proofs.Puts.{Put, put-chain}
use Rattle.byte_writer.specs.Written.{Wrote, WroteAt}

-- ---- a list written element by element

-- What a store of the next element makes of a written beginning.
pub write-more : (d before out : List ℕ) (i : ℕ) → i < length d → i < length before → out ≡ take i d ++ drop i before
    → set out i (get_or d i 0) ≡ take (i + 1) d ++ drop (i + 1) before
write-more d before out i b k e =
    ap (λ (l : List ℕ). set l i (get_or d i 0)) (e ∙ ap (λ (l : List ℕ). take i d ++ l) (drop-cons before i 0 k))
    ∙ set_at (take i d) (get_or before i 0) (drop (suc i) before) (get_or d i 0) i (length-take-le i d (omega arith))
    ∙ sym (append_snoc (take i d) (get_or d i 0) (drop (suc i) before))
    ∙ ap (λ (l : List ℕ). l ++ drop (suc i) before) (sym (take-suc d i 0 b))
    ∙ ap (λ (j : ℕ). take j d ++ drop j before) (sym (add-one i))

-- The bytes that stand at a place are those that a copy from there takes.
pub taken : {s x : List ℕ} {at : ℕ} → Holds s at x → take (length x) (drop at s) ≡ x
taken {s} {x} {at} h = ap (take (length x)) h.bytes ∙ take-append_seam x h.rest

pub copied-wrote : {s x : List ℕ} (before : List ℕ) {after : List ℕ} {at : ℕ} (n : ℕ) → Holds s at x → n ≡ length x
    → after ≡ take n (drop at s) ++ drop n before → Wrote x before after
copied-wrote {s} {x} before {after} {at} n h e is =
    is ∙ ap (λ (k : ℕ). take k (drop at s) ++ drop k before) e ∙ ap (λ (l : List ℕ). l ++ drop (length x) before) (taken h)

-- ---- one part after another

pub nothing-wrote : (before : List ℕ) (w : ℕ) → WroteAt w [] before before w
nothing-wrote before w =
    record {
      ends = sym (add-zero w);
      out = sym (take-append-drop w before)
          ∙ ap (λ (k : ℕ). take w before ++ drop k before) (sym (add-zero w));
    }

-- A store writes one byte.
pub store : (before : List ℕ) (w b : ℕ) → w < length before → WroteAt w (b ∷ []) before (set before w b) (w + 1)
store before w b room =
    record { ends = refl; out = set_split before w b room ∙ ap (λ (k : ℕ). take w before ++ (b ∷ drop k before)) (sym (add-one w)) }

-- The one law of composition: x from a to b, then y from b on.
pub chain : {a b r : ℕ} {x y before middle after : List ℕ} → a ≤ length before → WroteAt a x before middle b → WroteAt b y middle after r
    → WroteAt a (x ++ y) before after r
chain {a} {b} {r} {x} {y} {before} {middle} {after} room one two =
    let first : Put a x before middle b = record { ends = one.ends; out = one.out } in
    let second : Put b y middle after r = record { ends = two.ends; out = two.out } in
    let both = put-chain room first second in
    record { ends = both.ends; out = both.out }

pub two-stores : (before : List ℕ) (w a b : ℕ) → w + 2 ≤ length before
    → WroteAt w (a ∷ b ∷ []) before (set (set before w a) (w + 1) b) (w + 1 + 1)
two-stores before w a b room =
    chain (omega arith) (store before w a (omega arith)) (store (set before w a) (w + 1) b (simp length-set (omega arith)))

-- x may also be written to the start once y is written after it.
pub under : {w r : ℕ} {x y before middle after : List ℕ} → w ≤ length before → WroteAt w y before middle r → WroteAt 0 x middle after w
    → WroteAt 0 (x ++ y) before after r
under {w} {r} {x} {y} {before} {middle} {after} room first second =
    let size : length x ≡ w = omega (arith, second.ends) in
    let start : 0 + length x ≡ w = omega arith in
    let both : w + length y ≡ 0 + length (x ++ y) = simp length-append (omega arith) in
    let rest : drop (0 + length x) middle ≡ y ++ drop (0 + length (x ++ y)) before =
    ap₂ drop start first.out ∙ drop_at (take w before) (y ++ drop (w + length y) before) w (length-take-le w before room)
    ∙ ap (λ (k : ℕ). y ++ drop k before) both in
    record {
      ends = simp length-append (omega (arith, first.ends, size));
      out = second.out ∙ ap (λ (l : List ℕ). x ++ l) rest ∙ sym (append_assoc x y (drop (0 + length (x ++ y)) before));
    }

-- What was written from 0 on was written to the start.
pub from_start : (x before : List ℕ) {after : List ℕ} → Wrote x before after → (r : ℕ) → r ≡ length x → WroteAt 0 x before after r
from_start x before {after} e r size =
    record { ends = omega (arith, size); out = e ∙ ap (λ (k : ℕ). x ++ drop k before) (sym (zero-add (length x))) }

pub to_start : {x before after : List ℕ} {r : ℕ} → WroteAt 0 x before after r → (r ≡ length x) × Wrote x before after
to_start {x} {before} {after} {r} w = (omega (arith, w.ends), w.out ∙ ap (λ (k : ℕ). x ++ drop k before) (zero-add (length x)))

-- What was written stands there, and something as long may be written over it.
module _ {w r : ℕ} {x before middle : List ℕ} (room : w ≤ length before) (first : WroteAt w x before middle r) where
  pub standing : Holds middle w x
  standing = record {
    rest = drop (w + length x) before;
    bytes =
        ap (drop w) first.out ∙ drop_at (take w before) (x ++ drop (w + length x) before) w (length-take-le w before room);
    within = omega (
      arith,
      length-take-le w before room,
      ap length first.out,
      length-append (take w before) (x ++ drop (w + length x) before),
    );
  }

  pub over : {y after : List ℕ} {k : ℕ} → length x ≡ length y → WroteAt w y middle after k → WroteAt w y before after r
  over {y} {after} {k} same second = record {
    ends = omega (arith, first.ends, same);
    out =
        second.out
        ∙ ap₂ (λ (a z : List ℕ). a ++ (y ++ z))
        (ap (take w) first.out ∙ take_at (take w before) (x ++ drop (w + length x) before) w (length-take-le w before room))
        (ap₂ drop (ap (λ (n : ℕ). w + n) (sym same)) (first.out ∙ sym (append_assoc (take w before) x (drop (w + length x) before)))
        ∙ drop_at (take w before ++ x) (drop (w + length x) before) (w + length x)
        (omega (arith, length-append (take w before) x, length-take-le w before room))
        ∙ ap (λ (n : ℕ). drop (w + n) before) same);
  }

-- ---- a part from w on, lent and given back

-- What `&mut out[w..]` lends, and the whole once that came back as `part`.
abbrev pub behind : ℕ → List ℕ → List ℕ
behind w out = take (length out - w) (drop w out)

abbrev pub together : ℕ → (out part : List ℕ) → List ℕ
together w out part = take w out ++ (part ++ drop (length out - w) (drop w out))

behind-all : (w : ℕ) (out : List ℕ) → behind w out ≡ drop w out
behind-all w out = take_all (length out - w) (drop w out) (omega (arith, length-drop w out))

pub behind-length : (w : ℕ) (out : List ℕ) → length (behind w out) ≡ length out - w
behind-length w out = ap length (behind-all w out) ∙ length-drop w out

pub together-length : (w : ℕ) (out part : List ℕ) → w ≤ length out → length part ≡ length (behind w out)
    → length (together w out part) ≡ length out
together-length w out part room e = simp (length-append, length-take, length-drop) (omega (arith, e, behind-length w out))

-- What was written to a lent part was written from w on.
pub part-wrote : (y before part : List ℕ) (w : ℕ) → Wrote y (behind w before) part → (r : ℕ) → r ≡ length y
    → WroteAt w y before (together w before part) (w + r)
part-wrote y before part w e r size =
    let nothing : drop (length before - w) (drop w before) ≡ [] =
    drop_of_length-le (drop w before) {i = length before - w} (omega (arith, length-drop w before)) in
    let written : part ≡ y ++ drop (w + length y) before =
    e ∙ ap (λ (l : List ℕ). y ++ drop (length y) l) (behind-all w before) ∙ ap (λ (l : List ℕ). y ++ l) (drop-drop (length y) w before) in
    record { ends = omega arith; out = ap (λ (l : List ℕ). take w before ++ l) (ap₂ ◌++◌ written nothing ∙ append-nil _) }

-- So what is written to the start, and then to the part after it, was written to the start.
pub then-wrote : (x y before middle part : List ℕ) (w : ℕ) → w ≡ length x → Wrote x before middle → Wrote y (behind w middle) part
    → Wrote (x ++ y) before (together w middle part)
then-wrote x y before middle part w size first second =
    (to_start (chain (omega arith) (from_start x before first w size) (part-wrote y middle part w second (length y) refl))).1
