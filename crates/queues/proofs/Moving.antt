-- Bytes moved down inside one buffer, and bytes written to a part of it.
use Prim.Native.Nat.{ℕ, ◌+◌, ◌-◌, ◌≤◌, ◌<◌}
use native.Mathlib.Omega.{arith}
use native.Mathlib.Numerals.{add-one}
use mathlib.Core.Path.{◌≡◌, refl, sym, ap, ap₂, ◌∙◌}
use mathlib.Core.List.{List, ◌++◌, append_assoc}
use lib.ListN.{length, take, drop, get_or, set, length-append, length-drop, length-set}
use lib.Seq.{paste, paste-zero, paste-suc, drop-paste, get_or-drop, length-take-le, take-append-add, drop-append-add, take-append-le, drop-append-le, drop-drop}
use Rattle.byte_writer.specs.Written.{WroteAt}

-- i bytes are moved.
pub record Moved (before : List ℕ) (to from n : ℕ) (s : List ℕ) (i : ℕ) : Type 0 where
  pub below : i ≤ n
  pub long : length s ≡ length before
  pub bytes : s ≡ paste before to (drop from before) i

module _ (before : List ℕ) (to from n : ℕ) (down : to ≤ from) (room : from + n ≤ length before) where
  pub none-moved : Moved before to from n before 0
  none-moved = record { below = omega arith; long = refl; bytes = paste-zero before to (drop from before) }

  pub one-moved : (s : List ℕ) (i : ℕ) → i < n → Moved before to from n s i
      → Moved before to from n (set s (to + i) (get_or s (from + i) 0)) (i + 1)
  one-moved s i more h =
      let some : i < length (drop from before) = simp length-drop (omega arith) in
      let behind : drop (to + i) s ≡ drop (to + i) before =
      ap (drop (to + i)) h.bytes ∙ drop-paste before to (drop from before) i (omega arith) (omega arith) in
      let place : to + i + (from - to) ≡ from + i = omega arith in
      let same : get_or s (from + i) 0 ≡ get_or (drop from before) i 0 =
      ap (λ (k : ℕ). get_or s k 0) (sym place) ∙ sym (get_or-drop (to + i) s (from - to) 0)
      ∙ ap (λ (l : List ℕ). get_or l (from - to) 0) behind
      ∙ get_or-drop (to + i) before (from - to) 0 ∙ ap (λ (k : ℕ). get_or before k 0) place ∙ sym (get_or-drop from before i 0) in
      record {
        below = omega arith;
        long = length-set s (to + i) _ ∙ h.long;
        bytes =
            ap₂ (λ (l : List ℕ) (b : ℕ). set l (to + i) b) h.bytes same ∙ paste-suc before to (drop from before) i 0 (omega arith) some
            ∙ ap (paste before to (drop from before)) (sym (add-one i));
      }

  pub all_moved : {s : List ℕ} {i : ℕ} → i ≡ n → Moved before to from n s i → WroteAt to (take n (drop from before)) before s (to + n)
  all_moved {s} {i} e h =
      let size : length (take n (drop from before)) ≡ n = length-take-le n (drop from before) (simp length-drop (omega arith)) in
      record {
        ends = ap (λ (k : ℕ). to + k) (sym size);
        out = h.bytes ∙ ap (paste before to (drop from before)) e ∙ append_assoc (take to before) (take n (drop from before)) _
            ∙ ap (λ (k : ℕ). take to before ++ (take n (drop from before) ++ drop (to + k) before)) (sym size);
      }

-- What is written to a part of a buffer leaves what is around the part.
pub wrote-in : (p part s x : List ℕ) (n w : ℕ) {before after : List ℕ} {answer : ℕ} → length p ≡ n → w + length x ≤ length part
    → before ≡ p ++ (part ++ s)
    → WroteAt (n + w) x before after answer → after ≡ p ++ ((take w part ++ (x ++ drop (w + length x) part)) ++ s)
wrote-in p part s x n w {before} {after} size room e wrote =
    let front : take (n + w) before ≡ p ++ take w part =
    ap₂ (λ (k : ℕ) (l : List ℕ). take (k + w) l) (sym size) e ∙ take-append-add p (part ++ s) w
    ∙ ap (λ (l : List ℕ). p ++ l) (take-append-le w part s (omega arith)) in
    let place : n + w + length x ≡ length p + (w + length x) = omega arith in
    let behind : drop (n + w + length x) before ≡ drop (w + length x) part ++ s =
    ap₂ drop place e ∙ drop-append-add p (part ++ s) (w + length x) ∙ drop-append-le (w + length x) part s room in
    wrote.out ∙ ap₂ (λ (a b : List ℕ). a ++ (x ++ b)) front behind ∙ simp append_assoc

pub kept-behind : {w : ℕ} {x before after : List ℕ} {answer : ℕ} → WroteAt w x before after answer → w ≤ length before → (m : ℕ)
    → w + length x ≤ m
    → drop m after ≡ drop m before
kept-behind {w} {x} {before} {after} wrote room m far =
    let front : List ℕ = take w before ++ x in
    let place : m ≡ length front + (m - (w + length x)) = simp length-append (omega (arith, length-take-le w before room)) in
    let back : w + length x + (m - (w + length x)) ≡ m = omega arith in
    ap₂ drop place (wrote.out ∙ sym (append_assoc (take w before) x _)) ∙ drop-append-add front _ (m - (w + length x))
    ∙ drop-drop (m - (w + length x)) (w + length x) before ∙ ap (λ (n : ℕ). drop n before) back

-- Bytes copied over a part of a buffer were written there.
pub copied-over : (s x : List ℕ) (at n : ℕ) {part after : List ℕ} → n ≡ length x → part ≡ x
    → after ≡ take at s ++ (part ++ drop n (drop at s)) → WroteAt at x s after (at + length x)
copied-over s x at n size same e = record {
  ends = refl;
  out = e ∙ ap₂ (λ (y : List ℕ) (k : ℕ). take at s ++ (y ++ drop k (drop at s))) same size
      ∙ ap (λ (l : List ℕ). take at s ++ (x ++ l)) (drop-drop (length x) at s);
}
