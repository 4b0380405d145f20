-- Parts put into a row one after another, whatever its elements are.
use Prim.Native.Nat.{ℕ, ◌+◌, ◌≤◌}
use native.Mathlib.Omega.{arith}
use mathlib.Core.Path.{◌≡◌, sym, ap, ap₂, ◌∙◌}
use mathlib.Core.List.{List, ◌++◌, append_assoc}
use lib.ListN.{length, take, drop, length-append}
use lib.Seq.{length-take-le, take_at, drop_at, drop-drop}

-- x was put into a row from w on, up to r; the rest of the row is as it was.
pub record Put {A : Type 0} (w : ℕ) (x before after : List A) (r : ℕ) : Type 0 where
  pub ends : r ≡ w + length x
  pub out : after ≡ take w before ++ (x ++ drop (w + length x) before)

-- One part after another.
pub put-chain : {A : Type 0} {a b r : ℕ} {x y before middle after : List A} → a ≤ length before → Put a x before middle b
    → Put b y middle after r → Put a (x ++ y) before after r
put-chain {A} {a} {b} {r} {x} {y} {before} {middle} {after} room one two =
    let rest : List A = drop (a + length x) before in
    let written : middle ≡ (take a before ++ x) ++ rest = one.out ∙ sym (append_assoc (take a before) x rest) in
    let size : length (take a before ++ x) ≡ b = simp length-append (omega (arith, length-take-le a before room, one.ends)) in
    let front : take b middle ≡ take a before ++ x = ap (take b) written ∙ take_at (take a before ++ x) rest b size in
    let behind : drop b middle ≡ rest = ap (drop b) written ∙ drop_at (take a before ++ x) rest b size in
    let both : a + length x + length y ≡ a + length (x ++ y) = simp length-append (omega arith) in
    let kept : drop (b + length y) middle ≡ drop (a + length (x ++ y)) before =
    sym (drop-drop (length y) b middle) ∙ ap (drop (length y)) behind ∙ drop-drop (length y) (a + length x) before
    ∙ ap (λ (k : ℕ). drop k before) both in
    record {
      ends = simp length-append (omega (arith, one.ends, two.ends));
      out =
          two.out ∙ ap₂ ◌++◌ front (ap (λ (l : List A). y ++ l) kept)
          ∙ append_assoc (take a before) x (y ++ drop (a + length (x ++ y)) before)
          ∙ ap (λ (l : List A). take a before ++ l) (sym (append_assoc x y (drop (a + length (x ++ y)) before)));
    }
