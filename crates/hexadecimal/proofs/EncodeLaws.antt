-- Encoding: the digits of the first i bytes are written, and two more make it i + 1.
use Prim.Native.Nat.{ℕ, ◌+◌, ◌*◌, ◌/◌, ◌%◌, ◌≤◌, ◌<◌}
use native.Mathlib.Omega.{arith}
use native.Mathlib.Numerals.{add-one}
use native.Mathlib.Nat.{add-zero}
use mathlib.Core.Path.{◌≡◌, refl, sym, ap}
use mathlib.Core.List.{List, [], ◌∷◌, ◌++◌}
use lib.ListN.{length, take, get_or, set, length-set, take-append-drop}
use lib.Seq.{take-suc, length-take-le}
use Rattle.definitions.specs.Words.Basics.{digit, digits}
use Rattle.byte_writer.specs.Written.{WroteAt}
use Rattle.byte_writer.proofs.Written.{store, chain}

pub length_digits : (bytes : List ℕ) → length (digits bytes) ≡ 2 * length bytes
unfolding digits
length_digits [] = refl
length_digits (b ∷ bytes) = omega (arith, length_digits bytes)

digits_append : (x y : List ℕ) → digits (x ++ y) ≡ digits x ++ digits y
unfolding digits
digits_append [] y = refl
digits_append (b ∷ x) y = ap (λ (l : List ℕ). digit (b / 16) ∷ digit (b % 16) ∷ l) (digits_append x y)

-- ---- so far

-- The digits of i bytes are written.
pub record Encoded (bytes : List ℕ) (at i : ℕ) (before after : List ℕ) (next : ℕ) : Type 0 where
  pub within : i ≤ length bytes
  pub kept : length after ≡ length before
  pub wrote : WroteAt at (digits (take i bytes)) before after next

pub wrote_nothing : (at : ℕ) (out : List ℕ) → WroteAt at [] out out at
wrote_nothing at out = record { ends = sym (add-zero at); out = sym (rw add-zero (take-append-drop at out)) }

pub encoded-none : (bytes : List ℕ) (at : ℕ) (out : List ℕ) → Encoded bytes at 0 out out at
unfolding digits
encoded-none bytes at out = record { within = omega arith; kept = refl; wrote = wrote_nothing at out }

-- There is room for the next two digits.
pub encoded-room : {bytes before after : List ℕ} {at i next : ℕ} → Encoded bytes at i before after next → i < length bytes
    → at + 2 * length bytes ≤ length before → next + 1 < length after
encoded-room {bytes} {before} {after} {at} {i} e h room =
    omega (arith, e.kept, e.wrote.ends, length_digits (take i bytes), length-take-le i bytes e.within)

two_digits : (next a b : ℕ) (out : List ℕ) → next + 1 < length out
    → WroteAt next (a ∷ b ∷ []) out (set (set out next a) (next + 1) b) (next + 2)
two_digits next a b out h =
    let end : next + 1 + 1 ≡ next + 2 = omega arith in
    rw end at (chain (omega arith) (store out next a (omega arith)) (store (set out next a) (next + 1) b (rw length-set h)))

pub encoded-more : {bytes before after : List ℕ} {at i next : ℕ} → Encoded bytes at i before after next → i < length bytes
    → at ≤ length before → next + 1 < length after
    → Encoded bytes at (i + 1) before (set (set after next (digit (get_or bytes i 0 / 16))) (next + 1) (digit (get_or bytes i 0 % 16)))
    (next + 2)
unfolding digits
encoded-more {bytes} {before} {after} {at} {i} {next} e h start room =
    let more : digits (take (i + 1) bytes) ≡ digits (take i bytes) ++ digits (get_or bytes i 0 ∷ []) =
    rw (add-one, take-suc bytes i 0) (digits_append (take i bytes) (get_or bytes i 0 ∷ [])) in
    record {
      within = omega arith;
      kept = simp length-set e.kept;
      wrote = rw more (chain start e.wrote (two_digits next _ _ after room));
    }

-- ---- a line: the digits of a byte, those of more, a line feed

module _ (first : ℕ) (more : List ℕ) {at w : ℕ} {before middle : List ℕ} (head : WroteAt at (digits (first ∷ [])) before middle w)
    (size : length middle ≡ length before)
    (room : at + 2 * length more + 3 ≤ length before) where
  pub digits-room : w + 2 * length more ≤ length middle
  digits-room = omega (arith, head.ends, length_digits (first ∷ []))

  pub feed-room : {end : ℕ} {out : List ℕ} → WroteAt w (digits more) middle out end → length out ≡ length middle → end < length out
  feed-room body same = omega (arith, head.ends, body.ends, length_digits (first ∷ []), length_digits more)

  pub line-written : {end : ℕ} {out : List ℕ} → WroteAt w (digits more) middle out end → length out ≡ length middle
      → WroteAt at (digits (first ∷ more) ++ (10 ∷ [])) before (set out end 10) (end + 1)
  unfolding digits
  line-written {end} {out} body same =
      chain (omega arith) (chain (omega arith) head body) (store out end 10 (feed-room body same))
