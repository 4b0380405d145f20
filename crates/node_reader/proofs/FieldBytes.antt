-- What a field reads of the bytes at a place, by which of them are there and what they are.
use Prim.Native.Nat.{ℕ, suc, ◌+◌, ◌*◌, ◌≤◌, ◌<◌}
use native.Mathlib.Omega.{arith}
use mathlib.Core.Path.{◌≡◌, refl, sym, ap, ap₂, ◌∙◌}
use mathlib.Core.List.{List}
use lib.ListN.{length, drop, get_or, drop_of_length-le}
use borrow.Author.Tests.{le-leb, lt-leb}
use Rattle.definitions.specs.Bytes.Readers.{read, stopped, first_byte, byte, byte_up_to, byte_between, number, number_after}
use Rattle.expression.specs.Places.{short_at}
use Rattle.node_reader.specs.Fields.{long_at}
use Rattle.node_reader.proofs.Numbers.{digit}
use Rattle.node_reader.proofs.Reading.{there, within, outside}
use Rattle.std.proofs.Common.{◌⊎◌}
use Rattle.theorems.proofs.ReaderLaws.{after, halts, passes, fails}

module _ (s : List ℕ) (at n : ℕ) where
  none-there : length s ≤ at → byte n (drop at s) ≡ stopped 3
  none-there h = ap (first_byte n) (drop_of_length-le s h)

  own : (next : ℕ) → next ≡ at + 1 → at < length s → byte n (drop at s) ≡ read (get_or s at 0) n (drop next s)
  own next e h = there s at (get_or s at 0) n h refl ∙ ap (λ (k : ℕ). read (get_or s at 0) n (drop k s)) (sym e)

  module _ (least most : ℕ) where
    pub between-ends : length s ≤ at → byte_between least most n (drop at s) ≡ stopped 3
    unfolding byte_between
    between-ends h = halts _ (none-there h)

    pub between-out : at < length s → (get_or s at 0 < least) ⊎ (least ≤ get_or s at 0 × most < get_or s at 0)
        → byte_between least most n (drop at s) ≡ stopped 4
    unfolding byte_between
    between-out h out = after _ (own (at + 1) refl h) ∙ fails 4 _ n _ (outside least (get_or s at 0) most out)

    pub between-read : (next : ℕ) → next ≡ at + 1 → at < length s → least ≤ get_or s at 0 → get_or s at 0 ≤ most
        → byte_between least most n (drop at s) ≡ read (get_or s at 0) n (drop next s)
    unfolding byte_between
    between-read next e h low high = after _ (own next e h) ∙ passes 4 _ n _ (within least (get_or s at 0) most low high)

  module _ (most : ℕ) where
    pub up-ends : length s ≤ at → byte_up_to most n (drop at s) ≡ stopped 3
    unfolding byte_up_to
    up-ends h = halts _ (none-there h)

    pub up-out : at < length s → most < get_or s at 0 → byte_up_to most n (drop at s) ≡ stopped 4
    unfolding byte_up_to
    up-out h high = after _ (own (at + 1) refl h) ∙ fails 4 _ n _ (lt-leb (get_or s at 0) most high)

    pub up-read : (next : ℕ) → next ≡ at + 1 → at < length s → get_or s at 0 ≤ most
        → byte_up_to most n (drop at s) ≡ read (get_or s at 0) n (drop next s)
    unfolding byte_up_to
    up-read next e h low = after _ (own next e h) ∙ passes 4 _ n _ (le-leb (get_or s at 0) most low)

-- Two digits more.
two-digits : (s : List ℕ) (at next high w n : ℕ) → next ≡ at + 2 → at + 2 ≤ length s
    → number_after high (suc (suc w)) n (drop at s) ≡ number_after (high * 65536 + short_at s at) w n (drop next s)
two-digits s at next high w n e h =
    digit s at high (suc w) (suc (suc w)) (get_or s at 0) n (omega arith) refl refl
    ∙ digit s (at + 1) (high * 256 + get_or s at 0) w (suc w) (get_or s (at + 1) 0) n (omega arith) refl refl
    ∙ ap₂ (λ (v k : ℕ). number_after v w n (drop k s)) (omega arith) (omega (arith, e))

pub short-read : (s : List ℕ) (at next n : ℕ) → next ≡ at + 2 → at + 2 ≤ length s
    → number 2 n (drop at s) ≡ read (short_at s at) n (drop next s)
unfolding number number_after
short-read s at next n e h =
    two-digits s at next 0 0 n e h ∙ ap (λ (v : ℕ). read v n (drop next s)) (omega arith)

pub long-read : (s : List ℕ) (at next n : ℕ) → next ≡ at + 8 → at + 8 ≤ length s
    → number 8 n (drop at s) ≡ read (long_at s at) n (drop next s)
unfolding number number_after
long-read s at next n e h =
    two-digits s at (at + 2) 0 6 n refl (omega arith)
    ∙ two-digits s (at + 2) (at + 4) (0 * 65536 + short_at s at) 4 n (omega arith) (omega arith)
    ∙ two-digits s (at + 4) (at + 6) ((0 * 65536 + short_at s at) * 65536 + short_at s (at + 2)) 2 n (omega arith) (omega arith)
    ∙ two-digits s (at + 6) next (((0 * 65536 + short_at s at) * 65536 + short_at s (at + 2)) * 65536 + short_at s (at + 4)) 0 n
    (omega (arith, e)) (omega arith)
    ∙ ap (λ (v : ℕ). read v n (drop next s)) (omega arith)
