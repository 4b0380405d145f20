-- What a line gives, by its first byte and by what was decoded.
use Rattle.std.specs.Prelude.{if◌then◌else◌, Err}
use Prim.Native.Nat.{ℕ, zero, suc, ◌≤◌}
use native.Mathlib.Omega.{arith}
use mathlib.Core.Path.{◌≡◌, refl, sym, ◌∙◌}
use mathlib.Core.Bool.{Bool, true, false}
use mathlib.Core.List.{List, [], ◌∷◌}
use lib.ListN.{length, take, drop, get_or}
use lib.Dec.{leb}
use borrow.Author.Tests.{ne_eqb, leb-true}
use Rattle.definitions.specs.Words.Basics.{ok, refused}
use Rattle.definitions.specs.Calls.Base.{written_over}
use Rattle.definitions.specs.Lists.Machine.{extract_call, exchange_call}
use Rattle.definitions.specs.Lists.Program.{Kept, refused_line, load_line, logical_line, call_line, line_of, digit_bytes, or_refused, line_bytes, read_line, line_outcome}
use Rattle.theorems.proofs.InversePlan.{refused_not_ok}
use Rattle.terms.specs.Refusals.{number_of}
use Rattle.terms.specs.declared.refusals.Refusal.{Refusal}
use Rattle.lines.specs.Answers.{LineAnswered, kept_as, AnswerIs}
use Rattle.lines.specs.Scratch.{call_scratch, bytes_scratch, read_scratch, line_scratch}
use Rattle.hexadecimal.specs.Hex.{decoded_to}
use Rattle.byte_writer.specs.Written.{Wrote}

-- A refusal keeps the plan.
pub refused-line : (n : ℕ) (plan : List ℕ) (why : Refusal) → AnswerIs (refused_line (number_of why) (kept_as n plan)) n plan (Err why)
unfolding refused_line
refused-line n plan why = record { answer = refl; kept = refl; fits = omega arith }

-- ---- by the first byte

pub no_bytes : (size : ℕ) (bytes : List ℕ) (kept : Kept) → size ≡ 0 → refused_line 1 kept ≡ line_of (take size bytes) kept
unfolding line_of
no_bytes size bytes kept e = rw e

pub none-leave : (size : ℕ) (bytes : List ℕ) (kept : Kept) (s : List ℕ) → size ≡ 0 → s ≡ bytes_scratch (take size bytes) kept s
unfolding bytes_scratch
none-leave size bytes kept s e = rw e

pub begins : (size : ℕ) (bytes : List ℕ) → (size ≡ 0 → ⊥) → size ≤ length bytes
    → take size bytes ≡ get_or bytes 0 0 ∷ drop 1 (take size bytes)
begins zero bytes h k = absurd (h refl)
begins (suc size) [] h k = absurd (omega arith)
begins (suc size) (b ∷ bytes) h k = refl

module _ {bytes more : List ℕ} {first : ℕ} (kept : Kept) (e : bytes ≡ first ∷ more) where
  load_byte : first ≡ 1 → load_line bytes kept ≡ line_of bytes kept
  unfolding line_of
  load_byte is = rw (e, is)

  logical-byte : first ≡ 2 → logical_line bytes kept ≡ line_of bytes kept
  unfolding line_of
  logical-byte is = rw (e, is)

  extract-byte : first ≡ 0x21 → call_line extract_call (drop 1 bytes) kept ≡ line_of bytes kept
  unfolding line_of
  extract-byte is = rw (e, is)

  exchange-byte : first ≡ 0x22 → call_line exchange_call (drop 1 bytes) kept ≡ line_of bytes kept
  unfolding line_of
  exchange-byte is = rw (e, is)

  pub other_byte : (first ≡ 1 → ⊥) → (first ≡ 2 → ⊥) → (first ≡ 0x21 → ⊥) → (first ≡ 0x22 → ⊥) → refused_line 2 kept ≡ line_of bytes kept
  unfolding line_of
  other_byte a b c d = rw e (simp (ne_eqb first 1 a, ne_eqb first 2 b, ne_eqb first 0x21 c, ne_eqb first 0x22 d))

  -- What is left in the scratch.
  extract-leaves : (s : List ℕ) → first ≡ 0x21 → call_scratch extract_call (drop 1 bytes) kept s ≡ bytes_scratch bytes kept s
  unfolding bytes_scratch
  extract-leaves s is = rw (e, is)

  exchange-leaves : (s : List ℕ) → first ≡ 0x22 → call_scratch exchange_call (drop 1 bytes) kept s ≡ bytes_scratch bytes kept s
  unfolding bytes_scratch
  exchange-leaves s is = rw (e, is)

  pub other-leaves : (s : List ℕ) → (first ≡ 0x21 → ⊥) → (first ≡ 0x22 → ⊥) → s ≡ bytes_scratch bytes kept s
  unfolding bytes_scratch
  other-leaves s a b = rw e (simp (ne_eqb first 0x21 a, ne_eqb first 0x22 b))

  -- Both, of a line that calls, and of one that leaves the scratch.
  module _ (s : List ℕ) {n : ℕ} {after : List ℕ} {r : LineAnswered} where
    pub extract-line : {t : List ℕ} → first ≡ 0x21
        → AnswerIs (call_line extract_call (drop 1 bytes) kept) n after r × (t ≡ call_scratch extract_call (drop 1 bytes) kept s)
        → AnswerIs (line_of bytes kept) n after r × (t ≡ bytes_scratch bytes kept s)
    extract-line is h = (rw (← extract-byte is) h.0, h.1 ∙ extract-leaves s is)

    pub exchange-line : {t : List ℕ} → first ≡ 0x22
        → AnswerIs (call_line exchange_call (drop 1 bytes) kept) n after r × (t ≡ call_scratch exchange_call (drop 1 bytes) kept s)
        → AnswerIs (line_of bytes kept) n after r × (t ≡ bytes_scratch bytes kept s)
    exchange-line is h = (rw (← exchange-byte is) h.0, h.1 ∙ exchange-leaves s is)

    pub load-line : first ≡ 1 → AnswerIs (load_line bytes kept) n after r
        → AnswerIs (line_of bytes kept) n after r × (s ≡ bytes_scratch bytes kept s)
    load-line is h = (rw (← load_byte is) h, other-leaves s (λ x. omega arith) (λ x. omega arith))

    pub logical-line : first ≡ 2 → AnswerIs (logical_line bytes kept) n after r
        → AnswerIs (line_of bytes kept) n after r × (s ≡ bytes_scratch bytes kept s)
    logical-line is h = (rw (← logical-byte is) h, other-leaves s (λ x. omega arith) (λ x. omega arith))

-- ---- by what was decoded

module _ (line : List ℕ) (kept : Kept) where
  pub good-bytes : {bytes : List ℕ} → ok bytes ≡ line_bytes line → line_of bytes kept ≡ line_outcome line kept
  unfolding read_line line_outcome
  good-bytes e = rw (← e)

  pub bad-line : refused 14 ≡ line_bytes line → refused_line 14 kept ≡ line_outcome line kept
  unfolding read_line line_outcome
  bad-line e = rw (← e)

  pub good-leaves : {bytes after : List ℕ} (s : List ℕ) → ok bytes ≡ line_bytes line → Wrote (decoded_to line) s after
      → bytes_scratch bytes kept after ≡ line_scratch line kept s
  unfolding written_over read_scratch line_scratch
  good-leaves s e w = rw (w, ← e)

  pub bad-leaves : {after : List ℕ} (s : List ℕ) → refused 14 ≡ line_bytes line → Wrote (decoded_to line) s after
      → after ≡ line_scratch line kept s
  unfolding written_over read_scratch line_scratch
  bad-leaves s e w = rw (w, ← e)

-- A line that has bytes has at most 32,768 digits.
short : (line : List ℕ) {bytes : List ℕ} (b : Bool) → leb (length line) 32768 ≡ b
    → ok bytes ≡ (if b then or_refused 14 (digit_bytes line) else refused 14) → length line ≤ 32768
short line true is e = leb-true (length line) 32768 is
short line false is e = absurd (refused_not_ok _ _ (sym e))

pub short-line : (line : List ℕ) {bytes : List ℕ} → ok bytes ≡ line_bytes line → length line ≤ 32768
unfolding line_bytes
short-line line e = short line (leb (length line) 32768) refl e
