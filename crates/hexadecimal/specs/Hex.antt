-- What the answers about hexadecimal say.
use Rattle.std.specs.Prelude.{ℕ, ◌+◌, ◌*◌, ◌/◌, ◌%◌, ◌&&◌, ◌≡◌, List, [], ◌∷◌, length, take, leb, eqb, if◌then◌else◌, Option, Some, None, IfSome}
use Rattle.std.proofs.Math.Option as maybe
use Rattle.std.proofs.Math.Option.{none, some}
use Rattle.definitions.specs.Words.Limits.{most_digits}
use Rattle.definitions.specs.Words.Basics.{Result, ok, refused}
use Rattle.definitions.specs.Lists.Program.{digit_value, line_bytes}
use Rattle.byte_writer.specs.Written.{Wrote}

-- The value of a digit, if it is one.
abbrev pub value_of : Option ℕ → maybe.Option ℕ
value_of (Some d) = some d
value_of None = none

-- The byte of two digits, if they are.
abbrev pub bytes_of : Option ℕ → maybe.Option (List ℕ)
bytes_of (Some b) = some (b ∷ [])
bytes_of None = none

-- What the buffer holds after a line was decoded to its start.
abbrev pub decoded_bytes : (after : List ℕ) → Option ℕ → Result (List ℕ)
decoded_bytes after (Some n) = ok (take n after)
decoded_bytes after None = refused 14

-- A byte of two digits before others; none once a character is no digit.
unfoldable pub leading_pair : (high low : maybe.Option ℕ) → (others : List ℕ) → List ℕ
leading_pair (some h) (some l) others = (h * 16 + l) ∷ others
leading_pair (some h) none others = []
leading_pair none low others = []

-- The bytes of the pairs of digits that a line begins with.
unfoldable pub leading_bytes : (line : List ℕ) → List ℕ
leading_bytes [] = []
leading_bytes (a ∷ []) = []
leading_bytes (a ∷ b ∷ line) = leading_pair (digit_value a) (digit_value b) (leading_bytes line)

-- What decoding a line writes, also where it is refused: nothing for over 32,768 digits or an odd count, else the bytes up to the first
-- pair that is none.
unfoldable pub decoded_to : (line : List ℕ) → List ℕ
decoded_to line = if leb (length line) most_digits && eqb (length line % 2) 0 then leading_bytes line else []

-- A line was decoded to the start of a buffer: the answer, with what the buffer then holds, is the line's bytes, one for two digits or
-- refusal 14; the bytes that decoding writes were written, and the rest kept its values.
pub record DecodedIs (line before after : List ℕ) (r : Option ℕ) : Type 0 where
  pub bytes : decoded_bytes after r ≡ line_bytes line
  pub size : IfSome r (λ n. n ≡ length line / 2)
  pub wrote : Wrote (decoded_to line) before after
