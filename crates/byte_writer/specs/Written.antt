-- Bytes written to a buffer.
use Rattle.std.specs.Prelude.{ℕ, ◌+◌, ◌≡◌, List, ◌++◌, length, take, drop}

-- x was written to the start of a buffer, and what is after it kept its values.
abbrev pub Wrote : (x before after : List ℕ) → Type 0
Wrote x before after = after ≡ x ++ drop (length x) before

-- x was written to a buffer from w on, the rest kept its values, and the answer is where x ends.
pub record WroteAt (w : ℕ) (x before after : List ℕ) (answer : ℕ) : Type 0 where
  pub ends : answer ≡ w + length x
  pub out : after ≡ take w before ++ (x ++ drop (w + length x) before)
