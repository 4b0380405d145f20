-- Bytes that became others, as many, where they stood.
use Rattle.std.specs.Prelude.{ℕ, ◌≡◌, List, ◌++◌, length}

-- A buffer that began with x begins with y, and what is after them kept its values.
abbrev pub Turned : (x y before after : List ℕ) → Type 0
Turned x y before after = (tail : List ℕ) → before ≡ x ++ tail → after ≡ y ++ tail

-- The same of x that stood at a place: what is before it kept its values too.
abbrev pub TurnedAt : (at : ℕ) (x y before after : List ℕ) → Type 0
TurnedAt at x y before after = (head : List ℕ) → at ≡ length head → Turned (head ++ x) (head ++ y) before after
