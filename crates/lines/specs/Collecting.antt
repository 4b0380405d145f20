-- What the answers about the line that has begun say.
use Rattle.std.specs.Prelude.{ℕ, zero, suc, ◌+◌, ◌≤◌, ◌<◌, min, ◌≡◌, List, ◌++◌, length, take, if◌then◌else◌}
use Rattle.std.proofs.lemmas.List.Edits.{sets}
use Rattle.lines.specs.Pieces.{first_line, has_feed}
use Rattle.lines.specs.declared.collecting.CollectedPiece.{CollectedPiece}

-- A line has begun: its characters are counted and stand in the buffer; a count over the buffer's length says that it holds more than that.
pub record Begun (buffer : List ℕ) (count : ℕ) (line : List ℕ) : Type 0 where
  pub held : count ≤ length buffer → take count buffer ≡ line
  pub long : length buffer < count → length buffer < length line

-- Whatever line has begun, these characters joined it.
abbrev pub Joined : (before : List ℕ) (count : ℕ) (characters after : List ℕ) (counted : ℕ) → Type 0
Joined before count characters after counted = (line : List ℕ) → Begun before count line → Begun after counted (line ++ characters)

-- What of a piece is taken: the characters up to its first line feed, and that.
abbrev pub taken_characters : (piece : List ℕ) → ℕ
taken_characters piece = length (first_line piece) + (if has_feed piece then 1 else 0)

-- The count after k more characters: no more than one over the buffer's length.
abbrev pub count_after : (size count k : ℕ) → ℕ
count_after size count zero = count
count_after size count (suc k) = min (count + suc k) (size + 1)

-- The characters of a piece up to its first line feed were taken with it and joined the line: each that the buffer has room for is
-- stored in its place.
pub record CollectedIs (piece before : List ℕ) (count : ℕ) (after : List ℕ) (r : CollectedPiece) : Type 0 where
  pub taken : r.taken ≡ taken_characters piece
  pub ended : r.ended ≡ has_feed piece
  pub counts : r.count ≡ count_after (length before) count (length (first_line piece))
  pub buffer : after ≡ sets before count (first_line piece)
  pub line : Joined before count (first_line piece) after r.count
