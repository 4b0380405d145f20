-- What the answers about fields say of the definitions' readers, at a place of the bytes.
use Rattle.std.specs.Prelude.{ℕ, ◌+◌, ◌*◌, ◌≤◌, ◌≡◌, Bool, ◌&&◌, List, length, drop, leb, Result, Ok, Err, if◌then◌else◌}
use Rattle.definitions.specs.Words.Basics.{all}
use Rattle.definitions.specs.Words.Expression as tree
use Rattle.definitions.specs.Bytes.Readers.{read, stopped, Reader}
use Rattle.expression.specs.Places.{short_at}
use Rattle.terms.specs.Refusals.{number_of}
use Rattle.terms.specs.declared.refusals.Refusal.{Refusal}
use Rattle.terms.specs.declared.sides.JoinSide.{JoinSide}
use Rattle.terms.specs.Sides.{join_side}

-- It stops there with this refusal, whatever was counted before.
abbrev pub StopsAt : {A : Type 0} → List ℕ → (at number : ℕ) → Reader A → Type 0
StopsAt s at number reader = (n : ℕ) → reader n (drop at s) ≡ stopped number

-- It reads this value there, whatever was counted before, and what is left starts at the place after it.
abbrev pub ReadsAt : {A : Type 0} → List ℕ → (at next : ℕ) → A → Reader A → Type 0
ReadsAt s at next value reader = (n : ℕ) → reader n (drop at s) ≡ read value n (drop next s)

-- A field was read: its value and the place after it.
abbrev pub FieldIs : List ℕ → (at : ℕ) → Result (ℕ × ℕ) Refusal → Reader ℕ → Type 0
FieldIs s at (Ok field) reader = (field.1 ≤ length s) × ReadsAt s at field.1 field.0 reader
FieldIs s at (Err why) reader = StopsAt s at (number_of why) reader

-- The number in the eight bytes at a place.
abbrev pub long_at : List ℕ → ℕ → ℕ
long_at s at = ((short_at s at * 65536 + short_at s (at + 2)) * 65536 + short_at s (at + 4)) * 65536 + short_at s (at + 6)

-- A side was read, and the place after it.
abbrev pub SideIs : List ℕ → (at : ℕ) → Result (JoinSide × ℕ) Refusal → Reader tree.Side → Type 0
SideIs s at (Ok side) reader = (side.1 ≤ length s) × ReadsAt s at side.1 (join_side side.0) reader
SideIs s at (Err why) reader = StopsAt s at (number_of why) reader

-- Whether each byte is one that a name may have.
unfoldable pub name_like : List ℕ → Bool
name_like s = all (λ b. leb 33 b && leb b 126) s

-- The refusal of a name that is cut off: of a byte that no name has, if one is there.
abbrev pub CutNameIs : List ℕ → (at : ℕ) → Refusal → Type 0
CutNameIs s at why = number_of why ≡ (if name_like (drop at s) then 3 else 4)

-- Something without nodes was passed: the place after it.
abbrev pub SkippedIs : {A : Type 0} → List ℕ → (at : ℕ) → Result ℕ Refusal → Reader A → Type 0
SkippedIs {A = A} s at (Ok next) reader = (next ≤ length s) × (a : A) × ReadsAt s at next a reader
SkippedIs {A = A} s at (Err why) reader = StopsAt s at (number_of why) reader
