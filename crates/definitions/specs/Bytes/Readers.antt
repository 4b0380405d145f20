-- Reading bytes from left to right: a value, or the number of the first refusal.
use Rattle.std.specs.Prelude.{ℕ, zero, suc, ◌+◌, ◌*◌, Bool, true, false, ◌&&◌, List, [], ◌∷◌, length, leb}
use Rattle.definitions.specs.Words.Basics.{Result, ok, refused}
use Rattle.definitions.specs.Words.Limits.{most_bytes}

-- What a reader gives: a value with the nodes counted so far and the bytes after it, or the number of the refusal.
pub data Read (A : Type 0) : Type 0 where
  read : A → (nodes : ℕ) → (rest : List ℕ) → Read A
  stopped : (number : ℕ) → Read A

-- A reader takes the nodes counted before it and the bytes.
abbrev pub Reader : Type 0 → Type 0
Reader A = ℕ → List ℕ → Read A

-- Goes on after a value; a refusal stays.
abbrev pub continue : {A B : Type 0} → Read A → (A → Reader B) → Read B
continue (read a n s) next = next a n s
continue (stopped number) next = stopped number

infixl 30 ◌>>=◌ ◌>>◌
-- `x ← first` reads x, then goes on; the first refusal ends the reading.
abbrev pub ◌>>=◌ : {A B : Type 0} → Reader A → (A → Reader B) → Reader B
◌>>=◌ first next = λ n s. continue (first n s) next

-- A line without `←` reads something that is not needed further on.
abbrev pub ◌>>◌ : {A B : Type 0} → Reader A → Reader B → Reader B
◌>>◌ first next = λ n s. continue (first n s) (λ a. next)

-- Gives a value and reads nothing.
abbrev pub give : {A : Type 0} → A → Reader A
give a = λ n s. read a n s

-- Refuses with this number.
abbrev pub refuse : {A : Type 0} → ℕ → Reader A
refuse number = λ n s. stopped number

-- Refuses with this number unless the test holds.
abbrev pub require : (number : ℕ) → Bool → Reader Bool
require number true = give true
require number false = refuse number

-- ---- fields

-- The first of the bytes; 3 if there is none.
abbrev pub first_byte : ℕ → List ℕ → Read ℕ
first_byte n [] = stopped 3
first_byte n (b ∷ s) = read b n s

-- A byte.
abbrev pub byte : Reader ℕ
byte = λ n s. first_byte n s

-- A byte of at most `most`.
unfoldable pub byte_up_to : (most : ℕ) → Reader ℕ
byte_up_to most = do
  b ← byte
  require 4 (leb b most)
  give b

-- A byte from `least` to `most`.
unfoldable pub byte_between : (least most : ℕ) → Reader ℕ
byte_between least most = do
  b ← byte
  require 4 (leb least b && leb b most)
  give b

-- A number of `width` bytes, the digits of `high` in front.
unfoldable pub number_after : (high : ℕ) → (width : ℕ) → Reader ℕ
number_after high zero = give high
number_after high (suc w) = do
  b ← byte
  number_after (high * 256 + b) w

-- An unsigned number of `width` bytes, most significant byte first.
unfoldable pub number : (width : ℕ) → Reader ℕ
number width = number_after 0 width

-- The same thing `times` times.
unfoldable pub repeat : {A : Type 0} → (times : ℕ) → Reader A → Reader (List A)
repeat zero one = give []
repeat (suc k) one = do
  a ← one
  others ← repeat k one
  give (a ∷ others)

-- ---- the ends of a frame

-- Refuses with 1 an empty frame and one of over 16,384 bytes.
unfoldable pub require_length : Reader Bool
require_length = λ n s. require 1 (leb 1 (length s) && leb (length s) most_bytes) n s

-- Whether no byte is left.
unfoldable pub none_left : List ℕ → Bool
none_left [] = true
none_left (b ∷ s) = false

-- Refuses with 7 where bytes are left.
unfoldable pub at_end : Reader Bool
at_end = λ n s. require 7 (none_left s) n s

-- What a reader of a whole frame answers.
unfoldable pub result_of : {A : Type 0} → Read A → Result A
result_of (read a nodes rest) = ok a
result_of (stopped number) = refused number
