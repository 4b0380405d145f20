-- Tools without a subject of their own: choice, answers, checks in a row, names, numbers as bytes, lists under a test, digits.
use Rattle.std.specs.Prelude.{ℕ, zero, suc, ◌/◌, ◌%◌, ◌^◌, Bool, true, false, ◌&&◌, ◌||◌, List, [], ◌∷◌, eqb, if◌then◌else◌, ◌+◌, ltb}
use Prim.Native.String.{String, [] as no_text, ◌∷◌ as ◌then◌}
use Prim.Native.Char.{code}
use Rattle.std.proofs.Math.Option.{Option, none, some}

infix 5 given◌then◌else◌
-- The function of a value where there is one, else the last.
abbrev pub given◌then◌else◌ {ℓ} : {A : Type 0} {X : Type ℓ} → Option A → (A → X) → X → X
given◌then◌else◌ (some a) f x = f a
given◌then◌else◌ none f x = x

-- A value, or the number of the refusal.
pub data Result (A : Type 0) : Type 0 where
  ok : A → Result A
  refused : (number : ℕ) → Result A

-- The answer with its value changed; a refusal stays.
abbrev pub map_result : {A B : Type 0} → (A → B) → Result A → Result B
map_result f (ok a) = ok (f a)
map_result f (refused number) = refused number

infixl 30 ◌>>=◌ ◌>>◌
-- `x ← first` goes on with the value x; the first refusal is the answer.
abbrev pub ◌>>=◌ : {A B : Type 0} → Result A → (A → Result B) → Result B
◌>>=◌ (ok a) next = next a
◌>>=◌ (refused number) next = refused number

-- A line without `←` only checks.
abbrev pub ◌>>◌ : {A B : Type 0} → Result A → Result B → Result B
◌>>◌ (ok a) next = next
◌>>◌ (refused number) next = refused number

-- Refuses with this number unless the test holds.
abbrev pub require : (number : ℕ) → Bool → Result Bool
require number true = ok true
require number false = refused number

-- The bytes of a name.
unfoldable pub ascii : String → List ℕ
ascii no_text = []
ascii (◌then◌ c s) = code c ∷ ascii s

-- Whether two names are the same bytes.
unfoldable pub same_name : List ℕ → List ℕ → Bool
same_name [] [] = true
same_name [] (b ∷ t) = false
same_name (a ∷ s) [] = false
same_name (a ∷ s) (b ∷ t) = eqb a b && same_name s t

-- A number as `width` bytes, most significant first.
unfoldable pub big_endian : (width : ℕ) → ℕ → List ℕ
big_endian zero n = []
big_endian (suc w) n = n / 256 ^ w % 256 ∷ big_endian w n

-- Whether some element passes the test.
unfoldable pub any : {A : Type 0} → (A → Bool) → List A → Bool
any test [] = false
any test (x ∷ xs) = test x || any test xs

-- Whether every element passes the test.
unfoldable pub all : {A : Type 0} → (A → Bool) → List A → Bool
all test [] = true
all test (x ∷ xs) = test x && all test xs

-- The elements that pass the test, in order.
unfoldable pub keep : {A : Type 0} → (A → Bool) → List A → List A
keep test [] = []
keep test (x ∷ xs) = if test x then x ∷ keep test xs else keep test xs

-- The digit of a value below 16.
unfoldable pub digit : ℕ → ℕ
digit d = if ltb d 10 then d + 48 else d + 87

-- Bytes as digits.
unfoldable pub digits : (bytes : List ℕ) → List ℕ
digits [] = []
digits (b ∷ bytes) = digit (b / 16) ∷ digit (b % 16) ∷ digits bytes
