-- Request 1 of document 02: what is claimed of printed texts and of the call print; crate `theorems` proves each claim.
use Rattle.std.specs.Prelude.{ℕ, ◌*◌, ◌≤◌, ◌<◌, ◌≡◌, Bool, true, false, ◌&&◌, List, [], ◌∷◌, ◌++◌, length, take, get_or, leb}
use Rattle.definitions.specs.Words.Basics.{ok}
use Rattle.definitions.specs.Words.Expression.{Expr, Frame, held}
use Rattle.definitions.specs.Bytes.Encode.{frame_bytes}
use Rattle.definitions.specs.Bytes.Decode.{index_below}
use Rattle.definitions.specs.Bytes.Plans.{frame_of}
use Rattle.definitions.specs.Bytes.Good.{All, InRange, GoodPlan}
use Rattle.definitions.specs.Bytes.Printed.{decimal, printed}
use Rattle.definitions.specs.Calls.Print.{print}
use Rattle.definitions.specs.Lists.Sessions.{accepted}
use Rattle.definitions.specs.Claims.Calls.{SameFrom}

-- ---- texts

-- Whether a character is a decimal digit.
unfoldable pub is_digit : ℕ → Bool
is_digit c = leb 48 c && leb c 57

-- The text does not go on with a digit.
abbrev pub NoDigit : List ℕ → Type 0
NoDigit [] = Unit {0}
NoDigit (c ∷ s) = is_digit c ≡ false

-- Two physical expressions that print alike are the same, whatever follows but a digit; and so is what follows.
abbrev pub PrintsApart : Type 0
PrintsApart =
    (b b' : ℕ) (e e' : Expr) (s s' : List ℕ) → InRange (index_below b) e → InRange (index_below b') e' → NoDigit s → NoDigit s'
    → printed e ++ s ≡ printed e' ++ s' → (e ≡ e') × (s ≡ s')

-- Two different physical expressions never print alike.
abbrev pub PrintsNeverAlike : Type 0
PrintsNeverAlike = (b b' : ℕ) (e e' : Expr) → InRange (index_below b) e → InRange (index_below b') e' → printed e ≡ printed e' → e ≡ e'

-- The text of a good frame has at most five characters for two bytes of the frame, and at most 26,620.
abbrev pub TextShort : Type 0
TextShort =
    (F : Frame) → GoodPlan (held F) → (2 * length (printed F.expr) ≤ 5 * length (frame_bytes F)) × (length (printed F.expr) ≤ 26620)

-- A text has no control character: each is from 32 to 126.
abbrev pub TextPrintable : Type 0
TextPrintable = (b : ℕ) (e : Expr) → InRange (index_below b) e → All (λ c. (32 ≤ c) × (c ≤ 126)) (printed e)

-- A decimal number other than 0 does not start with 0 (48).
abbrev pub NoLeadingZero : Type 0
NoLeadingZero = (n : ℕ) → n < 100000 → get_or (decimal n) 0 0 ≡ 48 → n ≡ 0

-- ---- the call

-- A good frame is printed exactly when the text buffer has room.
abbrev pub PrintAccepted : Type 0
PrintAccepted =
    (F : Frame) (buffer : List ℕ) → GoodPlan (held F)
    → accepted (print (frame_bytes F) buffer).answer ≡ leb (length (printed F.expr)) (length buffer)

-- A print wrote a frame's text to the buffer's start, gave its length and changed nothing else.
pub record PrintWrote (frame buffer : List ℕ) (F : Frame) : Type 0 where
  pub given : frame_of frame ≡ ok F
  pub answer : (print frame buffer).answer ≡ ok (length (printed F.expr))
  pub text : take (length (printed F.expr)) (print frame buffer).buffer ≡ printed F.expr
  pub others : SameFrom (length (printed F.expr)) buffer (print frame buffer).buffer

-- An accepted print does.
abbrev pub PrintGiven : Type 0
PrintGiven = (frame buffer : List ℕ) → accepted (print frame buffer).answer ≡ true → (F : Frame) × PrintWrote frame buffer F

-- A refused print writes nothing.
abbrev pub PrintRefused : Type 0
PrintRefused = (frame buffer : List ℕ) → accepted (print frame buffer).answer ≡ false → (print frame buffer).buffer ≡ buffer
