-- Request 1 of document 02: the call print: 1 to 8, 15.
use Rattle.std.specs.Prelude.{ℕ, List, length, leb, if◌then◌else◌}
use Rattle.definitions.specs.Words.Basics.{Result, ok, refused}
use Rattle.definitions.specs.Words.Expression.{Frame}
use Rattle.definitions.specs.Bytes.Plans.{frame_of}
use Rattle.definitions.specs.Bytes.Printed.{printed}
use Rattle.definitions.specs.Calls.Base.{written_over}

-- What print gives: the text's length or a refusal, and the text buffer afterwards.
pub record PrintOutcome : Type 0 where
  pub answer : Result ℕ
  pub buffer : List ℕ

-- The text of a frame; 15 where the buffer is shorter.
unfoldable pub text_of : (room : ℕ) → Result Frame → Result (List ℕ)
text_of room (refused number) = refused number
text_of room (ok F) = if leb (length (printed F.expr)) room then ok (printed F.expr) else refused 15

-- The text at the buffer's start; a refusal changes nothing.
unfoldable pub finish_print : (buffer : List ℕ) → Result (List ℕ) → PrintOutcome
finish_print buffer (ok text) = record { answer = ok (length text); buffer = written_over text buffer }
finish_print buffer (refused number) = record { answer = refused number; buffer = buffer }

-- The call print.
unfoldable pub print : (frame buffer : List ℕ) → PrintOutcome
print frame buffer = finish_print buffer (text_of (length buffer) (frame_of frame))
