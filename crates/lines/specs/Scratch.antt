-- What a line leaves in the scratch: its bytes, and then what a call of extract or exchange leaves there. No answer depends on it.
use Rattle.std.specs.Prelude.{ℕ, List, [], ◌∷◌, eqb, if◌then◌else◌}
use Rattle.definitions.specs.Words.Basics.{Result, ok, refused}
use Rattle.definitions.specs.Calls.Base.{written_over}
use Rattle.definitions.specs.Lists.Machine.{Kind, extract_call, exchange_call}
use Rattle.definitions.specs.Lists.Program.{Kept, line_bytes, line_call}
use Rattle.hexadecimal.specs.Hex.{decoded_to}

-- What a call leaves; nothing is called where more bytes follow.
unfoldable pub call_scratch : Kind → (more : List ℕ) → Kept → (scratch : List ℕ) → List ℕ
call_scratch kind (b ∷ more) kept scratch = scratch
call_scratch kind [] kept scratch = (line_call kind kept.n kept.buffer scratch).scratch

-- What a line's bytes leave, by the first of them.
unfoldable pub bytes_scratch : (bytes : List ℕ) → Kept → (scratch : List ℕ) → List ℕ
bytes_scratch [] kept scratch = scratch
bytes_scratch (first ∷ more) kept scratch =
    if eqb first 0x21 then call_scratch extract_call more kept scratch else
    if eqb first 0x22 then call_scratch exchange_call more kept scratch else
    scratch

unfoldable pub read_scratch : Result (List ℕ) → Kept → (scratch : List ℕ) → List ℕ
read_scratch (ok bytes) kept scratch = bytes_scratch bytes kept scratch
read_scratch (refused number) kept scratch = scratch

-- A line is decoded to the scratch first.
unfoldable pub line_scratch : (line : List ℕ) → Kept → (scratch : List ℕ) → List ℕ
line_scratch line kept scratch = read_scratch (line_bytes line) kept (written_over (decoded_to line) scratch)
