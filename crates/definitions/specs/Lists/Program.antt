-- The program `spatialjoin`: lines of hexadecimal in, a line out for each, the plan kept from line to line.
use Rattle.std.specs.Prelude.{ℕ, ◌+◌, ◌*◌, ◌-◌, ◌&&◌, List, [], ◌∷◌, ◌++◌, length, take, replicate, leb, eqb, if◌then◌else◌}
use Rattle.std.proofs.Math.Option.{Option, none, some}
use Rattle.definitions.specs.Words.Basics.{Result, ok, refused, map_result, digits}
use Rattle.definitions.specs.Words.Limits.{most_bytes, most_digits, most_nodes}
use Rattle.definitions.specs.Bytes.NodeTable.{blank}
use Rattle.definitions.specs.Calls.Base.{LoadOutcome, load, Outcome, extract_filled, exchange}
use Rattle.definitions.specs.Calls.Logical.{logical, logical_bytes}
use Rattle.definitions.specs.Lists.Machine.{Kind, extract_call, exchange_call}

-- ---- hexadecimal

-- The value of a digit 0-9 or a-f.
unfoldable pub digit_value : (character : ℕ) → Option ℕ
digit_value c =
    if leb 48 c && leb c 57 then some (c - 48) else
    if leb 97 c && leb c 102 then some (c - 87) else
    none

-- The byte of two digits before others.
unfoldable pub pair_bytes : (high low : Option ℕ) → (others : Option (List ℕ)) → Option (List ℕ)
pair_bytes none low others = none
pair_bytes (some h) none others = none
pair_bytes (some h) (some l) none = none
pair_bytes (some h) (some l) (some bytes) = some ((h * 16 + l) ∷ bytes)

-- The bytes of a line's digits; none for an odd count or another character.
unfoldable pub digit_bytes : (line : List ℕ) → Option (List ℕ)
digit_bytes [] = some []
digit_bytes (a ∷ []) = none
digit_bytes (a ∷ b ∷ line) = pair_bytes (digit_value a) (digit_value b) (digit_bytes line)

-- A value that must be there.
unfoldable pub or_refused : {A : Type 0} → (number : ℕ) → Option A → Result A
or_refused number none = refused number
or_refused number (some a) = ok a

-- The bytes of a line; 14 for an odd count, another character or over 32,768 digits.
unfoldable pub line_bytes : (line : List ℕ) → Result (List ℕ)
line_bytes line = if leb (length line) most_digits then or_refused 14 (digit_bytes line) else refused 14

-- ---- lines

-- The plan that is kept: n and the plan buffer.
pub record Kept : Type 0 where
  pub n : ℕ
  pub buffer : List ℕ

-- What a line gives: the answer's bytes or a refusal, and what is kept for the next line.
pub record LineOutcome : Type 0 where
  pub answer : Result (List ℕ)
  pub kept : Kept

-- A refusal keeps the plan.
unfoldable pub refused_line : (number : ℕ) → Kept → LineOutcome
refused_line number kept = record { answer = refused number; kept = kept }

-- `01..`: load; the answer is the plan. The program lends no table: its load is that with one of 1,024 records, which the nodes of every
-- frame fit (request 6).
unfoldable pub load_line : (bytes : List ℕ) → Kept → LineOutcome
load_line bytes kept =
    let o : LoadOutcome = load bytes kept.n kept.buffer (replicate most_nodes blank) in
    record { answer = map_result (λ n. take n o.buffer) o.answer; kept = record { n = o.n; buffer = o.buffer } }

-- `02..`: logical; the answer is mask, count and side.
unfoldable pub logical_line : (bytes : List ℕ) → Kept → LineOutcome
logical_line bytes kept = record { answer = map_result logical_bytes (logical bytes); kept = kept }

-- The call of a kind; extract is that with the table as load filled it (request 6), which the program does not lend.
unfoldable pub line_call : Kind → (n : ℕ) → (buffer scratch : List ℕ) → Outcome
line_call extract_call n buffer scratch = extract_filled n buffer scratch
line_call exchange_call n buffer scratch = exchange n buffer scratch

-- `21` and `22`: extract and exchange with a scratch of 16,384 bytes, 7 where more follows; the answer is the plan.
unfoldable pub call_line : Kind → (more : List ℕ) → Kept → LineOutcome
call_line kind (b ∷ more) kept = refused_line 7 kept
call_line kind [] kept =
    let o : Outcome = line_call kind kept.n kept.buffer (replicate most_bytes 0) in
    record { answer = map_result (λ n. take n o.buffer) o.answer; kept = record { n = o.n; buffer = o.buffer } }

-- A line by its first byte: 1 if there is none, 2 for any other.
unfoldable pub line_of : (bytes : List ℕ) → Kept → LineOutcome
line_of [] kept = refused_line 1 kept
line_of (first ∷ more) kept =
    if eqb first 0x01 then load_line (first ∷ more) kept else
    if eqb first 0x02 then logical_line (first ∷ more) kept else
    if eqb first 0x21 then call_line extract_call more kept else
    if eqb first 0x22 then call_line exchange_call more kept else
    refused_line 2 kept

-- 14 comes first.
unfoldable pub read_line : Result (List ℕ) → Kept → LineOutcome
read_line (ok bytes) kept = line_of bytes kept
read_line (refused number) kept = refused_line number kept

-- What a line of characters gives.
unfoldable pub line_outcome : (line : List ℕ) → Kept → LineOutcome
line_outcome line kept = read_line (line_bytes line) kept

-- A line out: `00` and the answer, or the refusal number alone, in digits, and a line feed.
unfoldable pub written_line : Result (List ℕ) → List ℕ
written_line (ok bytes) = digits (0 ∷ bytes) ++ (10 ∷ [])
written_line (refused number) = digits (number ∷ []) ++ (10 ∷ [])

-- ---- the whole input

-- A character before the lines that follow.
unfoldable pub into_first : (character : ℕ) → (lines : List (List ℕ)) → List (List ℕ)
into_first c [] = (c ∷ []) ∷ []
into_first c (line ∷ lines) = (c ∷ line) ∷ lines

-- The lines of an input: each ends in a line feed, the last one perhaps without.
unfoldable pub lines_of : (input : List ℕ) → List (List ℕ)
lines_of [] = []
lines_of (c ∷ input) = if eqb c 10 then [] ∷ lines_of input else into_first c (lines_of input)

-- What is written for lines, one after another.
unfoldable pub output_from : Kept → (lines : List (List ℕ)) → List ℕ
output_from kept [] = []
output_from kept (line ∷ lines) =
    let o : LineOutcome = line_outcome line kept in
    written_line o.answer ++ output_from o.kept lines

-- A fresh plan in a buffer of 16,384 bytes.
unfoldable pub fresh_plan : Kept
fresh_plan = record { n = 0; buffer = replicate most_bytes 0 }

-- What the program writes for an input.
unfoldable pub output : (input : List ℕ) → List ℕ
output input = output_from fresh_plan (lines_of input)
