-- The input in pieces, cut anywhere: what is kept between two of them, and what is written for each.
use Rattle.std.specs.Prelude.{ℕ, Bool, true, false, List, [], ◌∷◌, ◌++◌, eqb, if◌then◌else◌}
use Rattle.definitions.specs.Lists.Program.{Kept, LineOutcome, line_outcome, written_line, fresh_plan}

-- Between two pieces: the plan that is kept, and the characters of the line that has begun.
pub record InputSession : Type 0 where
  pub kept : Kept
  pub begun : List ℕ

-- What is written, and the session afterwards.
pub record InputStep : Type 0 where
  pub out : List ℕ
  pub after : InputSession

-- The line that has begun is at its end.
unfoldable pub end_line : InputSession → InputStep
end_line s =
    let o : LineOutcome = line_outcome s.begun s.kept in
    record { out = written_line o.answer; after = record { kept = o.kept; begun = [] } }

-- Characters join the line that has begun.
unfoldable pub join : InputSession → (characters : List ℕ) → InputStep
join s characters = record { out = []; after = record { kept = s.kept; begun = s.begun ++ characters } }

-- A line feed ends the line, any other character joins it.
unfoldable pub character : InputSession → ℕ → InputStep
character s c = if eqb c 10 then end_line s else join s (c ∷ [])

-- A piece, character by character.
unfoldable pub piece : InputSession → (characters : List ℕ) → InputStep
piece s [] = record { out = []; after = s }
piece s (c ∷ characters) =
    let one : InputStep = character s c in
    let others : InputStep = piece one.after characters in
    record { out = one.out ++ others.out; after = others.after }

-- The end of the input ends a line that has begun.
unfoldable pub input_end : Kept → (begun : List ℕ) → List ℕ
input_end kept [] = []
input_end kept (c ∷ begun) = (end_line (record { kept = kept; begun = c ∷ begun })).out

-- The program starts with a fresh plan and no line begun.
unfoldable pub fresh_session : InputSession
fresh_session = record { kept = fresh_plan; begun = [] }

-- ---- up to a line feed

-- The characters before the first line feed; all where there is none.
unfoldable pub first_line : List ℕ → List ℕ
first_line [] = []
first_line (c ∷ characters) = if eqb c 10 then [] else c ∷ first_line characters

-- Whether there is a line feed.
unfoldable pub has_feed : List ℕ → Bool
has_feed [] = false
has_feed (c ∷ characters) = if eqb c 10 then true else has_feed characters
