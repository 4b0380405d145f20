-- Request 14 of document 02: the bytes of all indexable conjuncts, and the call that extracts all.
use Rattle.std.specs.Prelude.{ℕ, List, [], ◌∷◌, ◌++◌, length, leb, if◌then◌else◌}
use Rattle.definitions.specs.Words.Basics.{Result, ok, refused, big_endian}
use Rattle.definitions.specs.Words.Expression.{Frame}
use Rattle.definitions.specs.Bytes.Encode.{predicate_kind, predicate_fields, remainder_bytes}
use Rattle.definitions.specs.Bytes.Plans.{frame_of}
use Rattle.definitions.specs.Filter.Extract.{Pick, Matcher}
use Rattle.definitions.specs.Filter.Conjuncts.{Conjuncts, conjuncts_by}
use Rattle.definitions.specs.Calls.Base.{written_over}

-- ---- the bytes

-- A predicate as in an extraction: its first byte, its position in two bytes, its fields.
unfoldable pub pick_bytes : Pick → List ℕ
pick_bytes p = predicate_kind p.predicate ∷ (big_endian 2 p.position ++ predicate_fields p.predicate)

-- Several, one after another.
unfoldable pub picks_bytes : List Pick → List ℕ
picks_bytes [] = []
picks_bytes (p ∷ ps) = pick_bytes p ++ picks_bytes ps

-- What is written: the predicates, then `00` or the last remainder.
unfoldable pub conjuncts_bytes : Conjuncts → List ℕ
conjuncts_bytes C = picks_bytes C.taken ++ remainder_bytes C.rest

-- ---- the call: 1 to 8, 9

-- What the call gives: the length of what is written or a refusal, the number of rounds, and the lent buffer afterwards.
pub record AllOutcome : Type 0 where
  pub answer : Result ℕ
  pub rounds : ℕ
  pub buffer : List ℕ

-- All conjuncts of a good frame; 9 where the buffer is shorter than their bytes.
unfoldable pub new_conjuncts : Matcher → (room : ℕ) → Result Frame → Result Conjuncts
new_conjuncts match room (refused number) = refused number
new_conjuncts match room (ok F) =
    if leb (length (conjuncts_bytes (conjuncts_by match F))) room then ok (conjuncts_by match F) else refused 9

-- The bytes at the buffer's start, those after them as they were; a refusal writes nothing, and its rounds are 0.
unfoldable pub finish_all : (buffer : List ℕ) → Result Conjuncts → AllOutcome
finish_all buffer (ok C) = record {
  answer = ok (length (conjuncts_bytes C));
  rounds = length C.taken;
  buffer = written_over (conjuncts_bytes C) buffer;
}
finish_all buffer (refused number) = record { answer = refused number; rounds = 0; buffer = buffer }

-- The call takes a frame and a lent buffer, no scratch and no table.
unfoldable pub extract_all_by : Matcher → (frame buffer : List ℕ) → AllOutcome
extract_all_by match frame buffer = finish_all buffer (new_conjuncts match (length buffer) (frame_of frame))
