-- What the answer about the flags of a held KNN says.
use Rattle.std.specs.Prelude.{ℕ, ◌≤◌, ◌≡◌, List, length, drop, Result, Ok, Err}
use Rattle.definitions.specs.Words.Expression as tree
use Rattle.definitions.specs.Bytes.Readers.{stopped, Reader, ◌>>=◌, byte_up_to}
use Rattle.definitions.specs.Bytes.Decode.{side_up_to}
use Rattle.terms.specs.Refusals.{number_of}
use Rattle.terms.specs.Sides.{join_side}
use Rattle.sedona_query_planner.specs.Predicates.{flag, ties_number}
use Rattle.terms.specs.declared.refusals.Refusal.{Refusal}
use Rattle.plan_reader.specs.declared.knn_fields.HeldFlags.{HeldFlags}

-- Spheroid, probe side and ties, and what comes after them.
abbrev pub then_flags : ((spheroid : ℕ) → tree.Side → (ties : ℕ) → Reader tree.Predicate) → Reader tree.Predicate
then_flags next = do
  spheroid ← byte_up_to 1
  probe ← side_up_to 1
  ties ← byte_up_to 2
  next spheroid probe ties

-- Flags were read, and the place after them.
abbrev pub FlagsIs : List ℕ → (at : ℕ) → Result (HeldFlags × ℕ) Refusal → Type 0
FlagsIs s at (Ok f) =
    (f.1 ≤ length s)
    × ((next : ℕ → tree.Side → ℕ → Reader tree.Predicate) (n : ℕ)
    → then_flags next n (drop at s) ≡ next (flag f.0.use_spheroid) (join_side f.0.probe_side) (ties_number f.0.ties) n (drop f.1 s))
FlagsIs s at (Err why) =
    (next : ℕ → tree.Side → ℕ → Reader tree.Predicate) (n : ℕ) → then_flags next n (drop at s) ≡ stopped (number_of why)
