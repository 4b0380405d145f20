-- What a length may be.
use Rattle.std.specs.Prelude.{◌*◌, ◌-◌, ◌≤◌, Some, None, Result, Ok, Err}
use Rattle.definitions.specs.Words.Limits.{most_nodes, place_bytes}
use Rattle.terms.specs.declared.refusals.Refusal.{Refusal}
use Rattle.call_answers.specs.declared.answers.Extracted.{Extracted}
use Rattle.call_answers.specs.declared.answers.Loaded.{Loaded}
use Rattle.call_answers.specs.Outcomes.{Answered}
use Rattle.queues.specs.Outcomes.{ServeAnswered}

-- A length is at most 26,620: a plan's at most 16,384, a text's so many.
abbrev pub ShortLength : Answered → Type 0
ShortLength (Ok n) = n ≤ 26620
ShortLength (Err why) = Unit {0}

-- So is that of a plan that was loaded or merged,
abbrev pub ShortLoaded : Result Loaded Refusal → Type 0
ShortLoaded (Ok r) = r.length ≤ 26620
ShortLoaded (Err why) = Unit {0}

-- and an extract's, and its walk at most 2,047.
abbrev pub ShortWalk : Extracted → Type 0
ShortWalk r = ShortLength r.answer × (r.walk ≤ 2 * most_nodes - 1)

-- A frame that waited has at most 1,024 bytes (request 12).
abbrev pub ServeShort : ServeAnswered → Type 0
ServeShort (Ok (Some frame)) = frame.1 ≤ place_bytes
ServeShort (Ok None) = Unit {0}
ServeShort (Err why) = Unit {0}
