-- Request 7 of document 02: the call project: 10, 11, 18, 19, 9, 20.
use Rattle.std.specs.Prelude.{ℕ, Bool, ◌&&◌, List, length, leb, if◌then◌else◌}
use Rattle.std.proofs.Math.Option.{Option, none, some}
use Rattle.definitions.specs.Words.Basics.{Result, ok, refused}
use Rattle.definitions.specs.Words.Limits.{most_items}
use Rattle.definitions.specs.Words.Expression.{Extraction, Plan, empty, held, extracted}
use Rattle.definitions.specs.Bytes.Encode.{plan_bytes}
use Rattle.definitions.specs.Filter.Project.{ChildLists, projection}
use Rattle.definitions.specs.Calls.Base.{Outcome, finish, held_plan}

-- Whether neither list has over 4,096 items.
unfoldable pub short_lists : ChildLists → Bool
short_lists lists = leb (length lists.of_left) most_items && leb (length lists.of_right) most_items

-- The bytes of a projection; 20 where a list lacks an index.
unfoldable pub projected_bytes : Option Extraction → Result (List ℕ)
projected_bytes none = refused 20
projected_bytes (some X) = ok (plan_bytes (extracted X))

-- The new plan of a projection.
unfoldable pub new_after_project : ChildLists → (n room : ℕ) → Result Plan → Result (List ℕ)
new_after_project lists n room (refused number) = refused 10
new_after_project lists n room (ok empty) = refused 11
new_after_project lists n room (ok (held F)) = refused 18
new_after_project lists n room (ok (extracted X)) =
    if short_lists lists then
    (if leb n room then projected_bytes (projection lists X) else refused 9)
    else refused 19

-- The call project; it has scratch like exchange.
unfoldable pub project : (n : ℕ) → (buffer scratch : List ℕ) → (of_left of_right : List ℕ) → Outcome
project n buffer scratch of_left of_right =
    finish n buffer scratch (new_after_project (record { of_left = of_left; of_right = of_right }) n (length scratch) (held_plan n buffer))
