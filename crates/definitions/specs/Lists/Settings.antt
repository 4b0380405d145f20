-- Request 13 of document 02: lists of calls under settings.
use Rattle.std.specs.Prelude.{ℕ, List, [], ◌∷◌}
use Rattle.definitions.specs.Bytes.NodeTable.{NodeRecord}
use Rattle.definitions.specs.Filter.Settings.{Settings}
use Rattle.definitions.specs.Calls.Base.{Outcome, exchange}
use Rattle.definitions.specs.Calls.Settings.{extract_under, extract_walk_under}
use Rattle.definitions.specs.Lists.Machine.{Kind, extract_call, exchange_call}
use Rattle.definitions.specs.Lists.Sessions.{Made, ListOutcome}

-- The call of a kind; an exchange has neither settings nor table.
unfoldable pub make_under : Settings → Kind → (n : ℕ) → (buffer scratch : List ℕ) → (table : List NodeRecord) → Outcome
make_under S extract_call n buffer scratch table = extract_under S n buffer scratch table
make_under S exchange_call n buffer scratch table = exchange n buffer scratch

-- The walk that it carries; an exchange has none.
unfoldable pub walk_under : Settings → Kind → (n : ℕ) → (buffer scratch : List ℕ) → (table : List NodeRecord) → ℕ
walk_under S extract_call n buffer scratch table = extract_walk_under S n buffer scratch table
walk_under S exchange_call n buffer scratch table = 0

-- A list of calls, all with the same settings, each given the last n and the plan buffer as it was left, and one and the same table.
unfoldable pub calls_run_under : Settings → (n : ℕ) → (buffer : List ℕ) → (table : List NodeRecord) → List Made → ListOutcome
calls_run_under S n buffer table [] = record { answers = []; walks = []; n = n; buffer = buffer }
calls_run_under S n buffer table (c ∷ cs) =
    let one : Outcome = make_under S c.kind n buffer c.scratch table in
    let after : ListOutcome = calls_run_under S one.n one.buffer table cs in
    let carried : ℕ = walk_under S c.kind n buffer c.scratch table in
    record { answers = one.answer ∷ after.answers; walks = carried ∷ after.walks; n = after.n; buffer = after.buffer }
