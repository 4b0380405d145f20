-- Request 13 of document 02: extract, and the call that extracts all, under settings: 24 before every other check.
use Rattle.std.specs.Prelude.{ℕ, List, if◌then◌else◌}
use Rattle.definitions.specs.Words.Basics.{refused}
use Rattle.definitions.specs.Bytes.NodeTable.{NodeRecord}
use Rattle.definitions.specs.Filter.Settings.{Settings, good_settings, match_under}
use Rattle.definitions.specs.Calls.Base.{Outcome, finish, extract_by, extract_walk_by}
use Rattle.definitions.specs.Calls.ExtractAll.{AllOutcome, finish_all, extract_all_by}

-- The call extract.
unfoldable pub extract_under : Settings → (n : ℕ) → (buffer scratch : List ℕ) → (table : List NodeRecord) → Outcome
extract_under S n buffer scratch table =
    if good_settings S then extract_by (match_under S) n buffer scratch table else finish n buffer scratch (refused 24)

-- The walk that it carries (request 10): with 24 it is 0.
unfoldable pub extract_walk_under : Settings → (n : ℕ) → (buffer scratch : List ℕ) → (table : List NodeRecord) → ℕ
extract_walk_under S n buffer scratch table = if good_settings S then extract_walk_by (match_under S) n buffer scratch table else 0

-- The call that extracts all (request 14).
unfoldable pub extract_all_under : Settings → (frame buffer : List ℕ) → AllOutcome
extract_all_under S frame buffer =
    if good_settings S then extract_all_by (match_under S) frame buffer else finish_all buffer (refused 24)
