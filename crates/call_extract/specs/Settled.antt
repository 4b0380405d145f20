-- The extract under settings, with a lent table of nodes or that of its own nodes. (Ours.)
use Rattle.std.specs.Prelude.{ℕ, List, Option, Some, None, if◌then◌else◌}
use Rattle.std.specs.Borrow.{Bor}
use Rattle.definitions.specs.Words.Basics.{refused}
use Rattle.definitions.specs.Calls.Base.{Outcome, finish, extract_filled_by, walk_filled_by}
use Rattle.definitions.specs.Filter.Settings.{Settings, good_settings, match_under}
use Rattle.call_answers.specs.Outcomes.{ExtractIs}
use Rattle.call_answers.specs.declared.answers.Extracted.{Extracted}
use Rattle.node_table.specs.declared.NodeRecord.{NodeRecord as Lent}
use Rattle.node_table.specs.Records.{nodes_of}
use Rattle.call_extract.specs.ExtractByTable.{ByTable}

-- 24 before every other check.
abbrev pub filled_under : Settings → (n : ℕ) → (buffer scratch : List ℕ) → Outcome
filled_under S n buffer scratch =
    if good_settings S then extract_filled_by (match_under S) n buffer scratch else finish n buffer scratch (refused 24)

-- The walk that it carries: with 24 it is 0.
abbrev pub walk_under : Settings → (n : ℕ) → (buffer scratch : List ℕ) → ℕ
walk_under S n buffer scratch = if good_settings S then walk_filled_by (match_under S) n buffer scratch else 0

-- With the table that is lent or, where none is, that of its own nodes.
abbrev pub SettledBy : Settings → (n : ℕ) → Option (Bor (List Lent)) → (before scratch after kept : List ℕ) → Extracted → Type 0
SettledBy S n (Some table) before scratch after kept r = ByTable S n before scratch (nodes_of table.now) after kept r
SettledBy S n None before scratch after kept r =
    ExtractIs (filled_under S n before scratch) (walk_under S n before scratch) n after kept r
