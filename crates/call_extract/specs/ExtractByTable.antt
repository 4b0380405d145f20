-- The extract with a lent table. (Ours.)
use Rattle.std.specs.Prelude.{ℕ, List}
use Rattle.definitions.specs.Bytes.NodeTable.{NodeRecord}
use Rattle.definitions.specs.Filter.Extract.{Matcher}
use Rattle.definitions.specs.Calls.Base.{extract_by, extract_walk_by}
use Rattle.definitions.specs.Filter.Settings.{Settings}
use Rattle.definitions.specs.Calls.Settings.{extract_under, extract_walk_under}
use Rattle.call_answers.specs.Outcomes.{ExtractIs}
use Rattle.call_answers.specs.declared.answers.Extracted.{Extracted}

-- The extract with a matcher and a table is the definition's,
abbrev pub ExtractsWith : Matcher → (n : ℕ) (before scratch : List ℕ) (table : List NodeRecord) (after kept : List ℕ) → Extracted → Type 0
ExtractsWith match n before scratch table after kept r =
    ExtractIs (extract_by match n before scratch table) (extract_walk_by match n before scratch table) n after kept r

-- and so is the call with settings.
abbrev pub ByTable : Settings → (n : ℕ) (before scratch : List ℕ) (table : List NodeRecord) (after kept : List ℕ) → Extracted → Type 0
ByTable S n before scratch table after kept r =
    ExtractIs (extract_under S n before scratch table) (extract_walk_under S n before scratch table) n after kept r
