-- Request 13 of document 02: what is claimed of session settings; crate `theorems` proves it.
use Rattle.std.specs.Prelude.{ℕ, ◌≤◌, ◌≡◌, true, false, List}
use Rattle.std.proofs.Math.Option.{some}
use Rattle.definitions.specs.Words.Basics.{refused}
use Rattle.definitions.specs.Words.Expression.{within, Expr, Record, Predicate}
use Rattle.definitions.specs.Bytes.NodeTable.{NodeRecord}
use Rattle.definitions.specs.Filter.Match.{match_leaf}
use Rattle.definitions.specs.Filter.Settings.{Settings, good_settings, default_settings, has_bit, match_under, GoodSettings}
use Rattle.definitions.specs.Calls.Base.{finish, extract, extract_by, extract_walk, extract_walk_by}
use Rattle.definitions.specs.Calls.ExtractAll.{finish_all, extract_all_by}
use Rattle.definitions.specs.Calls.Settings.{extract_under, extract_walk_under, extract_all_under}
use Rattle.definitions.specs.Lists.Sessions.{Made, calls_run_by, calls_run}
use Rattle.definitions.specs.Lists.Settings.{calls_run_under}
use Rattle.definitions.specs.Meaning.Values.{Meaning, FairUnder}
use Rattle.definitions.specs.Meaning.Matchers.{Lawful, Symmetric}
use Rattle.definitions.specs.Claims.Calls.{RefusedBy, settled_refusals, all_refusals}
use Rattle.definitions.specs.Claims.AnyMatcher.{Extracts, OneCall, Lists}
use Rattle.definitions.specs.Claims.Merge.{MergedLeavesBy, ListAfterMergeBy, HistoryOfCallsBy}
use Rattle.definitions.specs.Claims.Project.{ListProjectedBy}
use Rattle.definitions.specs.Claims.Walk.{WalkBoundedBy, WalkWholeBy, WalkUnmatchedBy, WalkExchangedBy, WalkCarriedBy, WalkShortBy}
use Rattle.definitions.specs.Claims.All.{TakesAll, AllCall}

-- What is claimed under settings that do not get 24.
pub record UnderSettings (S : Settings) : Type 0 where
  -- An extract with the walk that it carries, and a call that extracts all, is one with the matcher of the settings,
  pub call : (n : ℕ) (buffer scratch : List ℕ) (table : List NodeRecord)
      → extract_under S n buffer scratch table ≡ extract_by (match_under S) n buffer scratch table
  pub carries : (n : ℕ) (buffer scratch : List ℕ) (table : List NodeRecord)
      → extract_walk_under S n buffer scratch table ≡ extract_walk_by (match_under S) n buffer scratch table
  pub call_all : (frame buffer : List ℕ) → extract_all_under S frame buffer ≡ extract_all_by (match_under S) frame buffer
  -- and so is a list of calls.
  pub calls : (n : ℕ) (buffer : List ℕ) (table : List NodeRecord) (list : List Made)
      → calls_run_under S n buffer table list ≡ calls_run_by (match_under S) n buffer table list
  -- That matcher is lawful; its values ask that the meaning is fair under the settings, and exchange respects such a meaning.
  pub lawful : Lawful (match_under S) (FairUnder S)
  pub symmetric : (M : Meaning) → FairUnder S M → Symmetric M
  -- So all that is claimed of extractions, of a call, of lists of calls with their walks, of merges, of projections, of walks and of
  -- request 14 holds with it.
  pub extracts : Extracts (match_under S) (FairUnder S)
  pub one_call : OneCall (match_under S)
  pub lists : Lists (match_under S) (FairUnder S)
  pub merged : MergedLeavesBy (match_under S)
  pub list_after_merge : ListAfterMergeBy (match_under S)
  pub history : HistoryOfCallsBy (match_under S)
  pub projects : ListProjectedBy (match_under S) (FairUnder S)
  pub walk_bounded : WalkBoundedBy (match_under S)
  pub walk_whole : WalkWholeBy (match_under S)
  pub walk_unmatched : WalkUnmatchedBy (match_under S)
  pub walk_exchanged : WalkExchangedBy (match_under S)
  pub walk_carried : WalkCarriedBy (match_under S)
  pub walk_short : WalkShortBy (match_under S)
  pub takes_all : TakesAll (match_under S) (FairUnder S)
  pub all_call : AllCall (match_under S)

-- At one go for all settings that do not get 24.
abbrev pub AllSettings : Type 0
AllSettings = (S : Settings) → GoodSettings S → UnderSettings S

-- Settings that are not good get 24, whatever else is wrong, nothing is written and the walk is 0.
abbrev pub BadSettings : Type 0
BadSettings =
    (S : Settings) → good_settings S ≡ false
    → ((n : ℕ) (buffer scratch : List ℕ) (table : List NodeRecord)
    → (extract_under S n buffer scratch table ≡ finish n buffer scratch (refused 24)) × (extract_walk_under S n buffer scratch table ≡ 0))
    × ((frame buffer : List ℕ) → extract_all_under S frame buffer ≡ finish_all buffer (refused 24))

-- Every answer is a length or one of the call's own refusals, whatever the settings.
abbrev pub RefusalsUnder : Type 0
RefusalsUnder =
    ((S : Settings) (n : ℕ) (buffer scratch : List ℕ) (table : List NodeRecord)
    → RefusedBy settled_refusals (extract_under S n buffer scratch table).answer)
    × ((S : Settings) (frame buffer : List ℕ) → RefusedBy all_refusals (extract_all_under S frame buffer).answer)

-- With all kinds, 1 and 4,294,967,295 each answer and each walk equals that without settings.
abbrev pub DefaultSettings : Type 0
DefaultSettings =
    GoodSettings default_settings
    × (match_under default_settings ≡ match_leaf)
    × ((n : ℕ) (buffer scratch : List ℕ) (table : List NodeRecord)
    → (extract_under default_settings n buffer scratch table ≡ extract n buffer scratch table)
    × (extract_walk_under default_settings n buffer scratch table ≡ extract_walk n buffer scratch table))
    × ((n : ℕ) (buffer : List ℕ) (table : List NodeRecord) (list : List Made)
    → calls_run_under default_settings n buffer table list ≡ calls_run n buffer table list)

-- Under all settings there is a fair meaning in which a relation, a distance and KNN hold of some arguments and not of others.
abbrev pub FairMeaningUnder : Type 0
FairMeaningUnder =
    (S : Settings) → (M : Meaning) × FairUnder S M
    × (M.relation_value within 0 1 ≡ 1) × (M.relation_value within 1 0 ≡ 0)
    × (M.dwithin_value 3 5 2 ≡ 1) × (M.dwithin_value 3 5 1 ≡ 0)
    × (M.knn_value 3 5 2 0 2 ≡ 1) × (M.knn_value 3 5 1 0 2 ≡ 0)

-- Settings that allow no more than others: no kind that these do not, no greater k, and the same default.
pub record Narrower (S T : Settings) : Type 0 where
  pub kinds : (place : ℕ) → has_bit place S.kinds ≡ true → has_bit place T.kinds ≡ true
  pub default_k : S.default_k ≡ T.default_k
  pub greatest_k : S.greatest_k ≤ T.greatest_k

-- Fewer kinds or a smaller greatest k never make a leaf match that did not; one that still matches gives the same predicate.
abbrev pub KindsNarrow : Type 0
KindsNarrow =
    (S T : Settings) → Narrower S T → (records : List Record) (leaf : Expr) (p : Predicate)
    → match_under S records leaf ≡ some p → match_under T records leaf ≡ some p
