-- Each claim of session settings, proved.
use Rattle.std.specs.Prelude.{if◌then◌else◌}
use Prim.Native.Nat.{ℕ}
use native.Mathlib.Omega.{arith}
use mathlib.Core.Path.{◌≡◌, refl, sym, ap, ap₂, ◌∙◌}
use mathlib.Core.Bool.{Bool, true, false, ◌&&◌}
use mathlib.Core.List.{List, [], ◌∷◌}
use mathlib.Core.Option.{Option, none, some}
use lib.Dec.{leb}
use borrow.Author.Tests.{leb-true, le-leb}
use Rattle.definitions.specs.Words.Basics.{refused}
use Rattle.definitions.specs.Words.Expression.{Predicate, relation, distance, knn}
use Rattle.definitions.specs.Filter.Match.{match_leaf_by}
use Rattle.definitions.specs.Filter.Extract.{Matcher}
use Rattle.definitions.specs.Calls.Base.{Outcome, finish, extract_by, extract_walk_by}
use Rattle.definitions.specs.Bytes.NodeTable.{NodeRecord}
use Rattle.definitions.specs.Lists.Machine.{Kind, extract_call, exchange_call}
use Rattle.definitions.specs.Lists.Sessions.{Made, make_by, walk_by, ListOutcome, calls_run_by}
use Rattle.definitions.specs.Calls.ExtractAll.{finish_all, extract_all_by}
use Rattle.definitions.specs.Claims.AnyMatcher.{Extracts, OneCall, Lists}
use Rattle.definitions.specs.Claims.All.{TakesAll, AllCall}
use Rattle.definitions.specs.Meaning.Matchers.{Lawful}
use Rattle.definitions.specs.Filter.Settings.{Settings, good_settings, default_settings, has_bit, allowed, passing, only_if, match_under}
use Rattle.definitions.specs.Meaning.Values.{FairUnder}
use Rattle.definitions.specs.Calls.Settings.{extract_under, extract_walk_under, extract_all_under}
use Rattle.definitions.specs.Lists.Settings.{make_under, walk_under, calls_run_under}
use Rattle.definitions.specs.Claims.Settings.{AllSettings, BadSettings, DefaultSettings, Narrower, KindsNarrow}
use Rattle.theorems.proofs.Tools.{and-both}
use Rattle.theorems.proofs.Truth.{fair-symmetric}
use Rattle.theorems.proofs.AnyMatchers.{any-matcher-is}
use Rattle.theorems.proofs.Merged.{merged-leaves-are}
use Rattle.theorems.proofs.MergeCall.{list-after}
use Rattle.theorems.proofs.Histories.{history-of}
use Rattle.theorems.proofs.ProjectLists.{list-projected}
use Rattle.theorems.proofs.Walks.{walk-bounded-by, walk-whole-by, walk-unmatched-by, walk-exchanged-by, walk-carried-by}
use Rattle.theorems.proofs.Lengths.{walk-short-by}
use Rattle.theorems.proofs.AllConjuncts.{any-matcher-all-is}
use Rattle.theorems.proofs.SettingsLaws.{settings-laws, default-good, default-match}

-- ---- settings that do not get 24

module _ (S : Settings) (good : good_settings S ≡ true) where
  same-extract : (n : ℕ) (buffer scratch : List ℕ) (table : List NodeRecord)
      → extract_under S n buffer scratch table ≡ extract_by (match_under S) n buffer scratch table
  unfolding extract_under
  same-extract n buffer scratch table =
      ap (λ (b : Bool). if b then extract_by (match_under S) n buffer scratch table else finish n buffer scratch (refused 24)) good

  same-walk : (n : ℕ) (buffer scratch : List ℕ) (table : List NodeRecord)
      → extract_walk_under S n buffer scratch table ≡ extract_walk_by (match_under S) n buffer scratch table
  unfolding extract_walk_under
  same-walk n buffer scratch table = ap (λ (b : Bool). if b then extract_walk_by (match_under S) n buffer scratch table else 0) good

  same-all : (frame buffer : List ℕ) → extract_all_under S frame buffer ≡ extract_all_by (match_under S) frame buffer
  unfolding extract_all_under
  same-all frame buffer =
      ap (λ (b : Bool). if b then extract_all_by (match_under S) frame buffer else finish_all buffer (refused 24)) good

  pub same-make : (kind : Kind) (n : ℕ) (buffer scratch : List ℕ) (table : List NodeRecord)
      → make_under S kind n buffer scratch table ≡ make_by (match_under S) kind n buffer scratch table
  unfolding make_under make_by
  same-make extract_call n buffer scratch table = same-extract n buffer scratch table
  same-make exchange_call n buffer scratch table = refl

  pub same-carried : (kind : Kind) (n : ℕ) (buffer scratch : List ℕ) (table : List NodeRecord)
      → walk_under S kind n buffer scratch table ≡ walk_by (match_under S) kind n buffer scratch table
  unfolding walk_under walk_by
  same-carried extract_call n buffer scratch table = same-walk n buffer scratch table
  same-carried exchange_call n buffer scratch table = refl

  same-calls : (list : List Made) (n : ℕ) (buffer : List ℕ) (table : List NodeRecord)
      → calls_run_under S n buffer table list ≡ calls_run_by (match_under S) n buffer table list
  unfolding calls_run_under calls_run_by
  same-calls [] n buffer table = refl
  same-calls (c ∷ cs) n buffer table =
      let one : Outcome = make_by (match_under S) c.kind n buffer c.scratch table in
      ap₂ (λ (o : Outcome) (w : ℕ). record {
        answers = o.answer ∷ (calls_run_under S o.n o.buffer table cs).answers;
        walks = w ∷ (calls_run_under S o.n o.buffer table cs).walks;
        n = (calls_run_under S o.n o.buffer table cs).n;
        buffer = (calls_run_under S o.n o.buffer table cs).buffer;
      }) (same-make c.kind n buffer c.scratch table) (same-carried c.kind n buffer c.scratch table)
      ∙ ap (λ (l : ListOutcome). record {
        answers = one.answer ∷ l.answers;
        walks = walk_by (match_under S) c.kind n buffer c.scratch table ∷ l.walks;
        n = l.n;
        buffer = l.buffer;
      }) (same-calls cs one.n one.buffer table)

pub all-settings-hold : AllSettings
all-settings-hold S g =
    let laws : Lawful (match_under S) (FairUnder S) = settings-laws S g in
    let any : Extracts (match_under S) (FairUnder S) × OneCall (match_under S) × Lists (match_under S) (FairUnder S) =
    any-matcher-is.0 (match_under S) (FairUnder S) laws in
    let whole : TakesAll (match_under S) (FairUnder S) × AllCall (match_under S) = any-matcher-all-is (match_under S) (FairUnder S) laws in
    record {
      call = same-extract S g.good;
      carries = same-walk S g.good;
      call_all = same-all S g.good;
      calls = λ n buffer table list. same-calls S g.good list n buffer table;
      lawful = laws;
      symmetric = λ M fair. fair-symmetric M fair;
      extracts = any.0;
      one_call = any.1;
      lists = any.2;
      merged = merged-leaves-are laws;
      list_after_merge = list-after laws;
      history = history-of laws;
      projects = list-projected laws;
      walk_bounded = walk-bounded-by (match_under S);
      walk_whole = walk-whole-by (match_under S);
      walk_unmatched = walk-unmatched-by (match_under S);
      walk_exchanged = walk-exchanged-by laws;
      walk_carried = walk-carried-by (match_under S);
      walk_short = walk-short-by (match_under S);
      takes_all = whole.0;
      all_call = whole.1;
    }

-- ---- settings that get 24

pub bad-settings-refused : BadSettings
unfolding extract_under extract_walk_under extract_all_under
bad-settings-refused S bad = (
  λ n buffer scratch table. (
    ap (λ (b : Bool). if b then extract_by (match_under S) n buffer scratch table else finish n buffer scratch (refused 24)) bad,
    ap (λ (b : Bool). if b then extract_walk_by (match_under S) n buffer scratch table else 0) bad,
  ),
  λ frame buffer. ap (λ (b : Bool). if b then extract_all_by (match_under S) frame buffer else finish_all buffer (refused 24)) bad,
)

-- ---- the default settings

pub default-settings-same : DefaultSettings
default-settings-same = (
  default-good,
  default-match,
  λ n buffer scratch table. (
    same-extract default_settings default-good.good n buffer scratch table
        ∙ ap (λ (m : Matcher). extract_by m n buffer scratch table) default-match,
    same-walk default_settings default-good.good n buffer scratch table
        ∙ ap (λ (m : Matcher). extract_walk_by m n buffer scratch table) default-match,
  ),
  λ n buffer table list.
      same-calls default_settings default-good.good list n buffer table
      ∙ ap (λ (m : Matcher). calls_run_by m n buffer table list) default-match,
)

-- ---- narrower settings

allowed-more : (S T : Settings) → Narrower S T → (p : Predicate) → allowed S p ≡ true → allowed T p ≡ true
unfolding allowed
allowed-more S T w (relation type l r) h = w.kinds 0 h
allowed-more S T w (distance form side l r bound) h = w.kinds 1 h
allowed-more S T w (knn k spheroid probe ties l r) h =
    let both : (has_bit 2 S.kinds ≡ true) × (leb k S.greatest_k ≡ true) = and-both (has_bit 2 S.kinds) (leb k S.greatest_k) h in
    ap (λ (b : Bool). b && leb k T.greatest_k) (w.kinds 2 both.0)
    ∙ le-leb k T.greatest_k (omega (arith, leb-true k S.greatest_k both.1, w.greatest_k))

passing-more : (S T : Settings) → Narrower S T → (m : Option Predicate) (p : Predicate) → passing (allowed S) m ≡ some p
    → passing (allowed T) m ≡ some p
unfolding passing
passing-more S T w none p e = e
passing-more S T w (some q) p e = by (allowed S q) refl e
  where
    by : (b : Bool) → allowed S q ≡ b → (if b then some q else none) ≡ some p → (if allowed T q then some q else none) ≡ some p
    by true is e = ap (λ (b : Bool). if b then some q else none) (allowed-more S T w q is) ∙ e
    by false is e = let z : ◌≡◌ {A = ℕ} 0 1 = cc in absurd (omega arith)

pub kinds-narrow-holds : KindsNarrow
unfolding match_under only_if
kinds-narrow-holds S T w rs leaf p e =
    passing-more S T w (match_leaf_by T.default_k rs leaf) p
    (ap (λ (d : ℕ). passing (allowed S) (match_leaf_by d rs leaf)) (sym w.default_k) ∙ e)
