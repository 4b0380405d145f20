-- A table that fits the held plan changes nothing of extract, and one that fits a plan fits it exchanged.
use Rattle.std.specs.Prelude.{if◌then◌else◌}
use mathlib.Core.Path.{◌≡◌, refl, sym, ap, ◌∙◌}
use mathlib.Core.Bool.{Bool, true, false, false≢true}
use mathlib.Core.List.{List}
use mathlib.Core.Option.{Option, none, some}
use lib.ListN.{length}
use Rattle.definitions.specs.Words.Basics.{Result, ok, refused}
use Rattle.definitions.specs.Words.Expression.{Frame, Extraction, Plan, empty, held, extracted}
use Rattle.definitions.specs.Filter.Exchange.{exchange_plan}
use Rattle.definitions.specs.Calls.Base.{Outcome, table_fits, finish, held_plan, new_after_extract_by, extract_filled_by, extract_by}
use Rattle.definitions.specs.Lists.Machine.{extraction_or}
use Rattle.definitions.specs.Bytes.NodeTable.{NodeRecord, node_table, begins_with}
use Rattle.definitions.specs.Claims.Table.{ExtractFilled, ExtractUnfilled, ExtractTwice}
use Rattle.theorems.proofs.NodeTables.{table-exchanged-by}

-- ---- extract

pub extract-filled-by : ExtractFilled
unfolding extract_by
extract-filled-by match n buffer scratch table fits =
    ap (λ (b : Bool). if b then extract_filled_by match n buffer scratch else finish n buffer scratch (refused 10)) fits

-- A plan that a table does not fit is a held frame.
unfit : (table : List NodeRecord) (r : Result Plan) → table_fits table r ≡ false
    → (F : Frame) × (r ≡ ok (held F)) × (begins_with (node_table F) table ≡ false)
unfolding table_fits
unfit table (ok (held F)) e = (F, refl, e)
unfit table (ok (extracted X)) e = absurd (false≢true (sym e))
unfit table (ok empty) e = absurd (false≢true (sym e))
unfit table (refused number) e = absurd (false≢true (sym e))

pub extract-unfilled-by : ExtractUnfilled
unfolding extract_by finish
extract-unfilled-by match n buffer scratch table e = (
  ap (λ (b : Bool). if b then extract_filled_by match n buffer scratch else finish n buffer scratch (refused 10)) e,
  unfit table (held_plan n buffer) e,
)

fits-extraction : (table : List NodeRecord) (X : Extraction) → table_fits table (ok (extracted X)) ≡ true
unfolding table_fits
fits-extraction table X = refl

pub extract-twice-by : ExtractTwice
unfolding extract_filled_by new_after_extract_by finish
extract-twice-by match n buffer scratch table X e =
    ap (λ (o : Outcome). o.answer)
    (extract-filled-by match n buffer scratch table (ap (table_fits table) e ∙ fits-extraction table X)
    ∙ ap (λ (r : Result Plan). finish n buffer scratch (new_after_extract_by match n (length scratch) r)) e)

-- ---- plans

module _ (table : List NodeRecord) where
  pub fits-exchanged : (p : Plan) → table_fits table (ok (exchange_plan p)) ≡ table_fits table (ok p)
  unfolding table_fits exchange_plan
  fits-exchanged empty = refl
  fits-exchanged (held F) = ap (λ (records : List NodeRecord). begins_with records table) (table-exchanged-by F)
  fits-exchanged (extracted X) = refl

  pub fits-base : (F : Frame) (x : Option Extraction) → begins_with (node_table F) table ≡ true
      → table_fits table (ok (extraction_or (held F) x)) ≡ true
  unfolding table_fits extraction_or
  fits-base F none e = e
  fits-base F (some X) e = refl
