-- Each claim of specs/Claims.antt and of the tables beside it, proved.
use mathlib.Core.Path.{ap, ◌∙◌}
use Rattle.std.proofs.Math.Option
use Rattle.definitions.specs.Bytes.Encode.{predicate_kind}
use Rattle.definitions.specs.Filter.Match.{match_leaf}
use Rattle.definitions.specs.Filter.Extract.{Matcher}
use Rattle.definitions.specs.Lists.Sessions.{odd_in}
use Rattle.definitions.specs.Meaning.Values.{Fair}
use Rattle.definitions.specs.Claims.Plans.{ExchangeTwice, ExtractExchanged, ExpressionReadBack, PlanReadBack, PlanOfBytes, AnyPosition, ExtractionGood, ExchangeGood}
use Rattle.definitions.specs.Claims.Refusals.{LengthsShort, RefusalsOfCalls}
use Rattle.definitions.specs.Claims.Calls.{RefusedKeeps, AcceptedWrites}
use Rattle.definitions.specs.Claims.Lists.{LoadAccepted, LoadHolds, ListOfCalls, AnswersInPlace, SamePlan, ExchangeAccepted, ExtractAccepted}
use Rattle.definitions.specs.Claims.Pick.{PickExactly, RestOfLeaves, ExtractTakes, PositionInBytes}
use Rattle.definitions.specs.Claims.PriceLine.{PriceLineOfCalls, PriceLineStays, PriceLineExchanged, MachinesAgree}
use Rattle.definitions.specs.Claims.Names.{NamesAreOnes, NamesOnce}
use Rattle.definitions.specs.Claims.Values.{AndAssociative, AndCommutative, ExchangeValue, ExtractionValue, values_when, ListValue, FairMeaning, FairByArguments, MarksStay}
use Rattle.definitions.specs.Claims.AnyMatcher.{Extracts, OneCall, Lists, AnyMatcher}
use Rattle.definitions.specs.Claims.DemandThree.{MeetsDemandThree}
use Rattle.definitions.specs.Claims.Short.{ExchangedKeepsPosition, ExchangeKeepsPosition, ProjectionKeepsLine, ProjectKeepsLine, MergeExchanged, MergeExchangedLine, PolicyKeepsIndex, BoundWithoutColumns, SameTextSameExpression, LineRefusals}
use Rattle.definitions.specs.Claims.Settings.{AllSettings, BadSettings, RefusalsUnder, DefaultSettings, FairMeaningUnder, KindsNarrow}
use Rattle.definitions.specs.Claims.All.{LeavesThatStay, AnyMatcherAll}
use Rattle.definitions.specs.Rows.All.{AllRows}
use Rattle.definitions.specs.Rows.Settings.{SettingsRows}
use Rattle.definitions.specs.Claims.Verdicts.{VerdictExactly, VerdictByDefault, ReasonsTrueAndFirst, OnlyKnnTooFew, VerdictBytesApart, VerdictsNameTheLine, AnswerIsTheBill, VerdictsExchanged, VerdictsMerged, ExplainCalls}
use Rattle.definitions.specs.Rows.Verdicts.{VerdictRows}
use Rattle.definitions.specs.Rows.Ten.{TenRows}
use Rattle.definitions.specs.Rows.Further.{FurtherRows}
use Rattle.definitions.specs.Rows.Position.{PositionRows}
use Rattle.definitions.specs.Rows.Nearest.{NearestRows}
use Rattle.definitions.specs.Rows.Bound.{BoundRows}
use Rattle.definitions.specs.Rows.Refusals.{RefusalTable}
use Rattle.definitions.specs.Rows.Names.{NameTables}
use Rattle.definitions.specs.Rows.Guard.{GuardRows}
use Rattle.definitions.specs.Claims.Print.{PrintsApart, PrintsNeverAlike, TextShort, TextPrintable, NoLeadingZero, PrintAccepted, PrintGiven, PrintRefused}
use Rattle.definitions.specs.Rows.Print.{PrintRows}
use Rattle.definitions.specs.Filter.Merge.{merge_frames}
use Rattle.definitions.specs.Claims.Merge.{MergedGood, MergedValue, MergedLeaves, MergeAccepted, MergeWrites, MergeKeeps, MergeHolds, ListAfterMerge, ValueAfterMerge, HistoryOfCalls, AnyMatcherMerges}
use Rattle.definitions.specs.Rows.Merge.{MergeRows}
use Rattle.definitions.specs.Claims.Table.{TableNests, TableNamesBytes, PositionsFit, TableExchanged, BeginsExactly, TableStays, ExtractFilled, ExtractUnfilled, ExtractTwice, NeverTooShort}
use Rattle.definitions.specs.Rows.Table.{TableRows}
use Rattle.definitions.specs.Claims.Pruning.{KeptByHeldIndexes}
use Rattle.definitions.specs.Rows.Project.{ProjectRows}
use Rattle.definitions.specs.Rows.Queues.{QueueRows}
use Rattle.definitions.specs.Claims.Queues.{StateReadBack, StateHeld, PutAdds, ServeTakes, QueuesKept, QueueLengths, FreeBytes, RunParts, AlwaysHeld, InOrder, ServeGives, FairQueues, BoundReached}
use Rattle.definitions.specs.Claims.Project.{PlaceExactly, NewColumnsThere, ProjectionValue, ProjectionExchanged, ProjectionGood, ProjectedExactly, ProjectWrites, ProjectKeeps, ListAfterProjection, AnyMatcherProjects, ListProjectedValue}
use Rattle.definitions.specs.Claims.Walk.{RemembersFirst, StopsAtKnn, OneWalkIsPick, WalkBounded, WalkWhole, WalkUnmatched, WalkExchanged, WalkCarried, WalkShort}
use Rattle.definitions.specs.Rows.Walk.{WalkRows}
use Rattle.theorems.proofs.Exchange.{plan-twice}
use Rattle.theorems.proofs.Walks.{remembers-first-by, stops-at-knn-by, one-walk-is-pick-by, walk-bounded-by, walk-whole-by, walk-unmatched-by, walk-exchanged-is, walk-carried-by}
use Rattle.definitions.proofs.Rows.Walk.{walk-rows-hold}
use Rattle.theorems.proofs.RoundTripPlan.{expr-reads, plan-reads}
use Rattle.theorems.proofs.InversePlan.{plan-back}
use Rattle.theorems.proofs.Taken.{rest-of-leaves-are}
use Rattle.theorems.proofs.ExchangeGood.{exchange-good, plan-as-long, moved-good}
use Rattle.theorems.proofs.ListTheorem.{load-accepts, stays}
use Rattle.theorems.proofs.Lengths.{load-is-short, walk-short-by}
use Rattle.theorems.proofs.Changes.{load-keeps, load-wrote}
use Rattle.theorems.proofs.QueueStates as states
use Rattle.theorems.proofs.QueueCalls.{put-adds-by, put-refusals, serve-takes-by, serve-refusals, kept_by, lengths-by}
use Rattle.theorems.proofs.QueueMachine.{bytes-free}
use Rattle.theorems.proofs.QueueRuns.{parts-run, held-always, order-kept, serve-gives-by, fair-by}
use Rattle.theorems.proofs.QueueBound.{bound-is-reached}
use Rattle.theorems.proofs.Rows.Queues.{queue-rows-hold}
use Rattle.theorems.proofs.RefusalNumbers.{load-refusals, settled-refusals, all-refusals, exchange-refusals, logical-refusals, print-refusals, merge-refusals, project-refusals}
use Rattle.theorems.proofs.TablesRoom.{never-too-short-by}
use Rattle.theorems.proofs.MatchLaws.{match-laws}
use Rattle.theorems.proofs.Truth.{fair-symmetric, plan-exchange-value}
use Rattle.theorems.proofs.Values.{and-value-assoc, and-value-comm}
use Rattle.theorems.proofs.AnyMatchers.{any-matcher-is}
use Rattle.theorems.proofs.WholeDemand.{meets-demand-three-by}
use Rattle.theorems.proofs.ShortClaims as short
use Rattle.theorems.proofs.LineNumbers.{line-refusals-by}
use Rattle.theorems.proofs.SettingsClaimed.{all-settings-hold, bad-settings-refused, default-settings-same, kinds-narrow-holds}
use Rattle.theorems.proofs.AllConjuncts.{leaves-that-stay, any-matcher-all-is}
use Rattle.theorems.proofs.VerdictMatches.{verdict-exactly-holds}
use Rattle.theorems.proofs.VerdictReasons.{reasons-first-hold, bytes-apart-hold}
use Rattle.theorems.proofs.VerdictArity.{only-knn-holds}
use Rattle.theorems.proofs.VerdictLines.{line-named, bill-answered}
use Rattle.theorems.proofs.VerdictTurns.{verdicts-turned}
use Rattle.theorems.proofs.VerdictMoved.{verdicts-joined}
use Rattle.theorems.proofs.VerdictCall.{explain-calls-hold}
use Rattle.theorems.proofs.FairExample.{fair-points, fair-under, marks-left}
use Rattle.theorems.proofs.FairCounting.{fair-counting}
use Rattle.definitions.proofs.Rows.Names.{each-once, names-ones, tables-hold}
use Rattle.theorems.proofs.Rows.Ten.{ten-rows-hold}
use Rattle.definitions.proofs.Rows.All.{all-rows-hold}
use Rattle.definitions.proofs.Rows.Settings.{settings-rows-hold}
use Rattle.definitions.proofs.Rows.Verdicts.{verdict-rows-hold}
use Rattle.definitions.proofs.Rows.Further.{further-rows-hold}
use Rattle.definitions.proofs.Rows.Position.{position-rows-hold}
use Rattle.definitions.proofs.Rows.Nearest.{nearest-rows-hold}
use Rattle.definitions.proofs.Rows.Bound.{bound-rows-hold}
use Rattle.definitions.proofs.Rows.Guard.{guard-rows-hold}
use Rattle.theorems.proofs.Rows.Refusals.{refusals-hold}
use Rattle.theorems.proofs.PrintsApart.{told-apart}
use Rattle.theorems.proofs.TextLength.{text-short}
use Rattle.theorems.proofs.PrintCall.{prints-once, text-printable-by, no-leading, print-accepts, print-gives, print-refuses}
use Rattle.definitions.proofs.Rows.Print.{print-rows-hold}
use Rattle.theorems.proofs.Merged.{merged-good, merged_value, merged-leaves-are}
use Rattle.theorems.proofs.MergeCall.{merge-accepts, merge-wrote, merge-keeps-all, merge-held, list-after}
use Rattle.theorems.proofs.Histories.{history-of}
use Rattle.theorems.proofs.Rows.Merge.{merge-rows-hold}
use Rattle.theorems.proofs.Rows.Project.{project-rows-hold}
use Rattle.definitions.proofs.Rows.Table.{table-rows-hold}
use Rattle.theorems.proofs.NodeTables.{table-nests-by, positions-fit-by, table-exchanged-by, begins-exactly-by}
use Rattle.theorems.proofs.TableBytes.{table-names-bytes-by}
use Rattle.theorems.proofs.TablesFit.{extract-filled-by, extract-unfilled-by, extract-twice-by}
use Rattle.theorems.proofs.Pruned.{kept-by-held}
use Rattle.theorems.proofs.Places.{place-exactly-is}
use Rattle.theorems.proofs.Projected.{new-columns, projection-value, projection-exchange}
use Rattle.theorems.proofs.ProjectedGood.{projection-good}
use Rattle.theorems.proofs.ProjectCall.{projected-exactly-then, project-wrote, project-keeps-all, project-is-short}
use Rattle.theorems.proofs.ProjectLists.{list-after-project, list-projected}

-- ---- with every lawful matcher

pub any-matcher : AnyMatcher
any-matcher = any-matcher-is

-- So with 01's.
by-leaf : Extracts match_leaf Fair × OneCall match_leaf × Lists match_leaf Fair
by-leaf = any-matcher.0 match_leaf Fair any-matcher.1

-- ---- under settings (request 13)

pub all-settings : AllSettings
all-settings = all-settings-hold

pub bad-settings : BadSettings
bad-settings = bad-settings-refused

pub default-settings : DefaultSettings
default-settings = default-settings-same

pub refusals-under : RefusalsUnder
refusals-under = (settled-refusals, all-refusals)

pub fair-meaning-under : FairMeaningUnder
fair-meaning-under = fair-under

pub kinds-narrow : KindsNarrow
kinds-narrow = kinds-narrow-holds

pub settings-rows : SettingsRows
settings-rows = settings-rows-hold

-- Request 14, with every lawful matcher.
pub any-matcher-all : AnyMatcherAll
any-matcher-all = any-matcher-all-is

pub leaves-stay : LeavesThatStay
leaves-stay = leaves-that-stay

pub all-rows : AllRows
all-rows = all-rows-hold

-- ---- the claims

pub exchange-twice : ExchangeTwice
exchange-twice = plan-twice

pub extract-exchanged : ExtractExchanged
extract-exchanged = by-leaf.0.exchanged

pub expression-read-back : ExpressionReadBack
expression-read-back = expr-reads

pub plan-read-back : PlanReadBack
plan-read-back = plan-reads

pub plan-of-bytes : PlanOfBytes
plan-of-bytes = plan-back

pub any-position : AnyPosition
any-position = moved-good

pub extraction-is-good : ExtractionGood
extraction-is-good = by-leaf.0.good

pub exchange-is-good : ExchangeGood
exchange-is-good p g = (exchange-good p g, plan-as-long p)

pub lengths_short : LengthsShort
lengths_short = (load-is-short, by-leaf.1.short, project-is-short)

pub refused-keeps : RefusedKeeps
refused-keeps = (load-keeps, by-leaf.1.keeps)

pub accepted-writes : AcceptedWrites
accepted-writes = (load-wrote, by-leaf.1.writes)

pub refusals-of-calls : RefusalsOfCalls
refusals-of-calls = (
  load-refusals,
  by-leaf.1.refusals,
  exchange-refusals,
  logical-refusals,
  print-refusals,
  merge-refusals,
  project-refusals,
  put-refusals,
  serve-refusals,
)

pub load-accepted : LoadAccepted
load-accepted = load-accepts

pub load-holds : LoadHolds
load-holds = by-leaf.2.loads

pub list-of-calls : ListOfCalls
list-of-calls = by-leaf.2.machine

pub answers-in-place : AnswersInPlace
answers-in-place = by-leaf.2.in_place

pub same-plan : SamePlan
same-plan = by-leaf.2.same_plan

pub exchange-accepted : ExchangeAccepted
exchange-accepted = by-leaf.2.exchange_accepted

pub extract-accepted : ExtractAccepted
extract-accepted = by-leaf.2.extract_accepted

pub pick-exactly : PickExactly
pick-exactly = (by-leaf.0.takes, by-leaf.0.untaken)

pub rest-of-leaves : RestOfLeaves
rest-of-leaves = rest-of-leaves-are

pub extract-takes : ExtractTakes
extract-takes = by-leaf.2.takes

pub position-in-bytes : PositionInBytes
position-in-bytes = by-leaf.2.position

pub price-line-of-calls : PriceLineOfCalls
price-line-of-calls = by-leaf.2.line

pub price-line-stays : PriceLineStays
price-line-stays = by-leaf.2.line_stays

pub price-line-exchanged : PriceLineExchanged
price-line-exchanged = by-leaf.2.line_exchanged

pub machines-agree : MachinesAgree
machines-agree = (by-leaf.2.same_leaf, by-leaf.2.same_refusal, by-leaf.2.never_mixed)

pub and-associative : AndAssociative
and-associative = and-value-assoc

pub and-commutative : AndCommutative
and-commutative = and-value-comm

pub exchange-has-value : ExchangeValue
exchange-has-value M fair = plan-exchange-value M (fair-symmetric M fair)

pub extraction-has-value : ExtractionValue
extraction-has-value M fair v F X = by-leaf.0.value M v F X fair

pub list-has-value : ListValue
list-has-value M fair v F s = by-leaf.2.value M (fair-symmetric M fair) v F s fair

pub fair-meaning : FairMeaning
fair-meaning = fair-points

pub fair-by-arguments : FairByArguments
fair-by-arguments = fair-counting

pub marks_stay : MarksStay
marks_stay = marks-left

pub names-are-ones : NamesAreOnes
names-are-ones = names-ones

pub names-once : NamesOnce
names-once = each-once

pub name-tables : NameTables
name-tables = tables-hold

pub ten-rows : TenRows
ten-rows = ten-rows-hold

pub further-rows : FurtherRows
further-rows = further-rows-hold

pub position-rows : PositionRows
position-rows = position-rows-hold

pub nearest-rows : NearestRows
nearest-rows = nearest-rows-hold

pub bound-rows : BoundRows
bound-rows = bound-rows-hold

pub guard-rows : GuardRows
guard-rows = guard-rows-hold

pub refusals : RefusalTable
refusals = refusals-hold

-- ---- request 1

pub prints-apart : PrintsApart
prints-apart b b' e e' s s' = told-apart e e' b b' s s'

pub prints-never-alike : PrintsNeverAlike
prints-never-alike = prints-once

pub text-is-short : TextShort
text-is-short = text-short

pub text-printable : TextPrintable
text-printable = text-printable-by

pub no-leading-zero : NoLeadingZero
no-leading-zero = no-leading

pub print-accepted : PrintAccepted
print-accepted = print-accepts

pub print-given : PrintGiven
print-given = print-gives

pub print-refused : PrintRefused
print-refused = print-refuses

pub print-rows : PrintRows
print-rows = print-rows-hold

-- ---- request 2

pub merged-is-good : MergedGood
merged-is-good = merged-good

pub merged-has-value : MergedValue
merged-has-value = merged_value

pub merged-leaves : MergedLeaves
merged-leaves = merged-leaves-are match-laws

pub merge-accepted : MergeAccepted
merge-accepted = merge-accepts

pub merge-writes : MergeWrites
merge-writes = merge-wrote

pub merge_keeps : MergeKeeps
merge_keeps = merge-keeps-all

pub merge-holds : MergeHolds
merge-holds = merge-held

pub any-matcher-merges : AnyMatcherMerges
any-matcher-merges match Asks laws = (list-after laws, history-of laws, merged-leaves-are laws)

pub list-after-merge : ListAfterMerge
list-after-merge = (any-matcher-merges match_leaf Fair match-laws).0

pub history-of-calls : HistoryOfCalls
history-of-calls = (any-matcher-merges match_leaf Fair match-laws).1

pub value-after-merge : ValueAfterMerge
unfolding merge_frames
value-after-merge M fair v old new s g calls =
    let l = list-has-value M fair v (merge_frames old new) s calls in
    (l.0, l.1, l.2 ∙ merged_value M (values_when (odd_in s calls) v) old new g)

pub merge-rows : MergeRows
merge-rows = merge-rows-hold

pub kept-by-held-indexes : KeptByHeldIndexes
kept-by-held-indexes = kept-by-held

-- ---- request 6

pub table-nests : TableNests
table-nests = table-nests-by

pub table-names-bytes : TableNamesBytes
table-names-bytes = table-names-bytes-by

pub positions-fit : PositionsFit
positions-fit = positions-fit-by

pub table-exchanged : TableExchanged
table-exchanged = table-exchanged-by

pub begins-exactly : BeginsExactly
begins-exactly = begins-exactly-by

pub table_stays : TableStays
table_stays match Asks laws F s calls = stays laws s calls

pub extract-filled : ExtractFilled
extract-filled = extract-filled-by

pub extract-unfilled : ExtractUnfilled
extract-unfilled = extract-unfilled-by

pub extract-twice : ExtractTwice
extract-twice = extract-twice-by

pub never-too-short : NeverTooShort
never-too-short = never-too-short-by

pub table-rows : TableRows
table-rows = table-rows-hold

-- ---- request 7

pub place-exactly : PlaceExactly
place-exactly = place-exactly-is

pub new-columns-there : NewColumnsThere
new-columns-there = new-columns

pub projection-has-value : ProjectionValue
projection-has-value = projection-value

pub projection-exchanged : ProjectionExchanged
projection-exchanged = projection-exchange

pub projection-is-good : ProjectionGood
projection-is-good = projection-good

pub projected-exactly : ProjectedExactly
projected-exactly = projected-exactly-then

pub project-writes : ProjectWrites
project-writes = project-wrote

pub project-keeps : ProjectKeeps
project-keeps = project-keeps-all

pub list-after-projection : ListAfterProjection
list-after-projection = list-after-project

pub any-matcher-projects : AnyMatcherProjects
any-matcher-projects match Asks laws = list-projected laws

pub list-projected-has-value : ListProjectedValue
list-projected-has-value M fair v w F s = any-matcher-projects match_leaf Fair match-laws M (fair-symmetric M fair) v w F s fair

pub project-rows : ProjectRows
project-rows = project-rows-hold

-- ---- request 12

pub state-read-back : StateReadBack
state-read-back = states.state-back

pub state-held : StateHeld
state-held = states.state-held

pub put-adds : PutAdds
put-adds = put-adds-by

pub serve-takes : ServeTakes
serve-takes = serve-takes-by

pub queues-kept : QueuesKept
queues-kept = kept_by

pub queue-lengths : QueueLengths
queue-lengths = lengths-by

pub free_bytes : FreeBytes
free_bytes = bytes-free

pub run-parts : RunParts
run-parts = parts-run

pub always-held : AlwaysHeld
always-held = held-always

pub in-order : InOrder
in-order = order-kept

pub serve-gives : ServeGives
serve-gives = serve-gives-by

pub fair : FairQueues
fair = fair-by

pub bound-reached : BoundReached
bound-reached = bound-is-reached

pub queue-rows : QueueRows
queue-rows = queue-rows-hold

-- ---- demand 3 whole, and short claims

pub meets-demand-three : MeetsDemandThree
meets-demand-three = meets-demand-three-by

pub exchanged-keeps-position : ExchangedKeepsPosition
exchanged-keeps-position = short.exchanged-keeps-position

pub exchange-keeps-position : ExchangeKeepsPosition
exchange-keeps-position = short.exchange-keeps-position

pub projection-keeps-line : ProjectionKeepsLine
projection-keeps-line = short.projection-keeps-line

pub project-keeps-line : ProjectKeepsLine
project-keeps-line = short.project-keeps-line

pub merge-exchanged : MergeExchanged
merge-exchanged = short.merge-exchanged

pub merge-exchanged-line : MergeExchangedLine
merge-exchanged-line = short.merge-exchanged-line

pub policy-keeps-index : PolicyKeepsIndex
policy-keeps-index = short.policy-keeps-index

pub bound-without-columns : BoundWithoutColumns
bound-without-columns = short.bound-without-columns

pub same-text-same-expression : SameTextSameExpression
same-text-same-expression = short.same-text-same-expression

pub line-refusals : LineRefusals
line-refusals = line-refusals-by

-- ---- request 9

pub remembers-first : RemembersFirst
remembers-first = remembers-first-by

pub stops-at-knn : StopsAtKnn
stops-at-knn = stops-at-knn-by

pub one-walk-is-pick : OneWalkIsPick
one-walk-is-pick = one-walk-is-pick-by

-- ---- request 10

pub walk-bounded : WalkBounded
walk-bounded = walk-bounded-by

pub walk-whole : WalkWhole
walk-whole = walk-whole-by

pub walk-unmatched : WalkUnmatched
walk-unmatched = walk-unmatched-by

pub walk-exchanged : WalkExchanged
walk-exchanged = walk-exchanged-is

pub walk-carried : WalkCarried
walk-carried = walk-carried-by

pub walk-short : WalkShort
walk-short = walk-short-by

pub walk_rows : WalkRows
walk_rows = walk-rows-hold

-- ---- explain (ours)

pub verdict-exactly : VerdictExactly
verdict-exactly = verdict-exactly-holds

pub verdict-by-default : VerdictByDefault
verdict-by-default records leaf =
    verdict-exactly _ default-settings.0 records leaf
    ∙ ap (λ (match : Matcher). Option.map predicate_kind (match records leaf)) default-settings.1

pub reasons-true-and-first : ReasonsTrueAndFirst
reasons-true-and-first = reasons-first-hold

pub only-knn-too-few : OnlyKnnTooFew
only-knn-too-few = only-knn-holds

pub verdict-bytes-apart : VerdictBytesApart
verdict-bytes-apart = bytes-apart-hold

pub verdicts-name-the-line : VerdictsNameTheLine
verdicts-name-the-line = line-named

pub answer-is-the-bill : AnswerIsTheBill
answer-is-the-bill = bill-answered

pub verdicts-exchanged : VerdictsExchanged
verdicts-exchanged = verdicts-turned

pub verdicts-merged : VerdictsMerged
verdicts-merged = verdicts-joined

pub explain-calls : ExplainCalls
explain-calls = explain-calls-hold

pub verdict-rows : VerdictRows
verdict-rows = verdict-rows-hold
