-- Names to unfold definitions by, for theorems that hold by computation: one for each subject of the definitions, and one for all.
use Prim.Native.Nat.{ℕ}
use mathlib.Core.Bool as Bool
use mathlib.Core.Option as Option
use Rattle.definitions.specs.Words.Basics as Basics
use Rattle.definitions.specs.Words.Expression as Expression
use Rattle.definitions.specs.Words.Literals as Literals
use Rattle.definitions.specs.Bytes.Encode as Encode
use Rattle.definitions.specs.Words.Leaves as Leaves
use Rattle.definitions.specs.Bytes.Readers as Readers
use Rattle.definitions.specs.Bytes.Decode as Decode
use Rattle.definitions.specs.Bytes.Plans as Plans
use Rattle.definitions.specs.Words.References as References
use Rattle.definitions.specs.Filter.Match as Match
use Rattle.definitions.specs.Filter.Extract as Extract
use Rattle.definitions.specs.Filter.OneWalk as OneWalk
use Rattle.definitions.specs.Filter.Exchange as Exchange
use Rattle.definitions.specs.Calls.Base as Calls
use Rattle.definitions.specs.Lists.Machine as Machine
use Rattle.definitions.specs.Lists.Sessions as Sessions
use Rattle.definitions.specs.Meaning.Values as Meaning
use Rattle.definitions.specs.Filter.Names as Logical
use Rattle.definitions.specs.Calls.Logical as CallsLogical
use Rattle.definitions.specs.Lists.Program as Program
use Rattle.definitions.specs.Bytes.Printed as Printed
use Rattle.definitions.specs.Calls.Print as CallsPrint
use Rattle.definitions.specs.Bytes.Good as Good
use Rattle.definitions.specs.Calls.Merge as Merge
use Rattle.definitions.specs.Filter.Merge as FilterMerge
use Rattle.definitions.specs.Bytes.NodeTable as NodeTable
use Rattle.definitions.specs.Calls.Project as Project
use Rattle.definitions.specs.Filter.Project as FilterProject
use Rattle.definitions.specs.Lists.OddMachine as OddMachine
use Rattle.definitions.specs.Calls.Queues as Queues
use Rattle.definitions.specs.Calls.QueueBytes as QueueBytes
use Rattle.definitions.specs.Lists.Queues as QueueLists
use Rattle.definitions.specs.Filter.Conjuncts as ExtractAll
use Rattle.definitions.specs.Calls.ExtractAll as CallsExtractAll
use Rattle.definitions.specs.Filter.Settings as Settings
use Rattle.definitions.specs.Calls.Settings as CallsSettings
use Rattle.definitions.specs.Lists.Settings as ListsSettings
use Rattle.definitions.specs.Filter.Verdicts as Verdicts
use Rattle.definitions.specs.Calls.Explain as CallsExplain

unfoldable pub basics : ℕ
unfolding Basics.ascii Basics.same_name Basics.big_endian Basics.any Basics.all Basics.keep
basics = 0

unfoldable pub expression : ℕ
unfolding Expression.relations Expression.invert Expression.count
expression = 0

unfoldable pub literals : ℕ
unfolding Literals.signed Literals.is_int32 Literals.literal_in_range Literals.u32 Literals.number_u32 Literals.is_k Literals.only_k
    Literals.number_bool
literals = 0

unfoldable pub encode : ℕ
unfolding Bool.decide Encode.side_number Encode.position_in Encode.relation_number Encode.expr_bytes Encode.record_bytes
    Encode.records_bytes Encode.frame_bytes Encode.predicate_kind Encode.predicate_fields Encode.remainder_bytes Encode.extraction_bytes
    Encode.plan_bytes
encode = 0

unfoldable pub leaves : ℕ
unfolding Leaves.leaves Leaves.type_named Leaves.relation_named Leaves.comparison Leaves.distance_arguments Leaves.relation_arity
    Leaves.call_arity Leaves.distance_arity Leaves.comparison_arity Leaves.leaf_arity Leaves.arity
leaves = 0

unfoldable pub readers : ℕ
unfolding Readers.byte_up_to Readers.byte_between Readers.number_after Readers.number Readers.repeat Readers.require_length
    Readers.none_left Readers.at_end Readers.result_of
readers = 0

unfoldable pub decode : ℕ
unfolding Decode.allowed_kind Decode.column_node Decode.field_node Decode.literal_node Decode.binary_expr Decode.binary_node
    Decode.repeat_exprs Decode.call_node Decode.other_node Decode.any_column Decode.node_of_kind Decode.node_kind Decode.node
    Decode.expression Decode.side_numbered Decode.side_up_to Decode.one_record Decode.record_count Decode.frame_body Decode.argument
    Decode.relation_numbered Decode.relation_predicate Decode.distance_predicate Decode.k_field Decode.knn_predicate
    Decode.predicate_of_kind Decode.some_remainder Decode.remainder_of_kind Decode.remainder Decode.extraction_body
decode = 0

unfoldable pub plans : ℕ
unfolding Plans.physical_frame Plans.logical_frame Plans.whole_extraction Plans.frame_of Plans.logical_of Plans.extraction_of
    Plans.plan_of_kind Plans.plan_of
plans = 0

unfoldable pub references : ℕ
unfolding References.columns_of References.record_at References.same_side References.map_columns
references = 0

unfoldable pub match : ℕ
unfolding Match.relation_request Match.dwithin_request Match.literal_u32 Match.literal_k Match.literal_bool Match.knn_literals
    Match.knn_request_by Match.call_request_by Match.distance_request Match.comparison_request Match.request_by Match.common_side
    Match.side_of Match.is_side Match.order_of Match.on_child Match.match_relation Match.store_distance Match.match_distance Match.match_knn
    Match.match_request Match.match_leaf_by
match = 0

unfoldable pub extract : ℕ
unfolding Extract.is_knn Extract.is_knn_match Extract.later Extract.first_match Extract.first_of Extract.pick Extract.and_left
    Extract.and_right Extract.without Extract.same_column Extract.referenced Extract.new_index Extract.prune Extract.holds Extract.take_pick
    Extract.matches_by Extract.extraction_by
extract = 0

unfoldable pub walk : ℕ
unfolding OneWalk.read_leaf OneWalk.walk_on OneWalk.one_walk OneWalk.remembered OneWalk.reached OneWalk.count_to OneWalk.walk_length_by
walk = 0

unfoldable pub exchange : ℕ
unfolding Exchange.negate Exchange.exchange_record Exchange.exchange_frame Exchange.exchange_predicate Exchange.exchange_extraction
    Exchange.exchange_plan
exchange = 0

unfoldable pub tables : ℕ
unfolding NodeTable.kind_byte NodeTable.record_of NodeTable.nodes_from NodeTable.row_from NodeTable.node_table NodeTable.same_record
    NodeTable.begins_with NodeTable.blank
tables = 0

unfoldable pub calls : ℕ
unfolding Calls.written_over Calls.tabled Calls.filled_by Calls.table_fits Calls.new_after_load Calls.finish_load Calls.load Calls.finish
    Calls.held_plan Calls.new_after_exchange Calls.exchange Calls.matched_bytes Calls.new_after_extract_by Calls.extract_filled_by
    Calls.extract_by Calls.walked_by Calls.walk_filled_by Calls.extract_walk_by
calls = 0

unfoldable pub machine : ℕ
unfolding Machine.extraction_or Machine.machine_plan Machine.machine_length Machine.refuse_step Machine.accept_step Machine.take_step
    Machine.machine_step Machine.machine_run Machine.fresh
machine = 0

unfoldable pub sessions : ℕ
unfolding Sessions.make_by Sessions.walk_by Sessions.calls_run_by Sessions.fed Sessions.accepted Sessions.is_extract
    Sessions.extract_accepted Sessions.exchanges_odd
sessions = 0

unfoldable pub meaning : ℕ
unfolding Meaning.and_value Meaning.value Meaning.frame_columns Meaning.frame_value Meaning.distance_by_form Meaning.predicate_value
    Meaning.and_remainder Meaning.extraction_value Meaning.plan_value Meaning.exchanged_values
meaning = 0

unfoldable pub logical : ℕ
unfolding Logical.lower_case Logical.spatial_names Logical.function_name Logical.comparison_name Logical.leaf_name Logical.mask
    Logical.distinct Logical.bits_of Logical.in_left Logical.in_right Logical.schema_side Logical.first_argument_side Logical.knn_arguments
    Logical.query_side_from Logical.query_side CallsLogical.logical_answer CallsLogical.logical CallsLogical.logical_bytes
logical = 0

unfoldable pub program : ℕ
unfolding Program.digit_value Program.pair_bytes Program.digit_bytes Program.or_refused Program.line_bytes Basics.digit Basics.digits
    Program.refused_line Program.load_line Program.logical_line Program.line_call Program.call_line Program.line_of Program.read_line
    Program.line_outcome Program.written_line Program.into_first Program.lines_of Program.output_from Program.fresh_plan Program.output
program = 0

unfoldable pub printing : ℕ
unfolding Printed.figures Printed.decimal_width Printed.decimal Printed.digits16 Printed.printed
    CallsPrint.text_of CallsPrint.finish_print CallsPrint.print
printing = 0

unfoldable pub merging : ℕ
unfolding Good.nodes Good.depth FilterMerge.raised FilterMerge.merge_frames FilterMerge.over_limits Merge.merged_frame Merge.new_after_merge
    Merge.with_table Merge.merge
merging = 0

unfoldable pub projecting : ℕ
unfolding FilterProject.place_in FilterProject.place_of FilterProject.is_place FilterProject.or_zero FilterProject.new_place
    FilterProject.has_place FilterProject.project_expr FilterProject.placed_expr FilterProject.project_predicate
    FilterProject.placed_predicate FilterProject.project_record FilterProject.placed_record FilterProject.project_frame
    FilterProject.placed_remainder FilterProject.project_extraction FilterProject.placed FilterProject.projection Project.short_lists
    Project.projected_bytes Project.new_after_project Project.project OddMachine.odd_length OddMachine.odd_step OddMachine.odd_run
projecting = 0

unfoldable pub queues : ℕ
unfolding Queues.put_in Queues.first_tried Queues.oldest Queues.due QueueBytes.mark_of QueueBytes.frames_of QueueBytes.queue_of
    QueueBytes.state_of QueueBytes.in_slots QueueBytes.queue_over QueueBytes.state_over QueueBytes.queue_numbered QueueBytes.put_done
    QueueBytes.put QueueBytes.serve_due QueueBytes.serve_held QueueBytes.serve QueueLists.queues_run QueueLists.fresh_queues
    QueueLists.waiting_of QueueLists.waiting_in QueueLists.added QueueLists.served QueueLists.given_of
queues = 0

unfoldable pub listing : ℕ
unfolding ExtractAll.no_round ExtractAll.round_then ExtractAll.but ExtractAll.in_first ExtractAll.round ExtractAll.rounds
    ExtractAll.positions_from ExtractAll.conjuncts_by CallsExtractAll.pick_bytes CallsExtractAll.picks_bytes CallsExtractAll.conjuncts_bytes
    CallsExtractAll.new_conjuncts CallsExtractAll.finish_all CallsExtractAll.extract_all_by ExtractAll.exchange_pick
    ExtractAll.exchange_conjuncts
listing = 0

unfoldable pub settings : ℕ
unfolding Settings.good_settings Settings.default_settings Settings.has_bit Settings.allowed Settings.passing Settings.only_if
    Settings.match_under CallsSettings.extract_under CallsSettings.extract_walk_under CallsSettings.extract_all_under
    ListsSettings.make_under ListsSettings.walk_under ListsSettings.calls_run_under
settings = 0

unfoldable pub verdicts : ℕ
unfolding Option.or_else Verdicts.verdict_byte Verdicts.reasons Verdicts.line_named Verdicts.line_compared Verdicts.line_meant
    Verdicts.is_no_line Verdicts.is_distance_line Verdicts.is_knn_line Verdicts.with_bound Verdicts.arguments_compared Verdicts.arguments_of
    Verdicts.argument_is Verdicts.has_argument Verdicts.is_distance_call Verdicts.measured_in_small Verdicts.ours_in_small
    Verdicts.measured_other_side Verdicts.measured_beside Verdicts.distance_on_other_side Verdicts.distance_beside_other Verdicts.parts_of
    Verdicts.some_of_ours Verdicts.sides_of Verdicts.none_of Verdicts.of_both Verdicts.of_mark Verdicts.only_of Verdicts.whole_number
    Verdicts.literal_whole Verdicts.no_number Verdicts.is_below_one Verdicts.is_above Verdicts.below_one Verdicts.above Verdicts.no_flag
    Verdicts.left_out Verdicts.lacks Verdicts.geometry_is Verdicts.bound_is Verdicts.knn_literal_is Verdicts.applies_by Verdicts.applies
    Verdicts.first_that Verdicts.matches_as Verdicts.verdict_under Verdicts.verdicts_under Verdicts.verdict_bytes Verdicts.one_on
    Verdicts.first_passing Verdicts.named_by Verdicts.bill_number Verdicts.explained CallsExplain.new_verdicts CallsExplain.finish_explain
    CallsExplain.explain Verdicts.exchange_verdict
verdicts = 0

unfoldable pub everything : ℕ
unfolding basics expression literals encode leaves readers decode plans references match extract walk exchange tables calls machine sessions
    meaning logical program printing merging projecting queues listing settings verdicts
everything = 0
