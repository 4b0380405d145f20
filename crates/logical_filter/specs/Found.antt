-- Which definition the answer is.
use Rattle.std.specs.Prelude.{Result, Ok, Err}
use Rattle.definitions.specs.Words.Basics as basics
use Rattle.definitions.specs.Words.Basics.{ok, refused}
use Rattle.definitions.specs.Calls.Logical as definitions
use Rattle.terms.specs.Refusals.{number_of}
use Rattle.terms.specs.declared.refusals.Refusal.{Refusal}
use Rattle.logical_filter.specs.QuerySides.{query_side_is}
use Rattle.logical_filter.specs.declared.call.Names.{Names}

-- The definitions' answer of the logical call for each case: mask, count and side, or the number of the refusal.
abbrev pub names_of : Result Names Refusal → basics.Result definitions.LogicalAnswer
names_of (Ok names) = ok (record { mask = names.found.mask; names = names.found.names; side = query_side_is names.side })
names_of (Err why) = refused (number_of why)
