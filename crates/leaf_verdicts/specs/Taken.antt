-- The definitions' taken leaf for the code's.
use Rattle.std.specs.Prelude.{Option, Some, None}
use Rattle.std.proofs.Math.Option as optional
use Rattle.definitions.specs.Filter.Verdicts as definitions
use Rattle.leaf_verdicts.specs.declared.taken.TakenLeaf.{TakenLeaf}

abbrev pub taken_of : Option TakenLeaf → optional.Option definitions.TakenLeaf
taken_of (Some t) = optional.some (record { position = t.position; line = t.line })
taken_of None = optional.none
