-- Relation types: the definitions' relation for each case; its number in document 01 is the definitions' `relation_number`.
use Rattle.std.specs.Prelude.{Option, Some, None}
use Rattle.std.proofs.Math.Option as optional
use Rattle.definitions.specs.Words.Expression as definitions
use Rattle.sedona_query_planner.specs.declared.spatial_predicate.SpatialRelationType.{SpatialRelationType}
use Rattle.sedona_query_planner.specs.declared.spatial_predicate.SpatialRelationType.TheVariants.{Intersects, Contains, Within, Covers, CoveredBy, Touches, Crosses, Overlaps, Equals}

abbrev pub relation_of : SpatialRelationType → definitions.Relation
relation_of Intersects = definitions.intersects
relation_of Contains = definitions.contains
relation_of Within = definitions.within
relation_of Covers = definitions.covers
relation_of CoveredBy = definitions.covered_by
relation_of Touches = definitions.touches
relation_of Crosses = definitions.crosses
relation_of Overlaps = definitions.overlaps
relation_of Equals = definitions.equals

abbrev pub named_relation : Option SpatialRelationType → optional.Option definitions.Relation
named_relation (Some type) = optional.some (relation_of type)
named_relation None = optional.none
