-- The number of each relation type is its place in the list.
use mathlib.Core.Path.{◌≡◌, refl}
use mathlib.Core.Bool.{decide}
use denote.Enum.Declared.{tag_of}
use Rattle.definitions.specs.Words.Expression.{relations}
use Rattle.definitions.specs.Bytes.Encode.{position_in, relation_number}
use Rattle.sedona_query_planner.specs.Relations.{relation_of}
use Rattle.sedona_query_planner.specs.contracts.spatial_predicate.SpatialRelationType.{the_type}
use Rattle.sedona_query_planner.specs.declared.spatial_predicate.SpatialRelationType.{SpatialRelationType}
use Rattle.sedona_query_planner.specs.declared.spatial_predicate.SpatialRelationType.TheVariants.{Intersects, Contains, Within, Covers, CoveredBy, Touches, Crosses, Overlaps, Equals}
use Rattle.sedona_query_planner.proofs.spatial_predicate.U8FromSpatialRelationType.from.Goals as goal

place : (type : SpatialRelationType) → tag_of the_type type ≡ relation_number (relation_of type)
unfolding relation_number position_in relations decide
place Intersects = refl
place Contains = refl
place Within = refl
place Covers = refl
place CoveredBy = refl
place Touches = refl
place Crosses = refl
place Overlaps = refl
place Equals = refl

pub returns : goal.returns
returns c = place c.args.relation
