-- The definition asks for the names in the same order.
use Rattle.definitions.specs.Words.Basics.{ascii, any}
use Rattle.definitions.specs.Words.Expression.{relations}
use Rattle.definitions.specs.Words.Leaves.{type_named, relation_named}
use Rattle.sedona_query_planner.proofs.spatial_predicate.SpatialRelationType.from_name.Goals as goal

pub returns-then-same_name : goal.returns-then-same_name
unfolding relation_named type_named relations any ascii
returns-then-same_name c =
    rw (← c.if-same_name.ensures)

pub returns-then-same_name-2 : goal.returns-then-same_name-2
unfolding relation_named type_named relations any ascii
returns-then-same_name-2 c =
    rw (← c.if-same_name.ensures, ← c.if-same_name-2.ensures)

pub returns-then-same_name-3 : goal.returns-then-same_name-3
unfolding relation_named type_named relations any ascii
returns-then-same_name-3 c =
    rw (← c.if-same_name.ensures, ← c.if-same_name-2.ensures, ← c.if-same_name-3.ensures)

pub returns-then-same_name-4 : goal.returns-then-same_name-4
unfolding relation_named type_named relations any ascii
returns-then-same_name-4 c =
    rw (← c.if-same_name.ensures, ← c.if-same_name-2.ensures, ← c.if-same_name-3.ensures, ← c.if-same_name-4.ensures)

pub returns-then-same_name-5 : goal.returns-then-same_name-5
unfolding relation_named type_named relations any ascii
returns-then-same_name-5 c =
    rw (
      ← c.if-same_name.ensures,
      ← c.if-same_name-2.ensures,
      ← c.if-same_name-3.ensures,
      ← c.if-same_name-4.ensures,
      ← c.if-same_name-5.ensures,
    )

pub returns-then-same_name-6 : goal.returns-then-same_name-6
unfolding relation_named type_named relations any ascii
returns-then-same_name-6 c =
    rw (
      ← c.if-same_name.ensures,
      ← c.if-same_name-2.ensures,
      ← c.if-same_name-3.ensures,
      ← c.if-same_name-4.ensures,
      ← c.if-same_name-5.ensures,
      ← c.if-same_name-6.ensures,
    )

pub returns-then-same_name-7 : goal.returns-then-same_name-7
unfolding relation_named type_named relations any ascii
returns-then-same_name-7 c =
    rw (
      ← c.if-same_name.ensures,
      ← c.if-same_name-2.ensures,
      ← c.if-same_name-3.ensures,
      ← c.if-same_name-4.ensures,
      ← c.if-same_name-5.ensures,
      ← c.if-same_name-6.ensures,
      ← c.if-same_name-7.ensures,
    )

pub returns-then-same_name-8 : goal.returns-then-same_name-8
unfolding relation_named type_named relations any ascii
returns-then-same_name-8 c =
    rw (
      ← c.if-same_name.ensures,
      ← c.if-same_name-2.ensures,
      ← c.if-same_name-3.ensures,
      ← c.if-same_name-4.ensures,
      ← c.if-same_name-5.ensures,
      ← c.if-same_name-6.ensures,
      ← c.if-same_name-7.ensures,
      ← c.if-same_name-8.ensures,
    )

pub returns-then-same_name-9 : goal.returns-then-same_name-9
unfolding relation_named type_named relations any ascii
returns-then-same_name-9 c =
    rw (
      ← c.if-same_name.ensures,
      ← c.if-same_name-2.ensures,
      ← c.if-same_name-3.ensures,
      ← c.if-same_name-4.ensures,
      ← c.if-same_name-5.ensures,
      ← c.if-same_name-6.ensures,
      ← c.if-same_name-7.ensures,
      ← c.if-same_name-8.ensures,
      ← c.if-same_name-9.ensures,
    )

pub returns-then-same_name-10 : goal.returns-then-same_name-10
unfolding relation_named type_named relations any ascii
returns-then-same_name-10 c =
    rw (
      ← c.if-same_name.ensures,
      ← c.if-same_name-2.ensures,
      ← c.if-same_name-3.ensures,
      ← c.if-same_name-4.ensures,
      ← c.if-same_name-5.ensures,
      ← c.if-same_name-6.ensures,
      ← c.if-same_name-7.ensures,
      ← c.if-same_name-8.ensures,
      ← c.if-same_name-9.ensures,
      ← c.if-same_name-10.ensures,
    )

pub returns-then-same_name-11 : goal.returns-then-same_name-11
unfolding relation_named type_named relations any ascii
returns-then-same_name-11 c =
    rw (
      ← c.if-same_name.ensures,
      ← c.if-same_name-2.ensures,
      ← c.if-same_name-3.ensures,
      ← c.if-same_name-4.ensures,
      ← c.if-same_name-5.ensures,
      ← c.if-same_name-6.ensures,
      ← c.if-same_name-7.ensures,
      ← c.if-same_name-8.ensures,
      ← c.if-same_name-9.ensures,
      ← c.if-same_name-10.ensures,
      ← c.if-same_name-11.ensures,
    )

pub returns-then-same_name-12 : goal.returns-then-same_name-12
unfolding relation_named type_named relations any ascii
returns-then-same_name-12 c =
    rw (
      ← c.if-same_name.ensures,
      ← c.if-same_name-2.ensures,
      ← c.if-same_name-3.ensures,
      ← c.if-same_name-4.ensures,
      ← c.if-same_name-5.ensures,
      ← c.if-same_name-6.ensures,
      ← c.if-same_name-7.ensures,
      ← c.if-same_name-8.ensures,
      ← c.if-same_name-9.ensures,
      ← c.if-same_name-10.ensures,
      ← c.if-same_name-11.ensures,
      ← c.if-same_name-12.ensures,
    )

pub returns-then-same_name-13 : goal.returns-then-same_name-13
unfolding relation_named type_named relations any ascii
returns-then-same_name-13 c =
    rw (
      ← c.if-same_name.ensures,
      ← c.if-same_name-2.ensures,
      ← c.if-same_name-3.ensures,
      ← c.if-same_name-4.ensures,
      ← c.if-same_name-5.ensures,
      ← c.if-same_name-6.ensures,
      ← c.if-same_name-7.ensures,
      ← c.if-same_name-8.ensures,
      ← c.if-same_name-9.ensures,
      ← c.if-same_name-10.ensures,
      ← c.if-same_name-11.ensures,
      ← c.if-same_name-12.ensures,
      ← c.if-same_name-13.ensures,
    )

pub returns-else-same_name-13 : goal.returns-else-same_name-13
unfolding relation_named type_named relations any ascii
returns-else-same_name-13 c =
    rw (
      ← c.if-same_name.ensures,
      ← c.if-same_name-2.ensures,
      ← c.if-same_name-3.ensures,
      ← c.if-same_name-4.ensures,
      ← c.if-same_name-5.ensures,
      ← c.if-same_name-6.ensures,
      ← c.if-same_name-7.ensures,
      ← c.if-same_name-8.ensures,
      ← c.if-same_name-9.ensures,
      ← c.if-same_name-10.ensures,
      ← c.if-same_name-11.ensures,
      ← c.if-same_name-12.ensures,
      ← c.if-same_name-13.ensures,
    )
