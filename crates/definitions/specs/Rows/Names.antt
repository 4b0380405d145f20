-- The names and bits of 01 as tables: what is to be read there is written out once more here, and both are the same.
use Rattle.std.specs.Prelude.{ℕ, ◌≡◌, List, [], ◌∷◌, map}
use Rattle.std.proofs.Math.Option
use Rattle.std.proofs.Math.Option.{none, some}
use Rattle.definitions.specs.Words.Basics.{ascii}
use Rattle.definitions.specs.Words.Expression.{Side, left, right, no_side}
use Rattle.definitions.specs.Words.Leaves.{relation_named}
use Rattle.definitions.specs.Bytes.Encode.{relation_number}
use Rattle.definitions.specs.Filter.Names.{spatial_names, mask, schema_side}

-- Names, each with a number.
abbrev pub Numbered : Type 0
Numbered = List (List ℕ × ℕ)

-- The 13 relation names with the numbers of their types.
abbrev pub relation_types : Numbered
relation_types =
    (ascii "st_intersects", 0) ∷ (ascii "rs_intersects", 0) ∷
    (ascii "st_contains", 1) ∷ (ascii "rs_contains", 1) ∷
    (ascii "st_within", 2) ∷ (ascii "rs_within", 2) ∷
    (ascii "st_covers", 3) ∷
    (ascii "st_covered_by", 4) ∷ (ascii "st_coveredby", 4) ∷
    (ascii "st_touches", 5) ∷ (ascii "st_crosses", 6) ∷ (ascii "st_overlaps", 7) ∷ (ascii "st_equals", 8) ∷
    []

-- Names that are no relation's: those of distances and KNN, another letter case, a name cut short or with more after it.
abbrev pub no_relations : List (List ℕ)
no_relations =
    ascii "st_distance" ∷ ascii "st_dwithin" ∷ ascii "st_knn" ∷ ascii "ST_Intersects" ∷ ascii "st_intersect" ∷ ascii "st_intersects_" ∷
    ascii "rs_covers" ∷ []

-- The 15 names with their bits.
abbrev pub name_bits : Numbered
name_bits =
    (ascii "st_intersects", 1) ∷ (ascii "st_contains", 2) ∷ (ascii "st_within", 4) ∷ (ascii "st_covers", 8) ∷
    (ascii "st_covered_by", 16) ∷ (ascii "st_coveredby", 32) ∷ (ascii "st_touches", 64) ∷ (ascii "st_crosses", 128) ∷
    (ascii "st_overlaps", 256) ∷ (ascii "st_equals", 512) ∷ (ascii "st_dwithin", 1024) ∷ (ascii "st_knn", 2048) ∷
    (ascii "rs_intersects", 4096) ∷ (ascii "rs_contains", 8192) ∷ (ascii "rs_within", 16384) ∷
    []

-- The bits of an argument's columns (1 the left schema has it, 2 the right, 3 both, 0 neither) with the side that they give.
abbrev pub schema_sides : List (List ℕ × Side)
schema_sides =
    ([], no_side) ∷ (0 ∷ [], no_side) ∷ (1 ∷ [], left) ∷ (2 ∷ [], right) ∷ (3 ∷ [], no_side) ∷
    (0 ∷ 1 ∷ [], no_side) ∷ (0 ∷ 2 ∷ [], no_side) ∷ (0 ∷ 3 ∷ [], no_side) ∷
    (1 ∷ 1 ∷ [], left) ∷ (1 ∷ 2 ∷ [], no_side) ∷ (1 ∷ 3 ∷ [], left) ∷
    (2 ∷ 1 ∷ [], no_side) ∷ (2 ∷ 2 ∷ [], right) ∷ (2 ∷ 3 ∷ [], right) ∷
    (3 ∷ 1 ∷ [], left) ∷ (3 ∷ 2 ∷ [], right) ∷ (3 ∷ 3 ∷ [], no_side) ∷
    []

-- Each name has the type, each other name none, each found name the bit, and each combination of bits the side of its table.
pub record NameTables : Type 0 where
  pub types : map (λ row. Option.map relation_number (relation_named row.0)) relation_types ≡ map (λ row. some row.1) relation_types
  pub others : map relation_named no_relations ≡ map (λ name. none) no_relations
  pub bits : map (λ row. mask spatial_names (row.0 ∷ [])) name_bits ≡ map (λ row. row.1) name_bits
  pub sides : map (λ row. schema_side row.0) schema_sides ≡ map (λ row. row.1) schema_sides
