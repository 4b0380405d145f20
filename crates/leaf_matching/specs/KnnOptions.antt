-- What the answers about KNN's literals mean.
use Rattle.std.specs.Prelude.{ℕ, ◌≡◌, Option, Some, None}
use Rattle.std.proofs.Math.Option as optional
use Rattle.definitions.specs.Words.Expression.{Expr, Exprs, nil, cons}
use Rattle.definitions.specs.Filter.Match.{literal_bool, Request, ask_knn, ask_nothing, knn_literals, knn_request_by}
use Rattle.sedona_query_planner.specs.Predicates.{flag, ties_number}
use Rattle.leaf_matching.specs.declared.knn.KnnFlags.{KnnFlags}
use Rattle.leaf_matching.specs.declared.knn.KnnOptions.{KnnOptions}

-- The flags among what follows k.
abbrev pub spheroid_of : Exprs → optional.Option ℕ
spheroid_of nil = optional.some 0
spheroid_of (cons a more) = literal_bool a

abbrev pub ties_of : Exprs → optional.Option ℕ
ties_of nil = optional.some 2
ties_of (cons a nil) = optional.some 2
ties_of (cons a (cons b more)) = literal_bool b

-- Both flags are read, or KNN asks for nothing.
abbrev pub FlagsAre : Option KnnFlags → Exprs → Type 0
FlagsAre (Some flags) ts =
    (spheroid_of ts ≡ optional.some (flag flags.use_spheroid)) × (ties_of ts ≡ optional.some (ties_number flags.include_tie_breakers))
FlagsAre None ts = (k : optional.Option ℕ) (a b : Expr) → knn_literals k (spheroid_of ts) (ties_of ts) a b ≡ ask_nothing

-- What two geometries and these options ask for.
abbrev pub asked : Option KnnOptions → Expr → Expr → Request
asked (Some options) a b = ask_knn options.k (flag options.flags.use_spheroid) (ties_number options.flags.include_tie_breakers) a b
asked None a b = ask_nothing

-- With this default k.
abbrev pub OptionsAre : (default_k : ℕ) → Option KnnOptions → Exprs → Type 0
OptionsAre default_k r ts = (a b : Expr) → knn_request_by default_k (cons a (cons b ts)) ≡ asked r a b
