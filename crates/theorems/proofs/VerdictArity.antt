-- Load refuses relations and distances with too few arguments (8), so of the leaves that it takes only a KNN can have too few.
use Rattle.std.specs.Prelude.{if◌then◌else◌}
use mathlib.Core.Path.{◌≡◌, refl, sym, ap, ◌∙◌}
use mathlib.Core.Bool.{Bool, true, false, not, false≢true}
use mathlib.Core.Option.{Option, none, some}
use lib.Dec.{leb}
use Rattle.definitions.specs.Words.Basics.{given◌then◌else◌, ascii, same_name}
use Rattle.definitions.specs.Words.Expression.{Relation, Expr, column, literal, and, binary, call, other, field, Exprs, nil, cons, count}
use Rattle.definitions.specs.Words.Leaves.{relation_named, Comparison, compares, no_comparison, comparison, distance_arguments, relation_arity, call_arity, distance_arity, comparison_arity, leaf_arity}
use Rattle.definitions.specs.Filter.Verdicts.{PriceLine, relation_line, distance_line, knn_line, no_line, line_named, line_compared, line_meant, with_bound, arguments_compared, arguments_of, argument_is, has_argument, lacks, applies_by, applies}
use Rattle.definitions.specs.Claims.Verdicts.{OnlyKnnTooFew}

-- What is there is not lacking.
not-lacking : (line : PriceLine) (es : Exprs) → lacks line es ≡ false → lacks line es ≡ true → line ≡ knn_line
not-lacking line es e f = absurd (false≢true (sym e ∙ f))

two-there : (es : Exprs) → leb 2 (count es) ≡ true → has_argument 1 es ≡ true
unfolding count has_argument argument_is
two-there nil e = absurd (false≢true e)
two-there (cons a nil) e = absurd (false≢true e)
two-there (cons a (cons b more)) e = refl

three-there : (es : Exprs) → leb 3 (count es) ≡ true → has_argument 2 es ≡ true
unfolding count has_argument argument_is
three-there nil e = absurd (false≢true e)
three-there (cons a nil) e = absurd (false≢true e)
three-there (cons a (cons b nil)) e = absurd (false≢true e)
three-there (cons a (cons b (cons c more))) e = refl

bound-there : (d : Expr) (es : Exprs) → leb 2 (count es) ≡ true → has_argument 2 (with_bound d es) ≡ true
unfolding count has_argument argument_is with_bound
bound-there d nil e = absurd (false≢true e)
bound-there d (cons a nil) e = absurd (false≢true e)
bound-there d (cons a (cons b more)) e = refl

-- A function.
by-name : (es : Exprs) (p q : Bool) (t : Option Relation) → (if q then leb 3 (count es) else relation_arity (count es) t) ≡ true
    → lacks (if p then knn_line else if q then distance_line else given t then (λ type. relation_line) else no_line) es ≡ true
    → (if p then knn_line else if q then distance_line else given t then (λ type. relation_line) else no_line) ≡ knn_line
unfolding relation_arity lacks
by-name es true q t e f = refl
by-name es false true t e f = not-lacking distance_line es (ap not (three-there es e)) f
by-name es false false (some t) e f = not-lacking relation_line es (ap not (two-there es e)) f
by-name es false false none e f = absurd (false≢true f)

-- A comparison.
by-measured : (d : Expr) (x : Option Exprs) → distance_arity x ≡ true
    → lacks (given x then (λ es. distance_line) else no_line) (given x then with_bound d else nil) ≡ true
    → (given x then (λ es. distance_line) else no_line) ≡ knn_line
unfolding distance_arity lacks
by-measured d none e f = absurd (false≢true f)
by-measured d (some es) e f = not-lacking distance_line (with_bound d es) (ap not (bound-there d es e)) f

by-comparison : (c : Comparison) → comparison_arity c ≡ true → lacks (line_compared c) (arguments_compared c) ≡ true
    → line_compared c ≡ knn_line
unfolding comparison_arity line_compared arguments_compared
by-comparison no_comparison e f = absurd (false≢true (unfold lacks in f))
by-comparison (compares m d) e f = by-measured d (distance_arguments m) e f

by-leaf : (e : Expr) → leaf_arity e ≡ true → lacks (line_meant e) (arguments_of e) ≡ true → line_meant e ≡ knn_line
unfolding leaf_arity call_arity line_meant line_named arguments_of
by-leaf (column i t) e f = absurd (false≢true (unfold lacks in f))
by-leaf (literal type v) e f = absurd (false≢true (unfold lacks in f))
by-leaf (and l r) e f = absurd (false≢true (unfold lacks in f))
by-leaf (binary o l r) e f = by-comparison (comparison o l r) e f
by-leaf (call name es) e f =
    by-name es (same_name name (ascii "st_knn")) (same_name name (ascii "st_dwithin")) (relation_named name) e f
by-leaf (other tag es) e f = absurd (false≢true (unfold lacks in f))
by-leaf (field b t) e f = absurd (false≢true (unfold lacks in f))

pub only-knn-holds : OnlyKnnTooFew
unfolding applies applies_by
only-knn-holds S records leaf = by-leaf leaf
