-- `knn_flags`: a literal has ten bytes, so the second flag stands ten bytes on.
use native.Mathlib.Omega.{arith}
use Rattle.expression.proofs.Standing.{first-there, rest-there}
use Rattle.leaf_matching.proofs.KnnOptionLaws.{flags-none, flags-unread, flag-next, flags-one, ties-unread, flags-two}
use Rattle.leaf_matching.proofs.knn.knn_flags.Goals as goal

pub returns-then-n-eq0 : goal.returns-then-n-eq0
returns-then-n-eq0 c =
    flags-none c.if-n-eq0.true

pub extract_literal_bool-requires : goal.extract_literal_bool-requires
extract_literal_bool-requires c =
    first-there c.requires c.if-n-eq0.false

pub returns-in_err-use_spheroid : goal.returns-in_err-use_spheroid
returns-in_err-use_spheroid c =
    rw c.from_residual.ensures (flags-unread c.if-n-eq0.false c.in_err-use_spheroid.ensures)

pub returns-then-n-eq1 : goal.returns-then-n-eq1
returns-then-n-eq1 c =
    flags-one c.if-n-eq0.false _ c.in_ok-use_spheroid.ensures c.if-n-eq1.true

pub extract_literal_bool-requires-2 : goal.extract_literal_bool-requires-2
extract_literal_bool-requires-2 c =
    first-there (rest-there c.requires c.if-n-eq0.false _ (flag-next c.if-n-eq0.false _ c.in_ok-use_spheroid.ensures))
    (λ e. c.if-n-eq1.false (omega arith))

pub returns-in_err-ties : goal.returns-in_err-ties
returns-in_err-ties c =
    rw c.from_residual-in_err-ties.ensures
    (ties-unread c.if-n-eq0.false _ c.in_ok-use_spheroid.ensures c.if-n-eq1.false c.in_err-ties.ensures)

pub returns : goal.returns
returns c =
    flags-two c.if-n-eq0.false _ c.in_ok-use_spheroid.ensures c.if-n-eq1.false _ c.in_ok-ties.ensures
