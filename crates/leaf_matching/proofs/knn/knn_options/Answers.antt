-- `knn_options`: a literal has ten bytes, so the flags stand ten bytes after k.
use Rattle.expression.proofs.Standing.{first-there, rest-there}
use Rattle.leaf_matching.proofs.KnnOptionLaws.{options-none, k-unread, k-next, options-unread, options-read}
use Rattle.leaf_matching.proofs.knn.knn_options.Goals as goal

pub returns-then-n-eq0 : goal.returns-then-n-eq0
returns-then-n-eq0 c =
    options-none _ c.if-n-eq0.true

pub extract_literal_k-requires : goal.extract_literal_k-requires
extract_literal_k-requires c =
    first-there c.requires.trees c.if-n-eq0.false

pub returns-in_err-k : goal.returns-in_err-k
returns-in_err-k c =
    rw c.from_residual.ensures (k-unread _ c.if-n-eq0.false c.requires.n_bound c.in_err-k.ensures)

pub knn_flags-requires : goal.knn_flags-requires
knn_flags-requires c =
    rest-there c.requires.trees c.if-n-eq0.false _ (k-next 1 c.if-n-eq0.false c.requires.n_bound _ c.in_ok-k.ensures)

pub returns-in_err-flags : goal.returns-in_err-flags
returns-in_err-flags c =
    rw c.from_residual-in_err-flags.ensures
    (options-unread _ c.if-n-eq0.false c.requires.n_bound _ c.in_ok-k.ensures c.in_err-flags.ensures)

pub returns : goal.returns
returns c =
    options-read _ c.if-n-eq0.false c.requires.n_bound _ c.in_ok-k.ensures _ c.in_ok-flags.ensures
