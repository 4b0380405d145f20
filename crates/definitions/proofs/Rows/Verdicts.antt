-- Verdicts and the call explain, by computation.
use mathlib.Core.Path.{refl}
use Rattle.definitions.specs.Rows.Verdicts.{VerdictRows}
use Rattle.definitions.proofs.Everything.{everything}

pub verdict-rows-hold : VerdictRows
unfolding everything
verdict-rows-hold = record {
  relation = refl;
  distance = refl;
  knn = refl;
  other-case = refl;
  other-case-compared = refl;
  other-side = refl;
  other-operator = refl;
  inside-another = refl;
  other-side-and-case = refl;
  inside-and-case = refl;
  nothing-of-ours = refl;
  kind-left-out = refl;
  too_few = refl;
  too_many = refl;
  first-without-columns = refl;
  first-of-both = refl;
  first-with-mark = refl;
  second-without-columns = refl;
  second-of-both = refl;
  second-with-mark = refl;
  both-left = refl;
  both-right = refl;
  bound-of-both = refl;
  bound-with-mark = refl;
  bound-fine = refl;
  k-no-number = refl;
  k-below-one = refl;
  k-above = refl;
  k-greatest = refl;
  spheroid-no-flag = refl;
  ties-no-flag = refl;
  kind-first = refl;
  first-first = refl;
  geometry-first = refl;
  verdicts = refl;
  taken-knn = refl;
  taken-first = refl;
  taken_none = refl;
  answer = refl;
  answer-none = refl;
  called = refl;
  fits = refl;
  short = refl;
  no-frame = refl;
  bad-settings = refl;
  exchanged = refl;
}
