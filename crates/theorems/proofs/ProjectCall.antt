-- When project is accepted, what it writes, and that a refusal keeps everything.
use Rattle.std.specs.Prelude.{if◌then◌else◌}
use Prim.Native.Nat.{ℕ, ◌≤◌}
use native.Mathlib.Omega.{arith}
use mathlib.Core.Path.{◌≡◌, refl, sym, ap, ◌∙◌, subst}
use mathlib.Core.Bool.{Bool, true, false, false≢true}
use mathlib.Core.List.{List}
use mathlib.Core.Option.{none, some}
use lib.ListN.{length, take}
use lib.Seq.{length-take-le}
use lib.Dec.{leb}
use borrow.Author.Tests.{leb-true, le-leb}
use Rattle.definitions.specs.Words.Basics.{Result, ok, refused}
use Rattle.definitions.specs.Words.Expression.{Extraction, Plan, empty, held, extracted}
use Rattle.definitions.specs.Bytes.Encode.{plan_bytes}
use Rattle.definitions.specs.Calls.Base.{Outcome, finish, held_plan}
use Rattle.definitions.specs.Bytes.Good.{AllBytes, GoodPlan}
use Rattle.definitions.specs.Lists.Sessions.{accepted}
use Rattle.definitions.specs.Filter.Project.{ChildLists, project_extraction, placed, projection}
use Rattle.definitions.specs.Calls.Project.{short_lists, projected_bytes, new_after_project, project}
use Rattle.definitions.specs.Claims.Project.{Projects, project_by, ProjectedExactly, ProjectWrote, ProjectWrites, ProjectKeeps}
use Rattle.theorems.proofs.Tools.{and-both}
use Rattle.theorems.proofs.InverseFrame.{same_ok}
use Rattle.theorems.proofs.InversePlan.{plan-back}
use Rattle.theorems.proofs.Lengths.{bytes-up-to, held-is}
use Rattle.theorems.proofs.Changes.{over_first, finish-keeps, finish-wrote}
use Rattle.theorems.proofs.ProjectedGood.{projected-length}

-- Neither list has over 4,096 items.
pub both-short : (lists : ChildLists) → short_lists lists ≡ true → (length lists.of_left ≤ 4096) × (length lists.of_right ≤ 4096)
unfolding short_lists
both-short lists e =
    let both : (leb (length lists.of_left) 4096 ≡ true) × (leb (length lists.of_right) 4096 ≡ true) = and-both _ _ e in
    (leb-true (length lists.of_left) 4096 both.0, leb-true (length lists.of_right) 4096 both.1)

-- ---- exactly when

module _ (lists : ChildLists) (n : ℕ) (buffer scratch : List ℕ) where
  -- The answer to these bytes is a length.
  abbrev Answered : Result (List ℕ) → Type 0
  Answered r = accepted (finish n buffer scratch r).answer ≡ true

  tests : (a b c : Bool) (Y : Extraction)
      → Answered (if a then (if b then projected_bytes (if c then some Y else none) else refused 9) else refused 19)
      → (a ≡ true) × (b ≡ true) × (c ≡ true)
  unfolding finish accepted projected_bytes
  tests true true true Y h = (refl, refl, refl)
  tests true true false Y h = absurd (false≢true h)
  tests true false c Y h = absurd (false≢true h)
  tests false b c Y h = absurd (false≢true h)

  projects-by : (r : Result Plan) → held_plan n buffer ≡ r → Answered (new_after_project lists n (length scratch) r)
      → (X : Extraction) × Projects lists n buffer scratch X
  unfolding new_after_project finish accepted projection
  projects-by (refused number) e h = absurd (false≢true h)
  projects-by (ok empty) e h = absurd (false≢true h)
  projects-by (ok (held F)) e h = absurd (false≢true h)
  projects-by (ok (extracted X)) e h =
      let all : (short_lists lists ≡ true) × (leb n (length scratch) ≡ true) × (placed lists X ≡ true) =
      tests (short_lists lists) (leb n (length scratch)) (placed lists X) (project_extraction lists X) h in
      let short : (length lists.of_left ≤ 4096) × (length lists.of_right ≤ 4096) = both-short lists all.0 in (
        X,
        record {
          holds = e;
          short_left = short.0;
          short_right = short.1;
          room = leb-true n (length scratch) all.1;
          found = all.2;
        },
      )

  pub projects : accepted (project_by lists n buffer scratch).answer ≡ true → (X : Extraction) × Projects lists n buffer scratch X
  unfolding project
  projects h = projects-by (held_plan n buffer) refl h

  -- Then the projection is written.
  pub projected : (X : Extraction) → Projects lists n buffer scratch X
      → project_by lists n buffer scratch ≡ finish n buffer scratch (ok (plan_bytes (extracted (project_extraction lists X))))
  unfolding project new_after_project projection projected_bytes short_lists
  projected X p =
      rw (
        p.holds,
        le-leb (length lists.of_left) 4096 p.short_left,
        le-leb (length lists.of_right) 4096 p.short_right,
        le-leb n (length scratch) p.room,
        p.found,
      )
      refl

pub projected-exactly-then : ProjectedExactly
unfolding finish accepted
projected-exactly-then lists n buffer scratch =
    (projects lists n buffer scratch, λ X p. ap (λ (o : Outcome). accepted o.answer) (projected lists n buffer scratch X p))

-- ---- what is written

-- An extraction that is held in a buffer of bytes is a good one, and its bytes are the first n.
pub record HeldFirst (n : ℕ) (buffer : List ℕ) (X : Extraction) : Type 0 where
  pub good : GoodPlan (extracted X)
  pub size : n ≡ length (plan_bytes (extracted X))
  pub bytes : take n buffer ≡ plan_bytes (extracted X)
  pub fits : n ≤ length buffer

pub held-size : (n : ℕ) (buffer : List ℕ) (X : Extraction) → take n buffer ≡ plan_bytes (extracted X) → n ≤ length buffer
    → n ≡ length (plan_bytes (extracted X))
held-size n buffer X e f = sym (length-take-le n buffer f) ∙ ap length e

pub held_first : (n : ℕ) (buffer : List ℕ) (X : Extraction) → AllBytes buffer → held_plan n buffer ≡ ok (extracted X)
    → HeldFirst n buffer X
held_first n buffer X bytes e =
    let is = held-is n buffer (extracted X) e in
    let back = plan-back (take n buffer) (extracted X) (bytes-up-to n buffer bytes) is.1 in
    record { good = back.1; size = held-size n buffer X back.0 is.0; bytes = back.0; fits = is.0 }

pub project-wrote : ProjectWrites
unfolding finish accepted
project-wrote lists n buffer scratch bytes a =
    let (X, p) = projects lists n buffer scratch a in
    let h : HeldFirst n buffer X = held_first n buffer X bytes p.holds in
    let new : List ℕ = plan_bytes (extracted (project_extraction lists X)) in
    let size : length new ≡ n = projected-length lists X ∙ sym h.size in (
      X,
      p,
      subst (ProjectWrote lists n buffer scratch X) (sym (projected lists n buffer scratch X p)) (record {
        size = size;
        plan = over_first new buffer;
        wrote = finish-wrote n buffer scratch (ok new) (omega (arith, size, h.fits), p.room, h.fits) refl;
      }),
    )

pub project-keeps-all : ProjectKeeps
unfolding project
project-keeps-all lists n buffer scratch a = finish-keeps n buffer scratch _ a

-- As long as the plan was, which is a good one's bytes.
pub project-is-short : (n : ℕ) (buffer scratch of_left of_right : List ℕ) (m : ℕ) → AllBytes buffer
    → (project n buffer scratch of_left of_right).answer ≡ ok m → m ≤ 16384
unfolding accepted
project-is-short n buffer scratch of_left of_right m bytes e =
    let lists : ChildLists = record { of_left = of_left; of_right = of_right } in
    let (X, p, w) = project-wrote lists n buffer scratch bytes (ap accepted e) in
    let h : HeldFirst n buffer X = held_first n buffer X bytes p.holds in
    let is : (project n buffer scratch of_left of_right).n ≡ m = same_ok _ _ (sym w.wrote.answer ∙ e) in
    omega (arith, is, w.size, h.size, h.good.few_bytes)
