-- One exported call of a host: its number, what a refusal keeps, the walk of an extract, and that there is one for every host.
use Prim.Native.Nat.{ℕ, ◌*◌, ◌-◌, ◌≤◌}
use native.Mathlib.Omega.{arith}
use mathlib.Core.Path.{◌≡◌, refl, sym, ap, ap₂, ◌∙◌, subst}
use mathlib.Core.Bool.{true, false, false≢true}
use mathlib.Core.List.{List, [], ◌∷◌, map}
use lib.IntN.{ℤ}
use lib.Dec.{eqb}
use Rattle.definitions.specs.Words.Limits.{most_nodes}
use Rattle.definitions.specs.Words.Basics.{Result, ok, refused}
use Rattle.definitions.specs.Words.Expression.{Frame, held}
use Rattle.definitions.specs.Filter.OneWalk.{walk_length_by}
use Rattle.definitions.specs.Calls.Base.{LoadOutcome, finish_load, load, Outcome, exchange, held_plan}
use Rattle.definitions.specs.Lists.Machine.{Kind, extract_call, exchange_call}
use Rattle.definitions.specs.Bytes.Good.{AllBytes}
use Rattle.definitions.specs.Bytes.NodeTable.{NodeRecord}
use Rattle.definitions.specs.Lists.Sessions.{make_by, accepted}
use Rattle.definitions.specs.Filter.Settings.{Settings, match_under}
use Rattle.definitions.specs.Calls.Settings.{extract_under, extract_walk_under}
use Rattle.definitions.specs.Lists.Settings.{make_under, walk_under}
use Rattle.definitions.specs.Calls.Merge.{MergeOutcome, merge}
use Rattle.definitions.specs.Filter.Project.{ChildLists}
use Rattle.definitions.specs.Calls.Project.{project}
use Rattle.definitions.specs.Lists.History.{Call, loading, making, merging, projecting}
use Rattle.host_calls.specs.Hosts.{hosted, hosted_walk}
use Rattle.definitions.specs.Claims.Calls.{load_refusals}
use Rattle.theorems.proofs.Proved.{all-settings, refusals-of-calls, refused-keeps, merge_keeps, project-keeps, walk-carried, walk-short}
use Rattle.call_answers.proofs.Settling.{refused-24, by-settings}
use Rattle.call_answers.specs.Outcomes.{Answered, answer_of, LoadIs}
use Rattle.node_table.specs.Records.{nodes_of}
use Rattle.node_table.specs.declared.NodeRecord.{NodeRecord as TableRecord}
use Rattle.host_lists.specs.Numbers.{answered, walk_answered, walk_carried, next_n, answered_by, carried_by, number_by, IsAnswer, SettingsFit}
use Rattle.host_lists.specs.HostLists.{Host, MadeHosted, HostCall}
use Rattle.host_lists.specs.HostFacts.{HostNumbers, HostKeeps, HostWalks, HostRefuses, EveryCallRuns}
use Rattle.host_lists.proofs.Numbers.{answers-of-calls, known, answer-from, load-named}
use Rattle.host_lists.proofs.Ran.{load_same, load-n, loaded-is, MadeIs, made-is, project-is, merge-is, OneIs, one-is}

-- ---- the number

-- The number by what is read off it, with its bounds.
told : (S : Settings) → SettingsFit S → (b : Host) (c : Call) (a : Host) (z : ℤ) → HostCall S b c a z → (x : Result ℕ)
    → IsAnswer x → answered_by c z ≡ x
    → carried_by c z ≤ 2 * most_nodes - 1
    → (z ≡ number_by c (carried_by c z) (answered_by c z)) × IsAnswer (answered_by c z) × (carried_by c z ≤ 2 * most_nodes - 1)
told S fits b c a z is x h same few =
    let one : OneIs S b c a z = one-is S fits b c a z is in
    (one.number ∙ sym (ap₂ (number_by c) one.carries one.read), subst IsAnswer (sym same) h, few)

made_bytes : (S : Settings) (kind : Kind) (b : Host) (scratch after kept : List ℕ) (z : ℤ) → MadeHosted S kind b scratch after kept z
    → AllBytes b.plan
made_bytes S extract_call b scratch after kept z is = is.0
made_bytes S exchange_call b scratch after kept z is = is.0

-- A walk is at most 2,047.
walk-few : (S : Settings) → SettingsFit S → (kind : Kind) (n : ℕ) (plan scratch : List ℕ) (table : List NodeRecord) → AllBytes plan
    → walk_under S kind n plan scratch table ≤ 2 * most_nodes - 1
unfolding walk_under
walk-few S fits extract_call n plan scratch table bytes =
    by-settings S n plan scratch table (λ (o : Outcome) (w : ℕ). w ≤ 2 * most_nodes - 1)
    (λ g. walk-short (match_under S) n plan scratch table bytes) (omega arith) fits
walk-few S fits exchange_call n plan scratch table bytes = omega arith

-- A refused extract or exchange keeps what it was lent.
made-keeps : (S : Settings) → SettingsFit S → (kind : Kind) (n : ℕ) (plan scratch : List ℕ) (table : List NodeRecord)
    → accepted (make_under S kind n plan scratch table).answer ≡ false
    → ((make_under S kind n plan scratch table).n ≡ n) × ((make_under S kind n plan scratch table).buffer ≡ plan)
    × ((make_under S kind n plan scratch table).scratch ≡ scratch)
unfolding make_by make_under
made-keeps S fits extract_call n plan scratch table =
    by-settings S n plan scratch table
    (λ (o : Outcome) (w : ℕ). accepted o.answer ≡ false → (o.n ≡ n) × (o.buffer ≡ plan) × (o.scratch ≡ scratch))
    (λ g e. (all-settings S g).one_call.keeps extract_call n plan scratch table e) (λ e. (refl, refl, refl)) fits
made-keeps S fits exchange_call n plan scratch table = λ e. refused-keeps.1 exchange_call n plan scratch table e

pub host-numbers : HostNumbers
host-numbers S fits b (loading frame) a z is =
    told S fits b (loading frame) a z is _ (answers-of-calls.0 frame 0 b.plan (nodes_of b.table) is.0.0)
    (ap answered is.0.3 ∙ known is.0.1 ∙ sym (ap (λ (x : LoadOutcome). x.answer) (is.0.2 0))) (omega arith)
host-numbers S fits b (making c) a z is =
    let m : MadeIs S c.kind b c.scratch a.plan is.0 z = made-is S fits c.kind b c.scratch a.plan is.0 z is.1 in
    let bytes : AllBytes b.plan = made_bytes S c.kind b c.scratch a.plan is.0 z is.1 in
    told S fits b (making c) a z is _ (answers-of-calls.1 S fits c.kind b.n b.plan c.scratch (nodes_of b.table) bytes)
    (m.read ∙ sym (ap (λ (x : Outcome). x.answer) m.is))
    (omega (arith, m.carries, walk-few S fits c.kind b.n b.plan c.scratch (nodes_of b.table) bytes))
host-numbers S fits b (merging frame scratch) a z is =
    let (r, o, same) =
    merge-is frame b.n b.plan scratch (nodes_of b.table) a.plan is.0 (nodes_of a.table) z is.1 in
    told S fits b (merging frame scratch) a z is _ (answers-of-calls.2 frame b.n b.plan scratch (nodes_of b.table))
    (ap answered same ∙ known r ∙ sym (ap (λ (x : MergeOutcome). x.answer) o)) (omega arith)
host-numbers S fits b (projecting scratch of_left of_right) a z is =
    let (r, o, same) = project-is b.n b.plan scratch of_left of_right a.plan is.0 z is.1 in
    told S fits b (projecting scratch of_left of_right) a z is _ (answers-of-calls.3 b.n b.plan scratch of_left of_right is.1.0)
    (ap answered same ∙ known r ∙ sym (ap (λ (x : Outcome). x.answer) o)) (omega arith)

-- ---- a refusal

-- n is kept by an answer that is no length.
same-n : (n : ℕ) (x : Result ℕ) → accepted x ≡ false → next_n n x ≡ n
unfolding accepted
same-n n (ok m) e = absurd (false≢true (sym e))
same-n n (refused number) e = refl

-- The definition's answer is a refusal then.
refused-is : (x : Result ℕ) (r : Answered) (z : ℤ) → z ≡ hosted (answer_of r) → x ≡ answer_of r → accepted (answered z) ≡ false
    → accepted x ≡ false
refused-is x r z e f h = ap accepted (f ∙ sym (ap answered e ∙ known r)) ∙ h

pub host-keeps : HostKeeps
host-keeps S fits b (loading frame) a z is h =
    let o = is.0.2 0 in
    let kept = refused-keeps.0 frame 0 b.plan (nodes_of b.table)
    (refused-is _ is.0.1 z is.0.3 (ap (λ (x : LoadOutcome). x.answer) o) h) in (
      sym (ap (λ (x : LoadOutcome). x.buffer) o) ∙ kept.1,
      refl,
      is.1 ∙ same-n b.n (answered z) h,
      sym (ap (λ (x : LoadOutcome). x.table) o) ∙ kept.2,
    )
host-keeps S fits b (making c) a z is h =
    let m : MadeIs S c.kind b c.scratch a.plan is.0 z = made-is S fits c.kind b c.scratch a.plan is.0 z is.1 in
    let kept = made-keeps S fits c.kind b.n b.plan c.scratch (nodes_of b.table)
    (ap accepted (ap (λ (x : Outcome). x.answer) m.is ∙ sym m.read) ∙ h) in (
      sym (ap (λ (x : Outcome). x.buffer) m.is) ∙ kept.1,
      sym (ap (λ (x : Outcome). x.scratch) m.is) ∙ kept.2,
      is.2 ∙ same-n b.n (answered_by (making c) z) h,
      ap nodes_of is.3,
    )
host-keeps S fits b (merging frame scratch) a z is h =
    let (r, o, same) =
    merge-is frame b.n b.plan scratch (nodes_of b.table) a.plan is.0 (nodes_of a.table) z is.1 in
    let kept = merge_keeps frame b.n b.plan scratch (nodes_of b.table)
    (refused-is _ r z same (ap (λ (x : MergeOutcome). x.answer) o) h) in
    (is.1.3 ∙ kept.1, is.1.4 ∙ kept.2, is.2 ∙ same-n b.n (answered z) h, is.1.5 ∙ kept.3)
host-keeps S fits b (projecting scratch of_left of_right) a z is h =
    let (r, o, same) = project-is b.n b.plan scratch of_left of_right a.plan is.0 z is.1 in
    let lists : ChildLists = record { of_left = of_left; of_right = of_right } in
    let kept = project-keeps lists b.n b.plan scratch (refused-is _ r z same (ap (λ (x : Outcome). x.answer) o) h) in
    (is.1.2 ∙ kept.1, is.1.3 ∙ kept.2, is.2 ∙ same-n b.n (answered z) h, ap nodes_of is.3)

-- ---- the walk of an extract

-- The walk by the answer, of the frame that is held.
abbrev Carries : Settings → Host → Outcome → ℕ → Type 0
Carries S b o w =
    (accepted o.answer ≡ true → (F : Frame) × (held_plan b.n b.plan ≡ ok (held F)) × (w ≡ walk_length_by (match_under S) F))
    × (o.answer ≡ refused 13 → (F : Frame) × (held_plan b.n b.plan ≡ ok (held F)) × (w ≡ walk_length_by (match_under S) F))
    × ((number : ℕ) → o.answer ≡ refused number → eqb number 13 ≡ false → w ≡ 0)

not-13 : {A : Type 0} → ◌≡◌ {A = Result ℕ} (refused 24) (refused 13) → A
not-13 e = let z : ◌≡◌ {A = ℕ} 24 13 = cc in absurd (omega arith)

carries-by : (S : Settings) → SettingsFit S → (b : Host) (scratch : List ℕ)
    → Carries S b (extract_under S b.n b.plan scratch (nodes_of b.table))
    (extract_walk_under S b.n b.plan scratch (nodes_of b.table))
unfolding accepted
carries-by S fits b scratch =
    by-settings S b.n b.plan scratch (nodes_of b.table) (Carries S b)
    (λ g. walk-carried (match_under S) b.n b.plan scratch (nodes_of b.table))
    (λ e. absurd (false≢true e), λ e. not-13 e, λ number e f. refl) fits

pub host-walks : HostWalks
unfolding make_under walk_under
host-walks S fits b scratch after kept z h =
    let m : MadeIs S extract_call b scratch after kept z = made-is S fits extract_call b scratch after kept z h in
    let o : Outcome = extract_under S b.n b.plan scratch (nodes_of b.table) in
    let answer : o.answer ≡ walk_answered z = ap (λ (x : Outcome). x.answer) m.is ∙ sym m.read in
    let walk : extract_walk_under S b.n b.plan scratch (nodes_of b.table) ≡ walk_carried z = sym m.carries in
    let known = carries-by S fits b scratch in
    rw (answer, walk) at known

-- With settings that are not good.
pub host-refuses : HostRefuses
unfolding hosted_walk
host-refuses S bad b scratch after kept z (bytes, same, plan, left) =
    let (o, w) = refused-24 S b.n b.plan scratch (nodes_of b.table) bad in (
      same ∙ ap₂ (λ (k : ℕ) (x : Outcome). hosted_walk k x.answer) w o,
      plan ∙ ap (λ (x : Outcome). x.buffer) o,
      left ∙ ap (λ (x : Outcome). x.scratch) o,
    )

-- ---- every call runs

-- A table with these records.
abbrev raw_of : NodeRecord → TableRecord
raw_of r = record { kind = r.kind; start = r.start; end = r.end }

raw-back : (table : List NodeRecord) → nodes_of (map raw_of table) ≡ table
raw-back [] = refl
raw-back (r ∷ table) = ap (λ (t : List NodeRecord). r ∷ t) (raw-back table)

-- What a load leaves does not depend on n.
loaded-alike : (frame : List ℕ) (n m : ℕ) (buffer : List ℕ) (table : List NodeRecord) (x : Result Frame)
    → ((finish_load frame n buffer table x).buffer ≡ (finish_load frame m buffer table x).buffer)
    × ((finish_load frame n buffer table x).table ≡ (finish_load frame m buffer table x).table)
unfolding finish_load
loaded-alike frame n m buffer table (ok F) = (refl, refl)
loaded-alike frame n m buffer table (refused number) = (refl, refl)

load-alike : (frame : List ℕ) (n m : ℕ) (buffer : List ℕ) (table : List NodeRecord)
    → ((load frame n buffer table).buffer ≡ (load frame m buffer table).buffer)
    × ((load frame n buffer table).table ≡ (load frame m buffer table).table)
unfolding load
load-alike frame n m buffer table = loaded-alike frame n m buffer table _

made-runs : (S : Settings) (kind : Kind) (b : Host) (scratch : List ℕ) → AllBytes b.plan
    → (after : List ℕ) × (kept : List ℕ) × (z : ℤ) × MadeHosted S kind b scratch after kept z
made-runs S extract_call b scratch bytes =
    let o : Outcome = extract_under S b.n b.plan scratch (nodes_of b.table) in
    let w : ℕ = extract_walk_under S b.n b.plan scratch (nodes_of b.table) in
    (o.buffer, o.scratch, hosted_walk w o.answer, (bytes, refl, refl, refl))
made-runs S exchange_call b scratch bytes =
    let o : Outcome = exchange b.n b.plan scratch in (o.buffer, o.scratch, hosted o.answer, (bytes, refl, refl, refl))

-- The definition's load is one of the code.
load-runs : (frame before : List ℕ) (table : List NodeRecord)
    → (r : Answered) × LoadIs frame before (load frame 0 before table).buffer table (load frame 0 before table).table r
    × (hosted (load frame 0 before table).answer ≡ hosted (answer_of r))
load-runs frame before table =
    let (r, e) = answer-from load_refusals load-named (load frame 0 before table).answer (refusals-of-calls.0 frame 0 before table) in (
      r,
      λ n. loaded-is (load frame n before table) n _ _ r (e ∙ load_same frame 0 n before table) (load-n frame n before table)
          (load-alike frame 0 n before table).0 (load-alike frame 0 n before table).1,
      ap hosted (sym e),
    )

pub every-call-runs : EveryCallRuns
every-call-runs S b (loading frame) plan-bytes bytes =
    let table : List NodeRecord = nodes_of b.table in
    let o : LoadOutcome = load frame 0 b.plan table in
    let z : ℤ = hosted o.answer in
    let (r, is, told) = load-runs frame b.plan table in (
      record { plan = o.buffer; n = next_n b.n (answered z); table = map raw_of o.table },
      z,
      (
        (bytes, r, subst (λ (t : List NodeRecord). LoadIs frame b.plan o.buffer table t r) (sym (raw-back o.table)) is, told),
        refl,
      ),
    )
every-call-runs S b (making c) plan-bytes bytes =
    let (after, kept, z, is) = made-runs S c.kind b c.scratch plan-bytes in
    (record { plan = after; n = next_n b.n (answered_by (making c) z); table = b.table }, z, (kept, is, refl, refl))
every-call-runs S b (merging frame scratch) plan-bytes bytes =
    let o : MergeOutcome = merge frame b.n b.plan scratch (nodes_of b.table) in
    let z : ℤ = hosted o.answer in (
      record { plan = o.buffer; n = next_n b.n (answered z); table = map raw_of o.table },
      z,
      (o.scratch, (bytes, plan-bytes, refl, refl, refl, raw-back o.table), refl),
    )
every-call-runs S b (projecting scratch of_left of_right) plan-bytes bytes =
    let o : Outcome = project b.n b.plan scratch of_left of_right in
    let z : ℤ = hosted o.answer in (
      record { plan = o.buffer; n = next_n b.n (answered z); table = b.table },
      z,
      (o.scratch, (plan-bytes, refl, refl, refl), refl, refl),
    )
