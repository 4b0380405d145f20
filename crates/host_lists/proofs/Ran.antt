-- A host's list of exported calls is a list of calls of the code: each number is that of the code's answer and of the walk it carries.
use Rattle.std.specs.Prelude.{Ok, Err}
use Prim.Native.Nat.{ℕ}
use mathlib.Core.Path.{◌≡◌, refl, sym, ap, ap₂, ◌∙◌}
use mathlib.Core.Bool.{false≢true}
use mathlib.Core.List.{List, [], ◌∷◌}
use lib.IntN.{ℤ, pos}
use Rattle.definitions.specs.Words.Basics.{Result, ok, refused}
use Rattle.definitions.specs.Words.Expression.{Frame}
use Rattle.definitions.specs.Filter.Extract.{Matcher}
use Rattle.definitions.specs.Calls.Base.{LoadOutcome, finish_load, load, Outcome, finish, exchange}
use Rattle.definitions.specs.Lists.Machine.{Kind, extract_call, exchange_call}
use Rattle.definitions.specs.Bytes.NodeTable.{NodeRecord}
use Rattle.definitions.specs.Lists.Sessions.{make_by, accepted}
use Rattle.definitions.specs.Filter.Settings.{Settings}
use Rattle.definitions.specs.Calls.Settings.{extract_under, extract_walk_under}
use Rattle.definitions.specs.Lists.Settings.{make_under, walk_under}
use Rattle.definitions.specs.Claims.Calls.{settled_refusals, exchange_refusals, merge_refusals, project_refusals, RefusedBy}
use Rattle.definitions.specs.Calls.Merge.{MergeOutcome, with_table, merge}
use Rattle.definitions.specs.Calls.Project.{project}
use Rattle.definitions.specs.Lists.History.{Call, loading, making, merging, projecting, FramesAreBytes}
use Rattle.host_calls.specs.Hosts.{hosted, hosted_walk}
use Rattle.theorems.proofs.Changes.{extract-writes}
use Rattle.theorems.proofs.Proved.{refusals-of-calls, refusals-under}
use Rattle.call_answers.specs.Outcomes.{Answered, answer_of, n_after, OutcomeIs, MergeIs}
use Rattle.call_answers.proofs.Settling.{by-settings}
use Rattle.call_answers.specs.Lists.{Lent, CallIs, Ran, no_call, called, given, carried, ran_to}
use Rattle.call_answers.specs.declared.answers.Extracted.{Extracted}
use Rattle.node_table.specs.Records.{nodes_of}
use Rattle.host_calls.specs.Hosted.{CallHosted, MergeHosted}
use Rattle.host_lists.specs.Numbers.{answered, walk_answered, walk_carried, next_n, made_answered, made_carried, made_number, answered_by, carried_by, number_by, answers_by, walks_by, numbers_by, SettingsFit}
use Rattle.host_lists.specs.HostLists.{Host, MadeHosted, HostCall, HostRan, made_none, made_one, host_to}
use Rattle.host_lists.proofs.Numbers.{known, walk-known, answers-of-calls, Named, answer-from, extract-named, exchange-named, merge-named, project-named}

-- What a host owns, as the code's calls are lent it.
abbrev pub lent_of : Host → Lent
lent_of h = record { n = h.n; buffer = h.plan; table = nodes_of h.table }

-- ---- n is what the answer tells

n-is : (n : ℕ) (r : Answered) → n_after n r ≡ next_n n (answer_of r)
n-is n (Ok m) = refl
n-is n (Err why) = refl

n-told : (n : ℕ) (x : Result ℕ) (m : ℕ) (r : Answered) → answer_of r ≡ x → m ≡ next_n n x → n_after n r ≡ m
n-told n x m r e f = n-is n r ∙ ap (next_n n) e ∙ sym f

-- By the answer that is read off.
n-read : (n : ℕ) (x : Result ℕ) (m : ℕ) (r : Answered) → x ≡ answer_of r → m ≡ next_n n x → m ≡ n_after n r
n-read n x m r e f = f ∙ ap (next_n n) e ∙ sym (n-is n r)

finish-n : (n : ℕ) (buffer scratch : List ℕ) (x : Result (List ℕ))
    → (finish n buffer scratch x).n ≡ next_n n (finish n buffer scratch x).answer
unfolding finish
finish-n n buffer scratch (ok bytes) = refl
finish-n n buffer scratch (refused number) = refl

pub make-n : (match : Matcher) (kind : Kind) (n : ℕ) (buffer scratch : List ℕ) (table : List NodeRecord)
    → (make_by match kind n buffer scratch table).n ≡ next_n n (make_by match kind n buffer scratch table).answer
unfolding make_by exchange
make-n match extract_call n buffer scratch table =
    extract-writes match n buffer scratch table (λ (o : Outcome). o.n ≡ next_n n o.answer)
    (finish-n n buffer scratch _) (finish-n n buffer scratch (refused 10))
make-n match exchange_call n buffer scratch table = finish-n n buffer scratch _

exchange-n : (n : ℕ) (buffer scratch : List ℕ) → (exchange n buffer scratch).n ≡ next_n n (exchange n buffer scratch).answer
unfolding exchange
exchange-n n buffer scratch = finish-n n buffer scratch _

merge-n : (frame : List ℕ) (n : ℕ) (buffer scratch : List ℕ) (table : List NodeRecord)
    → (merge frame n buffer scratch table).n ≡ next_n n (merge frame n buffer scratch table).answer
unfolding merge with_table
merge-n frame n buffer scratch table = finish-n n buffer scratch _

project-n : (n : ℕ) (buffer scratch of_left of_right : List ℕ)
    → (project n buffer scratch of_left of_right).n ≡ next_n n (project n buffer scratch of_left of_right).answer
unfolding project
project-n n buffer scratch of_left of_right = finish-n n buffer scratch _

loaded-n : (frame : List ℕ) (n : ℕ) (buffer : List ℕ) (table : List NodeRecord) (x : Result Frame)
    → (finish_load frame n buffer table x).n ≡ next_n n (finish_load frame n buffer table x).answer
unfolding finish_load
loaded-n frame n buffer table (ok F) = refl
loaded-n frame n buffer table (refused number) = refl

pub load-n : (frame : List ℕ) (n : ℕ) (buffer : List ℕ) (table : List NodeRecord)
    → (load frame n buffer table).n ≡ next_n n (load frame n buffer table).answer
unfolding load
load-n frame n buffer table = loaded-n frame n buffer table _

-- Nor does a load's answer depend on n.
loaded-same : (frame : List ℕ) (n m : ℕ) (buffer : List ℕ) (table : List NodeRecord) (x : Result Frame)
    → (finish_load frame n buffer table x).answer ≡ (finish_load frame m buffer table x).answer
unfolding finish_load
loaded-same frame n m buffer table (ok F) = refl
loaded-same frame n m buffer table (refused number) = refl

pub load_same : (frame : List ℕ) (n m : ℕ) (buffer : List ℕ) (table : List NodeRecord)
    → (load frame n buffer table).answer ≡ (load frame m buffer table).answer
unfolding load
load_same frame n m buffer table = loaded-same frame n m buffer table _

-- ---- each contract of an exported call is that of a call of the code

outcome-is : (o : Outcome) (n : ℕ) (after kept : List ℕ) (r : Answered) → answer_of r ≡ o.answer → o.n ≡ next_n n o.answer
    → after ≡ o.buffer → kept ≡ o.scratch → OutcomeIs o n after kept r
outcome-is o n after kept r e f g h = rw (e, n-told n o.answer o.n r e f, g, h) refl

-- A call with these refusals.
call-is : (numbers : List ℕ) → Named numbers → (o : Outcome) (n : ℕ) (before after kept : List ℕ) (z : ℤ) → RefusedBy numbers o.answer
    → o.n ≡ next_n n o.answer → CallHosted before o after kept z
    → (r : Answered) × OutcomeIs o n after kept r × (z ≡ hosted (answer_of r))
call-is numbers named o n before after kept z h f c =
    let (r, e) = answer-from numbers named o.answer h in
    (r, outcome-is o n after kept r e f c.2 c.3, c.1 ∙ ap hosted (sym e))

-- What an extract or exchange that met its contract is, and what is read off its number.
pub record MadeIs (S : Settings) (kind : Kind) (b : Host) (scratch after kept : List ℕ) (z : ℤ) : Type 0 where
  pub answer : Answered
  pub is : OutcomeIs (make_under S kind b.n b.plan scratch (nodes_of b.table)) b.n after kept answer
  pub number : z ≡ made_number kind (walk_under S kind b.n b.plan scratch (nodes_of b.table)) (answer_of answer)
  pub read : made_answered kind z ≡ answer_of answer
  pub carries : made_carried kind z ≡ walk_under S kind b.n b.plan scratch (nodes_of b.table)

extract-n : (S : Settings) → SettingsFit S → (n : ℕ) (buffer scratch : List ℕ) (table : List NodeRecord)
    → (extract_under S n buffer scratch table).n ≡ next_n n (extract_under S n buffer scratch table).answer
unfolding make_by
extract-n S fits n buffer scratch table =
    by-settings S n buffer scratch table (λ (o : Outcome) (w : ℕ). o.n ≡ next_n n o.answer)
    (λ g. make-n _ extract_call n buffer scratch table) refl fits

pub made-is : (S : Settings) → SettingsFit S → (kind : Kind) (b : Host) (scratch after kept : List ℕ) (z : ℤ)
    → MadeHosted S kind b scratch after kept z → MadeIs S kind b scratch after kept z
unfolding make_by make_under walk_under
made-is S fits extract_call b scratch after kept z (bytes, same, plan, left) =
    let table : List NodeRecord = nodes_of b.table in
    let o : Outcome = extract_under S b.n b.plan scratch table in
    let w : ℕ = extract_walk_under S b.n b.plan scratch table in
    let (r, e) = answer-from settled_refusals extract-named o.answer (refusals-under.0 S b.n b.plan scratch table) in
    let (a, c) = walk-known w o.answer (answers-of-calls.1 S fits extract_call b.n b.plan scratch table bytes) in record {
      answer = r;
      is = outcome-is o b.n after kept r e (extract-n S fits b.n b.plan scratch table) plan left;
      number = same ∙ ap (hosted_walk w) (sym e);
      read = ap walk_answered same ∙ a ∙ sym e;
      carries = ap walk_carried same ∙ c;
    }
made-is S fits exchange_call b scratch after kept z c =
    let (r, o, same) = call-is exchange_refusals exchange-named (exchange b.n b.plan scratch) b.n b.plan after kept z
    (refusals-of-calls.2 b.n b.plan scratch) (exchange-n b.n b.plan scratch) c in
    record { answer = r; is = o; number = same; read = ap answered same ∙ known r; carries = refl }

pub project-is : (n : ℕ) (buffer scratch of_left of_right after kept : List ℕ) (z : ℤ)
    → CallHosted buffer (project n buffer scratch of_left of_right) after kept z
    → (r : Answered) × OutcomeIs (project n buffer scratch of_left of_right) n after kept r × (z ≡ hosted (answer_of r))
project-is n buffer scratch of_left of_right after kept z c =
    call-is project_refusals project-named (project n buffer scratch of_left of_right) n buffer after kept z
    (refusals-of-calls.6 n buffer scratch of_left of_right) (project-n n buffer scratch of_left of_right) c

merged-is : (o : MergeOutcome) (n : ℕ) (after kept : List ℕ) (filled : List NodeRecord) (r : Answered) → answer_of r ≡ o.answer
    → o.n ≡ next_n n o.answer → after ≡ o.buffer → kept ≡ o.scratch → filled ≡ o.table → MergeIs o n after kept filled r
merged-is o n after kept filled r e f g h t = rw (e, n-told n o.answer o.n r e f, g, h, t) refl

pub merge-is : (frame : List ℕ) (n : ℕ) (buffer scratch : List ℕ) (table : List NodeRecord) (after kept : List ℕ)
    (filled : List NodeRecord) (z : ℤ) → MergeHosted frame buffer (merge frame n buffer scratch table) after kept filled z
    → (r : Answered) × MergeIs (merge frame n buffer scratch table) n after kept filled r × (z ≡ hosted (answer_of r))
merge-is frame n buffer scratch table after kept filled z c =
    let o : MergeOutcome = merge frame n buffer scratch table in
    let (r, e) = answer-from merge_refusals merge-named o.answer (refusals-of-calls.5 frame n buffer scratch table) in
    (r, merged-is o n after kept filled r e (merge-n frame n buffer scratch table) c.3 c.4 c.5, c.2 ∙ ap hosted (sym e))

pub loaded-is : (o : LoadOutcome) (n : ℕ) (after : List ℕ) (filled : List NodeRecord) (r : Answered) → answer_of r ≡ o.answer
    → o.n ≡ next_n n o.answer → after ≡ o.buffer → filled ≡ o.table
    → o ≡ record { answer = answer_of r; n = n_after n r; buffer = after; table = filled }
loaded-is o n after filled r e f g t = rw (e, n-told n o.answer o.n r e f, g, t) refl

-- ---- lists

-- What one call is, and what is read off its number.
pub record OneIs (S : Settings) (b : Host) (c : Call) (a : Host) (z : ℤ) : Type 0 where
  pub answer : Extracted
  pub is : CallIs S (lent_of b) c (lent_of a) answer
  pub number : z ≡ number_by c answer.walk (answer_of answer.answer)
  pub read : answered_by c z ≡ answer_of answer.answer
  pub carries : carried_by c z ≡ answer.walk

-- An answer that carries no walk.
abbrev alone : Answered → Extracted
alone r = record { answer = r; walk = 0 }

pub one-is : (S : Settings) → SettingsFit S → (b : Host) (c : Call) (a : Host) (z : ℤ) → HostCall S b c a z → OneIs S b c a z
one-is S fits b (loading frame) a z is =
    let r : Answered = is.0.1 in
    let read : answered z ≡ answer_of r = ap answered is.0.3 ∙ known r in
    record { answer = alone r; is = (is.0.2, n-read b.n (answered z) a.n r read is.1); number = is.0.3; read = read; carries = refl }
one-is S fits b (making c) a z is =
    let m : MadeIs S c.kind b c.scratch a.plan is.0 z = made-is S fits c.kind b c.scratch a.plan is.0 z is.1 in
    record {
      answer = record { answer = m.answer; walk = walk_under S c.kind b.n b.plan c.scratch (nodes_of b.table) };
      is = (
        is.0,
        m.is,
        n-read b.n (made_answered c.kind z) a.n m.answer m.read is.2,
        ap nodes_of is.3,
        refl,
      );
      number = m.number;
      read = m.read;
      carries = m.carries;
    }
one-is S fits b (merging frame scratch) a z is =
    let (r, o, same) =
    merge-is frame b.n b.plan scratch (nodes_of b.table) a.plan is.0 (nodes_of a.table) z is.1 in
    let read : answered z ≡ answer_of r = ap answered same ∙ known r in record {
      answer = alone r;
      is = (is.0, o, n-read b.n (answered z) a.n r read is.2);
      number = same;
      read = read;
      carries = refl;
    }
one-is S fits b (projecting scratch of_left of_right) a z is =
    let (r, o, same) = project-is b.n b.plan scratch of_left of_right a.plan is.0 z is.1 in
    let read : answered z ≡ answer_of r = ap answered same ∙ known r in record {
      answer = alone r;
      is = (is.0, o, n-read b.n (answered z) a.n r read is.2, ap nodes_of is.3);
      number = same;
      read = read;
      carries = refl;
    }

-- What a list is, and what is read off its numbers.
pub record RanAs (S : Settings) (b : Host) (calls : List Call) (numbers : List ℤ) (last : Host) : Type 0 where
  pub answers : List Extracted
  pub ran : Ran S (lent_of b) calls answers (lent_of last)
  pub numbered : numbers ≡ numbers_by calls (carried answers) (given answers)
  pub read : answers_by calls numbers ≡ given answers
  pub carries : walks_by calls numbers ≡ carried answers

pub host-ran : {S : Settings} → SettingsFit S → {b last : Host} {calls : List Call} {numbers : List ℤ} → HostRan S b calls numbers last
    → RanAs S b calls numbers last
host-ran fits made_none = record { answers = []; ran = no_call; numbered = refl; read = refl; carries = refl }
host-ran {S} fits (made_one {b} {a} {c = c} {z = z} is more) =
    let one : OneIs S b c a z = one-is S fits b c a z is in
    let rest = host-ran fits more in record {
      answers = one.answer ∷ rest.answers;
      ran = called one.is rest.ran;
      numbered = ap₂ (λ (x : ℤ) (l : List ℤ). x ∷ l) one.number rest.numbered;
      read = ap₂ (λ (x : Result ℕ) (l : List (Result ℕ)). x ∷ l) one.read rest.read;
      carries = ap₂ (λ (x : ℕ) (l : List ℕ). x ∷ l) one.carries rest.carries;
    }

-- Every frame of such a list is of bytes, since the exported load and merge were lent it.
pub frames-bytes : {S : Settings} {b last : Host} {calls : List Call} {numbers : List ℤ} → HostRan S b calls numbers last
    → FramesAreBytes calls
frames-bytes made_none = tt
frames-bytes (made_one {c = loading frame} is more) = (is.0.0, frames-bytes more)
frames-bytes (made_one {c = making c} is more) = (tt, frames-bytes more)
frames-bytes (made_one {c = merging frame scratch} is more) = (is.1.0, frames-bytes more)
frames-bytes (made_one {c = projecting scratch of_left of_right} is more) = (tt, frames-bytes more)

-- What is read off its numbers is what the code answered.
pub outcomes-same : {S : Settings} {b last : Host} {calls : List Call} {numbers : List ℤ} (r : RanAs S b calls numbers last)
    → ran_to r.answers (lent_of last) ≡ host_to calls numbers last
outcomes-same {last = last} r =
    ap₂ (λ (l : List (Result ℕ)) (w : List ℕ). record { answers = l; walks = w; n = last.n; buffer = last.plan })
    (sym r.read) (sym r.carries)

-- A number that is a length is that of a length.
pub length-told : (m : ℕ) (r : Answered) → pos m ≡ hosted (answer_of r) → r ≡ Ok m
unfolding accepted
length-told m (Ok k) e = ap Ok (sym (ap (λ (z : ℤ). next_n 0 (answered z)) e ∙ ap (next_n 0) (known (Ok k))))
length-told m (Err why) e = absurd (false≢true (sym (ap (λ (z : ℤ). accepted (answered z)) e ∙ ap accepted (known (Err why)))))
