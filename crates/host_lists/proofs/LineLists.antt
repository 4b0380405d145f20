-- Each line of the program agrees with the machine's, so every list of lines does.
use Rattle.std.specs.Prelude.{if◌then◌else◌}
use Prim.Native.Nat.{ℕ, ◌<◌}
use native.Mathlib.Omega.{arith}
use mathlib.Core.Path.{◌≡◌, refl, sym, ap, ap₂, ◌∙◌, subst}
use mathlib.Core.Bool.{Bool, true, false}
use mathlib.Core.List.{List, [], ◌∷◌, ◌++◌}
use mathlib.Core.Option.{Option, none, some}
use lib.ListN.{length, take, replicate, length-replicate}
use lib.Dec.{leb, eqb}
use Rattle.definitions.specs.Words.Limits.{most_bytes, most_nodes, most_digits}
use Rattle.definitions.specs.Words.Basics.{Result, ok, refused, map_result}
use Rattle.definitions.specs.Words.Expression.{Frame}
use Rattle.definitions.specs.Bytes.Encode.{plan_bytes}
use Rattle.definitions.specs.Bytes.Plans.{frame_of}
use Rattle.definitions.specs.Filter.Match.{match_leaf}
use Rattle.definitions.specs.Calls.Base.{LoadOutcome, new_after_load, finish_load, load, Outcome, table_fits}
use Rattle.definitions.specs.Lists.Machine.{Kind, extract_call, exchange_call}
use Rattle.definitions.specs.Bytes.Good.{AllBytes}
use Rattle.definitions.specs.Bytes.NodeTable.{NodeRecord, blank}
use Rattle.definitions.specs.Lists.Sessions.{Made, make_by, make}
use Rattle.definitions.specs.Calls.Logical.{logical, logical_bytes}
use Rattle.definitions.specs.Lists.Program.{digit_value, pair_bytes, digit_bytes, or_refused, line_bytes, Kept, LineOutcome, refused_line, load_line, logical_line, line_call, call_line, line_of, read_line, line_outcome, written_line, lines_of, output_from, fresh_plan, output}
use Rattle.definitions.specs.Lists.History.{loading, making, State, nothing, state_plan, Answered, but_scratch, one_call_by}
use Rattle.theorems.proofs.MatchLaws.{match-laws}
use Rattle.theorems.proofs.TablesFit.{extract-filled-by}
use Rattle.theorems.proofs.Histories.{HoldsState, CallAgrees, state-left, state-held, call-agrees}
use Rattle.hexadecimal.proofs.DigitLaws.{value-below}
use Rattle.lines.specs.Answers.{length_after, kept_as}
use Rattle.host_lists.specs.LineLists.{MachineLine, refuse_line, line_of_call, program_call, machine_call_line, machine_line_of, machine_reads, machine_line, MachineLines, machine_lines, written, ProgramIsMachine, LinesRan, no_line, one_line, LinesMeetDemandThree}
use Rattle.host_lists.specs.Numbers.{next_n}
use Rattle.host_lists.proofs.Ran.{load-n, make-n}

-- ---- a line's digits are bytes

-- The bytes, if there are any.
abbrev Bytes : Option (List ℕ) → Type 0
Bytes none = Unit {0}
Bytes (some bytes) = AllBytes bytes

pair-bytes : (h l : Option ℕ) (others : Option (List ℕ)) → ((v : ℕ) → some v ≡ h → v < 16) → ((v : ℕ) → some v ≡ l → v < 16)
    → Bytes others → Bytes (pair_bytes h l others)
unfolding pair_bytes
pair-bytes none l others f g b = tt
pair-bytes (some h) none others f g b = tt
pair-bytes (some h) (some l) none f g b = tt
pair-bytes (some h) (some l) (some bytes) f g b = (omega (arith, f h refl, g l refl), b)

digits-bytes : (line : List ℕ) → Bytes (digit_bytes line)
unfolding digit_bytes
digits-bytes [] = tt
digits-bytes (a ∷ []) = tt
digits-bytes (a ∷ b ∷ line) =
    pair-bytes (digit_value a) (digit_value b) (digit_bytes line) (λ v e. value-below a e) (λ v e. value-below b e) (digits-bytes line)

-- Those of a line.
abbrev LineBytes : Result (List ℕ) → Type 0
LineBytes (ok bytes) = AllBytes bytes
LineBytes (refused number) = Unit {0}

or_bytes : (x : Option (List ℕ)) → Bytes x → LineBytes (or_refused 14 x)
unfolding or_refused
or_bytes none b = tt
or_bytes (some bytes) b = b

line-bytes : (line : List ℕ) → LineBytes (line_bytes line)
unfolding line_bytes
line-bytes line = by_length (leb (length line) most_digits) where
  by_length : (b : Bool) → LineBytes (if b then or_refused 14 (digit_bytes line) else refused 14)
  by_length true = or_bytes (digit_bytes line) (digits-bytes line)
  by_length false = tt

-- ---- what is kept stands for a state of the machine

-- n and a plan buffer of 16,384 bytes hold the state's plan, and some table of 1,024 records is filled with its nodes.
abbrev Stands : State → Kept → Type 0
Stands s k = (table : List NodeRecord) × HoldsState match-laws most_bytes most_nodes s k.n k.buffer table

-- What a line must give.
record LineAgrees (m : MachineLine) (o : LineOutcome) : Type 0 where
  answer : o.answer ≡ m.answer
  stands : Stands m.state o.kept

refusal-agrees : (number : ℕ) (s : State) (k : Kept) → Stands s k → LineAgrees (refuse_line number s) (refused_line number k)
unfolding refused_line
refusal-agrees number s k h = record { answer = refl; stands = h }

-- The bytes that are answered are the machine's plan.
plan-out : (x : Result ℕ) (n m : ℕ) (buffer plan : List ℕ) → m ≡ next_n n x → take m buffer ≡ plan
    → map_result (λ k. take k buffer) x ≡ map_result (λ k. plan) x
plan-out (ok k) n m buffer plan e f = ap ok (subst (λ (j : ℕ). take j buffer ≡ plan) e f)
plan-out (refused number) n m buffer plan e f = refl

-- An outcome that agrees with the machine's call.
call-line : (a : Answered) (n : ℕ) (o : LoadOutcome) → CallAgrees match-laws most_bytes most_nodes a o → o.n ≡ next_n n o.answer
    → LineAgrees (line_of_call a) (record {
      answer = map_result (λ k. take k o.buffer) o.answer;
      kept = record { n = o.n; buffer = o.buffer };
    })
call-line a n o c e = record {
  answer =
      plan-out o.answer n o.n o.buffer (plan_bytes (state_plan match_leaf a.state)) e
      (state-left match-laws most_bytes most_nodes a.state o.n o.buffer o.table c.holds).0
      ∙ ap (map_result (λ k. plan_bytes (state_plan match_leaf a.state))) c.answer;
  stands = (o.table, c.holds);
}

-- ---- load

-- Of a table only the length matters.
abbrev but-table : LoadOutcome → Outcome
but-table o = record { answer = o.answer; n = o.n; buffer = o.buffer; scratch = [] }

loaded-alike : (frame : List ℕ) (n : ℕ) (buffer : List ℕ) (t u : List NodeRecord) (x : Result Frame)
    → but-table (finish_load frame n buffer t x) ≡ but-table (finish_load frame n buffer u x)
unfolding finish_load
loaded-alike frame n buffer t u (ok F) = refl
loaded-alike frame n buffer t u (refused number) = refl

load-alike : (frame : List ℕ) (n : ℕ) (buffer : List ℕ) (t u : List NodeRecord) → length t ≡ length u
    → but-table (load frame n buffer t) ≡ but-table (load frame n buffer u)
unfolding load
load-alike frame n buffer t u e =
    ap (λ (k : ℕ). but-table (finish_load frame n buffer t (new_after_load frame (length buffer) k (frame_of frame)))) e
    ∙ loaded-alike frame n buffer t u (new_after_load frame (length buffer) (length u) (frame_of frame))

-- A line by an outcome's answer, n and buffer.
abbrev line_by : Outcome → LineOutcome
line_by o = record { answer = map_result (λ k. take k o.buffer) o.answer; kept = record { n = o.n; buffer = o.buffer } }

load-agrees : (s : State) (k : Kept) (bytes : List ℕ) → AllBytes bytes → Stands s k
    → LineAgrees (line_of_call (program_call s (loading bytes))) (load_line bytes k)
unfolding load_line
load-agrees s k bytes b (table, h) =
    let l = state-left match-laws most_bytes most_nodes s k.n k.buffer table h in
    let size : length table ≡ length (replicate most_nodes blank) = l.2.1 ∙ sym (length-replicate most_nodes blank) in
    let agrees : CallAgrees match-laws most_bytes most_nodes (program_call s (loading bytes)) (load bytes k.n k.buffer table) =
    unfold one_call_by in call-agrees match-laws most_bytes most_nodes s k.n k.buffer table (loading bytes) b h in
    subst (λ (o : Outcome). LineAgrees (line_of_call (program_call s (loading bytes))) (line_by o))
    (load-alike bytes k.n k.buffer table (replicate most_nodes blank) size)
    (call-line (program_call s (loading bytes)) k.n (load bytes k.n k.buffer table) agrees (load-n bytes k.n k.buffer table))

-- ---- extract and exchange

-- The table is as it was filled, so extract takes it.
same-call : (kind : Kind) (s : State) (k : Kept) (scratch : List ℕ) (table : List NodeRecord)
    → HoldsState match-laws most_bytes most_nodes s k.n k.buffer table
    → make kind k.n k.buffer scratch table ≡ line_call kind k.n k.buffer scratch
unfolding make_by line_call
same-call extract_call s k scratch table h =
    extract-filled-by match_leaf k.n k.buffer scratch table
    (ap (table_fits table) (state-held match-laws most_bytes most_nodes s k.n k.buffer table h).0
    ∙ (state-left match-laws most_bytes most_nodes s k.n k.buffer table h).3)
same-call exchange_call s k scratch table h = refl

made-agrees : (c : Made) (s : State) (k : Kept) (table : List NodeRecord)
    → HoldsState match-laws most_bytes most_nodes s k.n k.buffer table
    → CallAgrees match-laws most_bytes most_nodes (program_call s (making c))
    (but_scratch (make c.kind k.n k.buffer c.scratch table) table)
unfolding one_call_by
made-agrees c s k table h = call-agrees match-laws most_bytes most_nodes s k.n k.buffer table (making c) tt h

make-agrees : (kind : Kind) (s : State) (k : Kept) (more : List ℕ) → Stands s k
    → LineAgrees (machine_call_line kind more s) (call_line kind more k)
unfolding machine_call_line call_line
make-agrees kind s k (b ∷ more) h = refusal-agrees 7 s k h
make-agrees kind s k [] (table, h) =
    let scratch : List ℕ = replicate most_bytes 0 in
    let c : Made = record { kind = kind; scratch = scratch } in
    let o : Outcome = make kind k.n k.buffer scratch table in
    subst (λ (o : Outcome). LineAgrees (line_of_call (program_call s (making c))) (line_by o)) (same-call kind s k scratch table h)
    (call-line (program_call s (making c)) k.n (but_scratch o table)
    (made-agrees c s k table h) (make-n match_leaf kind k.n k.buffer scratch table))

-- ---- a line

logical-agrees : (bytes : List ℕ) (s : State) (k : Kept) → Stands s k
    → LineAgrees (record { answer = map_result logical_bytes (logical bytes); state = s }) (logical_line bytes k)
unfolding logical_line
logical-agrees bytes s k h = record { answer = refl; stands = h }

-- By a test.
either : (b : Bool) (m m' : MachineLine) (o o' : LineOutcome) → LineAgrees m o → LineAgrees m' o'
    → LineAgrees (if b then m else m') (if b then o else o')
either true m m' o o' h h' = h
either false m m' o o' h h' = h'

line-of-agrees : (bytes : List ℕ) (s : State) (k : Kept) → AllBytes bytes → Stands s k
    → LineAgrees (machine_line_of bytes s) (line_of bytes k)
unfolding machine_line_of line_of
line-of-agrees [] s k b h = refusal-agrees 1 s k h
line-of-agrees (first ∷ more) s k b h =
    either (eqb first 0x01) _ _ _ _ (load-agrees s k (first ∷ more) b h)
    (either (eqb first 0x02) _ _ _ _ (logical-agrees (first ∷ more) s k h)
    (either (eqb first 0x21) _ _ _ _ (make-agrees extract_call s k more h)
    (either (eqb first 0x22) _ _ _ _ (make-agrees exchange_call s k more h) (refusal-agrees 2 s k h))))

reads-agree : (x : Result (List ℕ)) (s : State) (k : Kept) → LineBytes x → Stands s k → LineAgrees (machine_reads x s) (read_line x k)
unfolding machine_reads read_line
reads-agree (ok bytes) s k b h = line-of-agrees bytes s k b h
reads-agree (refused number) s k b h = refusal-agrees number s k h

line-agrees : (line : List ℕ) (s : State) (k : Kept) → Stands s k → LineAgrees (machine_line line s) (line_outcome line k)
unfolding line_outcome
line-agrees line s k h = reads-agree (line_bytes line) s k (line-bytes line) h

-- ---- lists of lines

output-agrees : (lines : List (List ℕ)) (s : State) (k : Kept) → Stands s k
    → output_from k lines ≡ written (machine_lines s lines).answers
unfolding output_from machine_lines written
output-agrees [] s k h = refl
output-agrees (line ∷ lines) s k h =
    let one : LineAgrees (machine_line line s) (line_outcome line k) = line-agrees line s k h in
    ap₂ (λ (x y : List ℕ). x ++ y) (ap written_line one.answer)
    (output-agrees lines (machine_line line s).state (line_outcome line k).kept one.stands)

nothing-stands : (plan : List ℕ) → length plan ≡ most_bytes → Stands nothing (kept_as 0 plan)
nothing-stands plan e = (replicate most_nodes blank, (refl, (e, length-replicate most_nodes blank)))

pub program-is-machine : ProgramIsMachine
unfolding output fresh_plan
program-is-machine input =
    output-agrees (lines_of input) nothing _ (nothing-stands (replicate most_bytes 0) (length-replicate {A = ℕ} most_bytes 0))

-- What lines that were answered give and leave.
record AllAgree (m : MachineLines) (answers : List (Result (List ℕ))) (last : Kept) : Type 0 where
  same : answers ≡ m.answers
  stands : Stands m.state last

lines-agree : {k last : Kept} {lines : List (List ℕ)} {answers : List (Result (List ℕ))} → LinesRan k lines answers last
    → (s : State) → Stands s k → AllAgree (machine_lines s lines) answers last
unfolding machine_lines
lines-agree no_line s h = record { same = refl; stands = h }
lines-agree (one_line {k} {plan = plan} {line = line} {r = r} is more) s h =
    let one : LineAgrees (machine_line line s) (line_outcome line k) = line-agrees line s k h in
    let held : Stands (machine_line line s).state (kept_as (length_after k.n r) plan) =
    subst (Stands (machine_line line s).state) (sym is.kept) one.stands in
    let others = lines-agree more (machine_line line s).state held in record {
      same = ap₂ (λ (x : Result (List ℕ)) (l : List (Result (List ℕ))). x ∷ l) (is.answer ∙ one.answer) others.same;
      stands = others.stands;
    }

pub lines-meet-demand-three : LinesMeetDemandThree
lines-meet-demand-three plan e lines answers last ran =
    let all = lines-agree ran nothing (nothing-stands plan e) in
    let m : MachineLines = machine_lines nothing lines in
    let l = state-left match-laws most_bytes most_nodes m.state last.n last.buffer all.stands.0 all.stands.1 in
    (all.same, l.0, l.1)
