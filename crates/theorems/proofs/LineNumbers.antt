-- A line of the program keeps a good plan in a buffer of 16,384 bytes, and so is never refused with 9 or 10.
use Rattle.std.specs.Prelude.{if◌then◌else◌}
use Prim.Native.Nat.{ℕ, ◌-◌, ◌≤◌, ◌<◌}
use native.Mathlib.Omega.{arith}
use mathlib.Core.Path.{◌≡◌, refl, sym, ap, ◌∙◌, subst}
use mathlib.Core.Bool.{Bool, true, ◌&&◌}
use mathlib.Core.List.{List, [], ◌∷◌, ◌++◌, append_assoc}
use mathlib.Core.Option.{Option, none, some}
use lib.ListN.{length, take, replicate, length-replicate}
use lib.Dec.{leb, eqb}
use borrow.Author.Tests.{leb-true, le-leb}
use Rattle.definitions.specs.Words.Limits.{most_bytes, most_nodes, most_digits}
use Rattle.definitions.specs.Words.Basics.{Result, ok, refused, map_result, any}
use Rattle.definitions.specs.Words.Expression.{Frame, Extraction, Plan, empty, held, extracted}
use Rattle.definitions.specs.Bytes.Encode.{plan_bytes}
use Rattle.definitions.specs.Bytes.Plans.{physical_frame, logical_frame, frame_of, logical_of, plan_of}
use Rattle.definitions.specs.Filter.Extract.{extraction}
use Rattle.definitions.specs.Filter.Exchange.{exchange_plan}
use Rattle.definitions.specs.Calls.Base.{written_over, tabled, new_after_load, finish_load, LoadOutcome, load, Outcome, finish, held_plan, new_after_exchange, exchange, matched_bytes, new_after_extract, new_after_extract_by, extract_filled_by}
use Rattle.definitions.specs.Lists.Machine.{Kind, extract_call, exchange_call}
use Rattle.definitions.specs.Bytes.Good.{AllBytes, nodes, plan_nodes, GoodPlan}
use Rattle.definitions.specs.Bytes.NodeTable.{NodeRecord, blank}
use Rattle.definitions.specs.Calls.Logical.{logical_answer, logical, logical_bytes}
use Rattle.definitions.specs.Lists.Program.{digit_value, pair_bytes, digit_bytes, or_refused, line_bytes, Kept, LineOutcome, refused_line, load_line, logical_line, line_call, call_line, line_of, read_line, line_outcome, written_line, output_from, fresh_plan}
use Rattle.definitions.specs.Claims.Short.{kept_after, line_refusals, LineRefusals}
use Rattle.theorems.proofs.Tools.{by-test, and-both}
use Rattle.theorems.proofs.InverseFrame.{frame_back}
use Rattle.theorems.proofs.ExchangeGood.{exchange-good}
use Rattle.theorems.proofs.ExtractGood.{GoodExtraction, extraction-good}
use Rattle.theorems.proofs.RoundTripPlan.{plan-reads}
use Rattle.theorems.proofs.Changes.{over-same, over_first}
use Rattle.theorems.proofs.RefusalNumbers.{Refuses, In, physical-only, logical-only, result-only, map-only, refused-by}

-- ---- a line's digits are bytes

-- A digit's value, if it has one.
abbrev Digit : Option ℕ → Type 0
Digit none = Unit {0}
Digit (some v) = v < 16

digit-below : (c : ℕ) → Digit (digit_value c)
unfolding digit_value
digit-below c =
    by-test Digit (leb 48 c && leb c 57) (some (c - 48)) _
    (λ e. omega (arith, leb-true c 57 (and-both (leb 48 c) (leb c 57) e).1))
    (λ _. by-test Digit (leb 97 c && leb c 102) (some (c - 87)) none
    (λ e. omega (arith, leb-true c 102 (and-both (leb 97 c) (leb c 102) e).1)) (λ _. tt))

-- The bytes, if there are any.
abbrev Bytes : Option (List ℕ) → Type 0
Bytes none = Unit {0}
Bytes (some bytes) = AllBytes bytes

pair-bytes : (h l : Option ℕ) (others : Option (List ℕ)) → Digit h → Digit l → Bytes others → Bytes (pair_bytes h l others)
unfolding pair_bytes
pair-bytes none l others p q b = tt
pair-bytes (some h) none others p q b = tt
pair-bytes (some h) (some l) none p q b = tt
pair-bytes (some h) (some l) (some bytes) p q b = (omega arith, b)

digits-bytes : (line : List ℕ) → Bytes (digit_bytes line)
unfolding digit_bytes
digits-bytes [] = tt
digits-bytes (a ∷ []) = tt
digits-bytes (a ∷ b ∷ line) =
    pair-bytes (digit_value a) (digit_value b) (digit_bytes line) (digit-below a) (digit-below b) (digits-bytes line)

-- ---- what is kept

-- A good plan, in the first n of 16,384 bytes.
record Keeps (k : Kept) : Type 0 where
  plan : Plan
  good : GoodPlan plan
  bytes : take k.n k.buffer ≡ plan_bytes plan
  size : k.n ≡ length (plan_bytes plan)
  room : length k.buffer ≡ most_bytes

held_kept : (k : Kept) (h : Keeps k) → held_plan k.n k.buffer ≡ ok h.plan
unfolding held_plan
held_kept k h =
    ap (λ (b : Bool). if b then plan_of (take k.n k.buffer) else refused 10)
    (le-leb k.n (length k.buffer) (omega (arith, h.size, h.good.few_bytes, h.room)))
    ∙ ap plan_of h.bytes ∙ plan-reads h.plan h.good

-- A line has an answer or one of its refusals, and keeps a plan.
record Fine (o : LineOutcome) : Type 0 where
  number : Refuses (In line_refusals) o.answer
  keeps : Keeps o.kept

refusal-fine : (number : ℕ) (k : Kept) → In line_refusals number → Keeps k → Fine (refused_line number k)
unfolding refused_line
refusal-fine number k p h = record { number = p; keeps = h }

-- A line by what its call gives.
abbrev line_by : (answer : Result ℕ) (n : ℕ) (buffer : List ℕ) → LineOutcome
line_by answer n buffer = record { answer = map_result (λ m. take m buffer) answer; kept = record { n = n; buffer = buffer } }

-- A good plan that is written to the buffer is kept.
written-fine : (p : Plan) (buffer : List ℕ) → GoodPlan p → length buffer ≡ most_bytes
    → Fine (line_by (ok (length (plan_bytes p))) (length (plan_bytes p)) (written_over (plan_bytes p) buffer))
written-fine p buffer g room = record {
  number = tt;
  keeps = record {
    plan = p;
    good = g;
    bytes = over_first (plan_bytes p) buffer;
    size = refl;
    room = (over-same (plan_bytes p) buffer (omega (arith, g.few_bytes, room))).as_many ∙ room;
  };
}

-- ---- load

frame-numbers : (bytes : List ℕ) → Refuses (In line_refusals) (frame_of bytes)
unfolding frame_of line_refusals any
frame-numbers bytes =
    result-only (In line_refusals) (physical_frame 0 bytes)
    (physical-only (In line_refusals) refl refl refl refl refl refl refl refl 0 bytes)

abbrev load_by : (bytes : List ℕ) → Kept → (table : List NodeRecord) → Result Frame → LineOutcome
load_by bytes k table r =
    let o : LoadOutcome = finish_load bytes k.n k.buffer table r in line_by o.answer o.n o.buffer

loaded-fine : (bytes : List ℕ) (k : Kept) (table : List NodeRecord) (r : Result Frame) → length table ≡ most_nodes → AllBytes bytes
    → frame_of bytes ≡ r → Refuses (In line_refusals) r → Keeps k
    → Fine (load_by bytes k table (new_after_load bytes (length k.buffer) (length table) r))
unfolding new_after_load tabled finish_load plan_bytes plan_nodes
loaded-fine bytes k table (refused number) size b e p h = record { number = p; keeps = h }
loaded-fine bytes k table (ok F) size b e p h =
    let (same, good) = frame_back bytes F b e in
    let fits : length bytes ≤ length k.buffer = omega (arith, ap length same, good.few_bytes, h.room) in
    let enough : nodes F.expr ≤ length table = omega (arith, good.few_nodes, size) in
    rw (le-leb (length bytes) (length k.buffer) fits, le-leb (nodes F.expr) (length table) enough)
    (subst (λ (s : List ℕ). Fine (line_by (ok (length s)) (length s) (written_over s k.buffer))) (sym same)
    (written-fine (held F) k.buffer good h.room))

load-fine : (bytes : List ℕ) (k : Kept) → AllBytes bytes → Keeps k → Fine (load_line bytes k)
unfolding load_line load
load-fine bytes k b h =
    loaded-fine bytes k (replicate most_nodes blank) (frame_of bytes) (length-replicate most_nodes blank) b refl (frame-numbers bytes) h

-- ---- logical

logical-fine : (bytes : List ℕ) (k : Kept) → Keeps k → Fine (logical_line bytes k)
unfolding logical_line logical logical_of line_refusals any
logical-fine bytes k h = record {
  number =
      map-only (In line_refusals) logical_bytes (logical bytes) (map-only (In line_refusals) logical_answer (logical_of bytes)
      (result-only (In line_refusals) (logical_frame 0 bytes) (logical-only (In line_refusals) refl refl refl refl refl refl 0 bytes)));
  keeps = h;
}

-- ---- extract and exchange

abbrev made_by : Kept → (scratch : List ℕ) → Result (List ℕ) → LineOutcome
made_by k scratch x = let o : Outcome = finish k.n k.buffer scratch x in line_by o.answer o.n o.buffer

refused-fine : (number : ℕ) (k : Kept) (scratch : List ℕ) → In line_refusals number → Keeps k → Fine (made_by k scratch (refused number))
unfolding finish
refused-fine number k scratch p h = record { number = p; keeps = h }

plan-fine : (p : Plan) (k : Kept) (scratch : List ℕ) → GoodPlan p → Keeps k → Fine (made_by k scratch (ok (plan_bytes p)))
unfolding finish
plan-fine p k scratch g h = written-fine p k.buffer g h.room

matched-fine : (F : Frame) (x : Option Extraction) (k : Kept) (scratch : List ℕ) → GoodExtraction F x → Keeps k
    → Fine (made_by k scratch (matched_bytes x))
unfolding matched_bytes line_refusals any
matched-fine F none k scratch g h = refused-fine 13 k scratch refl h
matched-fine F (some X) k scratch g h = plan-fine (extracted X) k scratch g.0 h

module _ (k : Kept) (scratch : List ℕ) (h : Keeps k) (wide : length scratch ≡ most_bytes) where
  -- The scratch is long enough.
  enough : leb k.n (length scratch) ≡ true
  enough = le-leb k.n (length scratch) (omega (arith, h.size, h.good.few_bytes, wide))

  exchange-fine : (p : Plan) → GoodPlan p → Fine (made_by k scratch (new_after_exchange k.n (length scratch) (ok p)))
  unfolding new_after_exchange line_refusals any
  exchange-fine empty g = refused-fine 11 k scratch refl h
  exchange-fine (held F) g = rw enough (plan-fine (exchange_plan (held F)) k scratch (exchange-good (held F) g) h)
  exchange-fine (extracted X) g = rw enough (plan-fine (exchange_plan (extracted X)) k scratch (exchange-good (extracted X) g) h)

  extract-fine : (p : Plan) → GoodPlan p → Fine (made_by k scratch (new_after_extract k.n (length scratch) (ok p)))
  unfolding new_after_extract_by line_refusals any
  extract-fine empty g = refused-fine 11 k scratch refl h
  extract-fine (extracted X) g = refused-fine 12 k scratch refl h
  extract-fine (held F) g = rw enough (matched-fine F (extraction F) k scratch (extraction-good F g) h)

  call-fine : (kind : Kind)
      → Fine (line_by (line_call kind k.n k.buffer scratch).answer (line_call kind k.n k.buffer scratch).n
      (line_call kind k.n k.buffer scratch).buffer)
  unfolding line_call exchange extract_filled_by
  call-fine extract_call = rw (held_kept k h) (extract-fine h.plan h.good)
  call-fine exchange_call = rw (held_kept k h) (exchange-fine h.plan h.good)

-- ---- a line

made-fine : (kind : Kind) (more : List ℕ) (k : Kept) → Keeps k → Fine (call_line kind more k)
unfolding call_line line_refusals any
made-fine kind (b ∷ more) k h = refusal-fine 7 k refl h
made-fine kind [] k h = call-fine k (replicate most_bytes 0) h (length-replicate {A = ℕ} most_bytes 0) kind

of-bytes-fine : (bytes : List ℕ) (k : Kept) → AllBytes bytes → Keeps k → Fine (line_of bytes k)
unfolding line_of line_refusals any
of-bytes-fine [] k b h = refusal-fine 1 k refl h
of-bytes-fine (first ∷ more) k b h =
    by-test Fine (eqb first 0x01) _ _ (λ _. load-fine (first ∷ more) k b h)
    (λ _. by-test Fine (eqb first 0x02) _ _ (λ _. logical-fine (first ∷ more) k h)
    (λ _. by-test Fine (eqb first 0x21) _ _ (λ _. made-fine extract_call more k h)
    (λ _. by-test Fine (eqb first 0x22) _ _ (λ _. made-fine exchange_call more k h) (λ _. refusal-fine 2 k refl h))))

digits-fine : (x : Option (List ℕ)) (k : Kept) → Bytes x → Keeps k → Fine (read_line (or_refused 14 x) k)
unfolding read_line or_refused line_refusals any
digits-fine none k b h = refusal-fine 14 k refl h
digits-fine (some bytes) k b h = of-bytes-fine bytes k b h

line-fine : (line : List ℕ) (k : Kept) → Keeps k → Fine (line_outcome line k)
unfolding line_outcome line_bytes
line-fine line k h =
    by-test (λ (x : Result (List ℕ)). Fine (read_line x k)) (leb (length line) most_digits) (or_refused 14 (digit_bytes line)) (refused 14)
    (λ _. digits-fine (digit_bytes line) k (digits-bytes line) h)
    (λ _. unfold read_line line_refusals any in refusal-fine 14 k refl h)

-- ---- lines, one after another

fresh_keeps : Keeps fresh_plan
unfolding fresh_plan plan_bytes plan_nodes
fresh_keeps = record {
  plan = empty;
  good = record { readable = tt; few_nodes = omega arith; few_bytes = omega arith };
  bytes = refl;
  size = refl;
  room = length-replicate {A = ℕ} most_bytes 0;
}

kept-keeps : (lines : List (List ℕ)) (k : Kept) → Keeps k → Keeps (kept_after k lines)
unfolding kept_after
kept-keeps [] k h = h
kept-keeps (line ∷ lines) k h = kept-keeps lines (line_outcome line k).kept (line-fine line k h).keeps

written-there : (before : List (List ℕ)) (line : List ℕ) (later : List (List ℕ)) (k : Kept)
    → output_from k (before ++ (line ∷ later))
    ≡ output_from k before
    ++ (written_line (line_outcome line (kept_after k before)).answer ++ output_from (line_outcome line (kept_after k before)).kept later)
unfolding output_from kept_after
written-there [] line later k = refl
written-there (one ∷ before) line later k =
    ap (λ (s : List ℕ). written_line (line_outcome one k).answer ++ s) (written-there before line later (line_outcome one k).kept)
    ∙ sym (append_assoc (written_line (line_outcome one k).answer) (output_from (line_outcome one k).kept before) _)

pub line-refusals-by : LineRefusals
line-refusals-by before line later =
    let kept : Kept = kept_after fresh_plan before in
    let fine : Fine (line_outcome line kept) = line-fine line kept (kept-keeps before fresh_plan fresh_keeps) in
    (refused-by line_refusals (line_outcome line kept).answer fine.number, written-there before line later fresh_plan)
