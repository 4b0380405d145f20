-- A held frame is the machine's first plan, so every list of calls from it agrees with the machine; and an accepted load leaves one.
use Rattle.std.specs.Prelude.{if◌then◌else◌}
use Prim.Native.Nat.{ℕ, ◌≤◌}
use native.Mathlib.Omega.{arith}
use mathlib.Core.Path.{◌≡◌, refl, sym, ap, ap₂, ◌∙◌, subst}
use mathlib.Core.Bool.{Bool, true, false, ◌&&◌, false≢true}
use mathlib.Core.List.{List, ◌++◌}
use lib.ListN.{length, drop, length-append}
use lib.Seq.{take-append_seam, length-take-le}
use lib.Dec.{leb}
use borrow.Author.Tests.{leb-true}
use Rattle.definitions.specs.Words.Basics.{Result, ok, refused}
use Rattle.definitions.specs.Words.Expression.{Frame, held}
use Rattle.definitions.specs.Bytes.Encode.{plan_bytes, frame_bytes}
use Rattle.definitions.specs.Bytes.Plans.{frame_of}
use Rattle.definitions.specs.Filter.Extract.{Matcher}
use Rattle.definitions.specs.Calls.Base.{LoadOutcome, written_over, tabled, filled_by, table_fits, new_after_load, finish_load, load, held_plan}
use Rattle.definitions.specs.Lists.Machine.{machine_plan, machine_length, fresh}
use Rattle.definitions.specs.Bytes.Good.{nodes, GoodPlan}
use Rattle.definitions.specs.Bytes.NodeTable.{NodeRecord, node_table}
use Rattle.definitions.specs.Lists.Sessions.{Made, machine_after_by, accepted, SessionBy, after}
use Rattle.definitions.specs.Meaning.Values.{Meaning}
use Rattle.definitions.specs.Meaning.Matchers.{Lawful}
use Rattle.definitions.specs.Claims.Lists.{LoadAccepted, LeavesSession, LoadHoldsBy, AgreeBy}
use Rattle.theorems.proofs.RoundTripPlan.{frame-reads}
use Rattle.theorems.proofs.InverseFrame.{frame_back}
use Rattle.theorems.proofs.NodeTables.{begins-filled}
use Rattle.theorems.proofs.Lists.{Holds, AgreesAll, run-agrees, fits-held}

module _ (frame : List ℕ) (n : ℕ) (buffer : List ℕ) (table : List NodeRecord) where
  -- An accepted load found a frame that fits the plan buffer and the table, and wrote it there.
  pub record Taken (r : Result Frame) : Type 0 where
    pub frame-taken : Frame
    pub is : r ≡ ok frame-taken
    pub fits : length frame ≤ length buffer
    pub enough : nodes frame-taken.expr ≤ length table
    pub done : finish_load frame n buffer table (new_after_load frame (length buffer) (length table) r)
        ≡ finish_load frame n buffer table (ok frame-taken)

  room-taken : (F : Frame) (b t : Bool) → leb (length frame) (length buffer) ≡ b → leb (nodes F.expr) (length table) ≡ t
      → accepted (finish_load frame n buffer table (if b then (if t then ok F else refused 17) else refused 9)).answer ≡ true
      → Taken (ok F)
  unfolding new_after_load tabled finish_load accepted
  room-taken F true true e f a = record {
    frame-taken = F;
    is = refl;
    fits = leb-true (length frame) (length buffer) e;
    enough = leb-true (nodes F.expr) (length table) f;
    done = ap₂ (λ (x y : Bool). finish_load frame n buffer table (if x then (if y then ok F else refused 17) else refused 9)) e f;
  }
  room-taken F true false e f a = absurd (false≢true a)
  room-taken F false t e f a = absurd (false≢true a)

  load-taken : (r : Result Frame)
      → accepted (finish_load frame n buffer table (new_after_load frame (length buffer) (length table) r)).answer ≡ true → Taken r
  unfolding new_after_load tabled finish_load accepted
  load-taken (ok F) a = room-taken F (leb (length frame) (length buffer)) (leb (nodes F.expr) (length table)) refl refl a
  load-taken (refused number) a = absurd (false≢true a)

  pub taken-by : accepted (load frame n buffer table).answer ≡ true → Taken (frame_of frame)
  unfolding load
  taken-by a = load-taken (frame_of frame) a

-- ---- a load

-- A good frame that is written over a plan buffer with room for it, its records over a table, is held, whatever the matcher.
pub written_held : (match : Matcher) (F : Frame) (bytes buffer : List ℕ) (table : List NodeRecord) → bytes ≡ frame_bytes F
    → GoodPlan (held F) → length bytes ≤ length buffer
    → LeavesSession match F (length bytes) (written_over bytes buffer) (written_over (node_table F) table)
unfolding written_over
written_held match F bytes buffer table same good fits = (
  record {
    n = length bytes;
    buffer = bytes ++ drop (length bytes) buffer;
    table = node_table F ++ drop (length (node_table F)) table;
    good = good;
    fits = simp length-append (omega arith);
    holds = take-append_seam bytes (drop (length bytes) buffer) ∙ same;
    filled = begins-filled (node_table F) table;
  },
  refl,
  refl,
  refl,
)

pub load-held : (match : Matcher) → LoadHoldsBy match
unfolding load finish_load filled_by
load-held match frame n buffer table bytes a =
    let t : Taken frame n buffer table (frame_of frame) = taken-by frame n buffer table a in
    let back = frame_back frame t.frame-taken bytes t.is in
    let h = written_held match t.frame-taken frame buffer table back.0 back.1 t.fits in
    let same : finish_load frame n buffer table (ok t.frame-taken) ≡ load frame n buffer table = sym t.done in (
      t.frame-taken,
      t.is,
      ap (λ (o : LoadOutcome). o.answer) t.done,
      subst (λ (o : LoadOutcome). LeavesSession match t.frame-taken o.n o.buffer o.table) same h,
    )

-- ---- lists of calls

module _ {match : Matcher} {Asks : Meaning → Type 0} (laws : Lawful match Asks) {F : Frame} (s : SessionBy match F) where
  session-size : s.n ≡ length (frame_bytes F)
  session-size = sym (length-take-le s.n s.buffer s.fits) ∙ ap length s.holds

  -- The machine's first plan is the frame.
  pub session-holds : Holds laws F fresh s.n s.buffer
  unfolding fresh machine_plan machine_length plan_bytes
  session-holds = record { reached = tt; size = session-size; bytes = s.holds; fits = s.fits }

  -- So any list of calls gives the machine's answers and leaves the machine's plan.
  pub after-all : (calls : List Made) → AgreesAll laws F (machine_after_by match F calls) (after s calls)
  after-all calls = run-agrees laws F s.table s.good s.filled calls fresh _ _ session-holds

  -- The table fits what is held then.
  pub stays : (calls : List Made) → table_fits s.table (held_plan (after s calls).n (after s calls).buffer) ≡ true
  stays calls = fits-held laws F _ _ _ s.table s.good s.filled (after-all calls).holds

  pub list-agrees : (calls : List Made) → AgreeBy match F (after s calls) (machine_after_by match F calls)
  list-agrees calls =
      let a : AgreesAll laws F (machine_after_by match F calls) (after s calls) = after-all calls in
      record { answers = a.answers; walks = a.walks; plan = a.holds.bytes; size = a.holds.size }

-- ---- when a load is accepted

-- Whether buffer and table have room decides, once the frame is read.
room-decides : (frame : List ℕ) (n : ℕ) (buffer : List ℕ) (table : List NodeRecord) (F : Frame) (b t : Bool)
    → accepted (finish_load frame n buffer table (if b then (if t then ok F else refused 17) else refused 9)).answer ≡ (b && t)
unfolding accepted finish_load
room-decides frame n buffer table F true true = refl
room-decides frame n buffer table F true false = refl
room-decides frame n buffer table F false t = refl

pub load-accepts : LoadAccepted
unfolding load new_after_load tabled
load-accepts F n buffer table g =
    ap (λ (r : Result Frame).
    accepted (finish_load (frame_bytes F) n buffer table (new_after_load (frame_bytes F) (length buffer) (length table) r)).answer)
    (frame-reads F g)
    ∙ room-decides (frame_bytes F) n buffer table F (leb (length (frame_bytes F)) (length buffer)) (leb (nodes F.expr) (length table))
