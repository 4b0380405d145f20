-- What the call is, once the frame's answer, the buffer's length and what was written are known.
use Rattle.std.specs.Prelude.{if◌then◌else◌, Ok}
use Prim.Native.Nat.{ℕ, ◌+◌, ◌/◌, ◌≤◌, ◌<◌, min}
use native.Mathlib.Omega.{arith}
use mathlib.Core.Path.{◌≡◌, sym, ap, ap₂, ◌∙◌}
use mathlib.Core.Bool.{Bool, true, false}
use mathlib.Core.List.{List, ◌++◌}
use lib.ListN.{length, take, drop, replicate, length-replicate, length-take, length-map}
use lib.Dec.{leb}
use borrow.Author.Tests.{le-leb, lt-leb}
use Rattle.definitions.specs.Words.Basics.{Result, ok, refused}
use Rattle.definitions.specs.Words.Expression as tree
use Rattle.definitions.specs.Bytes.Plans.{frame_of}
use Rattle.definitions.specs.Bytes.NodeTable.{nodes_from}
use Rattle.definitions.specs.Calls.Base.{written_over}
use Rattle.definitions.specs.Bytes.Good.{AllBytes}
use Rattle.definitions.specs.Filter.Extract.{Matcher}
use Rattle.definitions.specs.Calls.ExtractAll.{AllOutcome, new_conjuncts, finish_all, extract_all_by}
use Rattle.definitions.specs.Filter.Conjuncts.{conjuncts_by}
use Rattle.definitions.specs.Claims.All.{TakesAll}
use Rattle.definitions.specs.Filter.Settings.{Settings, good_settings, match_under, GoodSettings}
use Rattle.definitions.specs.Meaning.Values.{FairUnder}
use Rattle.definitions.specs.Calls.Settings.{extract_all_under}
use Rattle.theorems.proofs.InverseFrame.{frame_back}
use Rattle.theorems.proofs.NodeTables.{node-count}
use Rattle.theorems.proofs.SettingsClaimed.{all-settings-hold, bad-settings-refused}
use Rattle.expression.specs.Nodes.{OfTree}
use Rattle.node_table.specs.declared.NodeRecord.{NodeRecord as Lent}
use Rattle.node_table.specs.Records.{node_of, nodes_of}
use Rattle.filter_tree.specs.Trees.{Noded, Recorded}
use Rattle.filter_tree.proofs.Children.{recorded-noded}
use Rattle.expression.proofs.OneTree.{of_tree}
use Rattle.byte_writer.proofs.Written.{copied-wrote, from_start, standing}
use Rattle.frame_reader.specs.Frames.{PhysicalIs}
use Rattle.frame_reader.specs.declared.frame_bodies.Frame.{Frame}
use Rattle.frame_reader.proofs.Standing.{expr-stands}
use Rattle.call_extract_all.specs.Conjuncts.{GoodAt, all_bytes, AllIs, AllFits, Memory}
use Rattle.call_extract_all.specs.declared.conjuncts.Taken.{Taken}
use Rattle.call_extract_all.proofs.AllLaws.{few-bytes, never-longer}

-- s is a good frame, as frames are read.
pub record GoodFrame (s : List ℕ) (f : Frame) : Type 0 where
  pub frame : tree.Frame
  pub at : GoodAt s f frame
  pub is : frame_of s ≡ ok frame

-- Memory for the conjuncts of a frame of these bytes: for writing them, and for holding them.
pub record OwnMemory (s row gone own : List ℕ) : Type 0 where
  pub memory : Memory s row gone
  pub holds : min 16384 (length s) ≤ length own

-- Settings that are not good get 24.
pub all-unsettled : (S : Settings) (s before : List ℕ) → good_settings S ≡ false
    → extract_all_under S s before ≡ record { answer = refused 24; rounds = 0; buffer = before }
unfolding finish_all
all-unsettled S s before e = (bad-settings-refused S e).1 s before

module _ {S : Settings} (settings : GoodSettings S) (s before : List ℕ) where
  abbrev match : Matcher
  match = match_under S

  abbrev outcome : AllOutcome
  outcome = extract_all_under S s before

  all-taken : TakesAll match (FairUnder S)
  all-taken = (all-settings-hold S settings).takes_all

  by-frame : (r : Result tree.Frame) → frame_of s ≡ r → outcome ≡ finish_all before (new_conjuncts match (length before) r)
  unfolding extract_all_by
  by-frame r e =
      (all-settings-hold S settings).call_all s before
      ∙ ap (λ (x : Result tree.Frame). finish_all before (new_conjuncts match (length before) x)) e

  pub all-refused : (number : ℕ) → frame_of s ≡ refused number → outcome ≡ record { answer = refused number; rounds = 0; buffer = before }
  unfolding new_conjuncts finish_all
  all-refused number e = by-frame (refused number) e

  module _ {f : Frame} (h : GoodFrame s f) where
    abbrev F : tree.Frame
    F = h.frame

    by-room : (b : Bool) → leb (length (all_bytes match F)) (length before) ≡ b
        → outcome ≡ finish_all before (if b then ok (conjuncts_by match F) else refused 9)
    unfolding new_conjuncts
    by-room b t =
        by-frame (ok F) h.is ∙ ap (λ (x : Bool). finish_all before (if x then ok (conjuncts_by match F) else refused 9)) t

    -- Written straight into the buffer,
    writes : length (all_bytes match F) ≤ length before → (after : List ℕ) (r : Taken) → AllIs match F before after r
        → outcome ≡ record { answer = ok r.length; rounds = r.rounds; buffer = after }
    unfolding finish_all written_over
    writes room after r put =
        by-room true (le-leb (length (all_bytes match F)) (length before) room)
        ∙ ap₂ (λ (k : ℕ) (x : List ℕ). record { answer = ok k; rounds = length (conjuncts_by match F).taken; buffer = x })
        (sym put.size) (sym put.wrote)
        ∙ ap (λ (k : ℕ). record { answer = ok r.length; rounds = k; buffer = after }) (sym put.rounds)

    pub straight-fits : {row gone : List ℕ} → Memory s row gone → length s ≤ length before → AllFits S s f row gone before
    straight-fits memory room = record {
      settings = settings;
      frame = F;
      at = h.at;
      memory = memory;
      room = omega (arith, never-longer h.at all-taken);
    }

    pub straight : length s ≤ length before → (after : List ℕ) (r : Taken) → AllIs match F before after r
        → outcome ≡ record { answer = ok r.length; rounds = r.rounds; buffer = after }
    straight room = writes (omega (arith, never-longer h.at all-taken))

    -- or into another buffer first,
    module _ {row gone blank : List ℕ} (memory : OwnMemory s row gone blank) where
      holds : length (all_bytes match F) ≤ length blank
      holds = omega (arith, memory.holds, never-longer h.at all-taken, few-bytes h.at, ap length h.at.bytes)

      pub own-fits : AllFits S s f row gone blank
      own-fits = record { settings = settings; frame = F; at = h.at; memory = memory.memory; room = holds }

      module _ (own : List ℕ) (r : Taken) (same : length own ≡ length blank) (put : AllIs match F blank own r) where
        -- which has room for it, so that it may be copied
        pub own-holds : 0 + r.length ≤ length own
        own-holds = omega (arith, put.size, holds)

        pub too_short : length before < r.length → outcome ≡ record { answer = refused 9; rounds = 0; buffer = before }
        unfolding finish_all
        too_short short = by-room false (lt-leb (length (all_bytes match F)) (length before) (omega (arith, put.size)))

        pub copied : r.length ≤ length before → (after : List ℕ) → after ≡ take r.length (drop 0 own) ++ drop r.length before
            → outcome ≡ record { answer = ok r.length; rounds = r.rounds; buffer = after }
        copied room after is =
            writes (omega (arith, put.size)) after r (record {
              rounds = put.rounds;
              size = put.size;
              wrote =
                  copied-wrote before r.length
                  (standing (omega arith)
                  (from_start (all_bytes match F) blank put.wrote r.length put.size))
                  put.size is;
            })

-- Cleared memory of these sizes is enough for bytes of this length.
pub clear-memory : (m n : ℕ) (s : List ℕ) → min 16384 (length s) ≤ m → min 1024 (length s / 3) ≤ n
    → OwnMemory s (replicate m 0) (replicate n 0) (replicate m 0)
clear-memory m n s long flags =
    let row : length {A = ℕ} (replicate m 0) ≡ m = length-replicate m 0 in
    let gone : length {A = ℕ} (replicate n 0) ≡ n = length-replicate n 0 in
    record { memory = record { long = omega arith; flags = omega arith }; holds = omega arith }

-- A frame that was read is good, and the first records of the row are those of its nodes.
module _ (s : List ℕ) (bytes : AllBytes s) (row : List Lent) {f : Frame}
    (h : PhysicalIs s (Ok f) (frame_of s) (Recorded row)) where
  pub good-read : GoodFrame s f
  good-read = let back = frame_back s h.0 bytes h.2 in
      record { frame = h.0; at = record { stands = h.1; bytes = back.0; good = back.1 }; is = h.2 }

  pub tree-within : f.nodes ≤ length row
  tree-within = omega (
    arith,
    ap length h.3,
    length-take (length (nodes_from f.root h.0.expr)) (nodes_of row),
    length-map row node_of,
    node-count f.root h.0.expr,
    h.1.sized,
  )

  pub tree-read : OfTree s f.root (Noded (take f.nodes row) f.root 0)
  tree-read = of_tree (Noded (take f.nodes row) f.root 0) (expr-stands h.1.expr) (recorded-noded row h.3 (omega (arith, h.1.sized)))
