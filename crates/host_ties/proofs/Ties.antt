-- What each call of `spatialjoin_c` ensures is, as it is generated from its src/lib.rt, the relation that `HostCall`, `QueueHosted`,
-- `HostAll` or `HostExplain` has of it, and what the export of its name ensures is the same (`spatialjoin_c_c`, proofs/Exported);
-- and so a call that met its contract is a host's call.
use Prim.Native.Nat.{ℕ}
use mathlib.Core.Path.{◌≡◌, refl}
use mathlib.Core.List.{List}
use lib.IntN.{ℤ}
use seplogic.Ra.Ura.{Ura}
use base.Logic.{SProp}
use prog.Memory.{Memory}
use prog.Routine.{Routine}
use types.Logic.{Logic}
use contract.Lifetimes.{Lfts}
use contract.Monad.{Fun}
use contract.Notation.{connectives}
use denote.Triple.Entry.{Args, Res}
use denote.Triple.Clauses.{AtExit}
use Rattle.definitions.specs.Calls.Base.{exchange}
use Rattle.definitions.specs.Filter.Settings.{Settings}
use Rattle.definitions.specs.Calls.Settings.{extract_under, extract_walk_under, extract_all_under}
use Rattle.definitions.specs.Calls.Merge.{merge}
use Rattle.definitions.specs.Calls.Project.{project}
use Rattle.definitions.specs.Lists.Machine.{extract_call, exchange_call}
use Rattle.definitions.specs.Lists.History.{loading, making, merging, projecting}
use Rattle.definitions.specs.Calls.QueueBytes.{put, serve}
use Rattle.definitions.specs.Calls.Explain.{explain}
use Rattle.definitions.specs.Lists.Queues.{put_call, serve_call, made_put, made_serve}
use Rattle.node_table.specs.Records.{nodes_of}
use Rattle.node_table.specs.declared.NodeRecord.{NodeRecord as TableRecord}
use Rattle.host_calls.specs.Hosted.{LoadHosted, CallHosted, settings_by, ExtractHosted, MergeHosted, PutHosted, ServeHosted, AllHosted, ExplainHosted}
use Rattle.host_lists.specs.Numbers.{answered, walk_answered, next_n}
use Rattle.host_lists.specs.HostLists.{Host, HostCall}
use Rattle.host_lists.specs.QueueHosts.{serve_answered, QueueHosted, put_hosted, serve_hosted}
use Rattle.definitions.specs.Lists.Program.{line_outcome}
use Rattle.lines.specs.Answers.{kept_as, AnswerIs}
use Rattle.lines.specs.Scratch.{line_scratch}
use Rattle.lines.specs.contracts.calls.answer_line as line
use Rattle.spatialjoin_c.specs.contracts.spatialjoin_load as load
use Rattle.spatialjoin_c.specs.contracts.spatialjoin_extract as extracting
use Rattle.spatialjoin_c.specs.contracts.spatialjoin_exchange as exchanging
use Rattle.spatialjoin_c.specs.contracts.spatialjoin_merge as merged
use Rattle.spatialjoin_c.specs.contracts.spatialjoin_project as projected
use Rattle.spatialjoin_c.specs.contracts.spatialjoin_put as putting
use Rattle.spatialjoin_c.specs.contracts.spatialjoin_serve as serving
use Rattle.spatialjoin_c.specs.contracts.spatialjoin_extract_all as listing
use Rattle.spatialjoin_c.specs.contracts.spatialjoin_explain as explaining

-- ---- what is ensured

module _ {M : Type 1} {𝓤 : Ura M} (𝓛 : Logic 𝓤) (mem : Memory → SProp 𝓤) (run : Routine → Fun 𝓤) where
  -- The fact as what is ensured.
  abbrev says : Type 0 → SProp 𝓤
  says P = (connectives 𝓤).⌜◌⌝ P

  pub load-ensures : (κs : Lfts (load.signature).lifetimes) (a : Args load.signature κs) (z : Res load.signature κs)
      (e : AtExit load.ended κs)
      → (load.clauses 𝓛 mem run κs a).ensures tt z e
      ≡ says (LoadHosted a.0.now a.1.0.now e.1.0.now (nodes_of a.1.1.0.now) (nodes_of e.1.1.0.now) z)
  load-ensures κs a z e = refl

  pub extract-ensures : (κs : Lfts (extracting.signature).lifetimes) (a : Args extracting.signature κs)
      (z : Res extracting.signature κs) (e : AtExit extracting.ended κs)
      → (extracting.clauses 𝓛 mem run κs a).ensures tt z e
      ≡ (let S : Settings = settings_by a.1.1.1.1.0 a.1.1.1.1.1.0 a.1.1.1.1.1.1.0 in
      says (ExtractHosted a.0.now (extract_under S a.1.0 a.0.now a.1.1.0.now (nodes_of a.1.1.1.0.now))
      (extract_walk_under S a.1.0 a.0.now a.1.1.0.now (nodes_of a.1.1.1.0.now)) e.0.now e.1.1.0.now z))
  extract-ensures κs a z e = refl

  pub exchange-ensures : (κs : Lfts (exchanging.signature).lifetimes) (a : Args exchanging.signature κs)
      (z : Res exchanging.signature κs) (e : AtExit exchanging.ended κs)
      → (exchanging.clauses 𝓛 mem run κs a).ensures tt z e
      ≡ says (CallHosted a.0.now (exchange a.1.0 a.0.now a.1.1.0.now) e.0.now e.1.1.0.now z)
  exchange-ensures κs a z e = refl

  pub merge-ensures : (κs : Lfts (merged.signature).lifetimes) (a : Args merged.signature κs) (z : Res merged.signature κs)
      (e : AtExit merged.ended κs)
      → (merged.clauses 𝓛 mem run κs a).ensures tt z e
      ≡ says (MergeHosted a.0.now a.1.0.now
      (merge a.0.now a.1.1.0 a.1.0.now a.1.1.1.0.now (nodes_of a.1.1.1.1.0.now))
      e.1.0.now e.1.1.1.0.now (nodes_of e.1.1.1.1.0.now) z)
  merge-ensures κs a z e = refl

  pub project-ensures : (κs : Lfts (projected.signature).lifetimes) (a : Args projected.signature κs) (z : Res projected.signature κs)
      (e : AtExit projected.ended κs)
      → (projected.clauses 𝓛 mem run κs a).ensures tt z e
      ≡ says (CallHosted a.0.now
      (project a.1.0 a.0.now a.1.1.0.now a.1.1.1.0.now a.1.1.1.1.0.now) e.0.now
      e.1.1.0.now z)
  project-ensures κs a z e = refl

  pub put-ensures : (κs : Lfts (putting.signature).lifetimes) (a : Args putting.signature κs) (z : Res putting.signature κs)
      (e : AtExit putting.ended κs)
      → (putting.clauses 𝓛 mem run κs a).ensures tt z e
      ≡ says (PutHosted (put a.0.now a.1.0 a.1.1.0.now) e.0.now z)
  put-ensures κs a z e = refl

  pub serve-ensures : (κs : Lfts (serving.signature).lifetimes) (a : Args serving.signature κs) (z : Res serving.signature κs)
      (e : AtExit serving.ended κs)
      → (serving.clauses 𝓛 mem run κs a).ensures tt z e
      ≡ says (ServeHosted (serve a.0.now a.1.0.now) e.0.now e.1.0.now z)
  serve-ensures κs a z e = refl

  pub all-ensures : (κs : Lfts (listing.signature).lifetimes) (a : Args listing.signature κs) (z : Res listing.signature κs)
      (e : AtExit listing.ended κs)
      → (listing.clauses 𝓛 mem run κs a).ensures tt z e
      ≡ (let S : Settings = settings_by a.1.1.0 a.1.1.1.0 a.1.1.1.1.0 in
      says (AllHosted a.0.now (extract_all_under S a.0.now a.1.0.now) e.1.0.now z))
  all-ensures κs a z e = refl

  pub explain-ensures : (κs : Lfts (explaining.signature).lifetimes) (a : Args explaining.signature κs) (z : Res explaining.signature κs)
      (e : AtExit explaining.ended κs)
      → (explaining.clauses 𝓛 mem run κs a).ensures tt z e
      ≡ (let S : Settings = settings_by a.1.1.0 a.1.1.1.0 a.1.1.1.1.0 in
      says (ExplainHosted a.0.now (explain S a.0.now a.1.0.now) e.1.0.now z))
  explain-ensures κs a z e = refl

  -- A line of the program: what it answers and keeps, and what it leaves in the scratch.
  pub line-ensures : (κs : Lfts (line.signature).lifetimes) (a : Args line.signature κs) (r : Res line.signature κs)
      (e : AtExit line.ended κs)
      → (line.clauses 𝓛 mem run κs a).ensures tt r e
      ≡ (connectives 𝓤).◌∗◌
      (says (AnswerIs (line_outcome a.1.1.0.now (kept_as a.1.1.1.0 a.0.now)) a.1.1.1.0 e.0.now r))
      (says (e.1.0.now ≡ line_scratch a.1.1.0.now (kept_as a.1.1.1.0 a.0.now) a.1.0.now))
  line-ensures κs a r e = refl

-- ---- so it is a host's call

-- What a host owns.
abbrev owns : (plan : List ℕ) (n : ℕ) (table : List TableRecord) → Host
owns plan n table = record { plan = plan; n = n; table = table }

module _ (S : Settings) (plan after : List ℕ) (n : ℕ) (table filled : List TableRecord) (z : ℤ) where
  pub load-calls : (frame : List ℕ) → LoadHosted frame plan after (nodes_of table) (nodes_of filled) z
      → HostCall S (owns plan n table) (loading frame) (owns after (next_n n (answered z)) filled) z
  load-calls frame is = (is, refl)

  pub extract-calls : (scratch kept : List ℕ)
      → ExtractHosted plan (extract_under S n plan scratch (nodes_of table))
      (extract_walk_under S n plan scratch (nodes_of table)) after kept z
      → HostCall S (owns plan n table) (making (record { kind = extract_call; scratch = scratch }))
      (owns after (next_n n (walk_answered z)) table) z
  extract-calls scratch kept is = (kept, is, refl, refl)

  pub exchange-calls : (scratch kept : List ℕ) → CallHosted plan (exchange n plan scratch) after kept z
      → HostCall S (owns plan n table) (making (record { kind = exchange_call; scratch = scratch }))
      (owns after (next_n n (answered z)) table) z
  exchange-calls scratch kept is = (kept, is, refl, refl)

  pub merge-calls : (frame scratch kept : List ℕ)
      → MergeHosted frame plan (merge frame n plan scratch (nodes_of table)) after kept (nodes_of filled) z
      → HostCall S (owns plan n table) (merging frame scratch) (owns after (next_n n (answered z)) filled) z
  merge-calls frame scratch kept is = (kept, is, refl)

  pub project-calls : (scratch kept of_left of_right : List ℕ) → CallHosted plan (project n plan scratch of_left of_right) after kept z
      → HostCall S (owns plan n table) (projecting scratch of_left of_right) (owns after (next_n n (answered z)) table) z
  project-calls scratch kept of_left of_right is = (kept, is, refl, refl)

module _ (queues left : List ℕ) (z : ℤ) where
  pub put-calls : (number : ℕ) (frame : List ℕ) → PutHosted (put queues number frame) left z
      → QueueHosted queues (put_call number frame) (made_put number frame (answered z)) left
  put-calls number frame is = put_hosted z is

  pub serve-calls : (out out_left : List ℕ) → ServeHosted (serve queues out) left out_left z
      → QueueHosted queues (serve_call out) (made_serve (serve_answered z) out_left) left
  serve-calls out out_left is = serve_hosted z is
