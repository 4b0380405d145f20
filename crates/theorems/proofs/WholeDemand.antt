-- Demand 3 whole: an accepted load leaves a session of its frame, whatever the settings.
use Prim.Native.Nat.{ℕ}
use mathlib.Core.Path.{◌≡◌, sym, ap, ◌∙◌, subst}
use mathlib.Core.Bool.{true, ◌&&◌, not}
use mathlib.Core.List.{List}
use lib.ListN.{length}
use lib.Dec.{leb}
use Rattle.definitions.specs.Words.Basics.{ok}
use Rattle.definitions.specs.Words.Expression.{Frame, Extraction}
use Rattle.definitions.specs.Bytes.Encode.{plan_bytes}
use Rattle.definitions.specs.Bytes.Plans.{frame_of}
use Rattle.definitions.specs.Filter.Extract.{matches_by}
use Rattle.definitions.specs.Calls.Base.{Outcome}
use Rattle.definitions.specs.Lists.Machine.{Kind, extract_call, exchange_call}
use Rattle.definitions.specs.Bytes.NodeTable.{NodeRecord}
use Rattle.definitions.specs.Lists.Sessions.{Made, make_by, ListOutcome, machine_after_by, accepted, extract_accepted, exchanges_odd, SessionBy, after, plan_left}
use Rattle.definitions.specs.Meaning.Values.{frame_value, FairUnder}
use Rattle.definitions.specs.Filter.Settings.{Settings, match_under, GoodSettings}
use Rattle.definitions.specs.Lists.Settings.{make_under}
use Rattle.definitions.specs.Claims.Settings.{UnderSettings}
use Rattle.definitions.specs.Claims.Lists.{AgreeBy, some_leaf_matches_by}
use Rattle.definitions.specs.Claims.Pick.{TookAmong}
use Rattle.definitions.specs.Filter.Exchange.{extracted_plan}
use Rattle.definitions.specs.Claims.Values.{values_when, HasValue}
use Rattle.definitions.specs.Claims.AnyMatcher.{Lists}
use Rattle.theorems.proofs.InverseFrame.{same_ok}
use Rattle.theorems.proofs.SettingsClaimed.{all-settings-hold, same-make}
use Rattle.definitions.specs.Claims.DemandThree.{LoadTaken, loaded, list_after, plan_then, extracted_then, odd_then, MeetsDemandThree, DemandThree}

-- Two outcomes that are alike in both leave the same plan.
abbrev Alike : (calls calls' : List Made) → (x y : ListOutcome) → Type 0
Alike calls calls' x y =
    extract_accepted calls x.answers ≡ extract_accepted calls' y.answers
    → exchanges_odd calls x.answers ≡ exchanges_odd calls' y.answers → plan_left x ≡ plan_left y

module _ (S : Settings) (g : GoodSettings S) where
  abbrev under : UnderSettings S
  under = all-settings-hold S g

  abbrev all : Lists (match_under S) (FairUnder S)
  all = under.lists

  abbrev Session : Frame → Type 0
  Session = SessionBy (match_under S)

  -- The frame of an accepted load, and a session with what it left.
  session-of : (l : LoadTaken) → (F : Frame) × (frame_of l.frame ≡ ok F) × ((loaded l).answer ≡ ok (length l.frame))
      × ((s : Session F) × ((calls : List Made) → after s calls ≡ list_after S l calls) × (s.table ≡ (loaded l).table))
  session-of l =
      let (F, good, size, (s, n, buffer, table)) = all.loads l.frame l.n l.buffer l.table l.bytes l.taken in (
        F,
        good,
        size,
        (
          s,
          λ calls. rw (n, buffer, table) (sym (under.calls (loaded l).n (loaded l).buffer (loaded l).table calls)),
          table,
        ),
      )

  plans-alike : (l k : LoadTaken) → k.frame ≡ l.frame → (calls calls' : List Made)
      → extracted_then S l calls ≡ extracted_then S k calls' → odd_then S l calls ≡ odd_then S k calls'
      → plan_then S l calls ≡ plan_then S k calls'
  plans-alike l k e calls calls' =
      let (F, good, size, (s, same, table)) = session-of l in
      let (G, good', size', (t, same', table')) = session-of k in
      let one : G ≡ F = same_ok G F (sym good' ∙ ap frame_of e ∙ good) in
      let with-t : (H : Frame) → H ≡ F → (t : Session H) → Alike calls calls' (after s calls) (after t calls') =
      λ H h t. subst (λ (H : Frame). (t : Session H) → Alike calls calls' (after s calls) (after t calls')) (sym h)
      (λ t. all.same_plan F s t calls calls') t in
      subst (λ (x : ListOutcome). Alike calls calls' x (list_after S k calls')) (same calls)
      (subst (Alike calls calls' (after s calls)) (same' calls') (with-t G one t))

  -- One more call is made with the matcher of the settings.
  one_more : (kind : Kind) (x : ListOutcome) (scratch : List ℕ) (table : List NodeRecord)
      → accepted (make_under S kind x.n x.buffer scratch table).answer
      ≡ accepted (make_by (match_under S) kind x.n x.buffer scratch table).answer
  one_more kind x scratch table = ap (λ (o : Outcome). accepted o.answer) (same-make S g.good kind x.n x.buffer scratch table)

  demand-three : (l : LoadTaken) → (F : Frame) × DemandThree S l F
  demand-three l =
      let (F, good, size, (s, same, table)) = session-of l in (
        F,
        record {
          frame = good;
          size = size;
          machine = λ calls.
              subst (λ (x : ListOutcome). AgreeBy (match_under S) F x (machine_after_by (match_under S) F calls)) (same calls)
              (all.machine F s calls);
          same_plan = λ k e. plans-alike l k e;
          truth = λ M fair v calls.
              subst (λ (x : ListOutcome). HasValue M v (plan_left x) (frame_value M (values_when (exchanges_odd calls x.answers) v) F))
              (same calls) (all.value M (under.symmetric M fair) v F s fair calls);
          exchange_taken = λ calls scratch.
              one_more exchange_call (list_after S l calls) scratch (loaded l).table
              ∙ subst (λ (x : ListOutcome).
              accepted (make_by (match_under S) exchange_call x.n x.buffer scratch (loaded l).table).answer ≡ leb x.n (length scratch))
              (same calls)
              (subst (λ (t : List NodeRecord).
              accepted (make_by (match_under S) exchange_call (after s calls).n (after s calls).buffer scratch t).answer
              ≡ leb (after s calls).n (length scratch)) table (all.exchange_accepted F s calls scratch));
          extract_taken = λ calls scratch.
              one_more extract_call (list_after S l calls) scratch (loaded l).table
              ∙ subst (λ (x : ListOutcome).
              accepted (make_by (match_under S) extract_call x.n x.buffer scratch (loaded l).table).answer
              ≡ (leb x.n (length scratch) && (not (extract_accepted calls x.answers) && some_leaf_matches_by (match_under S) F)))
              (same calls)
              (subst (λ (t : List NodeRecord).
              accepted (make_by (match_under S) extract_call (after s calls).n (after s calls).buffer scratch t).answer
              ≡ (leb (after s calls).n (length scratch)
              && (not (extract_accepted calls (after s calls).answers) && some_leaf_matches_by (match_under S) F)))
              table (all.extract_accepted F s calls scratch));
          pick = λ calls.
              subst (λ (x : ListOutcome). extract_accepted calls x.answers ≡ true
              → (X : Extraction) × TookAmong (matches_by (match_under S) F) F X
              × (plan_left x ≡ plan_bytes (extracted_plan X (exchanges_odd calls x.answers)))) (same calls) (all.takes F s calls);
        },
      )

pub meets-demand-three-by : MeetsDemandThree
meets-demand-three-by S g l = demand-three S g l
