-- Two hosts agree because both agree with the machine, as two sessions of the frame do.
use Prim.Native.Nat.{ℕ}
use mathlib.Core.Path.{◌≡◌, refl, sym, ap, ap₂, ◌∙◌, subst}
use mathlib.Core.Bool.{Bool, true, false, ◌&&◌, not, and-true}
use mathlib.Core.List.{List, []}
use native.Mathlib.Omega.{arith}
use lib.IntN.{ℤ}
use lib.ListN.{length, take}
use lib.Dec.{leb}
use Rattle.definitions.specs.Words.Expression.{Frame, Extraction, held}
use Rattle.definitions.specs.Bytes.Encode.{frame_bytes, plan_bytes}
use Rattle.definitions.specs.Filter.Extract.{Matcher, matches_by}
use Rattle.definitions.specs.Lists.Machine.{extract_call}
use Rattle.definitions.specs.Bytes.Good.{GoodPlan}
use Rattle.definitions.specs.Lists.Sessions.{Made, machine_after_by, accepted, extract_accepted, exchanges_odd, SessionBy, after, plan_after, extracted_in, odd_in}
use Rattle.definitions.specs.Filter.Merge.{merge_frames}
use Rattle.definitions.specs.Calls.Merge.{MergeOutcome, merge}
use Rattle.definitions.specs.Claims.Lists.{AgreeBy, some_leaf_matches_by}
use Rattle.definitions.specs.Claims.Pick.{TookAmong}
use Rattle.definitions.specs.Filter.Exchange.{extracted_plan}
use Rattle.definitions.specs.Filter.Settings.{Settings, match_under, GoodSettings}
use Rattle.definitions.specs.Meaning.Values.{FairUnder}
use Rattle.definitions.specs.Claims.AnyMatcher.{Lists}
use Rattle.theorems.proofs.InverseFrame.{same_ok, frame_back}
use Rattle.theorems.proofs.Pick.{any_some}
use Rattle.theorems.proofs.ListTheorem.{written_held}
use Rattle.theorems.proofs.MergeCall.{same-held}
use Rattle.theorems.proofs.Proved.{all-settings, merge-holds}
use Rattle.node_table.specs.Records.{nodes_of}
use Rattle.host_lists.specs.Numbers.{walk_answered}
use Rattle.host_lists.specs.HostLists.{Host, MadeHosted, HostStarts, by_load, by_merge, HostRun, outcome, plan, extracted, odd}
use Rattle.host_lists.specs.HostsAgree.{HostsAgreeUnder, HostsAgree}
use Rattle.host_lists.proofs.HostLists.{merge-length, host-demand-three}

-- A leaf that matches is among the leaves.
matches : (match : Matcher) (F : Frame) (X : Extraction) → TookAmong (matches_by match F) F X → some_leaf_matches_by match F ≡ true
unfolding some_leaf_matches_by
matches match F X took = any_some (matches_by match F) X.position X.predicate took.match

module _ (S : Settings) (g : GoodSettings S) where
  lists : Lists (match_under S) (FairUnder S)
  lists = (all-settings S g).lists

  -- ---- a session of the frame

  good-session : (F : Frame) → GoodPlan (held F) → SessionBy (match_under S) F
  good-session F g = (written_held (match_under S) F (frame_bytes F) (frame_bytes F) [] refl g (omega arith)).0

  session-for : (F : Frame) (a : Host) → HostStarts F a → SessionBy (match_under S) F
  unfolding accepted
  session-for F a (by_load frame before table good is) = good-session F (frame_back frame F is.0 good).1
  session-for F a (by_merge frame n before scratch kept table old new given found joined is) =
      let taken : accepted (merge frame n before scratch (nodes_of table)).answer ≡ true =
      ap (λ (o : MergeOutcome). accepted o.answer)
      (merge-length frame n before scratch kept (nodes_of table) a.plan (nodes_of a.table) a.n is) in
      let (old', new', found', given', l) = merge-holds (match_under S) frame n before scratch (nodes_of table) is.0 is.1 taken in
      let one : old' ≡ old = same-held old' old (same_ok _ _ (sym found' ∙ found)) in
      let two : new' ≡ new = same_ok new' new (sym given' ∙ given) in
      subst (SessionBy (match_under S)) (ap₂ merge_frames one two ∙ joined) l.0

  module _ (F : Frame) {calls : List Made} (r : HostRun S F calls) where
    session : SessionBy (match_under S) F
    session = session-for F r.start r.starts

    agrees : AgreeBy (match_under S) F (outcome r) (machine_after_by (match_under S) F calls)
    agrees = (host-demand-three S g F).machine calls r

    answers-same : (after session calls).answers ≡ (outcome r).answers
    answers-same = (lists.machine F session calls).answers ∙ sym agrees.answers

    plan-same : plan_after session calls ≡ plan r
    plan-same = (lists.machine F session calls).plan ∙ sym agrees.plan

    extracted-same : extracted_in session calls ≡ extracted r
    extracted-same = ap (extract_accepted calls) answers-same

    odd-same : odd_in session calls ≡ odd r
    odd-same = ap (exchanges_odd calls) answers-same

  -- ---- two hosts

  same-leaf : (F : Frame) (calls calls' : List Made) (r : HostRun S F calls) (r' : HostRun S F calls')
      → extracted r ≡ true → extracted r' ≡ true
      → (X : Extraction) × TookAmong (matches_by (match_under S) F) F X
      × (plan r ≡ plan_bytes (extracted_plan X (odd r))) × (plan r' ≡ plan_bytes (extracted_plan X (odd r')))
      × (take 3 (plan r) ≡ take 3 (plan r'))
  same-leaf F calls calls' r r' e e' =
      let (X, took, one, two, three) =
      lists.same_leaf F (session F r) (session F r') calls calls' (extracted-same F r ∙ e) (extracted-same F r' ∙ e') in (
        X,
        took,
        sym (plan-same F r) ∙ one ∙ ap (λ (o : Bool). plan_bytes (extracted_plan X o)) (odd-same F r),
        sym (plan-same F r') ∙ two ∙ ap (λ (o : Bool). plan_bytes (extracted_plan X o)) (odd-same F r'),
        sym (ap (take 3) (plan-same F r)) ∙ three ∙ ap (take 3) (plan-same F r'),
      )

  never-mixed : (F : Frame) (calls calls' : List Made) (r : HostRun S F calls) (r' : HostRun S F calls')
      → extracted r ≡ true → extracted r' ≡ false → (scratch after kept : List ℕ) (z : ℤ)
      → MadeHosted S extract_call r'.last scratch after kept z → accepted (walk_answered z) ≡ leb r'.last.n (length scratch)
  never-mixed F calls calls' r r' e e' scratch after kept z is =
      let (X, took, holds) = (host-demand-three S g F).pick calls r e in
      (host-demand-three S g F).extract_accepted calls' r' scratch after kept z is
      ∙ ap₂ (λ (x y : Bool). leb r'.last.n (length scratch) && (not x && y)) e' (matches (match_under S) F X took)
      ∙ and-true (leb r'.last.n (length scratch))

  agree-under : HostsAgreeUnder S
  agree-under = record { same_leaf = same-leaf; never_mixed = never-mixed }

pub hosts-agree : HostsAgree
hosts-agree S g = agree-under S g
