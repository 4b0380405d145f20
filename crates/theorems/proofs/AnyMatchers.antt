-- All that is claimed of extractions and of calls with any lawful matcher, gathered, and that 01's is one.
use mathlib.Core.Path.{◌≡◌, ap, ◌∙◌, subst}
use mathlib.Core.List.{List}
use Rattle.definitions.specs.Words.Basics.{ok}
use Rattle.definitions.specs.Words.Expression.{Frame}
use Rattle.definitions.specs.Bytes.Plans.{plan_of}
use Rattle.definitions.specs.Filter.Extract.{Matcher}
use Rattle.definitions.specs.Lists.Machine.{Bits, machine_plan}
use Rattle.definitions.specs.Lists.Sessions.{Made, SessionBy, plan_after, odd_in}
use Rattle.definitions.specs.Meaning.Values.{Valuation, Meaning, frame_value}
use Rattle.definitions.specs.Meaning.Matchers.{Lawful, Symmetric}
use Rattle.definitions.specs.Claims.Values.{values_when, HasValue}
use Rattle.definitions.specs.Claims.AnyMatcher.{Extracts, OneCall, Lists, AnyMatcher}
use Rattle.theorems.proofs.ExtractExchange.{exchanged-by}
use Rattle.theorems.proofs.RoundTripPlan.{plan-reads}
use Rattle.theorems.proofs.ExtractGood.{GoodExtraction, good-by}
use Rattle.theorems.proofs.Lists.{plan-good}
use Rattle.theorems.proofs.ListTheorem.{load-held, list-agrees}
use Rattle.theorems.proofs.Lengths.{make-short}
use Rattle.theorems.proofs.Changes.{make-keeps, make-wrote}
use Rattle.theorems.proofs.WrittenPlans.{plans-written}
use Rattle.theorems.proofs.RefusalNumbers.{extract-refusals}
use Rattle.theorems.proofs.Answers.{told, plan-told, in-place, plans-same, exchange-among, extract-among}
use Rattle.theorems.proofs.MatchLaws.{match-laws}
use Rattle.theorems.proofs.Pick.{takes-by, none-by}
use Rattle.theorems.proofs.Machines.{extract-took, names-leaf, line-of-calls, line-stays, price-exchanged, same-leaf, same-refusal, never-mixed}
use Rattle.theorems.proofs.Truth.{SameValue, value-by, machine-value}

module _ {match : Matcher} {Asks : Meaning → Type 0} (laws : Lawful match Asks) where
  extracts : Extracts match Asks
  extracts = record {
    takes = takes-by match;
    untaken = none-by match;
    exchanged = exchanged-by laws;
    good = λ F X g e. subst (GoodExtraction F) e (good-by laws F g);
    value = λ M v F X asked g e. subst (SameValue M v F) e (value-by laws M v F asked g.readable.expr.in_range);
  }

  one-call : OneCall match
  one-call = record {
    short = make-short laws;
    keeps = make-keeps match;
    writes = λ kind n buffer scratch table bytes a.
        (make-wrote n buffer scratch laws kind table bytes a, plans-written match kind n buffer scratch table a);
    refusals = extract-refusals match;
  }

  list-value : (M : Meaning) → Symmetric M → (v : Valuation) (F : Frame) (s : SessionBy match F) → Asks M → (calls : List Made)
      → HasValue M v (plan_after s calls) (frame_value M (values_when (odd_in s calls) v) F)
  list-value M turns v F s asked calls =
      let b : Bits = told s calls in
      let reads : plan_of (plan_after s calls) ≡ ok (machine_plan match F b) =
      ap plan_of (plan-told laws s calls) ∙ plan-reads _ (plan-good laws F b.is_extracted b.is_odd s.good) in
      let range = s.good.readable.expr.in_range in
      (machine_plan match F b, reads, machine-value laws M turns v F asked range b.is_extracted b.is_odd)

  lists : Lists match Asks
  lists = record {
    loads = load-held match;
    machine = λ F. list-agrees laws;
    in_place = λ F s. in-place match s.n s.buffer s.table;
    same_plan = λ F. plans-same laws;
    exchange_accepted = λ F. exchange-among laws;
    extract_accepted = λ F. extract-among laws;
    takes = λ F. extract-took laws;
    position = λ F. names-leaf laws;
    line = λ F. line-of-calls laws;
    line_stays = λ F. line-stays laws;
    line_exchanged = price-exchanged laws;
    same_leaf = λ F. same-leaf laws;
    same_refusal = λ F. same-refusal laws;
    never_mixed = λ F. never-mixed laws;
    value = list-value;
  }

pub any-matcher-is : AnyMatcher
any-matcher-is = (λ match Asks laws. (extracts laws, one-call laws, lists laws), match-laws)
