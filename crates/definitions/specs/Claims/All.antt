-- Request 14 of document 02: what is claimed of all indexable conjuncts, with any lawful matcher; crate `theorems` proves it.
use Rattle.std.specs.Prelude.{ℕ, suc, ◌+◌, ◌≤◌, ◌<◌, ◌≡◌, Bool, true, false, not, List, [], ◌∷◌, ◌++◌, length, take, leb, eqb, if◌then◌else◌}
use Rattle.std.proofs.Math.Option.{Option, none, some}
use Rattle.definitions.specs.Words.Basics.{ok, refused, all, keep}
use Rattle.definitions.specs.Words.Limits.{most_bytes, most_nodes}
use Rattle.definitions.specs.Words.Expression.{Expr, Frame, Predicate, Extraction, held}
use Rattle.definitions.specs.Words.Leaves.{leaves}
use Rattle.definitions.specs.Bytes.Encode.{frame_bytes, remainder_bytes}
use Rattle.definitions.specs.Bytes.Plans.{frame_of}
use Rattle.definitions.specs.Bytes.Good.{AllBytes, GoodPlan}
use Rattle.definitions.specs.Filter.Extract.{Pick, is_knn, Matcher, matches_by, extraction_by, is_match}
use Rattle.definitions.specs.Filter.Exchange.{exchange_frame}
use Rattle.definitions.specs.Filter.Conjuncts.{Conjuncts, no_round, round_then, but, in_first, rounds, positions_of, conjuncts_by, matching, is_other, match_count, without_all, last_remainder, exchange_conjuncts}
use Rattle.definitions.specs.Calls.ExtractAll.{picks_bytes, conjuncts_bytes, AllOutcome, finish_all, extract_all_by}
use Rattle.definitions.specs.Lists.Sessions.{accepted}
use Rattle.definitions.specs.Meaning.Values.{Valuation, Meaning, frame_value}
use Rattle.definitions.specs.Meaning.Matchers.{Lawful}
use Rattle.definitions.specs.Meaning.Conjuncts.{conjuncts_value}
use Rattle.definitions.specs.Claims.Calls.{SameFrom}
use Rattle.definitions.specs.Claims.Lists.{some_leaf_matches_by}
use Rattle.definitions.specs.Claims.Pick.{match_at, TookAmong}

-- ---- the leaves taken

-- Every pick of a list has the property.
abbrev pub EveryPick : (Pick → Type 0) → List Pick → Type 0
EveryPick P [] = Unit {0}
EveryPick P (p ∷ ps) = P p × EveryPick P ps

-- Positions that rise, the first being at least this.
abbrev pub RisingFrom : (least : ℕ) → List Pick → Type 0
RisingFrom k [] = Unit {0}
RisingFrom k (p ∷ ps) = (k ≤ p.position) × RisingFrom (suc p.position) ps

-- How often a position is taken.
unfoldable pub times : (position : ℕ) → List Pick → ℕ
times i [] = 0
times i (p ∷ ps) = (if eqb p.position i then 1 else 0) + times i ps

-- The picks are the matching leaves, each exactly once: the KNN ones in their order, then the others in theirs.
pub record TakenInOrder (matches : List (Option Predicate)) (picks : List Pick) : Type 0 where
  pub knns : List Pick
  pub others : List Pick
  pub parts : picks ≡ knns ++ others
  pub are_knn : EveryPick (λ p. is_knn p.predicate ≡ true) knns
  pub are_other : EveryPick (λ p. is_knn p.predicate ≡ false) others
  pub knns_rise : RisingFrom 0 knns
  pub others_rise : RisingFrom 0 others
  pub match : EveryPick (λ p. match_at matches p.position ≡ some p.predicate) picks
  pub once : (position : ℕ) → times position picks ≡ (if is_match (match_at matches position) then 1 else 0)

-- ---- what stays

-- The AND-leaves of a rest, if there is one.
unfoldable pub leaves_left : Option Expr → List Expr
leaves_left none = []
leaves_left (some e) = leaves e

-- An expression without leaves that are to go has the others, in their order.
abbrev pub LeavesThatStay : Type 0
LeavesThatStay = (goes : Expr → Bool) (e : Expr) → leaves_left (without_all goes e) ≡ keep (λ leaf. not (goes leaf)) (leaves e)

-- A last remainder that is a good frame, or none.
abbrev pub GoodRest : Option Frame → Type 0
GoodRest none = Unit {0}
GoodRest (some R) = GoodPlan (held R)

-- ---- the call

-- An accepted call wrote a frame's conjuncts to the buffer's start and kept the bytes after them.
pub record AllWrote (C : Conjuncts) (buffer : List ℕ) (o : AllOutcome) : Type 0 where
  pub answer : o.answer ≡ ok (length (conjuncts_bytes C))
  pub how_many : o.rounds ≡ length C.taken
  pub written : take (length (conjuncts_bytes C)) o.buffer ≡ conjuncts_bytes C
  pub others : SameFrom (length (conjuncts_bytes C)) buffer o.buffer

-- A refused one wrote nothing, and its rounds are 0.
pub record AllKept (buffer : List ℕ) (o : AllOutcome) : Type 0 where
  pub kept : o.buffer ≡ buffer
  pub no_rounds : o.rounds ≡ 0

-- ---- the claims

-- Of all indexable conjuncts with a matcher; `Asks` is what their values ask of a meaning.
pub record TakesAll (match : Matcher) (Asks : Meaning → Type 0) : Type 0 where
  -- A round is an extraction: where there is none, the frame is left;
  pub stops : (most : ℕ) (positions : List ℕ) (F : Frame) → extraction_by match F ≡ none
      → rounds match (suc most) positions (some F) ≡ no_round (some F)
  -- where there is one, it takes the first KNN match, failing that the first match, and the others go on with its remainder,
  pub extracts : (most : ℕ) (positions : List ℕ) (F : Frame) (X : Extraction) → extraction_by match F ≡ some X
      → TookAmong (matches_by match F) F X
      × (rounds match (suc most) positions (some F)
      ≡ round_then (in_first positions X) (rounds match most (but X.position positions) X.remainder))
  -- which load takes as it is: it is a good frame, or none.
  pub loads : (F : Frame) (X : Extraction) → GoodPlan (held F) → extraction_by match F ≡ some X → GoodRest X.remainder
  -- So the first predicate, where there is one, is extract's, at the same position.
  pub first : (F : Frame) (X : Extraction) → extraction_by match F ≡ some X
      → (more : List Pick) × ((conjuncts_by match F).taken ≡ record { position = X.position; predicate = X.predicate } ∷ more)
  -- More rounds would change nothing.
  pub enough : (F : Frame) (most : ℕ) → GoodPlan (held F) → length (leaves F.expr) ≤ most
      → rounds match most (positions_of F) (some F) ≡ conjuncts_by match F
  -- The leaves taken are every matching AND-leaf of the frame, each exactly once: the KNN ones in their order, then the others in theirs,
  -- with their positions in the first frame.
  pub takes : (F : Frame) → GoodPlan (held F) → TakenInOrder (matches_by match F) (conjuncts_by match F).taken
  -- (Two bytes hold a position: it is below 1,024.)
  pub positions : (F : Frame) → GoodPlan (held F) → EveryPick (λ p. p.position < most_nodes) (conjuncts_by match F).taken
  -- The number of rounds is the number of matching leaves, which is at most 1,024.
  pub how_many : (F : Frame) → GoodPlan (held F)
      → (length (conjuncts_by match F).taken ≡ match_count (matches_by match F)) × (match_count (matches_by match F) ≤ most_nodes)
  -- A frame without a match gives no leaves, 0 rounds, and itself unpruned as last remainder.
  pub no_match : (F : Frame) → GoodPlan (held F) → some_leaf_matches_by match F ≡ false → conjuncts_by match F ≡ no_round (some F)
  -- Where every leaf matches nothing is left.
  pub all_match : (F : Frame) → GoodPlan (held F) → all is_match (matches_by match F) ≡ true → (conjuncts_by match F).rest ≡ none
  -- The last remainder is the frame without its matching leaves, pruned once; it is a good frame, or none.
  pub last : (F : Frame) → GoodPlan (held F)
      → ((conjuncts_by match F).rest ≡ last_remainder match F) × GoodRest (conjuncts_by match F).rest
  -- The frame's value is the And of all the predicates and of the last remainder, if there is one.
  pub value : (M : Meaning) (v : Valuation) (F : Frame) → Asks M → GoodPlan (held F)
      → conjuncts_value M v (conjuncts_by match F) ≡ frame_value M v F
  -- Those of the exchanged frame are the exchanged ones: both machines quote the same list, exchanged.
  pub exchanged : (F : Frame) → conjuncts_by match (exchange_frame F) ≡ exchange_conjuncts (conjuncts_by match F)
  -- What is written is the KNN matches, the others, and the last remainder, all of the first frame;
  pub written : (F : Frame) → GoodPlan (held F)
      → conjuncts_bytes (conjuncts_by match F)
      ≡ picks_bytes (matching is_knn (positions_of F) (matches_by match F))
      ++ (picks_bytes (matching is_other (positions_of F) (matches_by match F)) ++ remainder_bytes (last_remainder match F))
  -- it is never longer than the frame.
  pub short : (F : Frame) → GoodPlan (held F) → length (conjuncts_bytes (conjuncts_by match F)) ≤ length (frame_bytes F)

-- Of the call with a matcher.
pub record AllCall (match : Matcher) : Type 0 where
  -- It is accepted exactly when the frame is good and the buffer at least as long as what is written,
  pub accepts : (frame buffer : List ℕ) (F : Frame) → frame_of frame ≡ ok F
      → accepted (extract_all_by match frame buffer).answer ≡ leb (length (conjuncts_bytes (conjuncts_by match F))) (length buffer)
  -- so with a buffer as long as the frame it always is.
  pub room : (F : Frame) → GoodPlan (held F) → (buffer : List ℕ) → length (frame_bytes F) ≤ length buffer
      → extract_all_by match (frame_bytes F) buffer ≡ finish_all buffer (ok (conjuncts_by match F))
  -- Accepted, it writes the conjuncts of a good frame, at most 16,384 bytes after at most 1,024 rounds, and keeps the bytes after them.
  pub writes : (frame buffer : List ℕ) → AllBytes frame → accepted (extract_all_by match frame buffer).answer ≡ true
      → (F : Frame) × (frame_of frame ≡ ok F) × AllWrote (conjuncts_by match F) buffer (extract_all_by match frame buffer)
      × (length (conjuncts_bytes (conjuncts_by match F)) ≤ most_bytes) × (length (conjuncts_by match F).taken ≤ most_nodes)
  -- Refused, it writes nothing,
  pub keeps : (frame buffer : List ℕ) → accepted (extract_all_by match frame buffer).answer ≡ false
      → AllKept buffer (extract_all_by match frame buffer)
  -- with the frame's own refusal, 1 to 8, or 9 for a good one.
  pub refuses : (frame buffer : List ℕ) (number : ℕ) → frame_of frame ≡ refused number
      → (extract_all_by match frame buffer).answer ≡ refused number

-- All of it holds of every lawful matcher.
abbrev pub AnyMatcherAll : Type 1
AnyMatcherAll = (match : Matcher) (Asks : Meaning → Type 0) → Lawful match Asks → TakesAll match Asks × AllCall match
