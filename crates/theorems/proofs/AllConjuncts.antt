-- All that is claimed of all indexable conjuncts, with any lawful matcher.
use Rattle.std.specs.Prelude.{if◌then◌else◌}
use Prim.Native.Nat.{ℕ, zero, suc, ◌+◌, ◌≤◌, ◌<◌}
use native.Mathlib.Omega.{arith}
use mathlib.Core.Path.{◌≡◌, refl, sym, ap, ap₂, ◌∙◌, subst}
use mathlib.Core.Bool.{Bool, true, false, ◌&&◌, ◌||◌, not, and_assoc, false≢true}
use mathlib.Core.List.{List, [], ◌∷◌, ◌++◌, map, map-append, append-nil, append_assoc}
use mathlib.Core.Option
use mathlib.Core.Option.{Option, none, some}
use lib.ListN.{length, get_or, length-map}
use lib.Dec.{leb}
use borrow.Author.Tests.{le-leb, leb-true}
use Rattle.definitions.specs.Words.Limits.{most_bytes, most_nodes}
use Rattle.definitions.specs.Words.Basics.{Result, ok, refused, any, all, keep}
use Rattle.definitions.specs.Words.Expression.{Expr, column, literal, and, binary, call, other, field, Record, Frame, Extraction, held}
use Rattle.definitions.specs.Bytes.Encode.{frame_bytes, remainder_bytes, plan_bytes}
use Rattle.definitions.specs.Words.Leaves.{leaves}
use Rattle.definitions.specs.Bytes.Plans.{frame_of}
use Rattle.definitions.specs.Filter.Extract.{Pick, is_knn, prune, Matcher, matches_by, extraction_by, is_match}
use Rattle.definitions.specs.Bytes.Good.{AllBytes, plan_nodes, GoodPlan}
use Rattle.definitions.specs.Lists.Sessions.{accepted}
use Rattle.definitions.specs.Meaning.Values.{Meaning}
use Rattle.definitions.specs.Meaning.Matchers.{Lawful}
use Rattle.definitions.specs.Claims.Lists.{some_leaf_matches_by}
use Rattle.definitions.specs.Filter.Conjuncts.{Conjuncts, no_round, round_then, but, in_first, round, rounds, positions_from, positions_of, conjuncts_by, matching, is_other, knn_first, match_count, and_both, unless, without_all, last_remainder}
use Rattle.definitions.specs.Calls.ExtractAll.{pick_bytes, picks_bytes, conjuncts_bytes, new_conjuncts, finish_all, extract_all_by}
use Rattle.definitions.specs.Meaning.Conjuncts.{conjuncts_value}
use Rattle.definitions.specs.Claims.All.{TakenInOrder, leaves_left, LeavesThatStay, GoodRest, AllWrote, AllKept, TakesAll, AllCall, AnyMatcherAll}
use Rattle.theorems.proofs.Taken.{and-both}
use Rattle.theorems.proofs.Pick.{takes-by, position-of-leaf, leaves-nodes}
use Rattle.theorems.proofs.RoundTripPlan.{frame-reads}
use Rattle.theorems.proofs.InverseFrame.{frame_back}
use Rattle.theorems.proofs.ExtractGood.{GoodExtraction, good-by}
use Rattle.theorems.proofs.Changes.{over-same, over_first}
use Rattle.theorems.proofs.AllPicks.{Matches, picks-count, positions-length}
use Rattle.theorems.proofs.AllOrder.{in-order}
use Rattle.theorems.proofs.AllRounds.{matches_leaf, told_of, leaves-some, first-none, enough-told, conjuncts-told}
use Rattle.theorems.proofs.AllLengths.{told-short}
use Rattle.theorems.proofs.AllValues.{frame-value}
use Rattle.theorems.proofs.AllExchanged.{conjuncts-turned}
use Rattle.theorems.proofs.AllGood.{last-good, rest-good, all-below}

-- ---- no match, or nothing else

none-at : (ms : Matches) → any is_match ms ≡ false → (i : ℕ) → get_or ms i none ≡ none
unfolding any is_match
none-at [] e i = refl
none-at (none ∷ ms) e zero = refl
none-at (none ∷ ms) e (suc i) = none-at ms e i
none-at (some p ∷ ms) e i = absurd (false≢true (sym e))

all_any : (ms : Matches) → 0 < length ms → all is_match ms ≡ true → any is_match ms ≡ true
unfolding any all
all_any [] h e = absurd (omega arith)
all_any (m ∷ ms) h e = ap (λ (b : Bool). b || any is_match ms) (and-both (is_match m) (all is_match ms) e).0

all_append : (ms ns : Matches) → all is_match (ms ++ ns) ≡ (all is_match ms && all is_match ns)
unfolding all
all_append [] ns = refl
all_append (m ∷ ms) ns =
    ap (λ (b : Bool). is_match m && b) (all_append ms ns) ∙ sym (and_assoc (is_match m) (all is_match ms) (all is_match ns))

module _ (match : Matcher) (rs : List Record) where
  unless-goes : (e : Expr) → all is_match (match rs e ∷ []) ≡ true → unless (matches_leaf match rs) e ≡ none
  unfolding all unless
  unless-goes e h = ap (λ (b : Bool). if b then none else some e) (and-both (is_match (match rs e)) true h).0

  all_go : (e : Expr) → all is_match (map (match rs) (leaves e)) ≡ true → without_all (matches_leaf match rs) e ≡ none
  unfolding leaves without_all and_both
  all_go (column i t) h = unless-goes (column i t) h
  all_go (literal type v) h = unless-goes (literal type v) h
  all_go (and l r) h =
      let both : (all is_match (map (match rs) (leaves l)) ≡ true) × (all is_match (map (match rs) (leaves r)) ≡ true) =
      and-both _ _ (sym (ap (all is_match) (map-append (match rs) (leaves l) (leaves r))
      ∙ all_append (map (match rs) (leaves l)) (map (match rs) (leaves r))) ∙ h) in
      ap₂ and_both (all_go l both.0) (all_go r both.1)
  all_go (binary o l r) h = unless-goes (binary o l r) h
  all_go (call name es) h = unless-goes (call name es) h
  all_go (other tag es) h = unless-goes (other tag es) h
  all_go (field b t) h = unless-goes (field b t) h

-- ---- the leaves that stay

keep_append : (t : Expr → Bool) (xs ys : List Expr) → keep t (xs ++ ys) ≡ keep t xs ++ keep t ys
unfolding keep
keep_append t [] ys = refl
keep_append t (x ∷ xs) ys = by (t x) (keep_append t xs ys)
  where
    by : (b : Bool) → keep t (xs ++ ys) ≡ keep t xs ++ keep t ys → (if b then x ∷ keep t (xs ++ ys) else keep t (xs ++ ys))
        ≡ (if b then x ∷ keep t xs else keep t xs) ++ keep t ys
    by true h = ap (λ (l : List Expr). x ∷ l) h
    by false h = h

left-of-both : (x y : Option Expr) → leaves_left (and_both x y) ≡ leaves_left x ++ leaves_left y
unfolding leaves_left and_both leaves
left-of-both none y = refl
left-of-both (some l) none = sym (append-nil (leaves l))
left-of-both (some l) (some r) = refl

one-stays : (goes : Expr → Bool) (e : Expr) → leaves e ≡ e ∷ [] → leaves_left (unless goes e) ≡ keep (λ leaf. not (goes leaf)) (e ∷ [])
unfolding unless keep leaves_left
one-stays goes e h = by (goes e)
  where
    by : (b : Bool) → leaves_left (if b then none else some e) ≡ (if not b then e ∷ [] else [])
    by true = refl
    by false = h

pub leaves-that-stay : LeavesThatStay
unfolding leaves without_all
leaves-that-stay goes (column i t) = one-stays goes (column i t) refl
leaves-that-stay goes (literal type v) = one-stays goes (literal type v) refl
leaves-that-stay goes (and l r) =
    left-of-both (without_all goes l) (without_all goes r) ∙ ap₂ ◌++◌ (leaves-that-stay goes l) (leaves-that-stay goes r)
    ∙ sym (keep_append (λ leaf. not (goes leaf)) (leaves l) (leaves r))
leaves-that-stay goes (binary o l r) = one-stays goes (binary o l r) refl
leaves-that-stay goes (call name es) = one-stays goes (call name es) refl
leaves-that-stay goes (other tag es) = one-stays goes (other tag es) refl
leaves-that-stay goes (field b t) = one-stays goes (field b t) refl

-- ---- the bytes

pub picks-append : (ps qs : List Pick) → picks_bytes (ps ++ qs) ≡ picks_bytes ps ++ picks_bytes qs
unfolding picks_bytes
picks-append [] qs = refl
picks-append (p ∷ ps) qs =
    ap (λ (s : List ℕ). pick_bytes p ++ s) (picks-append ps qs) ∙ sym (append_assoc (pick_bytes p) (picks_bytes ps) (picks_bytes qs))

-- ---- with every lawful matcher

hits-length : (ms : Matches) → match_count ms ≤ length ms
unfolding match_count
hits-length [] = omega arith
hits-length (none ∷ ms) = omega (arith, hits-length ms)
hits-length (some p ∷ ms) = omega (arith, hits-length ms)

as-many : (match : Matcher) (F : Frame) → length (matches_by match F) ≡ length (leaves F.expr)
unfolding matches_by
as-many match F = length-map (leaves F.expr) (match F.records)

-- A good frame has at most 1,024 AND-leaves.
few-matches : (match : Matcher) (F : Frame) → GoodPlan (held F) → length (matches_by match F) ≤ most_nodes
unfolding plan_nodes
few-matches match F g = omega (arith, as-many match F, leaves-nodes F.expr, g.few_nodes)

module _ {match : Matcher} {Asks : Meaning → Type 0} (laws : Lawful match Asks) (F : Frame) (g : GoodPlan (held F)) where
  all_told : conjuncts_by match F ≡ told_of match (positions_of F) F
  all_told = conjuncts-told laws F g

  taken-told : (conjuncts_by match F).taken ≡ knn_first (positions_of F) (matches_by match F)
  unfolding told_of
  taken-told = ap (λ (C : Conjuncts). C.taken) all_told

  every-leaf : TakenInOrder (matches_by match F) (conjuncts_by match F).taken
  every-leaf =
      subst (TakenInOrder (matches_by match F))
      (sym (taken-told ∙ ap (λ (n : ℕ). knn_first (positions_from 0 n) (matches_by match F)) (sym (as-many match F))))
      (in-order (matches_by match F))

  rounds-are : length (conjuncts_by match F).taken ≡ match_count (matches_by match F)
  rounds-are =
      ap length taken-told
      ∙ picks-count (positions_of F) (matches_by match F) (positions-length 0 (length (leaves F.expr)) ∙ sym (as-many match F))

  few-rounds : match_count (matches_by match F) ≤ most_nodes
  few-rounds = omega (arith, hits-length (matches_by match F), few-matches match F g)

  last-told : (conjuncts_by match F).rest ≡ last_remainder match F
  unfolding told_of
  last-told = ap (λ (C : Conjuncts). C.rest) all_told

  none_told : some_leaf_matches_by match F ≡ false → conjuncts_by match F ≡ no_round (some F)
  unfolding some_leaf_matches_by
  none_told e = all_told ∙ sym (first-none match F (positions_of F) (none-at (matches_by match F) e))

  no-rest : all is_match (matches_by match F) ≡ true → (conjuncts_by match F).rest ≡ none
  unfolding last_remainder matches_by
  no-rest e =
      last-told
      ∙ ap₂ (λ (b : Bool) (x : Option Expr). if b then Option.map (prune F.records) x else some F)
      (all_any (matches_by match F) (omega (arith, as-many match F, leaves-some F.expr)) e) (all_go match F.records F.expr e)

  at_once : conjuncts_bytes (conjuncts_by match F)
      ≡ picks_bytes (matching is_knn (positions_of F) (matches_by match F))
      ++ (picks_bytes (matching is_other (positions_of F) (matches_by match F)) ++ remainder_bytes (last_remainder match F))
  unfolding conjuncts_bytes told_of knn_first
  at_once =
      ap conjuncts_bytes all_told
      ∙ ap (λ (x : List ℕ). x ++ remainder_bytes (last_remainder match F))
      (picks-append (matching is_knn (positions_of F) (matches_by match F)) (matching is_other (positions_of F) (matches_by match F)))
      ∙ append_assoc (picks_bytes (matching is_knn (positions_of F) (matches_by match F))) _ _

  pub no_longer : length (conjuncts_bytes (conjuncts_by match F)) ≤ length (frame_bytes F)
  no_longer =
      subst (λ (C : Conjuncts). length (conjuncts_bytes C) ≤ length (frame_bytes F)) (sym all_told)
      (told-short laws F g.readable (positions_of F) (positions-length 0 (length (leaves F.expr))))

-- ---- the first round

-- Positions from a first one on: the one at a place.
position_at : (first number i : ℕ) → i < number → get_or (positions_from first number) i 0 ≡ first + i
unfolding positions_from
position_at first zero i h = absurd (omega (arith, h))
position_at first (suc number) zero h = omega arith
position_at first (suc number) (suc i) h = omega (arith, position_at (suc first) number i (omega (arith, h)))

module _ (match : Matcher) (F : Frame) (X : Extraction) (e : extraction_by match F ≡ some X) where
  abbrev extracted : Pick
  extracted = record { position = X.position; predicate = X.predicate }

  first_round : (most : ℕ) → X.position < most
      → (more : List Pick) × ((rounds match most (positions_from 0 most) (some F)).taken ≡ extracted ∷ more)
  unfolding rounds round round_then in_first
  first_round zero h = absurd (omega (arith, h))
  first_round (suc most) h = (
    (rounds match most (but X.position (positions_from 0 (suc most))) X.remainder).taken,
    ap (λ (x : Option Extraction). (round (rounds match most) (positions_from 0 (suc most)) F x).taken) e
        ∙ ap (λ (i : ℕ). record { position = i; predicate = X.predicate }
        ∷ (rounds match most (but X.position (positions_from 0 (suc most))) X.remainder).taken)
        (position_at 0 (suc most) X.position h ∙ omega arith),
  )

  first_taken : (more : List Pick) × ((conjuncts_by match F).taken ≡ extracted ∷ more)
  unfolding conjuncts_by
  first_taken = first_round (length (leaves F.expr)) (position-of-leaf match F X e)

takes-all : {match : Matcher} {Asks : Meaning → Type 0} → Lawful match Asks → TakesAll match Asks
unfolding rounds round
takes-all {match} laws = record {
  stops = λ most positions F e. ap (round (rounds match most) positions F) e;
  extracts = λ most positions F X e. (takes-by match F X e, ap (round (rounds match most) positions F) e);
  loads = λ F X g e. rest-good X (subst (GoodExtraction F) e (good-by laws F g)).0;
  first = first_taken match;
  enough = λ F most g h. enough-told laws F most g h ∙ sym (conjuncts-told laws F g);
  takes = every-leaf laws;
  positions = λ F g. all-below (matches_by match F) most_nodes (conjuncts_by match F).taken (few-matches match F g)
      (every-leaf laws F g).match;
  how_many = λ F g. (rounds-are laws F g, few-rounds laws F g);
  no_match = none_told laws;
  all_match = no-rest laws;
  last = λ F g. (last-told laws F g, subst GoodRest (sym (last-told laws F g)) (last-good F g match));
  value = λ M v F asked g. ap (conjuncts_value M v) (conjuncts-told laws F g) ∙ frame-value laws M asked v F g;
  exchanged = conjuncts-turned laws;
  written = at_once laws;
  short = no_longer laws;
}

-- ---- the call

module _ (match : Matcher) (buffer : List ℕ) where
  abbrev bytes_of : Frame → List ℕ
  bytes_of F = conjuncts_bytes (conjuncts_by match F)

  abbrev done : Result Frame → Result Conjuncts
  done = new_conjuncts match (length buffer)

  by-room : (F : Frame) (b : Bool)
      → accepted (finish_all buffer (if b then ok (conjuncts_by match F) else refused 9)).answer ≡ b
  unfolding finish_all accepted
  by-room F true = refl
  by-room F false = refl

  all-accepts : (frame : List ℕ) (F : Frame) → frame_of frame ≡ ok F
      → accepted (extract_all_by match frame buffer).answer ≡ leb (length (bytes_of F)) (length buffer)
  unfolding extract_all_by new_conjuncts
  all-accepts frame F e =
      ap (λ (r : Result Frame). accepted (finish_all buffer (done r)).answer) e ∙ by-room F (leb (length (bytes_of F)) (length buffer))

  all-refuses : (frame : List ℕ) (number : ℕ) → frame_of frame ≡ refused number
      → (extract_all_by match frame buffer).answer ≡ refused number
  unfolding extract_all_by new_conjuncts finish_all
  all-refuses frame number e = ap (λ (r : Result Frame). (finish_all buffer (done r)).answer) e

  finished-keeps : (x : Result Conjuncts) → accepted (finish_all buffer x).answer ≡ false → AllKept buffer (finish_all buffer x)
  unfolding finish_all accepted
  finished-keeps (ok C) a = absurd (false≢true (sym a))
  finished-keeps (refused number) a = record { kept = refl; no_rounds = refl }

  all-keeps : (frame : List ℕ) → accepted (extract_all_by match frame buffer).answer ≡ false
      → AllKept buffer (extract_all_by match frame buffer)
  unfolding extract_all_by
  all-keeps frame a = finished-keeps (done (frame_of frame)) a

  wrote : (C : Conjuncts) → length (conjuncts_bytes C) ≤ length buffer → AllWrote C buffer (finish_all buffer (ok C))
  unfolding finish_all
  wrote C fits = record {
    answer = refl;
    how_many = refl;
    written = over_first (conjuncts_bytes C) buffer;
    others = over-same (conjuncts_bytes C) buffer fits;
  }

  -- What is known once the frame is read.
  abbrev Wrote : (frame : List ℕ) → Result Frame → Type 0
  Wrote frame r =
      (F : Frame) × (r ≡ ok F) × AllWrote (conjuncts_by match F) buffer (finish_all buffer (done r))
      × (length (bytes_of F) ≤ most_bytes) × (length (conjuncts_by match F).taken ≤ most_nodes)

  room-wrote : (frame : List ℕ) (F : Frame) (b : Bool) → leb (length (bytes_of F)) (length buffer) ≡ b → b ≡ true
      → AllWrote (conjuncts_by match F) buffer (finish_all buffer (if b then ok (conjuncts_by match F) else refused 9))
  room-wrote frame F true e a = wrote (conjuncts_by match F) (leb-true _ _ e)
  room-wrote frame F false e a = absurd (false≢true a)

  all-wrote : {Asks : Meaning → Type 0} → Lawful match Asks → (frame : List ℕ) → AllBytes frame → (r : Result Frame) → frame_of frame ≡ r
      → accepted (finish_all buffer (done r)).answer ≡ true → Wrote frame r
  unfolding new_conjuncts plan_bytes
  all-wrote laws frame bytes (refused number) is a = absurd (false≢true (unfold finish_all accepted in a))
  all-wrote laws frame bytes (ok F) is a =
      let g : GoodPlan (held F) = (frame_back frame F bytes is).1 in
      let fits : leb (length (bytes_of F)) (length buffer) ≡ true = sym (by-room F (leb (length (bytes_of F)) (length buffer))) ∙ a in (
        F,
        refl,
        room-wrote frame F (leb (length (bytes_of F)) (length buffer)) refl fits,
        omega (arith, no_longer laws F g, g.few_bytes),
        omega (arith, rounds-are laws F g, few-rounds laws F g),
      )

all-call : {match : Matcher} {Asks : Meaning → Type 0} → Lawful match Asks → AllCall match
all-call {match} laws = record {
  accepts = λ frame buffer. all-accepts match buffer frame;
  room = λ F g buffer room. unfold extract_all_by new_conjuncts in
      (ap (λ (r : Result Frame). finish_all buffer (new_conjuncts match (length buffer) r)) (frame-reads F g)
      ∙ ap (λ (b : Bool). finish_all buffer (if b then ok (conjuncts_by match F) else refused 9))
      (le-leb (length (conjuncts_bytes (conjuncts_by match F))) (length buffer) (omega (arith, no_longer laws F g))));
  writes = λ frame buffer bytes a. unfold extract_all_by in all-wrote match buffer laws frame bytes (frame_of frame) refl a;
  keeps = λ frame buffer. all-keeps match buffer frame;
  refuses = λ frame buffer. all-refuses match buffer frame;
}

pub any-matcher-all-is : AnyMatcherAll
any-matcher-all-is match Asks laws = (takes-all laws, all-call laws)
