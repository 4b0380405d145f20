-- The short claims, each from the definitions or from a claim that is proved.
use Rattle.std.specs.Prelude.{if◌then◌else◌}
use Prim.Native.Nat.{ℕ, zero, suc}
use native.Mathlib.Omega.{arith}
use mathlib.Core.Path.{◌≡◌, refl, sym, ap, ◌∙◌, subst}
use mathlib.Core.Bool.{Bool, true, false, false≢true}
use mathlib.Core.List.{List, [], ◌∷◌, ◌++◌, map}
use mathlib.Core.Option
use mathlib.Core.Option.{Option, none, some}
use lib.ListN.{length, take, drop, get_or, length-append}
use lib.Seq.{take-append_seam}
use lib.Dec.{leb}
use borrow.Author.Tests.{le-leb}
use Rattle.definitions.specs.Words.Basics.{Result, ok, refused, big_endian, all}
use Rattle.definitions.specs.Words.Expression.{Side, left, right, no_side, Relation, Expr, Record, Frame, Predicate, relation, distance, knn, Extraction, Plan, held, extracted}
use Rattle.definitions.specs.Bytes.Encode.{predicate_kind, extraction_bytes, plan_bytes}
use Rattle.definitions.specs.Words.References.{columns_of, same_side, record_at}
use Rattle.definitions.specs.Words.Leaves.{leaves}
use Rattle.definitions.specs.Filter.Match.{ArgumentSide, no_columns, all_on, mixed, common_side, side_of, Order, left_right, right_left, no_order, Request, ask_relation, ask_distance, ask_knn, ask_nothing, request, match_relation, store_distance, match_distance, match_knn, match_request, match_leaf_by, match_leaf}
use Rattle.definitions.specs.Filter.Extract.{Pick, without, prune, is_knn, later, first_match, first_of, pick, take_pick, matches_by, matches_of, extraction_by}
use Rattle.definitions.specs.Filter.Exchange.{exchange_record, exchange_frame, exchange_extraction, exchange_plan}
use Rattle.definitions.specs.Bytes.Plans.{plan_of}
use Rattle.definitions.specs.Calls.Base.{written_over, Outcome, finish, held_plan, new_after_exchange, exchange}
use Rattle.definitions.specs.Bytes.Good.{GoodPlan}
use Rattle.definitions.specs.Lists.Sessions.{accepted}
use Rattle.definitions.specs.Filter.Merge.{merge_frames}
use Rattle.definitions.specs.Bytes.Printed.{printed}
use Rattle.definitions.specs.Calls.Print.{print}
use Rattle.definitions.specs.Filter.Project.{ChildLists, project_predicate, project_extraction, placed, projection}
use Rattle.definitions.specs.Claims.PriceLine.{price_line}
use Rattle.theorems.proofs.InverseFrame.{same_ok, frame_back}
use Rattle.theorems.proofs.Lengths.{Good, held-good, held-is, bytes-up-to}
use Rattle.theorems.proofs.RoundTripPlan.{plan-reads}
use Rattle.theorems.proofs.ExchangeGood.{exchange-good}
use Rattle.theorems.proofs.Changes.{over_first}
use Rattle.theorems.proofs.InversePlan.{plan-back}
use Rattle.theorems.proofs.MatchLaws.{match-laws}
use Rattle.theorems.proofs.Pick.{takes-by}
use Rattle.theorems.proofs.Machines.{first-bytes, price-exchanged}
use Rattle.theorems.proofs.PrintCall.{prints-once, print-gives}
use Rattle.theorems.proofs.Merged.{merged-leaves-are}
use Rattle.theorems.proofs.ProjectCall.{project-wrote}
use Rattle.definitions.specs.Claims.Short.{ExchangedKeepsPosition, ExchangeKeepsPosition, ProjectionKeepsLine, ProjectKeepsLine, MergeExchanged, MergeExchangedLine, PolicyKeepsIndex, BoundWithoutColumns, SameTextSameExpression}

-- ---- exchange

-- A good plan that is written over a plan buffer is held there.
written-is-held : (p : Plan) (buffer : List ℕ) → GoodPlan p → held_plan (length (plan_bytes p)) (written_over (plan_bytes p) buffer) ≡ ok p
unfolding held_plan written_over
written-is-held p buffer g =
    let new : List ℕ = plan_bytes p ++ drop (length (plan_bytes p)) buffer in
    ap (λ (b : Bool). if b then plan_of (take (length (plan_bytes p)) new) else refused 10)
    (le-leb (length (plan_bytes p)) (length new) (simp length-append (omega arith)))
    ∙ ap plan_of (take-append_seam (plan_bytes p) (drop (length (plan_bytes p)) buffer)) ∙ plan-reads p g

pub exchanged-keeps-position : ExchangedKeepsPosition
exchanged-keeps-position X = (unfold exchange_extraction in refl, first-bytes X true ∙ sym (first-bytes X false))

-- An accepted exchange writes the exchanged plan.
exchange-done : (n : ℕ) (buffer scratch bytes : List ℕ) (b : Bool)
    → accepted (finish n buffer scratch (if b then ok bytes else refused 9)).answer ≡ true
    → finish n buffer scratch (if b then ok bytes else refused 9) ≡ finish n buffer scratch (ok bytes)
exchange-done n buffer scratch bytes true a = refl
exchange-done n buffer scratch bytes false a = unfold finish accepted in absurd (false≢true a)

exchanges : (n : ℕ) (buffer scratch : List ℕ) (X : Extraction) → held_plan n buffer ≡ ok (extracted X)
    → accepted (exchange n buffer scratch).answer ≡ true
    → exchange n buffer scratch ≡ finish n buffer scratch (ok (plan_bytes (extracted (exchange_extraction X))))
unfolding exchange new_after_exchange exchange_plan
exchanges n buffer scratch X holds a =
    let same = ap (λ (r : Result Plan). finish n buffer scratch (new_after_exchange n (length scratch) r)) holds in
    same ∙ exchange-done n buffer scratch _ (leb n (length scratch)) (subst (λ (o : Outcome). accepted o.answer ≡ true) same a)

pub exchange-keeps-position : ExchangeKeepsPosition
unfolding finish exchange_plan
exchange-keeps-position n buffer scratch X bytes holds a =
    let Y : Plan = extracted (exchange_extraction X) in
    let good : GoodPlan (extracted X) = subst Good holds (held-good n buffer bytes) in
    let better : GoodPlan Y = exchange-good (extracted X) good in
    let old : take n buffer ≡ plan_bytes (extracted X) =
    (plan-back (take n buffer) (extracted X) (bytes-up-to n buffer bytes) (held-is n buffer (extracted X) holds).1).0 in
    rw (exchanges n buffer scratch X holds a) (
      written-is-held Y buffer better,
      ap (take 3) (over_first (plan_bytes Y) buffer) ∙ (exchanged-keeps-position X).1 ∙ sym (ap (take 3) old),
    )

-- ---- projections

kind-projected : (lists : ChildLists) (p : Predicate) → predicate_kind (project_predicate lists p) ≡ predicate_kind p
unfolding predicate_kind project_predicate
kind-projected lists (relation type l r) = refl
kind-projected lists (distance form side l r bound) = refl
kind-projected lists (knn k spheroid probe ties l r) = refl

first_three : (X : Extraction) → take 3 (plan_bytes (extracted X)) ≡ predicate_kind X.predicate ∷ big_endian 2 X.position
unfolding plan_bytes extraction_bytes big_endian
first_three X = refl

projected-three : (lists : ChildLists) (X : Extraction)
    → take 3 (plan_bytes (extracted (project_extraction lists X))) ≡ take 3 (plan_bytes (extracted X))
unfolding project_extraction
projected-three lists X =
    first_three (project_extraction lists X)
    ∙ ap (λ (k : ℕ). k ∷ big_endian 2 X.position) (kind-projected lists X.predicate) ∙ sym (first_three X)

same_some : {A : Type 0} (a b : A) → some a ≡ some b → a ≡ b
same_some a b e = cc

no-some : {A : Type 0} (a : A) {B : Type 0} → ◌≡◌ {A = Option A} none (some a) → B
no-some a e = let z : ◌≡◌ {A = ℕ} 0 1 = cc in absurd (omega arith)

pub projection-keeps-line : ProjectionKeepsLine
unfolding projection
projection-keeps-line lists X Y e = by-placed (placed lists X) e where
  by-placed : (b : Bool) → (if b then some (project_extraction lists X) else none) ≡ some Y
      → take 3 (plan_bytes (extracted Y)) ≡ take 3 (plan_bytes (extracted X))
  by-placed true e =
      subst (λ (Z : Extraction). take 3 (plan_bytes (extracted Z)) ≡ take 3 (plan_bytes (extracted X)))
      (same_some (project_extraction lists X) Y e) (projected-three lists X)
  by-placed false e = no-some Y e

pub project-keeps-line : ProjectKeepsLine
project-keeps-line lists n buffer scratch bytes a =
    let (X, needs, wrote) = project-wrote lists n buffer scratch bytes a in
    let (fits, reads) = held-is n buffer (extracted X) needs.holds in
    let old : take n buffer ≡ plan_bytes (extracted X) =
    (plan-back (take n buffer) (extracted X) (bytes-up-to n buffer bytes) reads).0 in
    ap (take 3) wrote.plan ∙ projected-three lists X ∙ sym (ap (take 3) old)

-- ---- merged frames

map-join : {A B : Type 0} (f : A → B) (xs ys : List A) → map f xs ++ map f ys ≡ map f (xs ++ ys)
map-join f [] ys = refl
map-join f (x ∷ xs) ys = ap (λ l. f x ∷ l) (map-join f xs ys)

map-length : {A B : Type 0} (f : A → B) (xs : List A) → length (map f xs) ≡ length xs
map-length f [] = refl
map-length f (x ∷ xs) = ap suc (map-length f xs)

pub merge-exchanged : MergeExchanged
unfolding merge_frames exchange_frame
merge-exchanged old new = rw (map-length exchange_record old.records, map-join exchange_record old.records new.records) refl

pub merge-exchanged-line : MergeExchangedLine
merge-exchanged-line old new = ap price_line (merge-exchanged old new) ∙ price-exchanged match-laws (merge_frames old new)

-- ---- a policy

abbrev Matches : Type 0
Matches = List (Option Predicate)

-- A pick among the first leaves is one among all.
later-kept : (x y : Option Pick) (p : Pick) → ((q : Pick) → x ≡ some q → y ≡ some q) → later x ≡ some p → later y ≡ some p
unfolding later
later-kept none y p h e = no-some p e
later-kept (some q) y p h e = ap later (h q refl) ∙ e

test-kept : (b : Bool) (a p : Pick) (x y : Option Pick) → ((q : Pick) → x ≡ some q → y ≡ some q)
    → (if b then some a else later x) ≡ some p → (if b then some a else later y) ≡ some p
test-kept true a p x y h e = e
test-kept false a p x y h e = later-kept x y p h e

first-kept : (test : Predicate → Bool) (ms ns : Matches) (p : Pick) → first_match test ms ≡ some p → first_match test (ms ++ ns) ≡ some p
unfolding first_match
first-kept test [] ns p e = no-some p e
first-kept test (none ∷ ms) ns p e = later-kept (first_match test ms) (first_match test (ms ++ ns)) p (first-kept test ms ns) e
first-kept test (some a ∷ ms) ns p e =
    test-kept (test a) (record { position = 0; predicate = a }) p (first_match test ms) (first_match test (ms ++ ns))
    (first-kept test ms ns) e

-- Where no leaf is a KNN match, the first match is none.
later-plain : (x y : Option Pick) (p : Pick) → (x ≡ none → (q : Pick) → y ≡ some q → is_knn q.predicate ≡ false)
    → later x ≡ none → later y ≡ some p → is_knn p.predicate ≡ false
unfolding later
later-plain none none p h e f = no-some p f
later-plain none (some q) p h e f =
    subst (λ (r : Pick). is_knn r.predicate ≡ false) (same_some _ p f) (h refl q refl)
later-plain (some q) y p h e f = no-some _ (sym e)

test_plain : (b : Bool) (a : Predicate) (p : Pick) (x : Option Pick) → is_knn a ≡ b
    → (if b then some (record { position = 0; predicate = a }) else later x) ≡ none
    → some (record { position = 0; predicate = a }) ≡ some p → is_knn p.predicate ≡ false
test_plain true a p x t e f = no-some _ (sym e)
test_plain false a p x t e f = subst (λ (r : Pick). is_knn r.predicate ≡ false) (same_some _ p f) t

first_plain : (ms : Matches) → first_match is_knn ms ≡ none → (p : Pick) → first_match (λ p. true) ms ≡ some p → is_knn p.predicate ≡ false
unfolding first_match
first_plain [] e p f = no-some p f
first_plain (none ∷ ms) e p f = later-plain (first_match is_knn ms) (first_match (λ p. true) ms) p (first_plain ms) e f
first_plain (some a ∷ ms) e p f = test_plain (is_knn a) a p (first_match is_knn ms) refl e f

-- The pick among all leaves, by the one among the first.
record Stays (ms ns : Matches) (p : Pick) : Type 0 where
  taken : Pick
  is : pick (ms ++ ns) ≡ some taken
  knn-stays : is_knn p.predicate ≡ true → taken ≡ p

pick-stays : (ms ns : Matches) (p : Pick) (x y : Option Pick) → first_match is_knn ms ≡ x → first_match is_knn (ms ++ ns) ≡ y
    → first_of x (first_match (λ p. true) ms) ≡ some p → Stays ms ns p
unfolding pick first_of
pick-stays ms ns p (some q) y ex ey e =
    record { taken = p; is = rw (first-kept is_knn ms ns q ex) e; knn-stays = λ _. refl }
pick-stays ms ns p none (some r) ex ey e =
    record { taken = r; is = rw ey refl; knn-stays = λ k. absurd (false≢true (sym (first_plain ms ex p e) ∙ k)) }
pick-stays ms ns p none none ex ey e =
    record { taken = p; is = rw ey (first-kept (λ p. true) ms ns p e); knn-stays = λ _. refl }

policy-by : (old new : Frame) (X : Extraction) (q : Option Pick) → pick (matches_of old) ≡ q → take_pick old q ≡ some X
    → matches_of (merge_frames old new) ≡ matches_of old ++ matches_of new
    → (Y : Extraction) × (take_pick (merge_frames old new) (pick (matches_of (merge_frames old new))) ≡ some Y)
    × (is_knn X.predicate ≡ true → (Y.position ≡ X.position) × (Y.predicate ≡ X.predicate))
unfolding take_pick
policy-by old new X none eq e m = no-some X e
policy-by old new X (some p) eq e m =
    let s : Stays (matches_of old) (matches_of new) p =
    unfold pick in pick-stays (matches_of old) (matches_of new) p _ _ refl refl eq in
    let M : Frame = merge_frames old new in
    let same = same_some _ X e in (
      record {
        position = s.taken.position;
        predicate = s.taken.predicate;
        remainder = Option.map (prune M.records) (without s.taken.position M.expr);
      },
      rw (m, s.is) refl,
      λ k. (
        ap (λ (q : Pick). q.position) (s.knn-stays (ap (λ (Z : Extraction). is_knn Z.predicate) same ∙ k))
            ∙ ap (λ (Z : Extraction). Z.position) same,
        ap (λ (q : Pick). q.predicate) (s.knn-stays (ap (λ (Z : Extraction). is_knn Z.predicate) same ∙ k))
            ∙ ap (λ (Z : Extraction). Z.predicate) same,
      ),
    )

pub policy-keeps-index : PolicyKeepsIndex
unfolding extraction_by
policy-keeps-index old new X g h e = policy-by old new X (pick (matches_of old)) refl e (merged-leaves-are match-laws old new g h).1

-- ---- distances

-- A distance of side none has a bound without columns.
abbrev Plain : Option Predicate → Type 0
Plain none = Unit {0}
Plain (some (relation type l r)) = Unit {0}
Plain (some (distance form left l r bound)) = Unit {0}
Plain (some (distance form right l r bound)) = Unit {0}
Plain (some (distance form no_side l r bound)) = columns_of bound ≡ []
Plain (some (knn k spheroid probe ties l r)) = Unit {0}

no-side : (b : Bool) (s : Side) → (if b then all_on s else mixed) ≡ no_columns → ⊥
no-side true s e = let z : ◌≡◌ {A = ℕ} 0 1 = cc in absurd (omega arith)
no-side false s e = let z : ◌≡◌ {A = ℕ} 0 1 = cc in absurd (omega arith)

columns-none : (f : ℕ → Side) (columns : List ℕ) → common_side (map f columns) ≡ no_columns → columns ≡ []
unfolding common_side
columns-none f [] e = refl
columns-none f (c ∷ columns) e = absurd (no-side (all (same_side (f c)) (map f columns)) (f c) e)

relation-plain : (type : Relation) (a b : Expr) (o : Order) → Plain (match_relation type a b o)
unfolding match_relation
relation-plain type a b left_right = tt
relation-plain type a b right_left = tt
relation-plain type a b no_order = tt

knn-plain : (k spheroid ties : ℕ) (a b : Expr) (o : Order) → Plain (match_knn k spheroid ties a b o)
unfolding match_knn
knn-plain k spheroid ties a b left_right = tt
knn-plain k spheroid ties a b right_left = tt
knn-plain k spheroid ties a b no_order = tt

distance-plain : (rs : List Record) (form : ℕ) (a b bound : Expr) (s : ArgumentSide) (o : Order) → (s ≡ no_columns → columns_of bound ≡ [])
    → Plain (match_distance rs form a b bound s o)
unfolding match_distance store_distance
distance-plain rs form a b bound no_columns left_right h = h refl
distance-plain rs form a b bound no_columns right_left h = h refl
distance-plain rs form a b bound no_columns no_order h = tt
distance-plain rs form a b bound (all_on left) left_right h = tt
distance-plain rs form a b bound (all_on left) right_left h = tt
distance-plain rs form a b bound (all_on left) no_order h = tt
distance-plain rs form a b bound (all_on right) left_right h = tt
distance-plain rs form a b bound (all_on right) right_left h = tt
distance-plain rs form a b bound (all_on right) no_order h = tt
distance-plain rs form a b bound (all_on no_side) o h = tt
distance-plain rs form a b bound mixed o h = tt

request-plain : (rs : List Record) (r : Request) → Plain (match_request rs r)
unfolding match_request side_of
request-plain rs (ask_relation type a b) = relation-plain type _ _ _
request-plain rs (ask_distance form a b bound) =
    distance-plain rs form _ _ bound _ _ (columns-none (λ index. (record_at rs index).side) (columns_of bound))
request-plain rs (ask_knn k spheroid ties a b) = knn-plain k spheroid ties _ _ _
request-plain rs ask_nothing = tt

matched-plain : (rs : List Record) (es : List Expr) (i : ℕ) → Plain (get_or (map (match_leaf rs) es) i none)
unfolding match_leaf_by
matched-plain rs [] i = tt
matched-plain rs (e ∷ es) zero = request-plain rs (request e)
matched-plain rs (e ∷ es) (suc i) = matched-plain rs es i

pub bound-without-columns : BoundWithoutColumns
unfolding matches_by
bound-without-columns F X form l r bound e is =
    subst Plain ((takes-by match_leaf F X e).match ∙ ap some is) (matched-plain F.records (leaves F.expr) X.position)

-- ---- texts

pub same-text-same-expression : SameTextSameExpression
unfolding accepted
same-text-same-expression frame buffer frame' buffer' m bytes bytes' e e' same =
    let (F, wrote) = print-gives frame buffer (ap accepted e) in
    let (F', wrote') = print-gives frame' buffer' (ap accepted e') in
    let size : length (printed F.expr) ≡ m = same_ok _ m (sym wrote.answer ∙ e) in
    let size' : length (printed F'.expr) ≡ m = same_ok _ m (sym wrote'.answer ∙ e') in
    let text : take m (print frame buffer).buffer ≡ printed F.expr =
    subst (λ (k : ℕ). take k (print frame buffer).buffer ≡ printed F.expr) size wrote.text in
    let text' : take m (print frame' buffer').buffer ≡ printed F'.expr =
    subst (λ (k : ℕ). take k (print frame' buffer').buffer ≡ printed F'.expr) size' wrote'.text in
    let good : GoodPlan (held F) = (frame_back frame F bytes wrote.given).1 in
    let good' : GoodPlan (held F') = (frame_back frame' F' bytes' wrote'.given).1 in (
      F,
      F',
      wrote.given,
      wrote'.given,
      prints-once (length F.records) (length F'.records) F.expr F'.expr good.readable.expr.in_range
          good'.readable.expr.in_range (sym text ∙ same ∙ text'),
    )
