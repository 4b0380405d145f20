-- What the rounds take and leave, told at once, with any lawful matcher.
use Rattle.std.specs.Prelude.{if◌then◌else◌}
use Prim.Native.Nat.{ℕ, zero, suc, ◌+◌, ◌-◌, ◌≤◌, ◌<◌}
use native.Mathlib.Nat.{not-suc-le-zero, le_of_suc-le-suc}
use native.Mathlib.Omega.{arith}
use mathlib.Core.Path.{◌≡◌, refl, sym, ap, ap₂, ◌∙◌}
use mathlib.Core.Bool.{Bool, true, false}
use mathlib.Core.List.{List, [], ◌∷◌, ◌++◌, map}
use mathlib.Core.Option
use mathlib.Core.Option.{Option, none, some}
use lib.ListN.{length, get_or, length-append, length-map, get_or-append}
use lib.Seq.{get_or-append-add}
use lib.Dec.{ltb}
use borrow.Author.Tests.{ltb-true, ltb-false}
use Rattle.definitions.specs.Words.Basics.{keep}
use Rattle.definitions.specs.Words.Expression.{Expr, column, literal, and, binary, call, other, field, Record, Frame, held}
use Rattle.definitions.specs.Words.Leaves.{leaves}
use Rattle.definitions.specs.Bytes.Decode.{index_below}
use Rattle.definitions.specs.Words.References.{columns_of, map_columns, record_at}
use Rattle.definitions.specs.Filter.Extract.{Pick, pick, and_left, and_right, without, referenced, new_index, prune, take_pick, Matcher, matches_by, extraction_by, is_match}
use Rattle.definitions.specs.Bytes.Good.{InRange, GoodPlan}
use Rattle.definitions.specs.Meaning.Values.{Meaning}
use Rattle.definitions.specs.Meaning.Matchers.{Lawful}
use Rattle.definitions.specs.Filter.Conjuncts.{Conjuncts, no_round, round_then, but, in_first, round, rounds, positions_of, conjuncts_by, matching, knn_first, and_both, unless, without_all, last_remainder}
use Rattle.theorems.proofs.Tools.{by-test, mapped_at}
use Rattle.theorems.proofs.Taken.{Taken, taken, rest_leaves, less, RestIs, rest-in-range}
use Rattle.theorems.proofs.Pick.{any_none, any_some}
use Rattle.theorems.proofs.ExtractGood.{new-below, references, prune-in-range}
use Rattle.theorems.proofs.Truth.{kept_at}
use Rattle.theorems.proofs.MatchMeans.{map-all}
use Rattle.theorems.proofs.Moved.{map_same}
use Rattle.theorems.proofs.MatchesMoved.{leaves-moved}
use Rattle.theorems.proofs.Merged.{old-record, new-record, old-leaves}
use Rattle.theorems.proofs.AllPicks.{Matches, placed, Round, a-round, no-picks, positions-length, but-length, map-but}
use Rattle.theorems.proofs.PruneAgain.{remainder-again}

-- ---- leaves that are to go

-- What is left of a rest.
unfoldable pub rest_all : (Expr → Bool) → Option Expr → Option Expr
rest_all goes none = none
rest_all goes (some e) = without_all goes e

module _ (goes : Expr → Bool) where
  left-all : (rest : Option Expr) (r : Expr) → without_all goes (and_left rest r) ≡ and_both (rest_all goes rest) (without_all goes r)
  unfolding and_left rest_all without_all and_both
  left-all none r = refl
  left-all (some l) r = refl

  both-none : (x : Option Expr) → x ≡ and_both x none
  unfolding and_both
  both-none none = refl
  both-none (some e) = refl

  right-all : (l : Expr) (rest : Option Expr) → without_all goes (and_right l rest) ≡ and_both (without_all goes l) (rest_all goes rest)
  unfolding and_right rest_all without_all
  right-all l none = both-none (without_all goes l)
  right-all l (some r) = refl

  only-goes : (e d : Expr) (i : ℕ) → i < 1 → goes (get_or (e ∷ []) i d) ≡ true → none ≡ unless goes e
  unfolding unless
  only-goes e d zero h k = sym (ap (λ (b : Bool). if b then none else some e) k)
  only-goes e d (suc i) h k = absurd (not-suc-le-zero (le_of_suc-le-suc h))

  and-goes : (l r d : Expr) (i : ℕ) → i < length (leaves l ++ leaves r) → goes (get_or (leaves l ++ leaves r) i d) ≡ true
      → ((j : ℕ) → j < length (leaves l) → goes (get_or (leaves l) j d) ≡ true → rest_all goes (without j l) ≡ without_all goes l)
      → ((j : ℕ) → j < length (leaves r) → goes (get_or (leaves r) j d) ≡ true → rest_all goes (without j r) ≡ without_all goes r)
      → (b : Bool) → ltb i (length (leaves l)) ≡ b
      → without_all goes (if b then and_left (without i l) r else and_right l (without (i - length (leaves l)) r))
      ≡ and_both (without_all goes l) (without_all goes r)
  and-goes l r d i h k f g true e =
      let b : i < length (leaves l) = ltb-true i (length (leaves l)) e in
      left-all (without i l) r
      ∙ ap (λ (x : Option Expr). and_both x (without_all goes r))
      (f i b (ap goes (sym (get_or-append (leaves l) (leaves r) d i b)) ∙ k))
  and-goes l r d i h k f g false e =
      let b : length (leaves l) ≤ i = ltb-false i (length (leaves l)) e in
      let j : ℕ = i - length (leaves l) in
      let at : get_or (leaves l ++ leaves r) i d ≡ get_or (leaves r) j d =
      ap (λ (x : ℕ). get_or (leaves l ++ leaves r) x d) (omega arith) ∙ get_or-append-add (leaves l) (leaves r) j d in
      right-all l (without j r) ∙ ap (and_both (without_all goes l)) (g j (omega (arith, simp length-append at h)) (ap goes (sym at) ∙ k))

  -- A leaf that is to go may be taken out first.
  pub goes_first : (e d : Expr) (i : ℕ) → i < length (leaves e) → goes (get_or (leaves e) i d) ≡ true → rest_all goes (without i e)
      ≡ without_all goes e
  unfolding leaves without rest_all without_all
  goes_first (column a t) d i h k = only-goes (column a t) d i h k
  goes_first (literal type v) d i h k = only-goes (literal type v) d i h k
  goes_first (and l r) d i h k = and-goes l r d i h k (λ j. goes_first l d j) (λ j. goes_first r d j) (ltb i (length (leaves l))) refl
  goes_first (binary o l r) d i h k = only-goes (binary o l r) d i h k
  goes_first (call name es) d i h k = only-goes (call name es) d i h k
  goes_first (other tag es) d i h k = only-goes (other tag es) d i h k
  goes_first (field b t) d i h k = only-goes (field b t) d i h k

  -- No leaf is to go.
  abbrev pub Stay : List Expr → Type 0
  Stay [] = Unit {0}
  Stay (e ∷ es) = (goes e ≡ false) × Stay es

  stay-left : (xs ys : List Expr) → Stay (xs ++ ys) → Stay xs
  stay-left [] ys h = tt
  stay-left (x ∷ xs) ys h = (h.0, stay-left xs ys h.1)

  stay-right : (xs ys : List Expr) → Stay (xs ++ ys) → Stay ys
  stay-right [] ys h = h
  stay-right (x ∷ xs) ys h = stay-right xs ys h.1

  unless-stays : (e : Expr) → goes e ≡ false → unless goes e ≡ some e
  unfolding unless
  unless-stays e h = ap (λ (b : Bool). if b then none else some e) h

  pub all_stay : (e : Expr) → Stay (leaves e) → without_all goes e ≡ some e
  unfolding leaves without_all and_both
  all_stay (column i t) h = unless-stays (column i t) h.0
  all_stay (literal type v) h = unless-stays (literal type v) h.0
  all_stay (and l r) h = ap₂ and_both (all_stay l (stay-left (leaves l) (leaves r) h)) (all_stay r (stay-right (leaves l) (leaves r) h))
  all_stay (binary o l r) h = unless-stays (binary o l r) h.0
  all_stay (call name es) h = unless-stays (call name es) h.0
  all_stay (other tag es) h = unless-stays (other tag es) h.0
  all_stay (field b t) h = unless-stays (field b t) h.0

-- ---- a pruned frame matches as it did

pub leaves-some : (e : Expr) → 0 < length (leaves e)
unfolding leaves
leaves-some (column i t) = omega arith
leaves-some (literal type v) = omega arith
leaves-some (and l r) = simp length-append (omega (arith, leaves-some l))
leaves-some (binary o l r) = omega arith
leaves-some (call name es) = omega arith
leaves-some (other tag es) = omega arith
leaves-some (field b t) = omega arith

module _ {match : Matcher} {Asks : Meaning → Type 0} (laws : Lawful match Asks) (rs : List Record) (e : Expr) where
  abbrev kept : Record → Bool
  kept = referenced rs e

  abbrev rs₁ : List Record
  rs₁ = keep kept rs

  -- Over the kept records and then all of them every column has a number: its new one if its record is kept, else one past these.
  across : ℕ → ℕ
  across i = if kept (record_at rs i) then new_index kept rs i else length rs₁ + i

  across-same : (i : ℕ) → i < length rs → record_at (rs₁ ++ rs) (across i) ≡ record_at rs i
  unfolding across
  across-same i h =
      by-test (λ (j : ℕ). record_at (rs₁ ++ rs) j ≡ record_at rs i) (kept (record_at rs i)) (new_index kept rs i) (length rs₁ + i)
      (λ t. old-record rs₁ rs (new_index kept rs i) (new-below kept rs i h t) ∙ kept_at kept rs i h t)
      (λ _. new-record rs₁ rs i)

  across-new : map_columns (new_index kept rs) e ≡ map_columns across e
  unfolding across
  across-new =
      map_same (new_index kept rs) across e
      (map-all (λ i. kept (record_at rs i) ≡ true) (λ i. new_index kept rs i ≡ across i)
      (λ i t. sym (ap (λ (b : Bool). if b then new_index kept rs i else length rs₁ + i) t)) (columns_of e) (references rs e))

  pub pruned-matches : length rs ≤ 256 → InRange (index_below (length rs)) e → matches_by match (prune rs e) ≡ map (match rs) (leaves e)
  unfolding matches_by prune
  pruned-matches few r =
      sym (old-leaves laws rs₁ rs (map_columns (new_index kept rs) e) (prune-in-range rs e few r))
      ∙ ap (λ (x : Expr). map (match (rs₁ ++ rs)) (leaves x)) across-new
      ∙ leaves-moved laws rs (rs₁ ++ rs) across (length rs) across-same e r

-- ---- the rounds

-- Whether a leaf matches.
abbrev pub matches_leaf : Matcher → List Record → Expr → Bool
matches_leaf match rs leaf = is_match (match rs leaf)

-- What the rounds take and leave of a rest.
unfoldable pub told : Matcher → List Record → List ℕ → Option Expr → Conjuncts
told match rs is rest = record {
  taken = knn_first is (map (match rs) (rest_leaves rest));
  rest = Option.map (prune rs) (rest_all (matches_leaf match rs) rest);
}

module _ (match : Matcher) (rs : List Record) where
  none-goes : (es : List Expr) → ((i : ℕ) → get_or (map (match rs) es) i none ≡ none) → Stay (matches_leaf match rs) es
  unfolding is_match
  none-goes [] h = tt
  none-goes (e ∷ es) h = (ap is_match (h 0), none-goes es (λ i. h (suc i)))

  pick_goes : (e : Expr) (p : Pick) → p.position < length (map (match rs) (leaves e))
      → get_or (map (match rs) (leaves e)) p.position none ≡ some p.predicate
      → matches_leaf match rs (get_or (leaves e) p.position e) ≡ true
  unfolding is_match
  pick_goes e p b h =
      ap is_match (sym (mapped_at (match rs) (leaves e) p.position e none (rw (length-map (leaves e) (match rs)) at b)) ∙ h)

  -- A round, then those of what it leaves.
  pub told-step : (is : List ℕ) (e : Expr) (p : Pick) → Round is (map (match rs) (leaves e)) (some p)
      → round_then (placed is p) (told match rs (but p.position is) (without p.position e)) ≡ told match rs is (some e)
  unfolding round_then told rest_leaves rest_all but
  told-step is e p h =
      let i : ℕ = p.position in
      let b : i < length (leaves e) = rw (length-map (leaves e) (match rs)) at h.0 in
      ap₂ (λ (x : List Pick) (y : Option Frame). record { taken = x; rest = y })
      (ap (λ (x : List Expr). placed is p ∷ knn_first (but i is) (map (match rs) x)) (less e i b)
      ∙ ap (λ (x : Matches). placed is p ∷ knn_first (but i is) x) (map-but (match rs) (leaves e) i)
      ∙ sym h.2)
      (ap (Option.map (prune rs)) (goes_first (matches_leaf match rs) e e i b (pick_goes e p h.0 h.1)))

  pub told_none : (is : List ℕ) (e : Expr) → ((i : ℕ) → get_or (map (match rs) (leaves e)) i none ≡ none)
      → no_round (some (prune rs e)) ≡ told match rs is (some e)
  unfolding no_round told rest_leaves rest_all
  told_none is e h =
      ap₂ (λ (x : List Pick) (y : Option Frame). record { taken = x; rest = y }) (sym (no-picks is (map (match rs) (leaves e)) h))
      (ap (Option.map (prune rs)) (sym (all_stay (matches_leaf match rs) e (none-goes (leaves e) h))))

-- What the rounds need of a rest.
pub record Fit (rs : List Record) (n : ℕ) (is : List ℕ) (rest : Option Expr) : Type 0 where
  pub few : length rs ≤ 256
  pub range : RestIs (InRange (index_below (length rs))) rest
  pub each : length is ≡ length (rest_leaves rest)
  pub enough : length (rest_leaves rest) ≤ n

-- The leaves of an expression have as many matches.
pub each-match : (match : Matcher) (rs : List Record) (is : List ℕ) (e : Expr) → length is ≡ length (leaves e)
    → length is ≡ length (map (match rs) (leaves e))
each-match match rs is e h = h ∙ sym (length-map (leaves e) (match rs))

-- What is left by a pick fits.
pub pick-fits : (match : Matcher) (rs : List Record) (n : ℕ) (is : List ℕ) (e : Expr) (p : Pick)
    → p.position < length (map (match rs) (leaves e)) → Fit rs (suc n) is (some e)
    → Fit rs n (but p.position is) (without p.position e)
unfolding rest_leaves but
pick-fits match rs n is e p b h =
    let i : ℕ = p.position in
    let k : i < length (leaves e) = rw (length-map (leaves e) (match rs)) at b in
    let t : Taken e (get_or (leaves e) i e) (without i e) = taken e e i k in
    let size : suc (length (rest_leaves (without i e))) ≡ length (leaves e) =
    ap (λ (x : List Expr). suc (length x)) (less e i k) ∙ but-length (leaves e) i k in
    let size' : suc (length (but i is)) ≡ length is = but-length is i (omega (arith, h.each)) in
    record {
      few = h.few;
      range = rest-in-range (index_below (length rs)) t h.range;
      each = omega (arith, size, size', h.each);
      enough = omega (arith, size, h.enough);
    }

module _ {match : Matcher} {Asks : Meaning → Type 0} (laws : Lawful match Asks) (rs : List Record) where
  -- So many rounds of what is left, told at once.
  abbrev Told : ℕ → Type 0
  Told n = (is : List ℕ) (rest : Option Expr) → Fit rs n is rest → rounds match n is (Option.map (prune rs) rest) ≡ told match rs is rest

  pub after-pick : (n : ℕ) (is : List ℕ) (e : Expr) (p : Pick) → Round is (map (match rs) (leaves e)) (some p) → Fit rs (suc n) is (some e)
      → Told n
      → round_then (placed is p) (rounds match n (but p.position is) (Option.map (prune rs) (without p.position e)))
      ≡ told match rs is (some e)
  after-pick n is e p h f more =
      ap (round_then (placed is p)) (more (but p.position is) (without p.position e) (pick-fits match rs n is e p h.0 f))
      ∙ told-step match rs is e p h

  a-round-told : (n : ℕ) (is : List ℕ) (e : Expr) (q : Option Pick) → Round is (map (match rs) (leaves e)) q → Fit rs (suc n) is (some e)
      → Told n → round (rounds match n) is (prune rs e) (take_pick (prune rs e) q) ≡ told match rs is (some e)
  unfolding round take_pick in_first
  a-round-told n is e none h f more = told_none match rs is e h
  a-round-told n is e (some p) h f more =
      let i : ℕ = p.position in
      let k : i < length (leaves e) = rw (length-map (leaves e) (match rs)) at h.0 in
      ap (λ (x : Option Frame). round_then (placed is p) (rounds match n (but i is) x))
      (remainder-again rs e (get_or (leaves e) i e) i f.range (taken e e i k))
      ∙ after-pick n is e p h f more

  -- The rounds of a pruned rest, told at once.
  pub rounds-told : (n : ℕ) → Told n
  unfolding rounds no_round told rest_leaves rest_all knn_first matching extraction_by
  rounds-told zero is none f = refl
  rounds-told (suc n) is none f = refl
  rounds-told zero is (some e) f = absurd (omega (arith, f.enough, leaves-some e))
  rounds-told (suc n) is (some e) f =
      ap (λ (x : Matches). round (rounds match n) is (prune rs e) (take_pick (prune rs e) (pick x)))
      (pruned-matches laws rs e f.few f.range)
      ∙ a-round-told n is e (pick (map (match rs) (leaves e)))
      (a-round is (map (match rs) (leaves e)) (each-match match rs is e f.each)) f
      (rounds-told n)

-- ---- the first frame

-- What is taken of a frame and left of it.
unfoldable pub told_of : Matcher → List ℕ → Frame → Conjuncts
told_of match is F = record { taken = knn_first is (matches_by match F); rest = last_remainder match F }

module _ (match : Matcher) (F : Frame) where
  abbrev last_by : Bool → Option Frame
  last_by b = if b then Option.map (prune F.records) (without_all (matches_leaf match F.records) F.expr) else some F

  -- Without a match the frame is left; with one, it is as with a pruned frame.
  pub first-none : (is : List ℕ) → ((i : ℕ) → get_or (matches_by match F) i none ≡ none) → no_round (some F) ≡ told_of match is F
  unfolding no_round told_of last_remainder
  first-none is h =
      ap₂ (λ (x : List Pick) (y : Option Frame). record { taken = x; rest = y }) (sym (no-picks is (matches_by match F) h))
      (sym (ap last_by (any_none (matches_by match F) h)))

  pub first_some : (is : List ℕ) (p : Pick) → get_or (matches_by match F) p.position none ≡ some p.predicate
      → told match F.records is (some F.expr) ≡ told_of match is F
  unfolding matches_by told_of last_remainder told rest_leaves rest_all
  first_some is p h =
      ap (λ (y : Option Frame). record { taken = knn_first is (matches_by match F); rest = y })
      (sym (ap last_by (any_some (matches_by match F) p.position p.predicate h)))

module _ {match : Matcher} {Asks : Meaning → Type 0} (laws : Lawful match Asks) (F : Frame) where
  first-told : (n : ℕ) (is : List ℕ) (q : Option Pick) → Round is (matches_by match F) q → Fit F.records (suc n) is (some F.expr)
      → round (rounds match n) is F (take_pick F q) ≡ told_of match is F
  unfolding round take_pick in_first matches_by
  first-told n is none h f = first-none match F is h
  first-told n is (some p) h f =
      after-pick laws F.records n is F.expr p h f (rounds-told laws F.records n) ∙ first_some match F is p h.1

  frame-told : (n : ℕ) (is : List ℕ) → Fit F.records n is (some F.expr) → rounds match n is (some F) ≡ told_of match is F
  unfolding rounds rest_leaves matches_by extraction_by
  frame-told zero is f = absurd (omega (arith, f.enough, leaves-some F.expr))
  frame-told (suc n) is f =
      first-told n is (pick (matches_by match F))
      (a-round is (matches_by match F) (each-match match F.records is F.expr f.each)) f

  -- A good frame fits its own rounds.
  pub frame-fits : (n : ℕ) → GoodPlan (held F) → length (leaves F.expr) ≤ n → Fit F.records n (positions_of F) (some F.expr)
  unfolding rest_leaves
  frame-fits n g h = record {
    few = g.readable.few;
    range = g.readable.expr.in_range;
    each = positions-length 0 (length (leaves F.expr));
    enough = h;
  }

  -- All indexable conjuncts of a good frame, told at once; so many rounds or more.
  pub enough-told : (n : ℕ) → GoodPlan (held F) → length (leaves F.expr) ≤ n
      → rounds match n (positions_of F) (some F) ≡ told_of match (positions_of F) F
  enough-told n g h = frame-told n (positions_of F) (frame-fits n g h)

  pub conjuncts-told : GoodPlan (held F) → conjuncts_by match F ≡ told_of match (positions_of F) F
  unfolding conjuncts_by
  conjuncts-told g = enough-told (length (leaves F.expr)) g (omega arith)
