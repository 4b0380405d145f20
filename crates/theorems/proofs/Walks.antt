-- One walk remembers the first other match and stops at a KNN match, so its pick is the two passes' pick; how long it is, exchanged or not.
use Rattle.std.specs.Prelude.{if◌then◌else◌}
use Prim.Native.Nat.{ℕ, suc, ◌+◌, ◌*◌, ◌≤◌}
use native.Mathlib.Omega.{arith}
use mathlib.Core.Path.{◌≡◌, refl, sym, ap, ap₂, ◌∙◌}
use mathlib.Core.Bool.{Bool, true, false, ◌||◌, not, false≢true}
use mathlib.Core.List.{List, [], ◌∷◌, ◌++◌, map, map-append}
use mathlib.Core.Option.{Option, none, some}
use lib.ListN.{length, take, get_or, length-append}
use lib.Dec.{leb, eqb}
use Rattle.definitions.specs.Words.Basics.{Result, ok, refused, any}
use Rattle.definitions.specs.Words.Expression.{Expr, column, literal, and, binary, call, other, field, Record, Frame, Predicate, Extraction, Plan, empty, held, extracted}
use Rattle.definitions.specs.Words.Leaves.{leaves}
use Rattle.definitions.specs.Filter.Extract.{Pick, is_knn, is_knn_match, later, first_match, first_of, pick, Matcher, matches_by, extraction_by}
use Rattle.definitions.specs.Filter.OneWalk.{Memory, reading, stopped_at, read_leaf, walk_on, one_walk, remembered, reached, count_to, walk_length_by}
use Rattle.definitions.specs.Filter.Exchange.{exchange_frame}
use Rattle.definitions.specs.Calls.Base.{finish, held_plan, matched_bytes, new_after_extract_by, extract_filled_by, extract_by, table_fits, walked_by, walk_filled_by, extract_walk_by}
use Rattle.definitions.specs.Bytes.NodeTable.{NodeRecord}
use Rattle.definitions.specs.Lists.Sessions.{accepted}
use Rattle.definitions.specs.Meaning.Values.{Meaning}
use Rattle.definitions.specs.Meaning.Matchers.{Lawful}
use Rattle.definitions.specs.Claims.Walk.{RemembersFirst, StopsAtKnn, OneWalkIsPick, WalkBounded, WalkWhole, WalkUnmatched, WalkExchanged, WalkCarried}
use Rattle.theorems.proofs.Tools.{by-test}
use Rattle.theorems.proofs.Exchange.{swapped}
use Rattle.theorems.proofs.ExtractExchange.{exchanged, knn-exchanged}
use Rattle.theorems.proofs.Pick.{none-by}

-- ---- tests

neither : (a b : Bool) → (a || b) ≡ false → (a ≡ false) × (b ≡ false)
neither true b e = absurd (false≢true (sym e))
neither false b e = (refl, e)

or_assoc : (a b c : Bool) → ((a || b) || c) ≡ (a || (b || c))
or_assoc true b c = refl
or_assoc false b c = refl

any_append : {A : Type 0} (f : A → Bool) (xs ys : List A) → any f (xs ++ ys) ≡ any f xs || any f ys
unfolding any
any_append f [] ys = refl
any_append f (x ∷ xs) ys = ap (λ (t : Bool). f x || t) (any_append f xs ys) ∙ sym (or_assoc (f x) (any f xs) (any f ys))

-- ---- picks

-- A pick n leaves further on.
unfoldable pub moved : ℕ → Option Pick → Option Pick
moved n none = none
moved n (some p) = some (record { position = n + p.position; predicate = p.predicate })

pub moved-zero : (p : Option Pick) → moved 0 p ≡ p
unfolding moved
moved-zero none = refl
moved-zero (some p) = ap (λ (i : ℕ). some (record { position = i; predicate = p.predicate })) (omega arith)

moved_later : (n : ℕ) (p : Option Pick) → moved (suc n) p ≡ moved n (later p)
unfolding moved later
moved_later n none = refl
moved_later n (some p) = ap (λ (i : ℕ). some (record { position = i; predicate = p.predicate })) (omega arith)

first-none : (p : Option Pick) → p ≡ first_of p none
unfolding first_of
first-none none = refl
first-none (some p) = refl

-- What is remembered already comes first.
first-first : (p : Option Pick) (q : Pick) (r : Option Pick) → first_of (first_of p (some q)) r ≡ first_of p (some q)
unfolding first_of
first-first none q r = refl
first-first (some p) q r = refl

-- Of one leaf the position is that of the leaf.
moved_here : (n : ℕ) (p : Predicate)
    → some (record { position = n; predicate = p }) ≡ moved n (some (record { position = 0; predicate = p }))
unfolding moved
moved_here n p = ap (λ (i : ℕ). some (record { position = i; predicate = p })) (omega arith)

-- ---- what the walk remembers

stays-stopped : (p : Pick) (ms : List (Option Predicate)) → walk_on (stopped_at p) ms ≡ stopped_at p
unfolding walk_on
stays-stopped p [] = refl
stays-stopped p (m ∷ ms) = refl

-- One leaf that is no KNN match.
read-other : (n : ℕ) (first : Option Pick) (p : Predicate) → is_knn p ≡ false
    → read_leaf n first (some p) ≡ reading (suc n) (first_of first (some (record { position = n; predicate = p })))
unfolding read_leaf
read-other n first p e = rw e

read-knn : (n : ℕ) (first : Option Pick) (p : Predicate) → is_knn p ≡ true
    → read_leaf n first (some p) ≡ stopped_at (record { position = n; predicate = p })
unfolding read_leaf
read-knn n first p e = rw e

-- The first match of a list that begins with a match.
first_passes : (test : Predicate → Bool) (p : Predicate) (ms : List (Option Predicate)) → test p ≡ true
    → first_match test (some p ∷ ms) ≡ some (record { position = 0; predicate = p })
unfolding first_match
first_passes test p ms e = rw e

first-fails : (test : Predicate → Bool) (p : Predicate) (ms : List (Option Predicate)) → test p ≡ false
    → first_match test (some p ∷ ms) ≡ later (first_match test ms)
unfolding first_match
first-fails test p ms e = rw e

abbrev is_other : Predicate → Bool
is_other p = not (is_knn p)

remembers : (ms : List (Option Predicate)) (n : ℕ) (first : Option Pick) → any is_knn_match ms ≡ false
    → walk_on (reading n first) ms ≡ reading (n + length ms) (first_of first (moved n (first_match is_other ms)))
unfolding walk_on any first_match moved read_leaf is_knn_match
remembers [] n first e = ap₂ reading (omega arith) (first-none first)
remembers (none ∷ ms) n first e =
    remembers ms (suc n) first e ∙ ap₂ reading (omega arith) (ap (first_of first) (moved_later n (first_match is_other ms)))
remembers (some p ∷ ms) n first e =
    let q : Pick = record { position = n; predicate = p } in
    let both = neither (is_knn p) (any is_knn_match ms) e in
    let far : is_knn p ≡ false = both.0 in
    ap (λ (m : Memory). walk_on m ms) (read-other n first p far)
    ∙ remembers ms (suc n) (first_of first (some q)) both.1
    ∙ ap₂ reading (omega arith)
    (first-first first q _ ∙ ap (first_of first) (moved_here n p ∙ ap (moved n) (sym (first_passes is_other p ms (ap not far)))))

pub remembers-first-by : RemembersFirst
unfolding one_walk first_of
remembers-first-by matches many e =
    remembers (take many matches) 0 none e ∙ ap₂ reading (omega arith) (moved-zero (first_match is_other (take many matches)))

walk-append : (xs ys : List (Option Predicate)) (m : Memory) → walk_on m (xs ++ ys) ≡ walk_on (walk_on m xs) ys
unfolding walk_on
walk-append [] ys m = refl
walk-append (x ∷ xs) ys (stopped_at p) = sym (stays-stopped p ys)
walk-append (x ∷ xs) ys (reading n first) = walk-append xs ys (read_leaf n first x)

pub stops-at-knn-by : StopsAtKnn
unfolding one_walk walk_on
stops-at-knn-by before p after e k =
    walk-append before (some p ∷ after) (reading 0 none)
    ∙ ap (λ (m : Memory). walk_on m (some p ∷ after)) (remembers before 0 none e)
    ∙ ap (λ (m : Memory). walk_on m after) (read-knn (0 + length before) _ p k)
    ∙ stays-stopped _ after
    ∙ ap (λ (i : ℕ). stopped_at (record { position = i; predicate = p })) (omega arith)

-- ---- its pick

-- Where the walk began after n leaves, with this in memory.
abbrev Ends : (ms : List (Option Predicate)) (n : ℕ) (first : Option Pick) → Memory → Type 0
Ends ms n first m =
    remembered m ≡ first_of (moved n (first_match is_knn ms)) (first_of first (moved n (first_match (λ p. true) ms)))

-- A match, KNN or not.
by-knn : (p : Predicate) (ms : List (Option Predicate)) (n : ℕ) (first : Option Pick) (b : Bool) → is_knn p ≡ b
    → ((x : Option Pick) → Ends ms (suc n) x (walk_on (reading (suc n) x) ms))
    → Ends (some p ∷ ms) n first (walk_on (read_leaf n first (some p)) ms)
unfolding remembered first_of
by-knn p ms n first true e more =
    ap (λ (m : Memory). remembered (walk_on m ms)) (read-knn n first p e)
    ∙ ap remembered (stays-stopped (record { position = n; predicate = p }) ms)
    ∙ ap (λ (a : Option Pick). first_of a (first_of first (moved n (first_match (λ p. true) (some p ∷ ms)))))
    (moved_here n p ∙ ap (moved n) (sym (first_passes is_knn p ms e)))
by-knn p ms n first false e more =
    let q : Pick = record { position = n; predicate = p } in
    ap (λ (m : Memory). remembered (walk_on m ms)) (read-other n first p e)
    ∙ more (first_of first (some q))
    ∙ ap₂ first_of (moved_later n (first_match is_knn ms) ∙ ap (moved n) (sym (first-fails is_knn p ms e)))
    (first-first first q _ ∙ ap (first_of first) (moved_here n p ∙ ap (moved n) (sym (first_passes (λ p. true) p ms refl))))

picks : (ms : List (Option Predicate)) (n : ℕ) (first : Option Pick) → Ends ms n first (walk_on (reading n first) ms)
unfolding walk_on remembered first_match moved first_of read_leaf
picks [] n first = first-none first
picks (none ∷ ms) n first =
    picks ms (suc n) first
    ∙ ap₂ (λ (a b : Option Pick). first_of a (first_of first b)) (moved_later n (first_match is_knn ms))
    (moved_later n (first_match (λ p. true) ms))
picks (some p ∷ ms) n first = by-knn p ms n first (is_knn p) refl (λ x. picks ms (suc n) x)

pub one-walk-is-pick-by : OneWalkIsPick
unfolding one_walk pick first_of
one-walk-is-pick-by ms = picks ms 0 none ∙ ap₂ first_of (moved-zero (first_match is_knn ms)) (moved-zero (first_match (λ p. true) ms))

-- ---- how long it is

-- An And and its sides, or one leaf.
pub reached-many : (match : Expr → Option Predicate) (e : Expr) → suc (length (reached match e)) ≡ 2 * length (leaves e)
unfolding reached leaves
reached-many match (and l r) = simp length-append (omega (arith, reached-many match l, reached-many match r))
reached-many match (column i g) = refl
reached-many match (literal y v) = refl
reached-many match (binary o l r) = refl
reached-many match (call n ts) = refl
reached-many match (other g ts) = refl
reached-many match (field b g) = refl

count_most : {A : Type 0} (test : A → Bool) (xs : List A) → count_to test xs ≤ length xs
unfolding count_to
count_most test [] = omega arith
count_most test (x ∷ xs) =
    by-test (λ (k : ℕ). suc k ≤ suc (length xs)) (test x) 0 (count_to test xs) (λ _. omega arith) (λ _. omega (arith, count_most test xs))

count-all : {A : Type 0} (test : A → Bool) (xs : List A) → any test xs ≡ false → count_to test xs ≡ length xs
unfolding count_to any
count-all test [] e = refl
count-all test (x ∷ xs) e =
    let both = neither (test x) (any test xs) e in
    ap (λ (b : Bool). suc (if b then 0 else count_to test xs)) both.0 ∙ ap suc (count-all test xs both.1)

-- The KNN matches among them are those of the leaves.
any-reached : (match : Expr → Option Predicate) (e : Expr) → any is_knn_match (reached match e) ≡ any is_knn_match (map match (leaves e))
unfolding reached leaves any is_knn_match
any-reached match (and l r) =
    any_append is_knn_match (reached match l) (reached match r) ∙ ap₂ ◌||◌ (any-reached match l) (any-reached match r)
    ∙ sym (any_append is_knn_match (map match (leaves l)) (map match (leaves r)))
    ∙ ap (any is_knn_match) (sym (map-append match (leaves l) (leaves r)))
any-reached match (column i g) = refl
any-reached match (literal y v) = refl
any-reached match (binary o l r) = refl
any-reached match (call n ts) = refl
any-reached match (other g ts) = refl
any-reached match (field b g) = refl

pub walk-bounded-by : WalkBounded
unfolding walk_length_by
walk-bounded-by match F =
    omega (arith, count_most is_knn_match (reached (match F.records) F.expr), reached-many (match F.records) F.expr)

pub walk-whole-by : WalkWhole
unfolding walk_length_by matches_by
walk-whole-by match F e =
    let all : count_to is_knn_match (reached (match F.records) F.expr) ≡ length (reached (match F.records) F.expr) =
    count-all is_knn_match _ (any-reached (match F.records) F.expr ∙ e) in
    omega (arith, all, reached-many (match F.records) F.expr)

-- Where no leaf matches none is a KNN match.
no-knn-match : (ms : List (Option Predicate)) → ((i : ℕ) → get_or ms i none ≡ none) → any is_knn_match ms ≡ false
unfolding any is_knn_match
no-knn-match [] h = refl
no-knn-match (m ∷ ms) h = ap₂ ◌||◌ (ap is_knn_match (h 0)) (no-knn-match ms (λ i. h (suc i)))

pub walk-unmatched-by : WalkUnmatched
walk-unmatched-by match F e = walk-whole-by match F (no-knn-match (matches_by match F) (none-by match F e))

-- ---- exchanged

knn-match-exchanged : (m : Option Predicate) → is_knn_match (exchanged m) ≡ is_knn_match m
unfolding is_knn_match
knn-match-exchanged none = refl
knn-match-exchanged (some p) = knn-exchanged p

count-exchanged : (ms : List (Option Predicate)) → count_to is_knn_match (map exchanged ms) ≡ count_to is_knn_match ms
unfolding count_to
count-exchanged [] = refl
count-exchanged (m ∷ ms) = ap₂ (λ (b : Bool) (k : ℕ). suc (if b then 0 else k)) (knn-match-exchanged m) (count-exchanged ms)

module _ {match : Matcher} {Asks : Meaning → Type 0} (laws : Lawful match Asks) where
  one : (rs : List Record) (e : Expr) → match (swapped rs) e ∷ [] ≡ map exchanged (match rs e ∷ [])
  one rs e = ap {B = List (Option Predicate)} (λ m. m ∷ []) (laws.turns rs e)

  reached-exchanged : (rs : List Record) (e : Expr) → reached (match (swapped rs)) e ≡ map exchanged (reached (match rs) e)
  unfolding reached
  reached-exchanged rs (and l r) =
      ap {B = List (Option Predicate)} (λ ms. none ∷ ms)
      (ap₂ ◌++◌ (reached-exchanged rs l) (reached-exchanged rs r)
      ∙ sym (map-append exchanged (reached (match rs) l) (reached (match rs) r)))
  reached-exchanged rs (column i g) = one rs (column i g)
  reached-exchanged rs (literal y v) = one rs (literal y v)
  reached-exchanged rs (binary o l r) = one rs (binary o l r)
  reached-exchanged rs (call n ts) = one rs (call n ts)
  reached-exchanged rs (other g ts) = one rs (other g ts)
  reached-exchanged rs (field b g) = one rs (field b g)

  pub walk-exchanged-by : (F : Frame) → walk_length_by match (exchange_frame F) ≡ walk_length_by match F
  unfolding walk_length_by exchange_frame
  walk-exchanged-by F =
      ap (count_to is_knn_match) (reached-exchanged F.records F.expr) ∙ count-exchanged (reached (match F.records) F.expr)

pub walk-exchanged-is : WalkExchanged
walk-exchanged-is match Asks laws = walk-exchanged-by laws

-- ---- the calls

-- What an extract answers and carries, by the plan that it found: the walk of a frame with a length or 13, else no walk and a refusal.
pub data Carried (match : Matcher) (r : Result Plan) : Result ℕ → ℕ → Type 0 where
  no_walk : {number : ℕ} → eqb number 13 ≡ false → Carried match r (refused number) 0
  with_length : {m : ℕ} (F : Frame) → r ≡ ok (held F) → Carried match r (ok m) (walk_length_by match F)
  with13 : (F : Frame) → r ≡ ok (held F) → Carried match r (refused 13) (walk_length_by match F)

module _ (match : Matcher) (n : ℕ) (buffer scratch : List ℕ) where
  by-match : (F : Frame) (x : Option Extraction)
      → Carried match (ok (held F)) (finish n buffer scratch (matched_bytes x)).answer (walk_length_by match F)
  unfolding finish matched_bytes
  by-match F none = with13 F refl
  by-match F (some X) = with_length F refl

  by-room : (F : Frame) (t : Bool)
      → Carried match (ok (held F)) (finish n buffer scratch (if t then matched_bytes (extraction_by match F) else refused 9)).answer
      (if t then walk_length_by match F else 0)
  unfolding finish
  by-room F true = by-match F (extraction_by match F)
  by-room F false = no_walk refl

  carried-by : (r : Result Plan)
      → Carried match r (finish n buffer scratch (new_after_extract_by match n (length scratch) r)).answer
      (walked_by match n (length scratch) r)
  unfolding new_after_extract_by walked_by finish
  carried-by (refused number) = no_walk refl
  carried-by (ok empty) = no_walk refl
  carried-by (ok (extracted X)) = no_walk refl
  carried-by (ok (held F)) = by-room F (leb n (length scratch))

  by-fit : (r : Result Plan) (t : Bool)
      → Carried match r
      (if t then finish n buffer scratch (new_after_extract_by match n (length scratch) r) else finish n buffer scratch (refused 10)).answer
      (if t then walked_by match n (length scratch) r else 0)
  unfolding finish
  by-fit r true = carried-by r
  by-fit r false = no_walk refl

  carried : (table : List NodeRecord)
      → Carried match (held_plan n buffer) (extract_by match n buffer scratch table).answer (extract_walk_by match n buffer scratch table)
  unfolding extract_by extract_walk_by extract_filled_by walk_filled_by
  carried table = by-fit (held_plan n buffer) (table_fits table (held_plan n buffer))

module _ {match : Matcher} {r : Result Plan} where
  if-accepted : {a : Result ℕ} {w : ℕ} → Carried match r a w → accepted a ≡ true
      → (F : Frame) × (r ≡ ok (held F)) × (w ≡ walk_length_by match F)
  unfolding accepted
  if-accepted (no_walk far) e = absurd (false≢true e)
  if-accepted (with_length F is) e = (F, is, refl)
  if-accepted (with13 F is) e = (F, is, refl)

  if-13 : {a : Result ℕ} {w : ℕ} → Carried match r a w → a ≡ refused 13 → (F : Frame) × (r ≡ ok (held F)) × (w ≡ walk_length_by match F)
  if-13 (no_walk {number} far) e = let same : number ≡ 13 = cc in absurd (false≢true (sym far ∙ ap (λ (k : ℕ). eqb k 13) same))
  if-13 (with_length F is) e = (F, is, refl)
  if-13 (with13 F is) e = (F, is, refl)

  if-other : {a : Result ℕ} {w : ℕ} → Carried match r a w → (number : ℕ) → a ≡ refused number → eqb number 13 ≡ false → w ≡ 0
  if-other (no_walk far) number e k = refl
  if-other (with_length F is) number e k = let z : ◌≡◌ {A = ℕ} 0 1 = cc in absurd (omega arith)
  if-other (with13 F is) number e k =
      let same : number ≡ 13 = cc in absurd (false≢true (sym k ∙ ap (λ (j : ℕ). eqb j 13) same))

pub walk-carried-by : WalkCarried
walk-carried-by match n buffer scratch table =
    let c = carried match n buffer scratch table in
    (if-accepted c, if-13 c, if-other c)
