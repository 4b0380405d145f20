-- The pick and the remainder of an exchanged frame are those of the frame, exchanged: so extraction commutes with exchange.
use Rattle.std.specs.Prelude.{if◌then◌else◌}
use Prim.Native.Nat.{ℕ, zero, suc}
use mathlib.Core.Path.{◌≡◌, refl, ap, ap₂, ◌∙◌, fun_ext}
use mathlib.Core.Bool.{Bool, true, false, ◌||◌}
use mathlib.Core.List.{List, [], ◌∷◌, map}
use mathlib.Core.Option
use mathlib.Core.Option.{Option, none, some}
use lib.ListN.{length, take}
use Rattle.definitions.specs.Words.Basics.{any, keep}
use Rattle.definitions.specs.Words.Expression.{Expr, Record, Frame, Predicate, relation, distance, knn}
use Rattle.definitions.specs.Words.Leaves.{leaves}
use Rattle.definitions.specs.Words.References.{record_at, map_columns, columns_of}
use Rattle.definitions.specs.Filter.Extract.{Pick, is_knn, later, first_match, first_of, pick, same_column, referenced, new_index, prune, take_pick, Matcher, matches_by, extraction_by}
use Rattle.definitions.specs.Filter.Exchange.{exchange_record, exchange_frame, exchange_predicate, exchange_extraction}
use Rattle.definitions.specs.Meaning.Values.{Meaning}
use Rattle.definitions.specs.Meaning.Matchers.{Lawful}
use Rattle.theorems.proofs.Exchange.{swapped, record-at, same-negated}

-- ---- the pick

-- A predicate of the exchanged frame is the exchanged predicate.
abbrev pub exchanged : Option Predicate → Option Predicate
exchanged = Option.map exchange_predicate

exchange_pick : Pick → Pick
exchange_pick p = record { position = p.position; predicate = exchange_predicate p.predicate }

pub knn-exchanged : (p : Predicate) → is_knn (exchange_predicate p) ≡ is_knn p
unfolding is_knn exchange_predicate
knn-exchanged (relation type l r) = refl
knn-exchanged (distance form side l r bound) = refl
knn-exchanged (knn k spheroid probe ties l r) = refl

later-exchanged : (p : Option Pick) → later (Option.map exchange_pick p) ≡ Option.map exchange_pick (later p)
unfolding later exchange_pick
later-exchanged none = refl
later-exchanged (some p) = refl

if-pick : (b : Bool) (p : Pick) (q : Option Pick)
    → (if b then some (exchange_pick p) else Option.map exchange_pick q) ≡ Option.map exchange_pick (if b then some p else q)
if-pick true p q = refl
if-pick false p q = refl

first-exchanged : (test : Predicate → Bool) → ((p : Predicate) → test (exchange_predicate p) ≡ test p)
    → (ms : List (Option Predicate)) → first_match test (map exchanged ms) ≡ Option.map exchange_pick (first_match test ms)
unfolding first_match exchange_pick
first-exchanged test h [] = refl
first-exchanged test h (none ∷ ms) = ap later (first-exchanged test h ms) ∙ later-exchanged (first_match test ms)
first-exchanged test h (some p ∷ ms) =
    ap₂ (λ (b : Bool) (q : Option Pick). if b then some (record { position = 0; predicate = exchange_predicate p }) else q)
    (h p) (ap later (first-exchanged test h ms) ∙ later-exchanged (first_match test ms))
    ∙ if-pick (test p) (record { position = 0; predicate = p }) (later (first_match test ms))

first-of : (p q : Option Pick) → first_of (Option.map exchange_pick p) (Option.map exchange_pick q)
    ≡ Option.map exchange_pick (first_of p q)
unfolding first_of
first-of none q = refl
first-of (some p) q = refl

pick-exchanged : (ms : List (Option Predicate)) → pick (map exchanged ms) ≡ Option.map exchange_pick (pick ms)
unfolding pick
pick-exchanged ms =
    ap₂ first_of (first-exchanged is_knn knn-exchanged ms) (first-exchanged (λ p. true) (λ p. refl) ms)
    ∙ first-of (first_match is_knn ms) (first_match (λ p. true) ms)

-- ---- the remainder

same-column : (a b : Record) → same_column (exchange_record a) (exchange_record b) ≡ same_column a b
unfolding same_column exchange_record
same-column a b = rw same-negated

any-swapped : (rs : List Record) (r : Record) (is : List ℕ)
    → any (λ i. same_column (record_at (swapped rs) i) (exchange_record r)) is ≡ any (λ i. same_column (record_at rs i) r) is
unfolding any
any-swapped rs r [] = refl
any-swapped rs r (i ∷ is) =
    ap₂ ◌||◌ (ap (λ (a : Record). same_column a (exchange_record r)) (record-at rs i) ∙ same-column (record_at rs i) r)
    (any-swapped rs r is)

referenced-swapped : (rs : List Record) (e : Expr) (r : Record) → referenced (swapped rs) e (exchange_record r) ≡ referenced rs e r
unfolding referenced
referenced-swapped rs e r = any-swapped rs r (columns_of e)

if-keep : (b : Bool) (r : Record) (rs : List Record)
    → (if b then exchange_record r ∷ swapped rs else swapped rs) ≡ swapped (if b then r ∷ rs else rs)
if-keep true r rs = refl
if-keep false r rs = refl

keep-swapped : (test' test : Record → Bool) → ((r : Record) → test' (exchange_record r) ≡ test r)
    → (rs : List Record) → keep test' (swapped rs) ≡ swapped (keep test rs)
unfolding keep
keep-swapped test' test h [] = refl
keep-swapped test' test h (r ∷ rs) =
    ap₂ (λ (b : Bool) (k : List Record). if b then exchange_record r ∷ k else k) (h r) (keep-swapped test' test h rs)
    ∙ if-keep (test r) r (keep test rs)

take-swapped : (i : ℕ) (rs : List Record) → take i (swapped rs) ≡ swapped (take i rs)
take-swapped zero rs = refl
take-swapped (suc i) [] = refl
take-swapped (suc i) (r ∷ rs) = ap {B = List Record} (λ t. exchange_record r ∷ t) (take-swapped i rs)

length-swapped : (rs : List Record) → length (swapped rs) ≡ length rs
length-swapped [] = refl
length-swapped (r ∷ rs) = ap suc (length-swapped rs)

index-swapped : (rs : List Record) (e : Expr) (i : ℕ)
    → new_index (referenced (swapped rs) e) (swapped rs) i ≡ new_index (referenced rs e) rs i
unfolding new_index
index-swapped rs e i =
    ap (λ (t : List Record). length (keep (referenced (swapped rs) e) t)) (take-swapped i rs)
    ∙ ap length (keep-swapped (referenced (swapped rs) e) (referenced rs e) (referenced-swapped rs e) (take i rs))
    ∙ length-swapped (keep (referenced rs e) (take i rs))

prune-swapped : (rs : List Record) (e : Expr) → prune (swapped rs) e ≡ exchange_frame (prune rs e)
unfolding prune exchange_frame
prune-swapped rs e =
    ap₂ (λ (r : List Record) (f : ℕ → ℕ). record { records = r; expr = map_columns f e })
    (keep-swapped (referenced (swapped rs) e) (referenced rs e) (referenced-swapped rs e) rs) (fun_ext (index-swapped rs e))

rest-swapped : (rs : List Record) (e : Option Expr)
    → Option.map (prune (swapped rs)) e ≡ Option.map exchange_frame (Option.map (prune rs) e)
rest-swapped rs none = refl
rest-swapped rs (some e) = ap {B = Option Frame} some (prune-swapped rs e)

take-exchanged : (F : Frame) (p : Option Pick)
    → take_pick (exchange_frame F) (Option.map exchange_pick p) ≡ Option.map exchange_extraction (take_pick F p)
unfolding take_pick exchange_frame exchange_extraction exchange_pick
take-exchanged F none = refl
take-exchanged F (some p) = rw (rest-swapped F.records)

-- ---- the extraction

matches-turned : (match : Matcher) → ((rs : List Record) (e : Expr) → match (swapped rs) e ≡ exchanged (match rs e))
    → (rs : List Record) (es : List Expr) → map (match (swapped rs)) es ≡ map exchanged (map (match rs) es)
matches-turned match turns rs [] = refl
matches-turned match turns rs (e ∷ es) =
    ap₂ (λ (a : Option Predicate) (b : List (Option Predicate)). a ∷ b) (turns rs e) (matches-turned match turns rs es)

module _ {match : Matcher} {Asks : Meaning → Type 0} (laws : Lawful match Asks) where
  -- The pick of the exchanged frame is the exchanged pick, at the same position.
  picked-exchanged : (F : Frame) → pick (matches_by match (exchange_frame F)) ≡ Option.map exchange_pick (pick (matches_by match F))
  unfolding exchange_frame matches_by
  picked-exchanged F = ap pick (matches-turned match laws.turns F.records (leaves F.expr)) ∙ pick-exchanged (matches_by match F)

  -- The extraction of the exchanged frame is the exchanged extraction; where one is none so is the other.
  pub exchanged-by : (F : Frame) → extraction_by match (exchange_frame F) ≡ Option.map exchange_extraction (extraction_by match F)
  unfolding extraction_by
  exchanged-by F = ap (take_pick (exchange_frame F)) (picked-exchanged F) ∙ take-exchanged F (pick (matches_by match F))
