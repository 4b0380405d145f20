-- Exchange twice is the identity; the records of an exchanged frame.
use Prim.Native.Nat.{ℕ}
use mathlib.Core.Path.{◌≡◌, refl, ap, ap₂}
use mathlib.Core.List.{List, [], ◌∷◌, map}
use mathlib.Core.Option
use mathlib.Core.Option.{Option, none, some}
use lib.ListN.{get_or-map}
use Rattle.definitions.specs.Words.Expression.{Side, left, right, no_side, Relation, intersects, contains, within, covers, covered_by, touches, crosses, overlaps, equals, Record, Frame, Predicate, relation, distance, knn, Extraction, Plan, empty, held, extracted, invert}
use Rattle.definitions.specs.Words.References.{record_at, same_side}
use Rattle.definitions.specs.Filter.Exchange.{negate, exchange_record, exchange_frame, exchange_predicate, exchange_extraction, exchange_plan}
use Rattle.theorems.proofs.Cases.{two-sides}

-- ---- exchange twice

pub negate-negate : (s : Side) → negate (negate s) ≡ s
unfolding negate
negate-negate left = refl
negate-negate right = refl
negate-negate no_side = refl

pub invert-invert : (t : Relation) → invert (invert t) ≡ t
unfolding invert
invert-invert intersects = refl
invert-invert contains = refl
invert-invert within = refl
invert-invert covers = refl
invert-invert covered_by = refl
invert-invert touches = refl
invert-invert crosses = refl
invert-invert overlaps = refl
invert-invert equals = refl

pub record-twice : (r : Record) → exchange_record (exchange_record r) ≡ r
unfolding exchange_record
record-twice r = rw negate-negate

pub records-twice : (rs : List Record) → map exchange_record (map exchange_record rs) ≡ rs
records-twice [] = refl
records-twice (r ∷ rs) = ap₂ (λ (a : Record) (b : List Record). a ∷ b) (record-twice r) (records-twice rs)

pub frame-twice : (F : Frame) → exchange_frame (exchange_frame F) ≡ F
unfolding exchange_frame
frame-twice F = rw records-twice

pub predicate-twice : (p : Predicate) → exchange_predicate (exchange_predicate p) ≡ p
unfolding exchange_predicate
predicate-twice (relation type l r) = rw invert-invert
predicate-twice (distance form side l r bound) = rw negate-negate
predicate-twice (knn k spheroid probe ties l r) = rw negate-negate

remainder-twice : (r : Option Frame) → Option.map exchange_frame (Option.map exchange_frame r) ≡ r
remainder-twice none = refl
remainder-twice (some F) = ap {B = Option Frame} some (frame-twice F)

pub extraction-twice : (X : Extraction) → exchange_extraction (exchange_extraction X) ≡ X
unfolding exchange_extraction
extraction-twice X = rw (predicate-twice, remainder-twice)

pub plan-twice : (p : Plan) → exchange_plan (exchange_plan p) ≡ p
unfolding exchange_plan
plan-twice empty = refl
plan-twice (held F) = ap held (frame-twice F)
plan-twice (extracted X) = ap extracted (extraction-twice X)

-- ---- records, columns and sides of an exchanged frame

abbrev pub swapped : List Record → List Record
swapped rs = map exchange_record rs

pub record-at : (rs : List Record) (i : ℕ) → record_at (swapped rs) i ≡ exchange_record (record_at rs i)
unfolding record_at exchange_record negate
record-at rs i = get_or-map exchange_record rs i (record { side = no_side; child = 0; tag = 0 })

pub child-at : (rs : List Record) (i : ℕ) → (record_at (swapped rs) i).child ≡ (record_at rs i).child
unfolding exchange_record
child-at rs i = ap (λ (r : Record). r.child) (record-at rs i)

pub side-at : (rs : List Record) (i : ℕ) → (record_at (swapped rs) i).side ≡ negate (record_at rs i).side
unfolding exchange_record
side-at rs i = ap (λ (r : Record). r.side) (record-at rs i)

pub same-negated : (s t : Side) → same_side (negate s) (negate t) ≡ same_side s t
unfolding same_side negate
same-negated = two-sides (λ s t. same_side (negate s) (negate t) ≡ same_side s t) refl refl refl refl refl refl refl refl refl
