-- A merged frame is good where it is over no limit, has the And of both values, and its AND-leaves match as they did.
use Prim.Native.Nat.{ℕ, suc, ◌+◌, ◌≤◌, ◌<◌, max}
use native.Mathlib.Omega.{arith}
use mathlib.Core.Path.{◌≡◌, refl, sym, ap, ap₂, ◌∙◌, subst}
use mathlib.Core.Bool.{Bool, true, false, ◌&&◌, ◌||◌, false≢true}
use mathlib.Core.List.{List, [], ◌∷◌, ◌++◌, map, map-append, append_assoc}
use lib.ListN.{length, length-append, get_or-append}
use lib.Seq.{get_or-append-add}
use lib.Dec.{ltb}
use borrow.Author.Tests.{ltb-true, ltb-false, lt-ltb, le-ltb}
use Rattle.definitions.specs.Words.Basics.{big_endian}
use Rattle.definitions.specs.Words.Expression.{no_side, Expr, Record, Frame, held}
use Rattle.definitions.specs.Bytes.Encode.{expr_bytes, record_bytes, records_bytes, frame_bytes, plan_bytes}
use Rattle.definitions.specs.Words.Leaves.{leaves}
use Rattle.definitions.specs.Bytes.Decode.{index_below}
use Rattle.definitions.specs.Words.References.{columns_of, map_columns, record_at}
use Rattle.definitions.specs.Filter.Extract.{Matcher, matches_by}
use Rattle.definitions.specs.Bytes.Good.{nodes, depth, InRange, RecordsInRange, ReadableFrame, plan_nodes, GoodPlan}
use Rattle.definitions.specs.Meaning.Values.{Meaning, and_value, value, frame_columns, frame_value}
use Rattle.definitions.specs.Meaning.Matchers.{Lawful}
use Rattle.definitions.specs.Filter.Merge.{raised, merge_frames, over_limits}
use Rattle.definitions.specs.Claims.Merge.{MergedGood, MergedValue, MergedLeavesBy}
use Rattle.theorems.proofs.Columns.{all-every, all_both, Fits, map-length, map-nodes, map-depth, map-in-range, map-leaves, map-arity, columns-below}
use Rattle.theorems.proofs.Taken.{arity-and}
use Rattle.theorems.proofs.ExchangeGood.{frame-length}
use Rattle.theorems.proofs.Values.{map-value, same-value}
use Rattle.theorems.proofs.Moved.{map-kept}
use Rattle.theorems.proofs.MatchesMoved.{leaves-moved}

-- ---- records of the merged frame

pub old-record : (rs rs' : List Record) (i : ℕ) → i < length rs → record_at (rs ++ rs') i ≡ record_at rs i
unfolding record_at
old-record rs rs' i h = get_or-append rs rs' (record { side = no_side; child = 0; tag = 0 }) i h

pub new-record : (rs rs' : List Record) (i : ℕ) → record_at (rs ++ rs') (length rs + i) ≡ record_at rs' i
unfolding record_at
new-record rs rs' i = get_or-append-add rs rs' i (record { side = no_side; child = 0; tag = 0 })

-- ---- length, nodes, depth

pub merged-length : (old new : Frame)
    → length (frame_bytes (merge_frames old new)) + 1 ≡ length (frame_bytes old) + length (frame_bytes new)
unfolding merge_frames raised expr_bytes
merged-length old new =
    let f : ℕ → ℕ = λ index. length old.records + index in
    omega (
      arith,
      frame-length (merge_frames old new),
      frame-length old,
      frame-length new,
      length-append old.records new.records,
      length-append (expr_bytes old.expr) (expr_bytes (map_columns f new.expr)),
      map-length f new.expr,
    )

pub merged-nodes : (old new : Frame) → nodes (merge_frames old new).expr ≡ suc (nodes old.expr + nodes new.expr)
unfolding merge_frames raised nodes
merged-nodes old new = ap (λ (k : ℕ). suc (nodes old.expr + k)) (map-nodes (λ index. length old.records + index) new.expr)

pub merged-depth : (old new : Frame) → depth (merge_frames old new).expr ≡ suc (max (depth old.expr) (depth new.expr))
unfolding merge_frames raised depth
merged-depth old new = ap (λ (k : ℕ). suc (max (depth old.expr) k)) (map-depth (λ index. length old.records + index) new.expr)

pub merged-records : (old new : Frame) → length (merge_frames old new).records ≡ length old.records + length new.records
unfolding merge_frames
merged-records old new = length-append old.records new.records

one_more : (a b : ℕ) → ltb a b ≡ ltb (suc a) (b + 1)
one_more a b = by-case (ltb a b) refl
  where
    by-case : (t : Bool) → ltb a b ≡ t → t ≡ ltb (suc a) (b + 1)
    by-case true e = sym (lt-ltb (suc a) (b + 1) (omega (arith, ltb-true a b e)))
    by-case false e = sym (le-ltb (suc a) (b + 1) (omega (arith, ltb-false a b e)))

-- The limits by what is known of both frames, once each is read.
pub over-sums : (old new : Frame)
    → over_limits (merge_frames old new)
    ≡ (ltb 16385 (length (frame_bytes old) + length (frame_bytes new))
    || (ltb 1024 (suc (nodes old.expr + nodes new.expr))
    || (ltb 64 (suc (max (depth old.expr) (depth new.expr)))
    || ltb 256 (length old.records + length new.records))))
unfolding over_limits
over-sums old new =
    rw (merged-nodes old new, merged-depth old new, merged-records old new, ← (merged-length old new))
    (ap (λ (b : Bool). b || (ltb 1024 (suc (nodes old.expr + nodes new.expr))
    || (ltb 64 (suc (max (depth old.expr) (depth new.expr)))
    || ltb 256 (length old.records + length new.records)))) (one_more 16384 (length (frame_bytes (merge_frames old new)))))

-- ---- bytes

pub records-both : (rs rs' : List Record) → records_bytes (rs ++ rs') ≡ records_bytes rs ++ records_bytes rs'
unfolding records_bytes
records-both [] rs' = refl
records-both (r ∷ rs) rs' =
    ap (λ (s : List ℕ). record_bytes r ++ s) (records-both rs rs')
    ∙ sym (append_assoc (record_bytes r) (records_bytes rs) (records_bytes rs'))

-- Head, both tables, And, the held expression as it is, the new one with its columns raised.
pub merged-bytes : (old new : Frame)
    → frame_bytes (merge_frames old new)
    ≡ 1 ∷ (big_endian 2 (length old.records + length new.records)
    ++ (records_bytes old.records ++ (records_bytes new.records
    ++ (2 ∷ 0 ∷ (expr_bytes old.expr ++ expr_bytes (raised (length old.records) new.expr))))))
unfolding frame_bytes merge_frames expr_bytes
merged-bytes old new =
    let tail : List ℕ = 2 ∷ 0 ∷ (expr_bytes old.expr ++ expr_bytes (raised (length old.records) new.expr)) in
    ap₂ (λ (k : ℕ) (s : List ℕ). 1 ∷ (big_endian 2 k ++ (s ++ tail)))
    (length-append old.records new.records) (records-both old.records new.records)
    ∙ ap (λ (s : List ℕ). 1 ∷ (big_endian 2 (length old.records + length new.records) ++ s))
    (append_assoc (records_bytes old.records) (records_bytes new.records) tail)

-- ---- good

-- Columns below a bound, renumbered below another.
renumbered-fits : (f : ℕ → ℕ) (b b' : ℕ) → ((i : ℕ) → i < b → f i < b') → b' ≤ 256 → (e : Expr) → InRange (index_below b) e
    → InRange (index_below b') (map_columns f e)
renumbered-fits f b b' below few e h =
    map-in-range b b' f e
    (all_both (λ i. ltb i b ≡ true) (λ i. ltb i b ≡ true) (Fits b' f)
    (λ i p q. (lt-ltb (f i) b' (below i (ltb-true i b p)), omega (arith, below i (ltb-true i b p), few)))
    (columns_of e) (columns-below b e h) (columns-below b e h)) h

wider : (b b' : ℕ) → b ≤ b' → b' ≤ 256 → (e : Expr) → InRange (index_below b) e → InRange (index_below b') e
wider b b' k few e h = subst (InRange (index_below b')) (map-kept e) (renumbered-fits (λ i. i) b b' (λ i p. omega (arith, p, k)) few e h)

both-records : (rs rs' : List Record) → RecordsInRange rs → RecordsInRange rs' → RecordsInRange (rs ++ rs')
both-records [] rs' h k = k
both-records (r ∷ rs) rs' h k = (h.0, both-records rs rs' h.1 k)

-- No test holds.
none_of : (a b : Bool) → (a || b) ≡ false → (a ≡ false) × (b ≡ false)
none_of true b e = (e, absurd (false≢true (sym e)))
none_of false b e = (refl, e)

-- What a frame that is over no limit keeps to.
pub within-limits : (F : Frame) → over_limits F ≡ false
    → (length (frame_bytes F) ≤ 16384) × (nodes F.expr ≤ 1024) × (depth F.expr ≤ 64) × (length F.records ≤ 256)
unfolding over_limits
within-limits F e =
    let a = none_of (ltb 16384 (length (frame_bytes F))) _ e in
    let b = none_of (ltb 1024 (nodes F.expr)) _ a.1 in
    let c = none_of (ltb 64 (depth F.expr)) (ltb 256 (length F.records)) b.1 in
    (ltb-false 16384 _ a.0, ltb-false 1024 _ b.0, ltb-false 64 _ c.0, ltb-false 256 _ c.1)

merged-readable : (old new : Frame) → ReadableFrame old → ReadableFrame new
    → length (merge_frames old new).records ≤ 256 → depth (merge_frames old new).expr ≤ 64 → ReadableFrame (merge_frames old new)
unfolding merge_frames raised
merged-readable old new g k few shallow =
    let sum : length old.records + length new.records ≤ 256 = simp length-append at few in
    record {
      few = few;
      records_in_range = both-records old.records new.records g.records_in_range k.records_in_range;
      expr = record {
        in_range = rw length-append (
          wider (length old.records) (length old.records + length new.records) (omega arith) sum old.expr g.expr.in_range,
          renumbered-fits (λ index. length old.records + index) (length new.records) (length old.records + length new.records)
              (λ i p. omega (arith, p)) sum new.expr k.expr.in_range,
        );
        shallow = shallow;
      };
      arity =
          arity-and old.expr (map_columns (λ index. length old.records + index) new.expr)
          ∙ ap₂ ◌&&◌ g.arity (map-arity (λ index. length old.records + index) new.expr ∙ k.arity);
    }

pub good-merged : (old new : Frame) → GoodPlan (held old) → GoodPlan (held new) → over_limits (merge_frames old new) ≡ false
    → GoodPlan (held (merge_frames old new))
unfolding plan_nodes plan_bytes
good-merged old new g k e =
    let fine = within-limits (merge_frames old new) e in
    record {
      readable = merged-readable old new g.readable k.readable fine.3 fine.2;
      few_nodes = fine.1;
      few_bytes = fine.0;
    }

pub merged-good : MergedGood
merged-good old new g k e = (good-merged old new g k e, merged-length old new)

-- ---- value

pub merged_value : MergedValue
unfolding merge_frames raised frame_value value frame_columns
merged_value M v old new g =
    let rs : List Record = old.records in
    let rs' : List Record = new.records in
    let below = columns-below (length rs) old.expr g.readable.expr.in_range in
    ap₂ and_value
    (sym (same-value M (frame_columns v rs) (frame_columns v (rs ++ rs')) old.expr
    (all_both (λ i. ltb i (length rs) ≡ true) (λ i. ltb i (length rs) ≡ true) (λ i. frame_columns v rs i ≡ frame_columns v (rs ++ rs') i)
    (λ i p q. ap (λ (r : Record). v r.side r.child) (sym (old-record rs rs' i (ltb-true i (length rs) p))))
    (columns_of old.expr) below below)))
    (sym (map-value M (frame_columns v rs') (frame_columns v (rs ++ rs')) (λ index. length rs + index) new.expr
    (all-every (λ i. frame_columns v rs' i ≡ frame_columns v (rs ++ rs') (length rs + i))
    (λ i. ap (λ (r : Record). v r.side r.child) (sym (new-record rs rs' i))) (columns_of new.expr))))

-- ---- leaves

-- A held leaf stands as it did, over records that begin as they did.
module _ {match : Matcher} {Asks : Meaning → Type 0} (laws : Lawful match Asks) where
  pub old-leaves : (rs rs' : List Record) (e : Expr) → InRange (index_below (length rs)) e
      → map (match (rs ++ rs')) (leaves e) ≡ map (match rs) (leaves e)
  old-leaves rs rs' e h =
      ap (λ (x : Expr). map (match (rs ++ rs')) (leaves x)) (sym (map-kept e))
      ∙ leaves-moved laws rs (rs ++ rs') (λ i. i) (length rs) (λ i k. old-record rs rs' i k) e h

  matches-merged : (old new : Frame) → GoodPlan (held old) → GoodPlan (held new)
      → matches_by match (merge_frames old new) ≡ matches_by match old ++ matches_by match new
  unfolding matches_by merge_frames raised leaves
  matches-merged old new g k =
      let rs : List Record = old.records in
      let rs' : List Record = new.records in
      map-append (match (rs ++ rs')) (leaves old.expr) (leaves (map_columns (λ i. length rs + i) new.expr))
      ∙ ap₂ ◌++◌ (old-leaves rs rs' old.expr g.readable.expr.in_range)
      (leaves-moved laws rs' (rs ++ rs') (λ i. length rs + i) (length rs') (λ i _. new-record rs rs' i)
      new.expr k.readable.expr.in_range)

leaves-merged : (old new : Frame)
    → leaves (merge_frames old new).expr ≡ leaves old.expr ++ map (raised (length old.records)) (leaves new.expr)
unfolding merge_frames leaves raised
leaves-merged old new = ap (λ (es : List Expr). leaves old.expr ++ es) (map-leaves (λ i. length old.records + i) new.expr)

pub merged-leaves-are : {match : Matcher} {Asks : Meaning → Type 0} → Lawful match Asks → MergedLeavesBy match
merged-leaves-are laws old new g k = (leaves-merged old new, matches-merged laws old new g k)
