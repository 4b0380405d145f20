-- The extraction of a good frame is good, and no longer than the frame.
use Rattle.std.specs.Prelude.{if◌then◌else◌}
use Prim.Native.Nat.{ℕ, zero, suc, ◌+◌, ◌*◌, ◌≤◌, ◌<◌}
use native.Mathlib.Nat.{not-suc-le-zero, le_of_suc-le-suc, zero-lt-suc}
use native.Mathlib.Omega.{arith}
use mathlib.Core.Path.{◌≡◌, refl, sym, ap, ◌∙◌, subst}
use mathlib.Core.Bool.{Bool, true, false, ◌||◌, or-true}
use mathlib.Core.List.{List, [], ◌∷◌}
use mathlib.Core.Option.{Option, none, some, map}
use lib.ListN.{length, take}
use lib.Dec.{ltb, eqb}
use borrow.Author.Tests.{ltb-true, lt-ltb, eq-eqb}
use Rattle.definitions.specs.Words.Basics.{any, keep}
use Rattle.definitions.specs.Words.Expression.{Side, left, right, no_side, Expr, Record, Frame, Extraction, held, extracted}
use Rattle.definitions.specs.Bytes.Encode.{expr_bytes, frame_bytes, remainder_bytes, extraction_bytes, plan_bytes}
use Rattle.definitions.specs.Words.Leaves.{arity}
use Rattle.definitions.specs.Bytes.Decode.{index_below}
use Rattle.definitions.specs.Words.References.{record_at, columns_of, same_side, map_columns}
use Rattle.definitions.specs.Filter.Extract.{Pick, pick, without, same_column, referenced, new_index, prune, take_pick, Matcher, matches_by, extraction_by, extraction}
use Rattle.definitions.specs.Bytes.Good.{All, nodes, depth, InRange, RecordsInRange, ReadableFrame, ReadableRemainder, remainder_nodes, plan_nodes, GoodPlan}
use Rattle.theorems.proofs.Columns.{Fits as FitsIn, map-length, map-nodes, map-depth, map-in-range, map-arity, all_both, columns-below}
use Rattle.theorems.proofs.Taken.{Taken, taken-bytes, taken-nodes, leaf-depth, rest-depth, leaf-in-range, rest-in-range, rest-arity, rest_bytes, rest_nodes, RestIs}
use Rattle.definitions.specs.Meaning.Values.{Meaning}
use Rattle.definitions.specs.Meaning.Matchers.{Fits, Lawful}
use Rattle.theorems.proofs.MatchLaws.{match-laws}
use Rattle.theorems.proofs.Pick.{taking, Picked, picked, leaf_at, position-short, pick-taken, pick-matches}
use Rattle.theorems.proofs.Tools.{by-test}
use Rattle.theorems.proofs.ExchangeGood.{frame-length, extraction-length}

-- ---- pruning

keep-length : (test : Record → Bool) (rs : List Record) → length (keep test rs) ≤ length rs
unfolding keep
keep-length test [] = omega arith
keep-length test (r ∷ rs) =
    by-test (λ (k : List Record). length k ≤ suc (length rs)) (test r) (r ∷ keep test rs) (keep test rs)
    (λ e. omega (arith, keep-length test rs)) (λ e. omega (arith, keep-length test rs))

keep-in-range : (test : Record → Bool) (rs : List Record) → RecordsInRange rs → RecordsInRange (keep test rs)
unfolding keep
keep-in-range test [] h = tt
keep-in-range test (r ∷ rs) h =
    by-test RecordsInRange (test r) (r ∷ keep test rs) (keep test rs) (λ e. (h.0, keep-in-range test rs h.1))
    (λ e. keep-in-range test rs h.1)

both-longer : (t : Bool) (r : Record) (xs ys : List Record) → length xs < length ys
    → length (if t then r ∷ xs else xs) < length (if t then r ∷ ys else ys)
both-longer true r xs ys h = omega arith
both-longer false r xs ys h = h

-- A kept record's new index is below the number of kept records.
pub new-below : (test : Record → Bool) (rs : List Record) (i : ℕ) → i < length rs → test (record_at rs i) ≡ true
    → new_index test rs i < length (keep test rs)
unfolding new_index keep record_at
new-below test [] i h e = absurd (not-suc-le-zero h)
new-below test (r ∷ rs) zero h e = subst (λ (t : Bool). 0 < length (if t then r ∷ keep test rs else keep test rs)) (sym e) (zero-lt-suc _)
new-below test (r ∷ rs) (suc i) h e =
    both-longer (test r) r (keep test (take i rs)) (keep test rs) (new-below test rs i (le_of_suc-le-suc h) e)

same-side-refl : (s : Side) → same_side s s ≡ true
unfolding same_side
same-side-refl left = refl
same-side-refl right = refl
same-side-refl no_side = refl

same_number : (n : ℕ) → eqb n n ≡ true
same_number n = eq-eqb n n refl

pub same-column-refl : (r : Record) → same_column r r ≡ true
unfolding same_column
same-column-refl r = simp (same-side-refl, same_number)

-- Each element of a list is found in it, by a test that every element passes with itself.
pub found : (g : ℕ → ℕ → Bool) → ((i : ℕ) → g i i ≡ true) → (xs ys : List ℕ)
    → ((i : ℕ) → any (λ j. g j i) xs ≡ true → any (λ j. g j i) ys ≡ true) → All (λ i. any (λ j. g j i) ys ≡ true) xs
unfolding any
found g same [] ys up = tt
found g same (x ∷ xs) ys up = (
  up x (ap (λ (b : Bool). b || any (λ j. g j x) xs) (same x)),
  found g same xs ys (λ i h. up i (ap (λ (b : Bool). g x i || b) h ∙ or-true (g x i))),
)

pub references : (rs : List Record) (e : Expr) → All (λ i. referenced rs e (record_at rs i) ≡ true) (columns_of e)
unfolding referenced
references rs e =
    found (λ j i. same_column (record_at rs j) (record_at rs i)) (λ i. same-column-refl (record_at rs i)) (columns_of e)
    (columns_of e) (λ i h. h)

-- The columns of a pruned expression are below the number of its records.
pub prune-in-range : (rs : List Record) (e : Expr) → length rs ≤ 256 → InRange (index_below (length rs)) e
    → InRange (index_below (length (keep (referenced rs e) rs))) (map_columns (new_index (referenced rs e) rs) e)
prune-in-range rs e few r =
    let test : Record → Bool = referenced rs e in
    let f : ℕ → ℕ = new_index test rs in
    let b : ℕ = length (keep test rs) in
    let fits : (i : ℕ) → ltb i (length rs) ≡ true → test (record_at rs i) ≡ true → FitsIn b f i = λ i below hit.
    let new : f i < b = new-below test rs i (ltb-true i (length rs) below) hit in
    (lt-ltb (f i) b new, omega (arith, new, keep-length test rs)) in
    map-in-range (length rs) b f e
    (all_both (λ i. ltb i (length rs) ≡ true) (λ i. test (record_at rs i) ≡ true) (FitsIn b f) fits (columns_of e)
    (columns-below (length rs) e r) (references rs e)) r

prune-readable : (rs : List Record) (e : Expr) → length rs ≤ 256 → RecordsInRange rs → InRange (index_below (length rs)) e → depth e ≤ 64
    → arity e ≡ true
    → ReadableFrame (prune rs e)
unfolding prune
prune-readable rs e few rr r d a =
    let test : Record → Bool = referenced rs e in
    let f : ℕ → ℕ = new_index test rs in
    record {
      few = omega (arith, keep-length test rs);
      records_in_range = keep-in-range test rs rr;
      expr = record { in_range = prune-in-range rs e few r; shallow = rw (map-depth f e) d };
      arity = map-arity f e ∙ a;
    }

prune-bytes : (rs : List Record) (e : Expr) → length (frame_bytes (prune rs e)) ≤ 3 + 5 * length rs + length (expr_bytes e)
unfolding prune
prune-bytes rs e =
    rw (frame-length (prune rs e))
    (omega (arith, keep-length (referenced rs e) rs, map-length (new_index (referenced rs e) rs) e))

pub prune-nodes : (rs : List Record) (e : Expr) → nodes (prune rs e).expr ≡ nodes e
unfolding prune
prune-nodes rs e = map-nodes _ e

-- ---- the extraction

-- The bytes and nodes of an optional remainder.
pub rest-readable : (rs : List Record) (rest : Option Expr) → length rs ≤ 256 → RecordsInRange rs
    → RestIs (InRange (index_below (length rs))) rest → RestIs (λ x. depth x ≤ 64) rest → RestIs (λ x. arity x ≡ true) rest
    → ReadableRemainder (map (prune rs) rest)
rest-readable rs none few rr r d a = tt
rest-readable rs (some e) few rr r d a = prune-readable rs e few rr r d a

pub rest-length : (rs : List Record) (rest : Option Expr)
    → length (remainder_bytes (map (prune rs) rest)) ≤ 1 + 5 * length rs + rest_bytes rest
unfolding remainder_bytes rest_bytes
rest-length rs none = omega arith
rest-length rs (some e) = omega (arith, prune-bytes rs e)

rest-count : (rs : List Record) (rest : Option Expr) → remainder_nodes (map (prune rs) rest) ≤ rest_nodes rest
unfolding remainder_nodes rest_nodes
rest-count rs none = omega arith
rest-count rs (some e) = omega (arith, prune-nodes rs e)

shallow-rest : (d : ℕ) (rest : Option Expr) → d ≤ 64 → RestIs (λ x. depth x ≤ d) rest → RestIs (λ x. depth x ≤ 64) rest
shallow-rest d none h k = tt
shallow-rest d (some e) h k = omega arith

-- What is said of a frame's extraction.
abbrev pub GoodExtraction : Frame → Option Extraction → Type 0
GoodExtraction F none = Unit {0}
GoodExtraction F (some X) = GoodPlan (extracted X) × (length (extraction_bytes X) ≤ length (frame_bytes F))

module _ {match : Matcher} {Asks : Meaning → Type 0} (laws : Lawful match Asks) where
  take-good : (F : Frame) → GoodPlan (held F) → (p : Option Pick) → Picked (matches_by match F) F p → GoodExtraction F (take_pick F p)
  unfolding take_pick plan_bytes plan_nodes
  take-good F g none h = tt
  take-good F g (some p) h =
      let rs : List Record = F.records in
      let leaf : Expr = leaf_at F p.position in
      let rest : Option Expr = without p.position F.expr in
      let t : Taken F.expr leaf rest = pick-taken match F p h in
      let good : ReadableFrame F = g.readable in
      let range : InRange (index_below (length rs)) F.expr = good.expr.in_range in
      let deep : depth F.expr ≤ 64 = good.expr.shallow in
      let fits : Fits (length (expr_bytes leaf)) (nodes leaf) (some p.predicate) =
      subst (Fits (length (expr_bytes leaf)) (nodes leaf)) (pick-matches match F p h)
      (laws.fits rs leaf good.records_in_range
      (record { in_range = leaf-in-range (index_below (length rs)) t range; shallow = omega (arith, leaf-depth t) })) in
      let short : length (extraction_bytes (taking F p)) ≤ length (frame_bytes F) =
      omega (arith, extraction-length (taking F p), frame-length F, fits.1, rest-length rs rest, taken-bytes t) in (
        record {
          readable = (
            position-short match F p h g,
            fits.0,
            rest-readable rs rest good.few good.records_in_range (rest-in-range (index_below (length rs)) t range)
                (shallow-rest (depth F.expr) rest deep (rest-depth t)) (rest-arity t good.arity),
          );
          few_nodes = omega (arith, fits.2, rest-count rs rest, taken-nodes t, g.few_nodes);
          few_bytes = omega (arith, short, g.few_bytes);
        },
        short,
      )

  -- The extraction of a good frame is good, and never longer than the frame.
  pub good-by : (F : Frame) → GoodPlan (held F) → GoodExtraction F (extraction_by match F)
  unfolding extraction_by
  good-by F g = take-good F g (pick (matches_by match F)) (picked (matches_by match F) F)

-- With 01's matcher too.
pub extraction-good : (F : Frame) → GoodPlan (held F) → GoodExtraction F (extraction F)
extraction-good = good-by match-laws
