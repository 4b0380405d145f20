-- The bytes of a good plan are read back as that plan.
use Rattle.std.specs.Prelude.{if◌then◌else◌}
use Prim.Native.Nat.{ℕ, suc, ◌+◌, ◌≤◌}
use native.Mathlib.Omega.{arith}
use mathlib.Core.Path.{◌≡◌, refl, sym, ap, ap₂, ◌∙◌}
use mathlib.Core.Bool.{Bool, true, false, ◌&&◌, decide}
use mathlib.Core.List.{List, [], ◌∷◌, ◌++◌, append_assoc, append-nil}
use mathlib.Core.Option.{Option, none, some}
use lib.ListN.{length}
use lib.Dec.{eqb, lit≤}
use borrow.Author.Tests.{le-leb}
use Rattle.definitions.specs.Words.Basics.{big_endian, ok, map_result}
use Rattle.definitions.specs.Words.Expression.{Side, left, right, no_side, Relation, intersects, contains, within, covers, covered_by, touches, crosses, overlaps, equals, relations, Expr, Record, Frame, Predicate, relation, distance, knn, Extraction, Plan, empty, held, extracted}
use Rattle.definitions.specs.Words.Literals.{is_k}
use Rattle.definitions.specs.Bytes.Encode.{expr_bytes, side_number, position_in, relation_number, record_bytes, records_bytes, frame_bytes, predicate_kind, predicate_fields, remainder_bytes, extraction_bytes, plan_bytes}
use Rattle.definitions.specs.Bytes.Readers.{require_length, none_left, result_of, read, Reader, continue, give, repeat, at_end}
use Rattle.definitions.specs.Bytes.Decode.{Columns, index_below, expression, side_numbered, side_up_to, one_record, record_count, frame_body, relation_numbered, relation_predicate, distance_predicate, k_field, knn_predicate, predicate_of_kind, some_remainder, remainder_of_kind, remainder, extraction_body, argument}
use Rattle.definitions.specs.Bytes.Plans.{physical_frame, whole_extraction, frame_of, extraction_of, plan_of_kind, plan_of}
use Rattle.definitions.specs.Bytes.Good.{nodes, Short, Readable, RecordsInRange, ReadableFrame, OneOfTwo, ReadablePredicate, ReadableRemainder, predicate_nodes, remainder_nodes, plan_nodes, ReadablePlan, GoodPlan}
use Rattle.theorems.proofs.KLaws.{k-held}
use Rattle.theorems.proofs.ReaderLaws.{after, passes}
use Rattle.theorems.proofs.RoundTrip.{number-reads, byte_reads, node-reads}

-- ---- records

pub side-again : (s : Side) → side_numbered (side_number s) ≡ s
unfolding side_numbered side_number
side-again left = refl
side-again right = refl
side-again no_side = refl

side-small : (s : Side) → side_number s ≤ 2
unfolding side_number
side-small left = lit≤ tt
side-small right = lit≤ tt
side-small no_side = lit≤ tt

side-reads : (most : ℕ) (s : Side) (n : ℕ) (rest : List ℕ) → side_number s ≤ most → side_up_to most n (side_number s ∷ rest) ≡ read s n rest
unfolding side_up_to
side-reads most s n rest h = after _ (byte_reads most (side_number s) n rest h) ∙ ap (λ (t : Side). read t n rest) (side-again s)

record-reads : (r : Record) (n : ℕ) (rest : List ℕ) → Short r.child → Short r.tag
    → one_record n (record_bytes r ++ rest) ≡ read r n rest
unfolding one_record record_bytes
record-reads r n rest hc ht = rw (append_assoc (big_endian 2 r.child) (big_endian 2 r.tag) rest)
    (after _ (side-reads 2 r.side n (big_endian 2 r.child ++ (big_endian 2 r.tag ++ rest)) (side-small r.side))
    ∙ after _ (number-reads 2 r.child n (big_endian 2 r.tag ++ rest) hc)
    ∙ after _ (number-reads 2 r.tag n rest ht))

records-read : (rs : List Record) (n : ℕ) (rest : List ℕ) → RecordsInRange rs
    → repeat (length rs) one_record n (records_bytes rs ++ rest) ≡ read rs n rest
unfolding repeat records_bytes
records-read [] n rest h = refl
records-read (r ∷ rs) n rest h = rw (append_assoc (record_bytes r) (records_bytes rs) rest)
    (after _ (record-reads r n (records_bytes rs ++ rest) h.0.0 h.0.1) ∙ after _ (records-read rs n rest h.1))

count-reads : (k n : ℕ) (rest : List ℕ) → k ≤ 256 → record_count n (big_endian 2 k ++ rest) ≡ read k n rest
unfolding record_count
count-reads k n rest h = after _ (number-reads 2 k n rest (omega arith)) ∙ passes 4 (give k) n rest (le-leb k 256 h)

pub expr-reads : (c : Columns) (e : Expr) (n : ℕ) (rest : List ℕ) → Readable c e → n + nodes e ≤ 1024
    → expression c n (expr_bytes e ++ rest) ≡ read e (n + nodes e) rest
unfolding expression
expr-reads c e n rest h k = node-reads c e 64 n rest h.in_range h.shallow k

-- A frame after its first byte.
body_reads : (F : Frame) (n : ℕ) (rest : List ℕ) → ReadableFrame F → n + nodes F.expr ≤ 1024
    → frame_body n ((big_endian 2 (length F.records) ++ (records_bytes F.records ++ expr_bytes F.expr)) ++ rest)
    ≡ read F (n + nodes F.expr) rest
unfolding frame_body
body_reads F n rest h k =
    rw (
      append_assoc (big_endian 2 (length F.records)) (records_bytes F.records ++ expr_bytes F.expr) rest,
      append_assoc (records_bytes F.records) (expr_bytes F.expr) rest,
    )
    (after _ (count-reads (length F.records) n (records_bytes F.records ++ (expr_bytes F.expr ++ rest)) h.few)
    ∙ after _ (records-read F.records n (expr_bytes F.expr ++ rest) h.records_in_range)
    ∙ after _ (expr-reads (index_below (length F.records)) F.expr n rest h.expr k))

-- ---- whole frames

-- A frame of bytes that are not too many is opened.
opens : {A : Type 0} (first : ℕ) (s : List ℕ) (next : Reader A) → suc (length s) ≤ 16384
    → continue (require_length 0 (first ∷ s)) (λ b. next) ≡ next 0 (first ∷ s)
unfolding require_length
opens first s next h = passes 1 next 0 (first ∷ s) (ap₂ ◌&&◌ (le-leb 1 (suc (length s)) (omega arith)) (le-leb (suc (length s)) 16384 h))

pub frame-reads : (F : Frame) → GoodPlan (held F) → frame_of (frame_bytes F) ≡ ok F
unfolding frame_of physical_frame frame_bytes plan_bytes plan_nodes result_of at_end none_left
frame-reads F g =
    let fields : List ℕ = big_endian 2 (length F.records) ++ (records_bytes F.records ++ expr_bytes F.expr) in
    ap result_of (opens 1 fields _ g.few_bytes
    ∙ after _ (ap (frame_body 0) (sym (append-nil fields)) ∙ body_reads F 0 [] g.readable (omega (arith, g.few_nodes)))
    ∙ passes 8 (give F) (0 + nodes F.expr) [] g.readable.arity)

-- ---- extractions

relation-again : (t : Relation) → relation_numbered (relation_number t) ≡ t
unfolding relation_numbered relation_number position_in relations decide
relation-again intersects = refl
relation-again contains = refl
relation-again within = refl
relation-again covers = refl
relation-again covered_by = refl
relation-again touches = refl
relation-again crosses = refl
relation-again overlaps = refl
relation-again equals = refl

relation-small : (t : Relation) → relation_number t ≤ 8
unfolding relation_number position_in relations decide
relation-small intersects = lit≤ tt
relation-small contains = lit≤ tt
relation-small within = lit≤ tt
relation-small covers = lit≤ tt
relation-small covered_by = lit≤ tt
relation-small touches = lit≤ tt
relation-small crosses = lit≤ tt
relation-small overlaps = lit≤ tt
relation-small equals = lit≤ tt

probe-small : (s : Side) → OneOfTwo s → side_number s ≤ 1
unfolding side_number
probe-small left h = lit≤ tt
probe-small right h = lit≤ tt
probe-small no_side h = absurd h

k-reads : (k n : ℕ) (rest : List ℕ) → is_k k ≡ true → k_field n (big_endian 4 k ++ rest) ≡ read k n rest
unfolding k_field
k-reads k n rest h = after _ (number-reads 4 k n rest (k-held k h)) ∙ passes 4 (give k) n rest h

abbrev Wide : Columns
Wide = index_below 65536

predicate-reads : (p : Predicate) (n : ℕ) (rest : List ℕ) → ReadablePredicate p → n + predicate_nodes p ≤ 1024
    → predicate_of_kind (predicate_kind p) n (predicate_fields p ++ rest) ≡ read p (n + predicate_nodes p) rest
unfolding predicate_of_kind predicate_kind predicate_fields predicate_nodes relation_predicate distance_predicate knn_predicate argument
predicate-reads (relation type l r) n rest h k = rw (append_assoc (expr_bytes l) (expr_bytes r) rest)
    (after _ (byte_reads 8 (relation_number type) n (expr_bytes l ++ (expr_bytes r ++ rest)) (relation-small type))
    ∙ after _ (expr-reads Wide l n (expr_bytes r ++ rest) h.0 (omega arith))
    ∙ after _ (expr-reads Wide r (n + nodes l) rest h.1 (omega arith))
    ∙ ap₂ (λ (t : Relation) (m : ℕ). read (relation t l r) m rest) (relation-again type) (omega arith))
predicate-reads (distance form side l r bound) n rest h k =
    rw (append_assoc (expr_bytes l) (expr_bytes r ++ expr_bytes bound) rest, append_assoc (expr_bytes r) (expr_bytes bound) rest)
    (after _ (byte_reads 4 form n (side_number side ∷ (expr_bytes l ++ (expr_bytes r ++ (expr_bytes bound ++ rest)))) h.0)
    ∙ after _ (side-reads 2 side n (expr_bytes l ++ (expr_bytes r ++ (expr_bytes bound ++ rest))) (side-small side))
    ∙ after _ (expr-reads Wide l n (expr_bytes r ++ (expr_bytes bound ++ rest)) h.1 (omega arith))
    ∙ after _ (expr-reads Wide r (n + nodes l) (expr_bytes bound ++ rest) h.2 (omega arith))
    ∙ after _ (expr-reads Wide bound (n + nodes l + nodes r) rest h.3 (omega arith))
    ∙ ap (λ (m : ℕ). read (distance form side l r bound) m rest) (omega arith))
predicate-reads (knn k₁ spheroid probe ties l r) n rest h k =
    rw (
      append_assoc (big_endian 4 k₁) (spheroid ∷ side_number probe ∷ ties ∷ (expr_bytes l ++ expr_bytes r)) rest,
      append_assoc (expr_bytes l) (expr_bytes r) rest,
    )
    (after _ (k-reads k₁ n (spheroid ∷ side_number probe ∷ ties ∷ (expr_bytes l ++ (expr_bytes r ++ rest))) h.0)
    ∙ after _ (byte_reads 1 spheroid n (side_number probe ∷ ties ∷ (expr_bytes l ++ (expr_bytes r ++ rest))) h.1)
    ∙ after _ (side-reads 1 probe n (ties ∷ (expr_bytes l ++ (expr_bytes r ++ rest))) (probe-small probe h.2))
    ∙ after _ (byte_reads 2 ties n (expr_bytes l ++ (expr_bytes r ++ rest)) h.3)
    ∙ after _ (expr-reads Wide l n (expr_bytes r ++ rest) h.4 (omega arith))
    ∙ after _ (expr-reads Wide r (n + nodes l) rest h.5 (omega arith))
    ∙ ap (λ (m : ℕ). read (knn k₁ spheroid probe ties l r) m rest) (omega arith))

-- The remainder with its first byte.
remainder-reads : (R : Option Frame) (n : ℕ) → ReadableRemainder R → n + remainder_nodes R ≤ 1024
    → remainder n (remainder_bytes R) ≡ read R (n + remainder_nodes R) []
unfolding remainder remainder_bytes remainder_of_kind some_remainder remainder_nodes frame_bytes
remainder-reads none n h k = ap (λ (m : ℕ). read none m []) (omega arith)
remainder-reads (some F) n h k =
    after _ (ap (frame_body n) (sym (append-nil _)) ∙ body_reads F n [] h k) ∙ passes 8 (give (some F)) (n + nodes F.expr) [] h.arity

extraction-body : (X : Extraction) → ReadablePlan (extracted X) → plan_nodes (extracted X) ≤ 1024
    → extraction_body (predicate_kind X.predicate) 0
    (big_endian 2 X.position ++ (predicate_fields X.predicate ++ remainder_bytes X.remainder))
    ≡ read X (0 + predicate_nodes X.predicate + remainder_nodes X.remainder) []
unfolding extraction_body plan_nodes
extraction-body X h k =
    after _ (number-reads 2 X.position 0 _ h.0)
    ∙ after _ (predicate-reads X.predicate 0 (remainder_bytes X.remainder) h.1 (omega arith))
    ∙ after _ (remainder-reads X.remainder (0 + predicate_nodes X.predicate) h.2 (omega arith))

pub extraction-reads : (X : Extraction) → GoodPlan (extracted X) → extraction_of (extraction_bytes X) ≡ ok X
unfolding extraction_of whole_extraction extraction_bytes plan_bytes result_of at_end none_left
extraction-reads X g =
    ap result_of (opens (predicate_kind X.predicate) _ _ g.few_bytes
    ∙ after _ (extraction-body X g.readable g.few_nodes))

-- ---- plans

not-a-frame : (p : Predicate) → eqb (predicate_kind p) 1 ≡ false
unfolding predicate_kind
not-a-frame (relation type l r) = refl
not-a-frame (distance form side l r bound) = refl
not-a-frame (knn k spheroid probe ties l r) = refl

plan-of-other : (kind : ℕ) (s : List ℕ) → eqb kind 1 ≡ false → plan_of (kind ∷ s) ≡ map_result extracted (extraction_of (kind ∷ s))
unfolding plan_of plan_of_kind
plan-of-other kind s e =
    ap (λ (b : Bool). if b then map_result held (frame_of (kind ∷ s)) else map_result extracted (extraction_of (kind ∷ s))) e

-- The bytes of a good plan are that plan.
pub plan-reads : (p : Plan) → GoodPlan p → plan_of (plan_bytes p) ≡ ok p
unfolding plan_of plan_of_kind plan_bytes frame_bytes extraction_bytes
plan-reads empty g = refl
plan-reads (held F) g = ap (map_result held) (frame-reads F g)
plan-reads (extracted X) g =
    plan-of-other (predicate_kind X.predicate) _ (not-a-frame X.predicate) ∙ ap (map_result extracted) (extraction-reads X g)
