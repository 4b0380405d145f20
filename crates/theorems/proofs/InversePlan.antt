-- A list of bytes that is a good extraction, or a good plan, is the bytes of that extraction or plan.
use Rattle.std.specs.Prelude.{if◌then◌else◌}
use Prim.Native.Nat.{ℕ, zero, suc, ◌+◌, ◌^◌, ◌≤◌, ◌<◌}
use native.Mathlib.Omega.{arith}
use mathlib.Core.Path.{◌≡◌, refl, sym, ap, ap₂, ◌∙◌, subst}
use mathlib.Core.Bool.{Bool, true, false, decide}
use mathlib.Core.List.{List, [], ◌∷◌, ◌++◌, append-nil}
use mathlib.Core.Option.{Option, none, some}
use lib.Dec.{eqb, lit≤}
use borrow.Author.Tests.{eqb-true}
use Rattle.definitions.specs.Words.Basics.{big_endian, Result, ok, refused, map_result}
use Rattle.definitions.specs.Words.Expression.{Side, left, right, no_side, relations, Expr, Frame, Predicate, relation, distance, knn, Extraction, Plan, empty, held, extracted}
use Rattle.definitions.specs.Words.Literals.{is_k}
use Rattle.definitions.specs.Bytes.Encode.{expr_bytes, side_number, position_in, relation_number, frame_bytes, predicate_kind, predicate_fields, remainder_bytes, extraction_bytes, plan_bytes}
use Rattle.definitions.specs.Words.Leaves.{arity}
use Rattle.definitions.specs.Bytes.Readers.{Reader, continue, read, give, number, byte_up_to, first_byte, refuse}
use Rattle.definitions.specs.Bytes.Decode.{Columns, index_below, expression, side_up_to, frame_body, relation_numbered, relation_predicate, distance_predicate, k_field, knn_predicate, predicate_of_kind, some_remainder, remainder_of_kind, remainder, extraction_body, argument}
use Rattle.definitions.specs.Bytes.Plans.{whole_extraction, frame_of, extraction_of, plan_of_kind, plan_of}
use Rattle.definitions.specs.Bytes.Good.{AllBytes, Readable, OneOfTwo, ReadablePredicate, ReadableRemainder, predicate_nodes, remainder_nodes, plan_nodes, ReadablePlan, GoodPlan}
use Rattle.theorems.proofs.ReaderLaws.{stopped-not-read, step, test, given}
use Rattle.theorems.proofs.Inverse.{byte-back, byte-up-to-back, number-back, after-bytes, join, NodeBack, node-back}
use Rattle.theorems.proofs.InverseFrame.{PlanBack, whole-plan, side-back, frame_fields, FrameBack, body_back, answer_back, opened, ended, frame_back}
pub use Rattle.theorems.proofs.InverseFrame.{side-number, refused_not_ok, same_ok}

-- ---- extractions

relation-number : (n : ℕ) → n ≤ 8 → relation_number (relation_numbered n) ≡ n
unfolding relation_number relation_numbered position_in relations decide
relation-number zero h = refl
relation-number (suc zero) h = refl
relation-number (suc (suc zero)) h = refl
relation-number (suc (suc (suc zero))) h = refl
relation-number (suc (suc (suc (suc zero)))) h = refl
relation-number (suc (suc (suc (suc (suc zero))))) h = refl
relation-number (suc (suc (suc (suc (suc (suc zero)))))) h = refl
relation-number (suc (suc (suc (suc (suc (suc (suc zero))))))) h = refl
relation-number (suc (suc (suc (suc (suc (suc (suc (suc zero)))))))) h = refl
relation-number (suc (suc (suc (suc (suc (suc (suc (suc (suc n))))))))) h = absurd (omega arith)

one_of_two : (s : Side) → side_number s ≤ 1 → OneOfTwo s
unfolding side_number
one_of_two left h = tt
one_of_two right h = tt
one_of_two no_side h = omega arith

abbrev Wide : Columns
Wide = index_below 65536

-- One expression of a predicate.
abbrev ExprBack : (n m : ℕ) (s t : List ℕ) (e : Expr) → Type 0
ExprBack n m s t e = NodeBack Wide 64 n m s t e

expr-back : (n m : ℕ) (s t : List ℕ) (e : Expr) → AllBytes s → n ≤ 1024 → expression Wide n s ≡ read e m t → ExprBack n m s t e
unfolding expression
expr-back n m s t e h k eq = node-back Wide 64 n m s t e h k eq

readable : (n m : ℕ) (s t : List ℕ) (e : Expr) → ExprBack n m s t e → Readable Wide e
readable n m s t e b = record { in_range = b.in_range; shallow = b.shallow }

record PredicateBack (n m kind : ℕ) (s t : List ℕ) (p : Predicate) : Type 0 where
  first : kind ≡ predicate_kind p
  bytes : s ≡ predicate_fields p ++ t
  readable : ReadablePredicate p
  counted : m ≡ n + predicate_nodes p
  few : m ≤ 1024

-- Reading on: each step with what is known of it, and the bytes after it.
module _ {G : Type 0} {p : Predicate} {m : ℕ} {t : List ℕ} where
  byte_step : (most n : ℕ) (s : List ℕ) (next : ℕ → Reader Predicate) → AllBytes s → continue (byte_up_to most n s) next ≡ read p m t
      → ((b n₁ : ℕ) (s₁ : List ℕ) → (s ≡ b ∷ s₁) × (b ≤ most) × (n₁ ≡ n) → AllBytes s₁ → next b n₁ s₁ ≡ read p m t → G) → G
  byte_step most n s next h e go =
      step (byte_up_to most n s) next e (λ b n₁ s₁ e₁ f₁.
      let a : (s ≡ b ∷ s₁) × (b ≤ most) × (n₁ ≡ n) = byte-up-to-back most n n₁ b s s₁ e₁ in
      go b n₁ s₁ a (after-bytes (b ∷ []) s₁ s a.0 h) f₁)

  side-step : (most n : ℕ) (s : List ℕ) (next : Side → Reader Predicate) → most ≤ 2 → AllBytes s
      → continue (side_up_to most n s) next ≡ read p m t
      → ((x : Side) (n₁ : ℕ) (s₁ : List ℕ) → (s ≡ side_number x ∷ s₁) × (side_number x ≤ most) × (n₁ ≡ n) → AllBytes s₁
      → next x n₁ s₁ ≡ read p m t → G)
      → G
  side-step most n s next k h e go =
      step (side_up_to most n s) next e (λ x n₁ s₁ e₁ f₁.
      let a : (s ≡ side_number x ∷ s₁) × (side_number x ≤ most) × (n₁ ≡ n) = side-back most n n₁ s s₁ x k e₁ in
      go x n₁ s₁ a (after-bytes (side_number x ∷ []) s₁ s a.0 h) f₁)

  expr-step : (n : ℕ) (s : List ℕ) (next : Expr → Reader Predicate) → AllBytes s → n ≤ 1024
      → continue (expression Wide n s) next ≡ read p m t
      → ((e : Expr) (n₁ : ℕ) (s₁ : List ℕ) → ExprBack n n₁ s s₁ e → AllBytes s₁ → next e n₁ s₁ ≡ read p m t → G) → G
  expr-step n s next h k e go =
      step (expression Wide n s) next e (λ x n₁ s₁ e₁ f₁.
      let b : ExprBack n n₁ s s₁ x = expr-back n n₁ s s₁ x h k e₁ in
      go x n₁ s₁ b (after-bytes (expr_bytes x) s₁ s b.bytes h) f₁)

relation-back : (n m : ℕ) (s t : List ℕ) (p : Predicate) → AllBytes s → n ≤ 1024 → relation_predicate n s ≡ read p m t
    → PredicateBack n m 0x11 s t p
unfolding relation_predicate argument predicate_kind predicate_fields predicate_nodes
relation-back n m s t p h k eq =
    byte_step 8 n s _ h eq (λ type n₁ s₁ a h₁ f₁.
    expr-step n₁ s₁ _ h₁ (omega (arith, a.2)) f₁ (λ x n₂ s₂ l h₂ f₂.
    expr-step n₂ s₂ _ h₂ l.few f₂ (λ y n₃ s₃ r h₃ f₃.
    given (λ z m t. PredicateBack n m 0x11 s t z) (relation (relation_numbered type) x y) p n₃ m s₃ t f₃ (record {
      first = refl;
      bytes = a.0 ∙ ap₂ (λ (i : ℕ) (z : List ℕ). i ∷ z) (sym (relation-number type a.1))
          (join (expr_bytes x) (expr_bytes y) s₁ s₂ s₃ l.bytes r.bytes);
      readable = (readable n₁ n₂ s₁ s₂ x l, readable n₂ n₃ s₂ s₃ y r);
      counted = omega (arith, a.2, l.counted, r.counted);
      few = r.few;
    }))))

distance_back : (n m : ℕ) (s t : List ℕ) (p : Predicate) → AllBytes s → n ≤ 1024 → distance_predicate n s ≡ read p m t
    → PredicateBack n m 0x12 s t p
unfolding distance_predicate argument predicate_kind predicate_fields predicate_nodes
distance_back n m s t p h k eq =
    byte_step 4 n s _ h eq (λ form n₁ s₁ a h₁ f₁.
    side-step 2 n₁ s₁ _ (lit≤ tt) h₁ f₁ (λ side n₂ s₂ b h₂ f₂.
    expr-step n₂ s₂ _ h₂ (omega (arith, a.2, b.2)) f₂ (λ x n₃ s₃ l h₃ f₃.
    expr-step n₃ s₃ _ h₃ l.few f₃ (λ y n₄ s₄ r h₄ f₄.
    expr-step n₄ s₄ _ h₄ r.few f₄ (λ d n₅ s₅ z h₅ f₅.
    given (λ q m t. PredicateBack n m 0x12 s t q) (distance form side x y d) p n₅ m s₅ t f₅ (record {
      first = refl;
      bytes = a.0 ∙ ap (λ (q : List ℕ). form ∷ q) (b.0 ∙ ap (λ (q : List ℕ). side_number side ∷ q)
          (join (expr_bytes x) (expr_bytes y ++ expr_bytes d) s₂ s₃ s₅ l.bytes
          (join (expr_bytes y) (expr_bytes d) s₃ s₄ s₅ r.bytes z.bytes)));
      readable = (a.1, readable n₂ n₃ s₂ s₃ x l, readable n₃ n₄ s₃ s₄ y r, readable n₄ n₅ s₄ s₅ d z);
      counted = omega (arith, a.2, b.2, l.counted, r.counted, z.counted);
      few = z.few;
    }))))))

pub k-back : (n m k : ℕ) (s t : List ℕ) → AllBytes s → k_field n s ≡ read k m t → (s ≡ big_endian 4 k ++ t) × (is_k k ≡ true) × (m ≡ n)
unfolding k_field
k-back n m k s t h e =
    step (number 4 n s) _ e (λ c n₁ s₁ e₁ f₁.
    let a : (s ≡ big_endian 4 c ++ s₁) × (c < 256 ^ 4) × (n₁ ≡ n) = number-back 4 n n₁ c s s₁ h e₁ in
    test 4 (is_k c) (give c) n₁ s₁ f₁ (λ fine f₂.
    given (λ y m t. (s ≡ big_endian 4 y ++ t) × (is_k y ≡ true) × (m ≡ n)) c k n₁ m s₁ t f₂ (a.0, fine, a.2)))

knn-back : (n m : ℕ) (s t : List ℕ) (p : Predicate) → AllBytes s → n ≤ 1024 → knn_predicate n s ≡ read p m t
    → PredicateBack n m 0x13 s t p
unfolding knn_predicate argument predicate_kind predicate_fields predicate_nodes
knn-back n m s t p h k eq =
    step (k_field n s) _ eq (λ c n₁ s₁ e₁ f₁.
    let a : (s ≡ big_endian 4 c ++ s₁) × (is_k c ≡ true) × (n₁ ≡ n) = k-back n n₁ c s s₁ h e₁ in
    byte_step 1 n₁ s₁ _ (after-bytes (big_endian 4 c) s₁ s a.0 h) f₁ (λ sp n₂ s₂ b h₂ f₂.
    side-step 1 n₂ s₂ _ (lit≤ tt) h₂ f₂ (λ probe n₃ s₃ d h₃ f₃.
    byte_step 2 n₃ s₃ _ h₃ f₃ (λ ties n₄ s₄ g h₄ f₄.
    expr-step n₄ s₄ _ h₄ (omega (arith, a.2, b.2, d.2, g.2)) f₄ (λ x n₅ s₅ l h₅ f₅.
    expr-step n₅ s₅ _ h₅ l.few f₅ (λ y n₆ s₆ r h₆ f₆.
    given (λ q m t. PredicateBack n m 0x13 s t q) (knn c sp probe ties x y) p n₆ m s₆ t f₆ (record {
      first = refl;
      bytes = join (big_endian 4 c) (sp ∷ side_number probe ∷ ties ∷ (expr_bytes x ++ expr_bytes y)) s s₁ s₆ a.0
          (b.0 ∙ ap (λ (q : List ℕ). sp ∷ q) (d.0 ∙ ap (λ (q : List ℕ). side_number probe ∷ q) (g.0 ∙ ap (λ (q : List ℕ). ties ∷ q)
          (join (expr_bytes x) (expr_bytes y) s₄ s₅ s₆ l.bytes r.bytes))));
      readable = (a.1, b.1, one_of_two probe d.1, g.1, readable n₄ n₅ s₄ s₅ x l, readable n₅ n₆ s₅ s₆ y r);
      counted = omega (arith, a.2, b.2, d.2, g.2, l.counted, r.counted);
      few = r.few;
    })))))))

predicate-kind-back : (n m kind : ℕ) (s t : List ℕ) (p : Predicate) → AllBytes s → n ≤ 1024 → (b1 b2 b3 : Bool)
    → eqb kind 0x11 ≡ b1 → eqb kind 0x12 ≡ b2 → eqb kind 0x13 ≡ b3
    → (if b1 then relation_predicate else if b2 then distance_predicate else if b3 then knn_predicate else refuse 2) n s ≡ read p m t
    → PredicateBack n m kind s t p
predicate-kind-back n m kind s t p h k true b2 b3 e1 e2 e3 eq =
    subst (λ (x : ℕ). PredicateBack n m x s t p) (sym (eqb-true kind 0x11 e1)) (relation-back n m s t p h k eq)
predicate-kind-back n m kind s t p h k false true b3 e1 e2 e3 eq =
    subst (λ (x : ℕ). PredicateBack n m x s t p) (sym (eqb-true kind 0x12 e2)) (distance_back n m s t p h k eq)
predicate-kind-back n m kind s t p h k false false true e1 e2 e3 eq =
    subst (λ (x : ℕ). PredicateBack n m x s t p) (sym (eqb-true kind 0x13 e3)) (knn-back n m s t p h k eq)
predicate-kind-back n m kind s t p h k false false false e1 e2 e3 eq = absurd (stopped-not-read 2 p m t eq)

predicate-back : (n m kind : ℕ) (s t : List ℕ) (p : Predicate) → AllBytes s → n ≤ 1024 → predicate_of_kind kind n s ≡ read p m t
    → PredicateBack n m kind s t p
unfolding predicate_of_kind
predicate-back n m kind s t p h k eq =
    predicate-kind-back n m kind s t p h k (eqb kind 0x11) (eqb kind 0x12) (eqb kind 0x13) refl refl refl eq

pub predicate-bytes : (n m kind : ℕ) (s t : List ℕ) (p : Predicate) → AllBytes s → n ≤ 1024 → predicate_of_kind kind n s ≡ read p m t
    → s ≡ predicate_fields p ++ t
predicate-bytes n m kind s t p h k eq = (predicate-back n m kind s t p h k eq).bytes

-- What is known of a remainder that was read.
record RemainderBack (n m : ℕ) (s t : List ℕ) (R : Option Frame) : Type 0 where
  bytes : s ≡ remainder_bytes R ++ t
  readable : ReadableRemainder R
  counted : m ≡ n + remainder_nodes R
  few : m ≤ 1024

some_back : (n m : ℕ) (s t : List ℕ) (R : Option Frame) → AllBytes s → n ≤ 1024 → some_remainder n s ≡ read R m t
    → RemainderBack n m (1 ∷ s) t R
unfolding some_remainder remainder_bytes remainder_nodes frame_bytes frame_fields
some_back n m s t R h k eq =
    step (frame_body n s) _ eq (λ F n₁ s₁ e₁ f₁.
    let b : FrameBack n n₁ s s₁ F = body_back n n₁ s s₁ F h k e₁ in
    test 8 (arity F.expr) _ n₁ s₁ f₁ (λ fine f₂.
    given (λ x m t. RemainderBack n m (1 ∷ s) t x) (some F) R n₁ m s₁ t f₂ (record {
      bytes = ap (λ (x : List ℕ). 1 ∷ x) b.bytes;
      readable = record { few = b.few; records_in_range = b.records_in_range; expr = b.expr; arity = fine };
      counted = b.counted;
      few = b.few_nodes;
    })))

none-back : (n m : ℕ) (s t : List ℕ) (R : Option Frame) → n ≤ 1024 → read none n s ≡ read R m t → RemainderBack n m (0 ∷ s) t R
unfolding remainder_bytes remainder_nodes
none-back n m s t R k eq =
    given (λ x m t. RemainderBack n m (0 ∷ s) t x) none R n m s t eq
    (record { bytes = refl; readable = tt; counted = omega arith; few = k })

remainder-kind-back : (n m kind : ℕ) (s t : List ℕ) (R : Option Frame) → AllBytes s → n ≤ 1024 → (b1 b2 : Bool) → eqb kind 0 ≡ b1
    → eqb kind 1 ≡ b2
    → (if b1 then give none else if b2 then some_remainder else refuse 4) n s ≡ read R m t → RemainderBack n m (kind ∷ s) t R
remainder-kind-back n m kind s t R h k true b2 e1 e2 eq =
    subst (λ (x : ℕ). RemainderBack n m (x ∷ s) t R) (sym (eqb-true kind 0 e1)) (none-back n m s t R k eq)
remainder-kind-back n m kind s t R h k false true e1 e2 eq =
    subst (λ (x : ℕ). RemainderBack n m (x ∷ s) t R) (sym (eqb-true kind 1 e2)) (some_back n m s t R h k eq)
remainder-kind-back n m kind s t R h k false false e1 e2 eq = absurd (stopped-not-read 4 R m t eq)

remainder-back : (n m : ℕ) (s t : List ℕ) (R : Option Frame) → AllBytes s → n ≤ 1024 → remainder n s ≡ read R m t → RemainderBack n m s t R
unfolding remainder remainder_of_kind
remainder-back n m s t R h k eq =
    step (first_byte n s) _ eq (λ kind n₁ s₁ e₁ f₁.
    let a : (s ≡ kind ∷ s₁) × (n₁ ≡ n) = byte-back n n₁ kind s s₁ e₁ in
    subst (λ (x : ℕ). RemainderBack x m s t R) a.1 (subst (λ (x : List ℕ). RemainderBack n₁ m x t R) (sym a.0)
    (remainder-kind-back n₁ m kind s₁ t R (after-bytes (kind ∷ []) s₁ s a.0 h) (omega (arith, a.1)) (eqb kind 0)
    (eqb kind 1) refl refl f₁)))

-- What is known of an extraction that was read.
record ExtractionBack (n m first : ℕ) (s t : List ℕ) (X : Extraction) : Type 0 where
  bytes : first ∷ s ≡ extraction_bytes X ++ t
  readable : ReadablePlan (extracted X)
  counted : m ≡ n + plan_nodes (extracted X)
  few : m ≤ 1024

extraction-body-back : (n m first : ℕ) (s t : List ℕ) (X : Extraction) → AllBytes (first ∷ s) → n ≤ 1024
    → extraction_body first n s ≡ read X m t
    → ExtractionBack n m first s t X
unfolding extraction_body extraction_bytes plan_nodes
extraction-body-back n m first s t X h k eq =
    step (number 2 n s) _ eq (λ i n₁ s₁ e₁ f₁.
    let a : (s ≡ big_endian 2 i ++ s₁) × (i < 256 ^ 2) × (n₁ ≡ n) = number-back 2 n n₁ i s s₁ h.1 e₁ in
    let h₁ : AllBytes s₁ = after-bytes (big_endian 2 i) s₁ s a.0 h.1 in
    step (predicate_of_kind first n₁ s₁) _ f₁ (λ p n₂ s₂ e₂ f₂.
    let b : PredicateBack n₁ n₂ first s₁ s₂ p = predicate-back n₁ n₂ first s₁ s₂ p h₁ (omega (arith, a.2)) e₂ in
    step (remainder n₂ s₂) _ f₂ (λ R n₃ s₃ e₃ f₃.
    let d : RemainderBack n₂ n₃ s₂ s₃ R =
    remainder-back n₂ n₃ s₂ s₃ R (after-bytes (predicate_fields p) s₂ s₁ b.bytes h₁) b.few e₃ in
    given (λ x m t. ExtractionBack n m first s t x) (record { position = i; predicate = p; remainder = R }) X n₃ m s₃ t f₃ (record {
      bytes = ap₂ (λ (x : ℕ) (y : List ℕ). x ∷ y) b.first (join (big_endian 2 i) (predicate_fields p ++ remainder_bytes R) s s₁ s₃ a.0
          (join (predicate_fields p) (remainder_bytes R) s₁ s₂ s₃ b.bytes d.bytes));
      readable = (a.1, b.readable, d.readable);
      counted = omega (arith, a.2, b.counted, d.counted);
      few = d.few;
    }))))

-- What is known of a list of bytes that is a good extraction.
abbrev GoodBytes : List ℕ → Extraction → Type 0
GoodBytes s X = (s ≡ extraction_bytes X) × GoodPlan (extracted X)

whole_back : (s : List ℕ) (X : Extraction) (m : ℕ) (t : List ℕ) → AllBytes s → whole_extraction 0 s ≡ read X m t → GoodBytes s X
unfolding whole_extraction plan_bytes
whole_back s X m t h e =
    opened s _ e (λ few e₁.
    step (first_byte 0 s) _ e₁ (λ first n₁ s₁ e₂ f₁.
    let a : (s ≡ first ∷ s₁) × (n₁ ≡ 0) = byte-back 0 n₁ first s s₁ e₂ in
    step (extraction_body first n₁ s₁) _ f₁ (λ Y n₂ s₂ e₃ f₂.
    let b : ExtractionBack n₁ n₂ first s₁ s₂ Y =
    extraction-body-back n₁ n₂ first s₁ s₂ Y (subst AllBytes a.0 h) (omega (arith, a.1)) e₃ in
    ended n₂ s₂ _ f₂ (λ none f₃.
    given (λ x m t. GoodBytes s x) Y X n₂ m s₂ t f₃ (whole-plan s (extracted Y) few
    (a.0 ∙ b.bytes ∙ ap (λ (y : List ℕ). extraction_bytes Y ++ y) none ∙ append-nil (extraction_bytes Y))
    b.readable (omega (arith, b.counted, b.few)))))))

-- Bytes that are a good extraction are that extraction's bytes.
pub extraction-back : (s : List ℕ) (X : Extraction) → AllBytes s → extraction_of s ≡ ok X → GoodBytes s X
unfolding extraction_of
extraction-back s X h e = let (m, t, is) = answer_back (whole_extraction 0 s) X e in whole_back s X m t h is

-- ---- plans

held-result : (s : List ℕ) (p : Plan) → AllBytes s → (r : Result Frame) → frame_of s ≡ r → map_result held r ≡ ok p → PlanBack s p
unfolding plan_bytes
held-result s p h (ok F) e q = subst (PlanBack s) (same_ok (held F) p q) (frame_back s F h e)
held-result s p h (refused k) e q = absurd (refused_not_ok k p q)

extracted-result : (s : List ℕ) (p : Plan) → AllBytes s → (r : Result Extraction) → extraction_of s ≡ r → map_result extracted r ≡ ok p
    → PlanBack s p
unfolding plan_bytes
extracted-result s p h (ok X) e q = subst (PlanBack s) (same_ok (extracted X) p q) (extraction-back s X h e)
extracted-result s p h (refused k) e q = absurd (refused_not_ok k p q)

plan-test : (s : List ℕ) (p : Plan) → AllBytes s → (b : Bool)
    → (if b then map_result held (frame_of s) else map_result extracted (extraction_of s)) ≡ ok p → PlanBack s p
plan-test s p h true e = held-result s p h (frame_of s) refl e
plan-test s p h false e = extracted-result s p h (extraction_of s) refl e

empty-good : GoodPlan empty
unfolding plan_nodes plan_bytes
empty-good = record { readable = tt; few_nodes = lit≤ tt; few_bytes = lit≤ tt }

-- Bytes that are a plan are that plan's bytes, and the plan is good.
pub plan-back : (s : List ℕ) (p : Plan) → AllBytes s → plan_of s ≡ ok p → (s ≡ plan_bytes p) × GoodPlan p
unfolding plan_of plan_of_kind plan_bytes
plan-back [] p h e = subst (PlanBack []) (same_ok empty p e) (refl, empty-good)
plan-back (b ∷ s) p h e = plan-test (b ∷ s) p h (eqb b 1) e
