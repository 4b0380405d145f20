-- A list of bytes that is a good frame is the bytes of that frame.
use Prim.Native.Nat.{ℕ, zero, suc, ◌+◌, ◌^◌, ◌≤◌, ◌<◌}
use native.Mathlib.Omega.{arith}
use mathlib.Core.Path.{◌≡◌, refl, sym, ap, ap₂, ◌∙◌, subst}
use mathlib.Core.Bool.{true, ◌&&◌, false≢true}
use mathlib.Core.List.{List, [], ◌∷◌, ◌++◌, append-nil}
use lib.ListN.{length}
use lib.Dec.{leb, eqb, lit≤}
use borrow.Author.Tests.{leb-true, eqb-true}
use Rattle.definitions.specs.Words.Basics.{big_endian, Result, ok, refused}
use Rattle.definitions.specs.Words.Expression.{Plan, Side, Record, Frame, held}
use Rattle.definitions.specs.Bytes.Encode.{expr_bytes, side_number, record_bytes, records_bytes, frame_bytes, plan_bytes}
use Rattle.definitions.specs.Words.Leaves.{arity}
use Rattle.definitions.specs.Bytes.Readers.{Read, read, stopped, Reader, continue, give, number, byte_up_to, repeat, first_byte, require_length, none_left, at_end, result_of}
use Rattle.definitions.specs.Bytes.Decode.{index_below, node, expression, side_numbered, side_up_to, one_record, record_count, frame_body}
use Rattle.definitions.specs.Bytes.Plans.{physical_frame, frame_of}
use Rattle.definitions.specs.Bytes.Good.{ReadablePlan, AllBytes, nodes, Short, Readable, RecordsInRange, plan_nodes, GoodPlan}
use Rattle.theorems.proofs.ReaderLaws.{step, test, given}
use Rattle.theorems.proofs.Tools.{and-both}
use Rattle.theorems.proofs.Inverse.{byte-back, byte-up-to-back, number-back, after-bytes, join, NodeBack, node-back}

pub side-number : (n : ℕ) → n ≤ 2 → side_number (side_numbered n) ≡ n
unfolding side_number side_numbered
side-number zero h = refl
side-number (suc zero) h = refl
side-number (suc (suc zero)) h = refl
side-number (suc (suc (suc n))) h = absurd (omega arith)

pub side-back : (most n m : ℕ) (s t : List ℕ) (x : Side) → most ≤ 2 → side_up_to most n s ≡ read x m t
    → (s ≡ side_number x ∷ t) × (side_number x ≤ most) × (m ≡ n)
unfolding side_up_to
side-back most n m s t x k e =
    step (byte_up_to most n s) _ e (λ b n₁ s₁ e₁ f₁.
    let a : (s ≡ b ∷ s₁) × (b ≤ most) × (n₁ ≡ n) = byte-up-to-back most n n₁ b s s₁ e₁ in
    let same : side_number (side_numbered b) ≡ b = side-number b (omega (arith, a.1)) in
    given (λ y m t. (s ≡ side_number y ∷ t) × (side_number y ≤ most) × (m ≡ n)) (side_numbered b) x n₁ m s₁ t f₁
    (a.0 ∙ ap (λ (y : ℕ). y ∷ s₁) (sym same), rw same a.1, a.2))

record-back : (n m : ℕ) (s t : List ℕ) (r : Record) → AllBytes s → one_record n s ≡ read r m t
    → (s ≡ record_bytes r ++ t) × (Short r.child × Short r.tag) × (m ≡ n)
unfolding one_record record_bytes
record-back n m s t r h e =
    step (side_up_to 2 n s) _ e (λ x n₁ s₁ e₁ f₁.
    let a : (s ≡ side_number x ∷ s₁) × (side_number x ≤ 2) × (n₁ ≡ n) = side-back 2 n n₁ s s₁ x (lit≤ tt) e₁ in
    let h₁ : AllBytes s₁ = after-bytes (side_number x ∷ []) s₁ s a.0 h in
    step (number 2 n₁ s₁) _ f₁ (λ c n₂ s₂ e₂ f₂.
    let b : (s₁ ≡ big_endian 2 c ++ s₂) × (c < 256 ^ 2) × (n₂ ≡ n₁) = number-back 2 n₁ n₂ c s₁ s₂ h₁ e₂ in
    step (number 2 n₂ s₂) _ f₂ (λ g n₃ s₃ e₃ f₃.
    let d : (s₂ ≡ big_endian 2 g ++ s₃) × (g < 256 ^ 2) × (n₃ ≡ n₂) =
    number-back 2 n₂ n₃ g s₂ s₃ (after-bytes (big_endian 2 c) s₂ s₁ b.0 h₁) e₃ in
    given (λ y m t. (s ≡ record_bytes y ++ t) × (Short y.child × Short y.tag) × (m ≡ n))
    (record { side = x; child = c; tag = g }) r n₃ m s₃ t f₃ (
      a.0 ∙ ap (λ (y : List ℕ). side_number x ∷ y) (join (big_endian 2 c) (big_endian 2 g) s₁ s₂ s₃ b.0 d.0),
      (b.1, d.1),
      d.2 ∙ b.2 ∙ a.2,
    ))))

abbrev RecordsBack : (k n m : ℕ) (s t : List ℕ) (rs : List Record) → Type 0
RecordsBack k n m s t rs = (s ≡ records_bytes rs ++ t) × (length rs ≡ k) × RecordsInRange rs × (m ≡ n)

records-back : (k n m : ℕ) (s t : List ℕ) (rs : List Record) → AllBytes s → repeat k one_record n s ≡ read rs m t → RecordsBack k n m s t rs
unfolding repeat records_bytes
records-back zero n m s t rs h e = given (λ x m t. RecordsBack 0 n m s t x) [] rs n m s t e (refl, refl, tt, refl)
records-back (suc j) n m s t rs h e =
    step (one_record n s) _ e (λ r n₁ s₁ e₁ f₁.
    let a : (s ≡ record_bytes r ++ s₁) × (Short r.child × Short r.tag) × (n₁ ≡ n) = record-back n n₁ s s₁ r h e₁ in
    step (repeat j one_record n₁ s₁) _ f₁ (λ xs n₂ s₂ e₂ f₂.
    let b : RecordsBack j n₁ n₂ s₁ s₂ xs = records-back j n₁ n₂ s₁ s₂ xs (after-bytes (record_bytes r) s₁ s a.0 h) e₂ in
    given (λ x m t. RecordsBack (suc j) n m s t x) (r ∷ xs) rs n₂ m s₂ t f₂
    (join (record_bytes r) (records_bytes xs) s s₁ s₂ a.0 b.0, ap suc b.1, (a.1, b.2), b.3 ∙ a.2)))

count-back : (n m k : ℕ) (s t : List ℕ) → AllBytes s → record_count n s ≡ read k m t → (s ≡ big_endian 2 k ++ t) × (k ≤ 256) × (m ≡ n)
unfolding record_count
count-back n m k s t h e =
    step (number 2 n s) _ e (λ c n₁ s₁ e₁ f₁.
    let a : (s ≡ big_endian 2 c ++ s₁) × (c < 256 ^ 2) × (n₁ ≡ n) = number-back 2 n n₁ c s s₁ h e₁ in
    test 4 (leb c 256) (give c) n₁ s₁ f₁ (λ fine f₂.
    given (λ y m t. (s ≡ big_endian 2 y ++ t) × (y ≤ 256) × (m ≡ n)) c k n₁ m s₁ t f₂ (a.0, leb-true c 256 fine, a.2)))

-- The bytes of a frame after its first byte.
unfoldable pub frame_fields : Frame → List ℕ
frame_fields F = big_endian 2 (length F.records) ++ (records_bytes F.records ++ expr_bytes F.expr)

-- What is known of a frame that was read, but for its arity.
pub record FrameBack (n m : ℕ) (s t : List ℕ) (F : Frame) : Type 0 where
  pub bytes : s ≡ frame_fields F ++ t
  pub few : length F.records ≤ 256
  pub records_in_range : RecordsInRange F.records
  pub expr : Readable (index_below (length F.records)) F.expr
  pub counted : m ≡ n + nodes F.expr
  pub few_nodes : m ≤ 1024

pub body_back : (n m : ℕ) (s t : List ℕ) (F : Frame) → AllBytes s → n ≤ 1024 → frame_body n s ≡ read F m t → FrameBack n m s t F
unfolding frame_body frame_fields expression
body_back n m s t F h k e =
    step (record_count n s) _ e (λ c n₁ s₁ e₁ f₁.
    let a : (s ≡ big_endian 2 c ++ s₁) × (c ≤ 256) × (n₁ ≡ n) = count-back n n₁ c s s₁ h e₁ in
    let h₁ : AllBytes s₁ = after-bytes (big_endian 2 c) s₁ s a.0 h in
    step (repeat c one_record n₁ s₁) _ f₁ (λ rs n₂ s₂ e₂ f₂.
    let b : RecordsBack c n₁ n₂ s₁ s₂ rs = records-back c n₁ n₂ s₁ s₂ rs h₁ e₂ in
    let h₂ : AllBytes s₂ = after-bytes (records_bytes rs) s₂ s₁ b.0 h₁ in
    step (node (index_below c) 64 n₂ s₂) _ f₂ (λ x n₃ s₃ e₃ f₃.
    let d : NodeBack (index_below c) 64 n₂ n₃ s₂ s₃ x = node-back (index_below c) 64 n₂ n₃ s₂ s₃ x h₂ (omega (arith, a.2, b.3)) e₃ in
    given (λ y m t. FrameBack n m s t y) (record { records = rs; expr = x }) F n₃ m s₃ t f₃ (record {
      bytes = join (big_endian 2 (length rs)) (records_bytes rs ++ expr_bytes x) s s₁ s₃ (rw b.1 a.0)
          (join (records_bytes rs) (expr_bytes x) s₁ s₂ s₃ b.0 d.bytes);
      few = rw b.1 a.1;
      records_in_range = b.2;
      expr = record { in_range = rw b.1 d.in_range; shallow = d.shallow };
      counted = omega (arith, d.counted, b.3, a.2);
      few_nodes = d.few;
    }))))

-- ---- whole frames

pub refused_not_ok : {A : Type 0} (k : ℕ) (a : A) → ◌≡◌ {A = Result A} (refused k) (ok a) → ⊥
refused_not_ok k a e = let z : ◌≡◌ {A = ℕ} 0 1 = cc in omega arith

pub same_ok : {A : Type 0} (a b : A) → ◌≡◌ {A = Result A} (ok a) (ok b) → a ≡ b
same_ok a b e = cc

-- A frame that was read as a whole: its bytes are not too many, and none is left.
pub answer_back : {A : Type 0} (r : Read A) (a : A) → result_of r ≡ ok a → (m : ℕ) × (t : List ℕ) × (r ≡ read a m t)
unfolding result_of
answer_back (read b m t) a e = (m, t, ap (λ (x : _). read x m t) (same_ok b a e))
answer_back (stopped k) a e = absurd (refused_not_ok k a e)

pub opened : {A G : Type 0} (s : List ℕ) (next : Reader A) {a : A} {m : ℕ} {t : List ℕ}
    → continue (require_length 0 s) (λ b. next) ≡ read a m t
    → (length s ≤ 16384 → next 0 s ≡ read a m t → G) → G
unfolding require_length
opened s next e go =
    test 1 (leb 1 (length s) && leb (length s) 16384) next 0 s e
    (λ fine f. go (leb-true (length s) 16384 (and-both (leb 1 (length s)) (leb (length s) 16384) fine).1) f)

none-left : (s : List ℕ) → none_left s ≡ true → s ≡ []
unfolding none_left
none-left [] e = refl
none-left (b ∷ s) e = absurd (false≢true e)

pub ended : {A G : Type 0} (n : ℕ) (s : List ℕ) (next : Reader A) {a : A} {m : ℕ} {t : List ℕ}
    → continue (at_end n s) (λ b. next) ≡ read a m t
    → (s ≡ [] → next n s ≡ read a m t → G) → G
unfolding at_end
ended n s next e go = test 7 (none_left s) next n s e (λ fine f. go (none-left s fine) f)

-- What is known of a list of bytes that is a good plan, a frame among them.
abbrev pub PlanBack : List ℕ → Plan → Type 0
PlanBack s p = (s ≡ plan_bytes p) × GoodPlan p

pub whole-plan : (s : List ℕ) (p : Plan) → length s ≤ 16384 → s ≡ plan_bytes p → ReadablePlan p → plan_nodes p ≤ 1024 → PlanBack s p
whole-plan s p few same readable nodes =
    (same, record { readable = readable; few_nodes = nodes; few_bytes = subst (λ (x : List ℕ). length x ≤ 16384) same few })

abbrev pub GoodFrame : List ℕ → Frame → Type 0
GoodFrame s F = (s ≡ frame_bytes F) × GoodPlan (held F)

physical-back : (s : List ℕ) (F : Frame) (m : ℕ) (t : List ℕ) → AllBytes s → physical_frame 0 s ≡ read F m t → GoodFrame s F
unfolding physical_frame frame_bytes plan_bytes plan_nodes frame_fields
physical-back s F m t h e =
    opened s _ e (λ few e₁.
    step (first_byte 0 s) _ e₁ (λ first n₁ s₁ e₂ f₁.
    let a : (s ≡ first ∷ s₁) × (n₁ ≡ 0) = byte-back 0 n₁ first s s₁ e₂ in
    test 2 (eqb first 1) _ n₁ s₁ f₁ (λ is f₂.
    step (frame_body n₁ s₁) _ f₂ (λ G n₂ s₂ e₃ f₃.
    let b : FrameBack n₁ n₂ s₁ s₂ G = body_back n₁ n₂ s₁ s₂ G (after-bytes (first ∷ []) s₁ s a.0 h) (omega (arith, a.1)) e₃ in
    ended n₂ s₂ _ f₃ (λ none f₄.
    test 8 (arity G.expr) _ n₂ s₂ f₄ (λ fine f₅.
    given (λ x m t. GoodFrame s x) G F n₂ m s₂ t f₅ (whole-plan s (held G) few
    (a.0 ∙ ap₂ (λ (x : ℕ) (y : List ℕ). x ∷ y) (eqb-true first 1 is)
    (b.bytes ∙ ap (λ (y : List ℕ). frame_fields G ++ y) none ∙ append-nil (frame_fields G)))
    (record { few = b.few; records_in_range = b.records_in_range; expr = b.expr; arity = fine })
    (omega (arith, b.counted, b.few_nodes)))))))))

-- Bytes that are a good frame are that frame's bytes, and the frame is a good plan.
pub frame_back : (s : List ℕ) (F : Frame) → AllBytes s → frame_of s ≡ ok F → GoodFrame s F
unfolding frame_of
frame_back s F h e = let (m, t, is) = answer_back (physical_frame 0 s) F e in physical-back s F m t h is
