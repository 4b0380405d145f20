-- What was read has the bytes that it was read from, and is in range.
use Rattle.std.specs.Prelude.{if◌then◌else◌}
use Prim.Native.Nat.{ℕ, zero, suc, ◌+◌, ◌*◌, ◌/◌, ◌%◌, ◌^◌, ◌≤◌, ◌<◌}
use native.Mathlib.Nat.{pow-succ'}
use native.Mathlib.Omega.{arith}
use mathlib.Core.Path.{◌≡◌, refl, sym, ap, ap₂, ◌∙◌, subst}
use mathlib.Core.Bool.{Bool, true, false, ◌&&◌}
use mathlib.Core.List.{List, [], ◌∷◌, ◌++◌, append_assoc}
use lib.ListN.{length}
use lib.Dec.{leb, ltb, eqb, lit<}
use lib.Arith.{digits_lt, digits_div, digits_mod}
use borrow.Author.Tests.{leb-true, ltb-true, eqb-true, eqb-false}
use Rattle.definitions.specs.Words.Basics.{big_endian}
use Rattle.definitions.specs.Words.Expression.{Expr, column, literal, call, other, field, Exprs, nil, cons, count}
use Rattle.definitions.specs.Words.Literals.{literal_in_range}
use Rattle.definitions.specs.Bytes.Encode.{expr_bytes, exprs_bytes}
use Rattle.definitions.specs.Bytes.Readers.{read, stopped, Reader, give, first_byte, byte_up_to, byte_between, number_after, number, repeat}
use Rattle.definitions.specs.Bytes.Decode.{repeat_exprs, Columns, index_below, fields, allowed_kind, column_node, field_node, literal_node, binary_expr, binary_node, call_node, other_node, any_column, node_of_kind, count_node, node_kind, node}
use Rattle.definitions.specs.Bytes.Good.{AllBytes, nodes, depth, nodes_all, depth_all, InRange, InRangeAll, NameBytes}
use Rattle.theorems.proofs.ReaderLaws.{stopped-not-read, step, test, same_read, given}
use Rattle.theorems.proofs.Columns.{all-right}
use Rattle.theorems.proofs.Tools.{and-both}

-- ---- fields

pub byte-back : (n m b : ℕ) (s t : List ℕ) → first_byte n s ≡ read b m t → (s ≡ b ∷ t) × (m ≡ n)
byte-back n m b [] t e = absurd (stopped-not-read 3 b m t e)
byte-back n m b (x ∷ s) t e = (cc, cc)

pub byte-up-to-back : (most n m b : ℕ) (s t : List ℕ) → byte_up_to most n s ≡ read b m t → (s ≡ b ∷ t) × (b ≤ most) × (m ≡ n)
unfolding byte_up_to
byte-up-to-back most n m b [] t e = absurd (stopped-not-read 3 b m t e)
byte-up-to-back most n m b (x ∷ s) t e =
    test 4 (leb x most) (give x) n s e (λ fine f.
    given (λ y m t. (x ∷ s ≡ y ∷ t) × (y ≤ most) × (m ≡ n)) x b n m s t f (refl, leb-true x most fine, refl))

pub between-back : (least most n m b : ℕ) (s t : List ℕ) → byte_between least most n s ≡ read b m t
    → (s ≡ b ∷ t) × ((leb least b && leb b most) ≡ true) × (m ≡ n)
unfolding byte_between
between-back least most n m b [] t e = absurd (stopped-not-read 3 b m t e)
between-back least most n m b (x ∷ s) t e =
    test 4 (leb least x && leb x most) (give x) n s e (λ fine f.
    given (λ y m t. (x ∷ s ≡ y ∷ t) × ((leb least y && leb y most) ≡ true) × (m ≡ n)) x b n m s t f (refl, fine, refl))

number-after-back : (w high n m v : ℕ) (s t : List ℕ) → AllBytes s → number_after high w n s ≡ read v m t
    → (u : ℕ) × (v ≡ high * 256 ^ w + u) × (u < 256 ^ w) × (s ≡ big_endian w v ++ t) × (m ≡ n)
unfolding number_after big_endian
number-after-back zero high n m v s t h e =
    let q : (high ≡ v) × (n ≡ m) × (s ≡ t) = same_read high v n m s t e in
    (0, omega (arith, q.0), lit< tt, q.2, sym q.1)
number-after-back (suc w) high n m v [] t h e = absurd (stopped-not-read 3 v m t e)
number-after-back (suc w) high n m v (b ∷ s) t h e =
    let p : (u : ℕ) × (v ≡ (high * 256 + b) * 256 ^ w + u) × (u < 256 ^ w) × (s ≡ big_endian w v ++ t) × (m ≡ n) =
    number-after-back w (high * 256 + b) n m v s t h.1 e in
    let u : ℕ = p.0 in
    let digit : v / 256 ^ w % 256 ≡ b =
    ap (λ (x : ℕ). x / 256 ^ w % 256) p.1 ∙ ap (λ (x : ℕ). x % 256) (digits_div (high * 256 + b) p.2) ∙ digits_mod high h.0 in (
      b * 256 ^ w + u,
      rw (pow-succ' 256 w) (omega (arith, p.1)),
      rw (pow-succ' 256 w) (digits_lt h.0 p.2),
      ap₂ (λ (x : ℕ) (y : List ℕ). x ∷ y) (sym digit) p.3,
      p.4,
    )

pub number-back : (w n m v : ℕ) (s t : List ℕ) → AllBytes s → number w n s ≡ read v m t
    → (s ≡ big_endian w v ++ t) × (v < 256 ^ w) × (m ≡ n)
unfolding number
number-back w n m v s t h e =
    let p : (u : ℕ) × (v ≡ 0 * 256 ^ w + u) × (u < 256 ^ w) × (s ≡ big_endian w v ++ t) × (m ≡ n) = number-after-back w 0 n m v s t h e in
    (p.3, omega (arith, p.1, p.2), p.4)

-- The bytes after a part are bytes.
pub after-bytes : (x t s : List ℕ) → s ≡ x ++ t → AllBytes s → AllBytes t
after-bytes x t s e h = all-right (λ b. b < 256) x t (subst AllBytes e h)

-- ---- nodes

-- What is known of an expression that was read from s, with t left.
pub record NodeBack (c : Columns) (levels n m : ℕ) (s t : List ℕ) (e : Expr) : Type 0 where
  pub bytes : s ≡ expr_bytes e ++ t
  pub in_range : InRange c e
  pub shallow : depth e ≤ levels
  pub counted : m ≡ n + nodes e
  pub few : m ≤ 1024

record NodesBack (c : Columns) (levels n m : ℕ) (s t : List ℕ) (es : Exprs) : Type 0 where
  bytes : s ≡ exprs_bytes es ++ t
  in_range : InRangeAll c es
  shallow : depth_all es ≤ levels
  counted : m ≡ n + nodes_all es
  few : m ≤ 1024

-- A reader of children that gives only such expressions.
abbrev Sound : Columns → ℕ → Reader Expr → Type 0
Sound c levels one = (n m : ℕ) (s t : List ℕ) (e : Expr) → AllBytes s → n ≤ 1024 → one n s ≡ read e m t → NodeBack c levels n m s t e

pub join : (a b s t u : List ℕ) → s ≡ a ++ t → t ≡ b ++ u → s ≡ (a ++ b) ++ u
join a b s t u e f = e ∙ ap (λ (x : List ℕ). a ++ x) f ∙ sym (append_assoc a b u)

exprs-back : (c : Columns) (levels : ℕ) (one : Reader Expr) → Sound c levels one → (k n m : ℕ) (s t : List ℕ) (es : Exprs) → AllBytes s
    → n ≤ 1024
    → repeat_exprs k one n s ≡ read es m t → (count es ≡ k) × NodesBack c levels n m s t es
unfolding repeat_exprs count expr_bytes nodes depth
exprs-back c levels one sound zero n m s t es h k e =
    given (λ x m t. (count x ≡ 0) × NodesBack c levels n m s t x) nil es n m s t e
    (refl, record { bytes = refl; in_range = tt; shallow = omega arith; counted = omega arith; few = k })
exprs-back c levels one sound (suc j) n m s t es h k e =
    step (one n s) _ e (λ x n₁ s₁ e₁ f₁.
    let first : NodeBack c levels n n₁ s s₁ x = sound n n₁ s s₁ x h k e₁ in
    step (repeat_exprs j one n₁ s₁) _ f₁ (λ xs n₂ s₂ e₂ f₂.
    let rest : (count xs ≡ j) × NodesBack c levels n₁ n₂ s₁ s₂ xs =
    exprs-back c levels one sound j n₁ n₂ s₁ s₂ xs (after-bytes (expr_bytes x) s₁ s first.bytes h) first.few e₂ in
    given (λ y m t. (count y ≡ suc j) × NodesBack c levels n m s t y) (cons x xs) es n₂ m s₂ t f₂ (
      ap suc rest.0,
      record {
        bytes = join (expr_bytes x) (exprs_bytes xs) s s₁ s₂ first.bytes rest.1.bytes;
        in_range = (first.in_range, rest.1.in_range);
        shallow = omega (arith, first.shallow, rest.1.shallow);
        counted = omega (arith, first.counted, rest.1.counted);
        few = rest.1.few;
      },
    )))

abbrev NameBack : (k n m : ℕ) (s t name : List ℕ) → Type 0
NameBack k n m s t name = (s ≡ name ++ t) × (length name ≡ k) × NameBytes name × (m ≡ n)

name_back : (k n m : ℕ) (s t name : List ℕ) → repeat k (byte_between 33 126) n s ≡ read name m t → NameBack k n m s t name
unfolding repeat
name_back zero n m s t name e = given (λ x m t. NameBack 0 n m s t x) [] name n m s t e (refl, refl, tt, refl)
name_back (suc j) n m s t name e =
    step (byte_between 33 126 n s) _ e (λ b n₁ s₁ e₁ f₁.
    let first : (s ≡ b ∷ s₁) × ((leb 33 b && leb b 126) ≡ true) × (n₁ ≡ n) = between-back 33 126 n n₁ b s s₁ e₁ in
    step (repeat j (byte_between 33 126) n₁ s₁) _ f₁ (λ bs n₂ s₂ e₂ f₂.
    let rest : NameBack j n₁ n₂ s₁ s₂ bs = name_back j n₁ n₂ s₁ s₂ bs e₂ in
    given (λ x m t. NameBack (suc j) n m s t x) (b ∷ bs) name n₂ m s₂ t f₂
    (first.0 ∙ ap (λ (x : List ℕ). b ∷ x) rest.0, ap suc rest.1, (first.1, rest.2), rest.3 ∙ first.2)))

-- What is known after a node's kind byte: the bytes of its fields and children.
record FieldsBack (c : Columns) (levels n m kind : ℕ) (s t : List ℕ) (e : Expr) : Type 0 where
  bytes : kind ∷ s ≡ expr_bytes e ++ t
  in_range : InRange c e
  shallow : depth e ≤ suc levels
  counted : suc m ≡ n + nodes e
  few : m ≤ 1024

literal-back : (c : Columns) (levels n m : ℕ) (s t : List ℕ) (e : Expr) → AllBytes s → n ≤ 1024 → literal_node n s ≡ read e m t
    → FieldsBack c levels n m 1 s t e
unfolding literal_node expr_bytes nodes depth
literal-back c levels n m s t e h k eq =
    step (byte_up_to 6 n s) _ eq (λ type n₁ s₁ e₁ f₁.
    let a : (s ≡ type ∷ s₁) × (type ≤ 6) × (n₁ ≡ n) = byte-up-to-back 6 n n₁ type s s₁ e₁ in
    step (number 8 n₁ s₁) _ f₁ (λ v n₂ s₂ e₂ f₂.
    let b : (s₁ ≡ big_endian 8 v ++ s₂) × (v < 256 ^ 8) × (n₂ ≡ n₁) =
    number-back 8 n₁ n₂ v s₁ s₂ (after-bytes (type ∷ []) s₁ s a.0 h) e₂ in
    test 4 (literal_in_range type v) (give (literal type v)) n₂ s₂ f₂ (λ ok f₃.
    given (λ x m t. FieldsBack c levels n m 1 s t x) (literal type v) e n₂ m s₂ t f₃ (record {
      bytes = ap (λ (x : List ℕ). 1 ∷ x) (a.0 ∙ ap (λ (x : List ℕ). type ∷ x) b.0);
      in_range = (a.1, b.1, ok);
      shallow = omega arith;
      counted = omega (arith, a.2, b.2);
      few = omega (arith, a.2, b.2);
    }))))

column-back : (bound levels n m : ℕ) (s t : List ℕ) (e : Expr) → AllBytes s → n ≤ 1024 → column_node bound n s ≡ read e m t
    → FieldsBack (index_below bound) levels n m 0 s t e
unfolding column_node expr_bytes nodes depth
column-back bound levels n m s t e h k eq =
    step (number 2 n s) _ eq (λ i n₁ s₁ e₁ f₁.
    let a : (s ≡ big_endian 2 i ++ s₁) × (i < 256 ^ 2) × (n₁ ≡ n) = number-back 2 n n₁ i s s₁ h e₁ in
    step (number 2 n₁ s₁) _ f₁ (λ g n₂ s₂ e₂ f₂.
    let b : (s₁ ≡ big_endian 2 g ++ s₂) × (g < 256 ^ 2) × (n₂ ≡ n₁) =
    number-back 2 n₁ n₂ g s₁ s₂ (after-bytes (big_endian 2 i) s₁ s a.0 h) e₂ in
    test 6 (ltb i bound) (give (column i g)) n₂ s₂ f₂ (λ ok f₃.
    given (λ x m t. FieldsBack (index_below bound) levels n m 0 s t x) (column i g) e n₂ m s₂ t f₃ (record {
      bytes = ap (λ (x : List ℕ). 0 ∷ x) (join (big_endian 2 i) (big_endian 2 g) s s₁ s₂ a.0 b.0);
      in_range = (ok, a.1, b.1);
      shallow = omega arith;
      counted = omega (arith, a.2, b.2);
      few = omega (arith, a.2, b.2);
    }))))

field_back : (levels n m : ℕ) (s t : List ℕ) (e : Expr) → AllBytes s → n ≤ 1024 → field_node n s ≡ read e m t
    → FieldsBack fields levels n m 5 s t e
unfolding field_node expr_bytes nodes depth
field_back levels n m s t e h k eq =
    step (byte_up_to 3 n s) _ eq (λ i n₁ s₁ e₁ f₁.
    let a : (s ≡ i ∷ s₁) × (i ≤ 3) × (n₁ ≡ n) = byte-up-to-back 3 n n₁ i s s₁ e₁ in
    step (number 2 n₁ s₁) _ f₁ (λ g n₂ s₂ e₂ f₂.
    let b : (s₁ ≡ big_endian 2 g ++ s₂) × (g < 256 ^ 2) × (n₂ ≡ n₁) = number-back 2 n₁ n₂ g s₁ s₂ (after-bytes (i ∷ []) s₁ s a.0 h) e₂ in
    given (λ x m t. FieldsBack fields levels n m 5 s t x) (field i g) e n₂ m s₂ t f₂ (record {
      bytes = ap (λ (x : List ℕ). 5 ∷ x) (a.0 ∙ ap (λ (x : List ℕ). i ∷ x) b.0);
      in_range = (a.1, b.1);
      shallow = omega arith;
      counted = omega (arith, a.2, b.2);
      few = omega (arith, a.2, b.2);
    })))

-- A binary expression from its parts.
binary-parts : (c : Columns) (levels n m o : ℕ) (s t : List ℕ) (l r : Expr) → o ≤ 63 → InRange c l → InRange c r
    → s ≡ o ∷ ((expr_bytes l ++ expr_bytes r) ++ t)
    → depth l ≤ levels → depth r ≤ levels → m ≡ n + nodes l + nodes r → m ≤ 1024 → FieldsBack c levels n m 2 s t (binary_expr o l r)
unfolding binary_expr expr_bytes nodes depth
binary-parts c levels n m zero s t l r ho hl hr e dl dr k f = record {
  bytes = ap (λ (x : List ℕ). 2 ∷ x) e;
  in_range = (hl, hr);
  shallow = omega arith;
  counted = omega arith;
  few = f;
}
binary-parts c levels n m (suc o) s t l r ho hl hr e dl dr k f = record {
  bytes = ap (λ (x : List ℕ). 2 ∷ x) e;
  in_range = (omega arith, ho, hl, hr);
  shallow = omega arith;
  counted = omega arith;
  few = f;
}

binary-back : (c : Columns) (levels n m : ℕ) (one : Reader Expr) → Sound c levels one → (s t : List ℕ) (e : Expr) → AllBytes s → n ≤ 1024
    → binary_node one n s ≡ read e m t → FieldsBack c levels n m 2 s t e
unfolding binary_node
binary-back c levels n m one sound s t e h k eq =
    step (byte_up_to 63 n s) _ eq (λ o n₁ s₁ e₁ f₁.
    let a : (s ≡ o ∷ s₁) × (o ≤ 63) × (n₁ ≡ n) = byte-up-to-back 63 n n₁ o s s₁ e₁ in
    let h₁ : AllBytes s₁ = after-bytes (o ∷ []) s₁ s a.0 h in
    step (one n₁ s₁) _ f₁ (λ x n₂ s₂ e₂ f₂.
    let l : NodeBack c levels n₁ n₂ s₁ s₂ x = sound n₁ n₂ s₁ s₂ x h₁ (omega (arith, a.2)) e₂ in
    step (one n₂ s₂) _ f₂ (λ y n₃ s₃ e₃ f₃.
    let r : NodeBack c levels n₂ n₃ s₂ s₃ y = sound n₂ n₃ s₂ s₃ y (after-bytes (expr_bytes x) s₂ s₁ l.bytes h₁) l.few e₃ in
    given (λ z m t. FieldsBack c levels n m 2 s t z) (binary_expr o x y) e n₃ m s₃ t f₃
    (binary-parts c levels n n₃ o s s₃ x y a.1 l.in_range r.in_range
    (a.0 ∙ ap (λ (z : List ℕ). o ∷ z) (join (expr_bytes x) (expr_bytes y) s₁ s₂ s₃ l.bytes r.bytes))
    l.shallow r.shallow (omega (arith, a.2, l.counted, r.counted)) r.few))))

call_back : (c : Columns) (levels n m : ℕ) (one : Reader Expr) → Sound c levels one → (s t : List ℕ) (e : Expr) → AllBytes s → n ≤ 1024
    → call_node one n s ≡ read e m t → FieldsBack c levels n m 3 s t e
unfolding call_node expr_bytes nodes depth
call_back c levels n m one sound s t e h k eq =
    step (byte_between 1 32 n s) _ eq (λ size n₁ s₁ e₁ f₂.
    let a : (s ≡ size ∷ s₁) × ((leb 1 size && leb size 32) ≡ true) × (n₁ ≡ n) = between-back 1 32 n n₁ size s s₁ e₁ in
    let h₁ : AllBytes s₁ = after-bytes (size ∷ []) s₁ s a.0 h in
    step (repeat size (byte_between 33 126) n₁ s₁) _ f₂ (λ name n₂ s₂ e₂ f₃.
    let b : NameBack size n₁ n₂ s₁ s₂ name = name_back size n₁ n₂ s₁ s₂ name e₂ in
    let h₂ : AllBytes s₂ = after-bytes name s₂ s₁ b.0 h₁ in
    step (byte_up_to 16 n₂ s₂) _ f₃ (λ k₁ n₃ s₃ e₃ f₄.
    let d : (s₂ ≡ k₁ ∷ s₃) × (k₁ ≤ 16) × (n₃ ≡ n₂) = byte-up-to-back 16 n₂ n₃ k₁ s₂ s₃ e₃ in
    step (repeat_exprs k₁ one n₃ s₃) _ f₄ (λ es n₄ s₄ e₄ f₅.
    let z : (count es ≡ k₁) × NodesBack c levels n₃ n₄ s₃ s₄ es =
    exprs-back c levels one sound k₁ n₃ n₄ s₃ s₄ es (after-bytes (k₁ ∷ []) s₃ s₂ d.0 h₂) (omega (arith, a.2, b.3, d.2)) e₄ in
    let sizes : (leb 1 size ≡ true) × (leb size 32 ≡ true) = and-both (leb 1 size) (leb size 32) a.1 in
    given (λ x m t. FieldsBack c levels n m 3 s t x) (call name es) e n₄ m s₄ t f₅ (record {
      bytes = ap (λ (x : List ℕ). 3 ∷ x) (a.0 ∙ ap₂ (λ (x : ℕ) (y : List ℕ). x ∷ y) (sym b.1)
          (join name (count es ∷ exprs_bytes es) s₁ s₂ s₄ b.0 (d.0 ∙ ap₂ (λ (x : ℕ) (y : List ℕ). x ∷ y) (sym z.0) z.1.bytes)));
      in_range = (
        omega (arith, b.1, leb-true 1 size sizes.0),
        omega (arith, b.1, leb-true size 32 sizes.1),
        b.2,
        omega (arith, z.0, d.1),
        z.1.in_range,
      );
      shallow = omega (arith, z.1.shallow);
      counted = omega (arith, a.2, b.3, d.2, z.1.counted);
      few = z.1.few;
    })))))

other-back : (c : Columns) (levels n m : ℕ) (one : Reader Expr) → Sound c levels one → (s t : List ℕ) (e : Expr) → AllBytes s → n ≤ 1024
    → other_node one n s ≡ read e m t → FieldsBack c levels n m 4 s t e
unfolding other_node expr_bytes nodes depth
other-back c levels n m one sound s t e h k eq =
    step (number 2 n s) _ eq (λ tag n₁ s₁ e₁ f₁.
    let a : (s ≡ big_endian 2 tag ++ s₁) × (tag < 256 ^ 2) × (n₁ ≡ n) = number-back 2 n n₁ tag s s₁ h e₁ in
    let h₁ : AllBytes s₁ = after-bytes (big_endian 2 tag) s₁ s a.0 h in
    step (byte_up_to 16 n₁ s₁) _ f₁ (λ k₁ n₃ s₃ e₃ f₄.
    let d : (s₁ ≡ k₁ ∷ s₃) × (k₁ ≤ 16) × (n₃ ≡ n₁) = byte-up-to-back 16 n₁ n₃ k₁ s₁ s₃ e₃ in
    step (repeat_exprs k₁ one n₃ s₃) _ f₄ (λ es n₄ s₄ e₄ f₅.
    let z : (count es ≡ k₁) × NodesBack c levels n₃ n₄ s₃ s₄ es =
    exprs-back c levels one sound k₁ n₃ n₄ s₃ s₄ es (after-bytes (k₁ ∷ []) s₃ s₁ d.0 h₁) (omega (arith, a.2, d.2)) e₄ in
    given (λ x m t. FieldsBack c levels n m 4 s t x) (other tag es) e n₄ m s₄ t f₅ (record {
      bytes = ap (λ (x : List ℕ). 4 ∷ x) (join (big_endian 2 tag) (count es ∷ exprs_bytes es) s s₁ s₄ a.0
          (d.0 ∙ ap₂ (λ (x : ℕ) (y : List ℕ). x ∷ y) (sym z.0) z.1.bytes));
      in_range = (a.1, omega (arith, z.0, d.1), z.1.in_range);
      shallow = omega (arith, z.1.shallow);
      counted = omega (arith, a.2, d.2, z.1.counted);
      few = z.1.few;
    }))))

-- The column that is allowed.
any-column-back : (c : Columns) (levels n m kind : ℕ) (s t : List ℕ) (e : Expr) → allowed_kind c kind ≡ true
    → (kind ≡ 1 → ⊥) → (kind ≡ 2 → ⊥) → (kind ≡ 3 → ⊥) → (kind ≡ 4 → ⊥) → AllBytes s → n ≤ 1024
    → any_column c n s ≡ read e m t → FieldsBack c levels n m kind s t e
unfolding any_column allowed_kind
any-column-back (index_below bound) levels n m kind s t e a n1 n2 n3 n4 h k eq =
    let is : 0 ≡ kind = omega (arith, leb-true kind 4 a) in
    subst (λ (x : ℕ). FieldsBack (index_below bound) levels n m x s t e) is (column-back bound levels n m s t e h k eq)
any-column-back fields levels n m kind s t e a n1 n2 n3 n4 h k eq =
    let both : (leb 1 kind ≡ true) × (leb kind 5 ≡ true) = and-both (leb 1 kind) (leb kind 5) a in
    let is : 5 ≡ kind = omega (arith, leb-true 1 kind both.0, leb-true kind 5 both.1) in
    subst (λ (x : ℕ). FieldsBack fields levels n m x s t e) is (field_back levels n m s t e h k eq)

kind-back : (c : Columns) (levels n m kind : ℕ) (one : Reader Expr) → Sound c levels one → (s t : List ℕ) (e : Expr)
    → allowed_kind c kind ≡ true → AllBytes s → n ≤ 1024
    → (b1 b2 b3 b4 : Bool) → eqb kind 1 ≡ b1 → eqb kind 2 ≡ b2 → eqb kind 3 ≡ b3 → eqb kind 4 ≡ b4
    → (if b1 then literal_node else if b2 then binary_node one else if b3 then call_node one else if b4 then other_node one
    else any_column c) n s
    ≡ read e m t
    → FieldsBack c levels n m kind s t e
kind-back c levels n m kind one sound s t e a h k true b2 b3 b4 e1 e2 e3 e4 eq =
    subst (λ (x : ℕ). FieldsBack c levels n m x s t e) (sym (eqb-true kind 1 e1)) (literal-back c levels n m s t e h k eq)
kind-back c levels n m kind one sound s t e a h k false true b3 b4 e1 e2 e3 e4 eq =
    subst (λ (x : ℕ). FieldsBack c levels n m x s t e) (sym (eqb-true kind 2 e2)) (binary-back c levels n m one sound s t e h k eq)
kind-back c levels n m kind one sound s t e a h k false false true b4 e1 e2 e3 e4 eq =
    subst (λ (x : ℕ). FieldsBack c levels n m x s t e) (sym (eqb-true kind 3 e3)) (call_back c levels n m one sound s t e h k eq)
kind-back c levels n m kind one sound s t e a h k false false false true e1 e2 e3 e4 eq =
    subst (λ (x : ℕ). FieldsBack c levels n m x s t e) (sym (eqb-true kind 4 e4)) (other-back c levels n m one sound s t e h k eq)
kind-back c levels n m kind one sound s t e a h k false false false false e1 e2 e3 e4 eq =
    any-column-back c levels n m kind s t e a (eqb-false kind 1 e1) (eqb-false kind 2 e2) (eqb-false kind 3 e3) (eqb-false kind 4 e4) h k eq

node-kind-back : (c : Columns) (n m kind : ℕ) (s t : List ℕ) → node_kind c n s ≡ read kind m t
    → (s ≡ kind ∷ t) × (allowed_kind c kind ≡ true) × (m ≡ n)
unfolding node_kind
node-kind-back c n m kind [] t e = absurd (stopped-not-read 3 kind m t e)
node-kind-back c n m kind (x ∷ s) t e =
    test 4 (allowed_kind c x) (give x) n s e (λ ok f.
    given (λ y m t. (x ∷ s ≡ y ∷ t) × (allowed_kind c y ≡ true) × (m ≡ n)) x kind n m s t f (refl, ok, refl))

counted_back : (x : Bool) (n m n₁ : ℕ) (s t : List ℕ) (b : Bool) → (if x then read true (suc n) s else stopped 5) ≡ read b n₁ t
    → (x ≡ true) × (n₁ ≡ suc n) × (t ≡ s)
counted_back true n m n₁ s t b e = (refl, cc, cc)
counted_back false n m n₁ s t b e = absurd (stopped-not-read 5 b n₁ t e)

pub node-back : (c : Columns) (levels : ℕ) → Sound c levels (node c levels)
unfolding node node_of_kind
node-back c zero n m s t e h k eq =
    step (node_kind c n s) _ eq (λ kind n₁ s₁ e₁ f₁. absurd (stopped-not-read 5 e m t f₁))
node-back c (suc levels) n m s t e h k eq =
    step (node_kind c n s) _ eq (λ kind n₁ s₁ e₁ f₁.
    let a : (s ≡ kind ∷ s₁) × (allowed_kind c kind ≡ true) × (n₁ ≡ n) = node-kind-back c n n₁ kind s s₁ e₁ in
    step (count_node n₁ s₁) _ f₁ (λ b n₂ s₂ e₂ f₂.
    let d : (ltb n₁ 1024 ≡ true) × (n₂ ≡ suc n₁) × (s₂ ≡ s₁) = counted_back (ltb n₁ 1024) n₁ m n₂ s₁ s₂ b e₂ in
    let all₂ : AllBytes s₂ = subst AllBytes (sym d.2) (after-bytes (kind ∷ []) s₁ s a.0 h) in
    let r : FieldsBack c levels n₂ m kind s₂ t e =
    kind-back c levels n₂ m kind (node c levels) (node-back c levels) s₂ t e a.1 all₂ (omega (arith, ltb-true n₁ 1024 d.0, d.1))
    (eqb kind 1) (eqb kind 2) (eqb kind 3) (eqb kind 4) refl refl refl refl f₂ in
    record {
      bytes = a.0 ∙ ap (λ (x : List ℕ). kind ∷ x) (sym d.2) ∙ r.bytes;
      in_range = r.in_range;
      shallow = r.shallow;
      counted = omega (arith, r.counted, d.1, a.2);
      few = r.few;
    }))
