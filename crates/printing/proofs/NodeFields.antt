-- What the bytes at a place say of the node that stands there, for each kind of a physical frame.
use Prim.Native.Nat.{ℕ, ◌+◌, ◌≤◌, ◌<◌}
use native.Mathlib.Omega.{arith}
use mathlib.Core.Path.{◌≡◌, refl, ◌∙◌, subst}
use mathlib.Core.List.{List, [], ◌∷◌, ◌++◌}
use lib.ListN.{length, get_or}
use lib.Dec.{lit<, lit≤}
use Rattle.definitions.specs.Words.Basics.{big_endian}
use Rattle.definitions.specs.Words.Expression.{Expr, column, literal, and, binary, call, other, field, Exprs, count}
use Rattle.definitions.specs.Bytes.Decode.{index_below}
use Rattle.definitions.specs.Bytes.Good.{InRange}
use Rattle.expression.specs.Places.{Holds, short_at, part}
use Rattle.expression.specs.Nodes.{head_bytes, kind_of, Stands}
use Rattle.expression.proofs.Records.{short-is, short-length}
use Rattle.expression.proofs.Placed.{byte_at, front, back, next}
use Rattle.expression.proofs.OfKind.{a-column, a-literal, a-binary, a_call, an-other}
use Rattle.expression.proofs.LeafLaws.{held-part, name-stands}
use Rattle.expression.proofs.HeadLaws.{head-column, head-literal, head-call}
use Rattle.expression.proofs.Standing.{head-stands, head-fits, node-some, kind-is}
use Rattle.printing.specs.Marks.{leading_of, PhysicalAt}

-- Above 3 there is one kind: a logical column stands in no physical frame.
fifth-kind : (b : ℕ) (t : Expr) → InRange (index_below b) t → 3 < kind_of t → kind_of t ≡ 4
unfolding kind_of
fifth-kind b (column i g) r k = absurd (omega arith)
fifth-kind b (literal y v) r k = absurd (omega arith)
fifth-kind b (and l m) r k = absurd (omega arith)
fifth-kind b (binary o l m) r k = absurd (omega arith)
fifth-kind b (call name args) r k = absurd (omega arith)
fifth-kind b (other g cs) r k = refl
fifth-kind b (field x g) r k = absurd r

eight-bytes : (v : ℕ) → length (big_endian 8 v) ≡ 8
unfolding big_endian
eight-bytes v = refl

-- The two bytes of a tag or an index after the kind.
first_short : {s : List ℕ} {at : ℕ} (kind v : ℕ) (rest : List ℕ) → Holds s at (kind ∷ (big_endian 2 v ++ rest)) → v < 65536
    → short_at s (at + 1) ≡ v
first_short {s} {at} kind v rest h small = short-is (front (big_endian 2 v) rest (next h (at + 1) refl)) small

module _ {s : List ℕ} {at : ℕ} where
  -- ---- the number after the kind

  pub short-leads : (t : Expr) → PhysicalAt s at t → (0 < get_or s at 0 → get_or s at 0 < 4 → ⊥) → short_at s (at + 1) ≡ leading_of t
  unfolding head_bytes kind_of leading_of
  short-leads t h out = of t h.stands (λ a b. out (omega (arith, kind-is h.stands)) (omega (arith, kind-is h.stands))) where
    of : (t : Expr) → Stands (index_below h.bound) s at t → (0 < kind_of t → kind_of t < 4 → ⊥) → short_at s (at + 1) ≡ leading_of t
    of (column i g) o n = first_short 0 i (big_endian 2 g) (head-stands o) o.in_range.1
    of (literal y v) o n = absurd (n (omega arith) (omega arith))
    of (and l r) o n = absurd (n (omega arith) (omega arith))
    of (binary k l r) o n = absurd (n (omega arith) (omega arith))
    of (call name args) o n = absurd (n (omega arith) (omega arith))
    of (other g cs) o n = first_short 4 g (count cs ∷ []) (head-stands o) o.in_range.0
    of (field b g) o n = absurd o.in_range

  pub byte-leads : (t : Expr) → PhysicalAt s at t → 0 < get_or s at 0 → get_or s at 0 < 4 → get_or s (at + 1) 0 ≡ leading_of t
  unfolding head_bytes kind_of leading_of
  byte-leads t h some few = of t h.stands (omega (arith, kind-is h.stands)) (omega (arith, kind-is h.stands)) where
    of : (t : Expr) → Stands (index_below h.bound) s at t → 0 < kind_of t → kind_of t < 4 → get_or s (at + 1) 0 ≡ leading_of t
    of (column i g) o a b = absurd (omega arith)
    of (literal y v) o a b = byte_at (head-stands o) 1 (omega arith)
    of (and l r) o a b = byte_at (head-stands o) 1 (omega arith)
    of (binary k l r) o a b = byte_at (head-stands o) 1 (omega arith)
    of (call name args) o a b = byte_at (head-stands o) 1 (omega arith)
    of (other g cs) o a b = absurd (omega arith)
    of (field b g) o a c = absurd (omega arith)

-- ---- the bytes that are read lie within s

head-long : (t : Expr) → 2 ≤ length (head_bytes t)
unfolding head_bytes big_endian
head-long (column i g) = lit≤ tt
head-long (literal y v) = lit≤ tt
head-long (and l r) = lit≤ tt
head-long (binary k l r) = lit≤ tt
head-long (call name args) = omega arith
head-long (other g cs) = lit≤ tt
head-long (field b g) = lit≤ tt

head-longer : (t : Expr) → (0 < kind_of t → kind_of t < 4 → ⊥) → 3 ≤ length (head_bytes t)
unfolding head_bytes kind_of big_endian
head-longer (column i g) n = lit≤ tt
head-longer (literal y v) n = lit≤ tt
head-longer (and l r) n = absurd (n (lit< tt) (lit< tt))
head-longer (binary k l r) n = absurd (n (lit< tt) (lit< tt))
head-longer (call name args) n = absurd (n (lit< tt) (lit< tt))
head-longer (other g cs) n = lit≤ tt
head-longer (field b g) n = lit≤ tt

module _ {s : List ℕ} {at : ℕ} {t : Expr} (h : PhysicalAt s at t) where
  pub kind-within : at < length s
  kind-within = node-some h.stands

  pub byte-within : at + 2 ≤ length s
  byte-within = omega (arith, head-fits h.stands, head-long t)

  pub short-within : (0 < get_or s at 0 → get_or s at 0 < 4 → ⊥) → at + 3 ≤ length s
  short-within out =
      omega (
        arith,
        head-fits h.stands,
        head-longer t (λ a b. out (omega (arith, kind-is h.stands)) (omega (arith, kind-is h.stands))),
      )

  pub tag-within : get_or s at 0 ≡ 0 → at + 5 ≤ length s
  tag-within e = omega (arith, (head-column h.stands e).next, head-fits h.stands)

  pub literal-within : get_or s at 0 ≡ 1 → at + 10 ≤ length s
  literal-within e = omega (arith, (head-literal h.stands e).next, head-fits h.stands)

  pub name-within : get_or s at 0 ≡ 3 → (number : ℕ) → number ≡ leading_of t → at + 2 + number ≤ length s
  name-within e number is =
      omega (arith, (head-call h.stands e).next, head-fits h.stands, byte-leads t h (omega arith) (omega arith))

-- ---- each kind

module _ {s : List ℕ} {at : ℕ} {t : Expr} (P : Expr → Type 0) (h : PhysicalAt s at t) where
  pub column-at : get_or s at 0 ≡ 0 → ((index : ℕ) → P (column index (short_at s (at + 3)))) → P t
  unfolding head_bytes
  column-at e p = a-column (λ t. Stands (index_below h.bound) s at t → P t)
      (λ i g o. subst (λ (n : ℕ). P (column i n))
      (short-is (back (big_endian 2 i) (big_endian 2 g) (next (head-stands o) (at + 1) refl) (at + 3) (omega (arith, short-length i)))
      o.in_range.2) (p i))
      t (kind-is h.stands ∙ e) h.stands

  pub literal-at : get_or s at 0 ≡ 1 → ((type v : ℕ) → part s (at + 2) (at + 10) ≡ big_endian 8 v → P (literal type v)) → P t
  unfolding head_bytes
  literal-at e p = a-literal (λ t. Stands (index_below h.bound) s at t → P t)
      (λ y v o.
      let eight : Holds s (at + 2) (big_endian 8 v) = next (next (head-stands o) (at + 1) refl) (at + 2) (omega arith) in
      p y v (held-part eight (at + 10) (omega (arith, eight-bytes v))))
      t (kind-is h.stands ∙ e) h.stands

  pub call_at : get_or s at 0 ≡ 3
      → ((name : List ℕ) (args : Exprs) → part s (at + 2) (at + 2 + length name) ≡ name → P (call name args)) → P t
  call_at e p = a_call (λ t. Stands (index_below h.bound) s at t → P t)
      (λ name args o. p name args (held-part (name-stands name args (head-stands o)) (at + 2 + length name) refl))
      t (kind-is h.stands ∙ e) h.stands

  pub other_at : 3 < get_or s at 0 → ((tag : ℕ) (cs : Exprs) → P (other tag cs)) → P t
  other_at more p = an-other P p t (fifth-kind h.bound t h.stands.in_range (omega (arith, kind-is h.stands)))

  pub binary-at : get_or s at 0 ≡ 2 → ((l r : Expr) → P (and l r)) → ((operator : ℕ) (l r : Expr) → P (binary operator l r)) → P t
  binary-at e p q = a-binary P p q t (kind-is h.stands ∙ e)
