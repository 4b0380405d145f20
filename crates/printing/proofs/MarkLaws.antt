-- A node's own characters, by the bytes at its place.
use Prim.Native.Nat.{ℕ, zero, suc, ◌+◌, ◌<◌}
use native.Mathlib.Omega.{arith}
use mathlib.Core.Path.{◌≡◌, refl, sym, ap, ◌∙◌}
use mathlib.Core.List.{List, [], ◌∷◌, ◌++◌, append_assoc}
use lib.ListN.{length, get_or}
use Rattle.definitions.specs.Words.Basics.{ascii}
use Rattle.definitions.specs.Words.Expression.{Expr, column, literal, and, binary, call, other, field}
use Rattle.definitions.specs.Bytes.Printed.{decimal, digits16, printed}
use Rattle.definitions.specs.Bytes.Decode.{index_below}
use Rattle.definitions.specs.Bytes.Good.{InRange}
use Rattle.expression.specs.Places.{short_at, part}
use Rattle.definitions.specs.Bytes.Encode.{exprs_bytes}
use Rattle.expression.specs.Nodes.{kind_of, children_of}
use Rattle.expression.proofs.Standing.{kind-is}
use Rattle.printing.specs.Marks.{marked_number, column_text, literal_text, name_text, leading_of, opening_of, separator_of, before_of, closing_of, PhysicalAt, OfPhysical}
use Rattle.printing.proofs.NodeFields.{column-at, literal-at, binary-at, call_at, other_at}

-- A number between two characters, and a text after it.
marked-then : (first n last : ℕ) (y : List ℕ) → marked_number first n last ++ y ≡ first ∷ (decimal n ++ (last ∷ y))
marked-then first n last y = ap (λ (l : List ℕ). first ∷ l) (append_assoc (decimal n) (last ∷ []) y)

-- ---- before a child

before-later : (position : ℕ) (t : Expr) → (position ≡ 0 → ⊥) → before_of position t ≡ separator_of t
unfolding before_of
before-later zero t n = absurd (n refl)
before-later (suc position) t n = refl

comma-between : (t : Expr) → (kind_of t ≡ 2 → ⊥) → separator_of t ≡ 44 ∷ []
unfolding separator_of kind_of ascii
comma-between (column i g) n = refl
comma-between (literal y v) n = refl
comma-between (and l r) n = absurd (n refl)
comma-between (binary o l r) n = absurd (n refl)
comma-between (call name args) n = refl
comma-between (other g cs) n = refl
comma-between (field b g) n = refl

module _ {s : List ℕ} {at : ℕ} where
  pub nothing-before : (position : ℕ) → position ≡ 0 → (t : Expr) → PhysicalAt s at t → before_of position t ≡ []
  unfolding before_of
  nothing-before position e t h = rw e refl

  pub operator-before : (position : ℕ) → (position ≡ 0 → ⊥) → get_or s at 0 ≡ 2 → (number : ℕ)
      → OfPhysical s at (λ t. number ≡ leading_of t)
      → (t : Expr) → PhysicalAt s at t → before_of position t ≡ 32 ∷ marked_number 111 number 32
  unfolding separator_of leading_of ascii
  operator-before position later e number is t h =
      before-later position t later
      ∙ binary-at (λ t. number ≡ leading_of t → separator_of t ≡ 32 ∷ marked_number 111 number 32) h e
      (λ l r n. rw n refl) (λ o l r n. rw n refl) (is t h)

  pub comma-before : (position : ℕ) → (position ≡ 0 → ⊥) → (get_or s at 0 ≡ 2 → ⊥) → (t : Expr) → PhysicalAt s at t
      → before_of position t ≡ 44 ∷ []
  comma-before position later none t h = before-later position t later ∙ comma-between t (λ k. none (sym (kind-is h.stands) ∙ k))

  -- ---- openings

  pub binary-opens : get_or s at 0 ≡ 2 → (t : Expr) → PhysicalAt s at t → opening_of t ≡ 40 ∷ []
  unfolding opening_of ascii
  binary-opens e t h = binary-at (λ t. opening_of t ≡ 40 ∷ []) h e (λ l r. refl) (λ o l r. refl)

  -- By the number that they begin with.
  module _ (number : ℕ) (is : OfPhysical s at (λ t. number ≡ leading_of t)) (t : Expr) (h : PhysicalAt s at t) where
    pub column-opens : get_or s at 0 ≡ 0 → opening_of t ≡ column_text number (short_at s (at + 3))
    unfolding opening_of printed leading_of ascii
    column-opens e = column-at (λ t. number ≡ leading_of t → opening_of t ≡ column_text number (short_at s (at + 3))) h e
        (λ i n. rw n (sym (marked-then 99 _ 58 _))) (is t h)

    pub literal-opens : get_or s at 0 ≡ 1 → opening_of t ≡ literal_text number (part s (at + 2) (at + 10))
    unfolding opening_of printed leading_of ascii digits16
    literal-opens e = literal-at (λ t. number ≡ leading_of t → opening_of t ≡ literal_text number (part s (at + 2) (at + 10))) h e
        (λ y v b n. rw (n, b) (sym (marked-then 35 _ 58 _))) (is t h)

    pub call_opens : get_or s at 0 ≡ 3 → opening_of t ≡ name_text (part s (at + 2) (at + 2 + number))
    unfolding opening_of leading_of ascii
    call_opens e = call_at (λ t. number ≡ leading_of t → opening_of t ≡ name_text (part s (at + 2) (at + 2 + number))) h e
        (λ name args p n. rw (n, p) (sym (marked-then 102 _ 58 _))) (is t h)

    pub other-opens : 3 < get_or s at 0 → opening_of t ≡ marked_number 120 number 91
    unfolding opening_of leading_of ascii
    other-opens more =
        other_at (λ t. number ≡ leading_of t → opening_of t ≡ marked_number 120 number 91) h more (λ g cs n. rw n refl) (is t h)

  -- ---- closings

  -- A column or a literal.
  leaf-at : (P : Expr → Type 0) → get_or s at 0 < 2 → (t : Expr) → PhysicalAt s at t → ((i g : ℕ) → P (column i g))
      → ((y v : ℕ) → P (literal y v)) → P t
  unfolding kind_of
  leaf-at P few t h of_column of_literal = by_kind t (omega (arith, kind-is h.stands)) where
    by_kind : (t : Expr) → kind_of t < 2 → P t
    by_kind (column i g) k = of_column i g
    by_kind (literal y v) k = of_literal y v
    by_kind (and l r) k = absurd (omega arith)
    by_kind (binary o l r) k = absurd (omega arith)
    by_kind (call name args) k = absurd (omega arith)
    by_kind (other g cs) k = absurd (omega arith)
    by_kind (field b g) k = absurd (omega arith)

  pub leaf-closes : get_or s at 0 < 2 → (t : Expr) → PhysicalAt s at t → closing_of t ≡ []
  unfolding closing_of
  leaf-closes few t h = leaf-at (λ t. closing_of t ≡ []) few t h (λ i g. refl) (λ y v. refl)

  -- It is all opening, and has no children.
  pub leaf-whole : get_or s at 0 < 2 → (t : Expr) → PhysicalAt s at t
      → (printed t ≡ opening_of t) × (length (exprs_bytes (children_of t)) ≡ 0)
  unfolding opening_of children_of exprs_bytes
  leaf-whole few t h =
      leaf-at (λ t. (printed t ≡ opening_of t) × (length (exprs_bytes (children_of t)) ≡ 0)) few t h
      (λ i g. (refl, refl)) (λ y v. (refl, refl))

  pub binary-closes : get_or s at 0 ≡ 2 → (t : Expr) → PhysicalAt s at t → closing_of t ≡ 41 ∷ []
  unfolding closing_of ascii
  binary-closes e t h = binary-at (λ t. closing_of t ≡ 41 ∷ []) h e (λ l r. refl) (λ o l r. refl)

  pub list-closes : 2 < get_or s at 0 → (t : Expr) → PhysicalAt s at t → closing_of t ≡ 93 ∷ []
  unfolding closing_of kind_of ascii
  list-closes more t h = by_kind t h.stands.in_range (omega (arith, kind-is h.stands)) where
    by_kind : (t : Expr) → InRange (index_below h.bound) t → 2 < kind_of t → closing_of t ≡ 93 ∷ []
    by_kind (column i g) r k = absurd (omega arith)
    by_kind (literal y v) r k = absurd (omega arith)
    by_kind (and l m) r k = absurd (omega arith)
    by_kind (binary o l m) r k = absurd (omega arith)
    by_kind (call name args) r k = refl
    by_kind (other g cs) r k = refl
    by_kind (field b g) r k = absurd r
