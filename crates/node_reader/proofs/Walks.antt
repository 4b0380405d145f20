-- A node and a row of nodes: what each return of the two walks needs, over lists.
use Rattle.std.specs.Prelude.{if◌then◌else◌}
use Prim.Native.Nat.{ℕ, zero, suc, ◌+◌, ◌-◌, ◌≤◌, ◌<◌}
use native.Mathlib.Numerals.{add-one}
use native.Mathlib.Omega.{arith}
use mathlib.Core.Path.{◌≡◌, refl, sym, ap, ◌∙◌}
use mathlib.Core.Bool.{Bool, true, false}
use mathlib.Core.List.{List, [], ◌∷◌}
use lib.ListN.{length, drop, get_or, drop_of_length-le}
use lib.Dec.{ltb}
use lib.Seq.{drop-cons}
use borrow.Author.Tests.{lt-ltb, le-ltb, ltb-true, ltb-false}
use Rattle.definitions.specs.Words.Expression as tree
use Rattle.definitions.specs.Words.Expression.{Expr, Exprs, nil, cons}
use Rattle.definitions.specs.Bytes.Readers.{read, stopped, Reader, continue, require}
use Rattle.definitions.specs.Bytes.Decode.{repeat_exprs, Columns, count_node, allowed_kind, node_kind, node_of_kind, node}
use Rattle.terms.specs.declared.refusals.Refusal.{Refusal}
use Rattle.std.specs.Prelude.{Result, Ok, Err}
use Rattle.terms.specs.Refusals.{number_of}
use Rattle.expression.specs.declared.heads.Head.{Head}
use Rattle.node_reader.specs.Heads.{HeadIs, BeyondIs, any_kind}
use Rattle.node_reader.specs.Nodes.{NodeHead, most_at}
use Rattle.theorems.proofs.ReaderLaws.{after, halts, step, given, stopped-not-read}

counts : {B : Type 0} (n : ℕ) (s : List ℕ) (next : Bool → Reader B) → n < 1024 → continue (count_node n s) next ≡ next true (suc n) s
counts n s next h = ap (λ (t : Bool). continue (if t then read true (suc n) s else stopped 5) next) (lt-ltb n 1024 h)

full : {B : Type 0} (n : ℕ) (s : List ℕ) (next : Bool → Reader B) → 1024 ≤ n → continue (count_node n s) next ≡ stopped 5
full n s next h = ap (λ (t : Bool). continue (if t then read true (suc n) s else stopped 5) next) (le-ltb n 1024 h)

most-at : (levels : ℕ) → most_at levels ≤ 1024
most-at zero = omega arith
most-at (suc levels) = omega arith

levels-left : (levels : ℕ) → 0 < most_at levels → 0 < levels
levels-left zero h = absurd (omega arith)
levels-left (suc levels) h = omega arith

-- A node of which the kind is there.
module _ (c : Columns) (n b : ℕ) (rest : List ℕ) where
  allowed : allowed_kind c b ≡ true → node_kind c n (b ∷ rest) ≡ read b n rest
  unfolding node_kind
  allowed e = rw e

  not-allowed : allowed_kind c b ≡ false → node_kind c n (b ∷ rest) ≡ stopped 4
  unfolding node_kind
  not-allowed e = rw e

  -- Below the limits it is what its kind says, one more counted and one level less.
  inside : (levels : ℕ) → n < most_at levels → (t : Bool) → allowed_kind c b ≡ t
      → node c levels n (b ∷ rest) ≡ continue (require 4 t (n + 1) rest) (λ a. node_of_kind c (node c (levels - 1)) b)
  unfolding node
  inside zero few t e = absurd (omega arith)
  inside (suc levels) few true e =
      let l : suc levels - 1 ≡ levels = omega arith in
      rw (l, add-one) (after _ (allowed e) ∙ counts n rest _ few)
  inside (suc levels) few false e = halts _ (not-allowed e)

  -- At one of them it is refused, for its kind first.
  beyond : (levels : ℕ) → most_at levels ≤ n → (t : Bool) → allowed_kind c b ≡ t → node c levels n (b ∷ rest) ≡ stopped (if t then 5 else 4)
  unfolding node
  beyond zero many true e = after _ (allowed e)
  beyond zero many false e = halts _ (not-allowed e)
  beyond (suc levels) many true e = after _ (allowed e) ∙ full n rest _ many
  beyond (suc levels) many false e = halts _ (not-allowed e)

no-kind : (c : Columns) (levels n : ℕ) → node c levels n [] ≡ stopped 3
unfolding node node_kind
no-kind c zero n = refl
no-kind c (suc levels) n = refl

-- A node that was read was within the limit.
few-read : (c : Columns) (levels n : ℕ) (s : List ℕ) (less : Bool) → ltb n 1024 ≡ less → {t : Expr} {m : ℕ} {rest : List ℕ}
    → node c levels n s ≡ read t m rest → n ≤ 1024
few-read c levels n s true e r = omega (arith, ltb-true n 1024 e)
few-read c levels n [] false e {t} {m} {rest} r = absurd (stopped-not-read 3 t m rest (sym (no-kind c levels n) ∙ r))
few-read c levels n (b ∷ s) false e {t} {m} {rest} r =
    let many : most_at levels ≤ n = omega (arith, most-at levels, ltb-false n 1024 e) in
    absurd (stopped-not-read _ t m rest (sym (beyond c n b s levels many (allowed_kind c b) refl) ∙ r))

pub few-before : (c : Columns) (levels n : ℕ) (s : List ℕ) {t : Expr} {m : ℕ} {rest : List ℕ} → node c levels n s ≡ read t m rest
    → n ≤ 1024
few-before c levels n s reads = few-read c levels n s (ltb n 1024) refl reads

module _ (c : Columns) (s : List ℕ) (at n levels : ℕ) where
  pub no-byte : length s ≤ at → node c levels n (drop at s) ≡ stopped 3
  no-byte h = ap (node c levels n) (drop_of_length-le s h) ∙ no-kind c levels n

  module _ (most : ℕ) (limit : most ≡ most_at levels) (there : at < length s) where
    split : drop at s ≡ get_or s at 0 ∷ drop (at + 1) s
    split = rw (add-one, drop-cons s at 0 there)

    pub too-many : most ≤ n → (why : Refusal) → BeyondIs s at c why → node c levels n (drop at s) ≡ stopped (number_of why)
    too-many many why is =
        ap (node c levels n) split
        ∙ beyond c n (get_or s at 0) (drop (at + 1) s) levels (omega (arith, limit)) (allowed_kind c (get_or s at 0)) refl
        ∙ ap stopped (sym is)

    below : n < most → node c levels n (drop at s) ≡ any_kind c (get_or s at 0) (node c (levels - 1)) (n + 1) (drop (at + 1) s)
    below few =
        ap (node c levels n) split
        ∙ inside c n (get_or s at 0) (drop (at + 1) s) levels (omega (arith, limit)) (allowed_kind c (get_or s at 0)) refl

    -- So its fields are the node's head.
    pub head-is : n < most → (r : Result Head Refusal) → HeadIs s (at + 1) r (any_kind c (get_or s at 0)) → NodeHead s at levels n c r
    head-is few (Ok head) h = (
      h.0,
      h.1,
      below few ∙ h.2 (node c (levels - 1)) (n + 1),
      h.3,
      levels-left levels (omega (arith, limit)),
      omega (arith, limit, most-at levels),
      h.4,
    )
    head-is few (Err why) h = below few ∙ h (node c (levels - 1)) (n + 1)

-- A row that was read has as many as were asked for.
pub as-many : (child : Reader Expr) (many n m : ℕ) (s t : List ℕ) (es : Exprs) → repeat_exprs many child n s ≡ read es m t
    → tree.count es ≡ many
unfolding repeat_exprs tree.count
as-many child zero n m s t es e = given (λ xs m t. tree.count xs ≡ 0) nil es n m s t e refl
as-many child (suc many) n m s t es e =
    step (child n s) _ e (λ x n₁ s₁ e₁ f₁. step (repeat_exprs many child n₁ s₁) _ f₁ (λ xs n₂ s₂ e₂ f₂.
    given (λ ys m t. tree.count ys ≡ suc many) (cons x xs) es n₂ m s₂ t f₂ (ap suc (as-many child many n₁ n₂ s₁ s₂ xs e₂))))
