-- What the literals of a KNN are by their bytes, and so what is wrong with them.
use Rattle.std.specs.Prelude.{ltb, if◌then◌else◌, Option, Some, None}
use Rattle.std.specs.Option.{is_some, is_none}
use Prim.Native.Nat.{ℕ, zero, suc, ◌-◌, ◌+◌, ◌<◌, ◌≤◌}
use native.Mathlib.Omega.{arith}
use mathlib.Core.Path.{◌≡◌, refl, sym, ap, ◌∙◌}
use mathlib.Core.Bool.{Bool, true, false, not, false≢true}
use mathlib.Core.List.{List}
use mathlib.Core.Logic.{◌⊎◌, inl, inr, ⊎_elim}
use mathlib.Core.Option as optional
use mathlib.Core.Option.{none, some}
use lib.ListN.{length, get_or}
use lib.IntN.{ℤ, pos, negsuc}
use borrow.Author.Tests.{lt-ltb, le-ltb, ne_eqb}
use Rattle.definitions.specs.Words.Basics.{big_endian}
use Rattle.definitions.specs.Words.Expression.{Expr, column, literal, and, binary, call, other, field, Exprs, cons}
use Rattle.definitions.specs.Bytes.Encode.{expr_bytes}
use Rattle.definitions.specs.Words.Literals.{signed}
use Rattle.definitions.specs.Bytes.Decode.{Columns}
use Rattle.definitions.specs.Filter.Match.{literal_bool}
use Rattle.definitions.specs.Filter.Verdicts.{Verdict, verdict_byte, as_knn, k_no_number, k_below_one, k_above_greatest, spheroid_no_flag, ties_no_flag, whole_number, literal_whole, no_number, below_one, above, is_below_one, is_above, no_flag}
use Rattle.sedona_query_planner.specs.Predicates.{flag}
use Rattle.expression.specs.Nodes.{kind_of, OfTree, OfTrees, Row}
use Rattle.expression.proofs.Standing.{kind-is, no-children, some-children, first-stands, rest-stands}
use Rattle.leaf_matching.specs.Literals.{long_at, flag_is}
use Rattle.leaf_matching.proofs.LiteralLaws.{flag-ten, literal-is}
use Rattle.leaf_verdicts.specs.declared.verdict.Verdict as verdicts
use Rattle.leaf_verdicts.specs.declared.verdict.Verdict.TheVariants as verdict
use Rattle.leaf_verdicts.specs.Cases.{verdict_of}
use Rattle.leaf_verdicts.specs.Columns.{or_after}
use Rattle.leaf_verdicts.specs.Options.{natural_reason, KTold}
use Rattle.leaf_verdicts.specs.Stages.{k_verdict, flag_verdict, ties_stage, flags_stage, options_stage}

-- ---- flags

-- A flag is missing where none was read.
flag-told : (r : Option Bool) (t : Expr) → flag_is r ≡ literal_bool t → no_flag t ≡ is_none r
unfolding no_flag
flag-told (Some v) t e = rw (sym e) refl
flag-told None t e = rw (sym e) refl

read-ten : (r : Option Bool) → is_some r ≡ true → (t : Expr) → flag_is r ≡ literal_bool t → length (expr_bytes t) ≡ 10
read-ten (Some v) e t is = flag-ten t (flag v) is
read-ten None e t is = absurd (false≢true e)

-- ---- a k

-- A k by its whole number.
by-whole : (greatest : ℕ) (after : Verdict) → optional.Option ℤ → Verdict
by-whole greatest after none = k_no_number
by-whole greatest after (some z) = if is_below_one z then k_below_one else if is_above greatest z then k_above_greatest else after

whole-told : (greatest : ℕ) (t : Expr) (after : Verdict) (w : optional.Option ℤ) → literal_whole t ≡ w
    → k_verdict greatest t after ≡ by-whole greatest after w
unfolding k_verdict no_number below_one above by-whole
whole-told greatest t after none e = rw e refl
whole-told greatest t after (some z) e = rw e refl

-- A literal has ten bytes, and no other node has a whole number.
whole-or-not : (t : Expr) → ((kind_of t ≡ 1) × (length (expr_bytes t) ≡ 10)) ⊎ (literal_whole t ≡ none)
unfolding kind_of expr_bytes big_endian literal_whole
whole-or-not (column i g) = inr refl
whole-or-not (literal y v) = inl (refl, refl)
whole-or-not (and l r) = inr refl
whole-or-not (binary o l r) = inr refl
whole-or-not (call name args) = inr refl
whole-or-not (other g cs) = inr refl
whole-or-not (field b g) = inr refl

-- One that is right, whatever comes after it, is a literal.
right-ten : (greatest : ℕ) (t : Expr) → KTold greatest None t → length (expr_bytes t) ≡ 10
unfolding by-whole verdict_byte
right-ten greatest t told = ⊎_elim (λ w. w.1)
    (λ w. let same : verdict_byte as_knn ≡ verdict_byte k_no_number = ap verdict_byte (told as_knn ∙ whole-told greatest t as_knn none w) in
    absurd (omega (arith, same))) (whole-or-not t)

-- ---- its whole number by the type

whole-natural : (type v : ℕ) → 2 ≤ type → type < 6 → (type < 4 → v < 9223372036854775808) → whole_number type v ≡ some (pos v)
unfolding whole_number signed
whole-natural zero v low high few = absurd (omega arith)
whole-natural (suc zero) v low high few = absurd (omega arith)
whole-natural (suc (suc zero)) v low high few = rw (lt-ltb v 9223372036854775808 (few (omega arith))) refl
whole-natural (suc (suc (suc zero))) v low high few = rw (lt-ltb v 9223372036854775808 (few (omega arith))) refl
whole-natural (suc (suc (suc (suc zero)))) v low high few = refl
whole-natural (suc (suc (suc (suc (suc zero))))) v low high few = refl
whole-natural (suc (suc (suc (suc (suc (suc n)))))) v low high few = absurd (omega arith)

whole-below : (type v : ℕ) → 2 ≤ type → type < 4 → 9223372036854775808 ≤ v
    → whole_number type v ≡ some (negsuc (18446744073709551615 - v))
unfolding whole_number signed
whole-below zero v low high many = absurd (omega arith)
whole-below (suc zero) v low high many = absurd (omega arith)
whole-below (suc (suc zero)) v low high many = rw (le-ltb v 9223372036854775808 many) refl
whole-below (suc (suc (suc zero))) v low high many = rw (le-ltb v 9223372036854775808 many) refl
whole-below (suc (suc (suc (suc n)))) v low high many = absurd (omega arith)

whole-none : (type v : ℕ) → (2 ≤ type → type < 6 → ⊥) → whole_number type v ≡ none
unfolding whole_number
whole-none type v out =
    rw (
      ne_eqb type 2 (λ e. out (omega arith) (omega arith)),
      ne_eqb type 3 (λ e. out (omega arith) (omega arith)),
      ne_eqb type 4 (λ e. out (omega arith) (omega arith)),
      ne_eqb type 5 (λ e. out (omega arith) (omega arith)),
    ) refl

-- ---- what is wrong with it

if-reason : (b c : Bool) (after : Verdict)
    → or_after (if b then Some verdict.KBelowOne else if c then Some verdict.KAboveGreatest else None) after
    ≡ (if b then k_below_one else if c then k_above_greatest else after)
if-reason true c after = refl
if-reason false true after = refl
if-reason false false after = refl

natural-told : (k greatest : ℕ) (after : Verdict) → or_after (natural_reason k greatest) after ≡ by-whole greatest after (some (pos k))
unfolding by-whole is_below_one is_above
natural-told k greatest after = if-reason (ltb k 1) (ltb greatest k) after

module _ {s : List ℕ} {at : ℕ} (greatest : ℕ) where
  pub no-literal-told : (get_or s at 0 ≡ 1 → ⊥) → OfTree s at (KTold greatest (Some verdict.KNoNumber))
  unfolding by-whole
  no-literal-told n c t st after =
      sym (whole-told greatest t after none (⊎_elim (λ w. absurd (n (sym (kind-is st) ∙ w.0))) (λ w. w) (whole-or-not t)))

  module _ (kind : get_or s at 0 ≡ 1) where
    -- By the type and the eight bytes.
    literal-told : (w : optional.Option ℤ) → whole_number (get_or s (at + 1) 0) (long_at s (at + 2)) ≡ w
        → (r : Option verdicts.Verdict) → ((after : Verdict) → or_after r after ≡ by-whole greatest after w)
        → OfTree s at (KTold greatest r)
    unfolding literal_whole
    literal-told w is r told c t st after =
        told after ∙ sym (whole-told greatest t after w (ap literal_whole (literal-is st kind).tree ∙ is))

    pub no-number-told : (2 ≤ get_or s (at + 1) 0 → get_or s (at + 1) 0 < 6 → ⊥) → OfTree s at (KTold greatest (Some verdict.KNoNumber))
    unfolding by-whole
    no-number-told out = literal-told none (whole-none _ _ out) (Some verdict.KNoNumber) (λ after. refl)

    pub below-told : 2 ≤ get_or s (at + 1) 0 → get_or s (at + 1) 0 < 4 → 9223372036854775808 ≤ long_at s (at + 2)
        → OfTree s at (KTold greatest (Some verdict.KBelowOne))
    unfolding by-whole is_below_one
    below-told low high many = literal-told _ (whole-below _ _ low high many) (Some verdict.KBelowOne) (λ after. refl)

    pub number-told : 2 ≤ get_or s (at + 1) 0 → get_or s (at + 1) 0 < 6
        → (get_or s (at + 1) 0 < 4 → long_at s (at + 2) < 9223372036854775808)
        → (k : ℕ) → k ≡ long_at s (at + 2) → OfTree s at (KTold greatest (natural_reason k greatest))
    number-told low high few k e = literal-told _ (whole-natural _ _ low high few) (natural_reason k greatest)
        (λ after. rw e (natural-told (long_at s (at + 2)) greatest after))

-- ---- the answers

module _ {s : List ℕ} {at n : ℕ} where
  pub ties-none : n ≡ 0 → OfTrees s at n (λ ts. as_knn ≡ ties_stage ts)
  unfolding ties_stage
  ties-none e c ts row = no-children (λ ts. as_knn ≡ ties_stage ts) refl ts (row.counted ∙ e)

  pub flags-none : n ≡ 0 → OfTrees s at n (λ ts. as_knn ≡ flags_stage ts)
  unfolding flags_stage
  flags-none e c ts row = no-children (λ ts. as_knn ≡ flags_stage ts) refl ts (row.counted ∙ e)

  pub options-none : (greatest : ℕ) → n ≡ 0 → OfTrees s at n (λ ts. as_knn ≡ options_stage greatest ts)
  unfolding options_stage
  options-none greatest e c ts row = no-children (λ ts. as_knn ≡ options_stage greatest ts) refl ts (row.counted ∙ e)

  module _ (some_left : n ≡ 0 → ⊥) where
    -- A first literal and the rest of a row.
    first-and-rest : (P : Exprs → Type 0) → ((c : Columns) (t : Expr) (ts : Exprs) → Row c s at n (cons t ts) → P (cons t ts))
        → OfTrees s at n P
    first-and-rest P f c ts row = some-children (λ ts. Row c s at n ts → P ts) (λ t ts w. f c t ts w) ts (omega (arith, row.counted)) row

    module _ (r : Option Bool) (is : OfTree s at (λ t. flag_is r ≡ literal_bool t)) where
      missing : (c : Columns) (t : Expr) (ts : Exprs) → Row c s at n (cons t ts) → no_flag t ≡ is_none r
      missing c t ts w = flag-told r t (is c t (first-stands w))

      pub ties-told : (v : Verdict) → v ≡ (if is_none r then ties_no_flag else as_knn) → OfTrees s at n (λ ts. v ≡ ties_stage ts)
      unfolding ties_stage flag_verdict
      ties-told v e = first-and-rest (λ ts. v ≡ ties_stage ts) (λ c t ts w. e ∙ rw (missing c t ts w) refl)

      pub spheroid-missing : is_some r ≡ false → OfTrees s at n (λ ts. spheroid_no_flag ≡ flags_stage ts)
      unfolding flags_stage flag_verdict
      spheroid-missing e = first-and-rest (λ ts. spheroid_no_flag ≡ flags_stage ts) (λ c t ts w. rw (missing c t ts w ∙ ap not e) refl)

      module _ (e : is_some r ≡ true) where
        -- The next literal stands ten bytes on.
        pub flag-next : OfTree s at (λ t. at + 10 ≡ at + length (expr_bytes t))
        flag-next c t st = ap (λ (k : ℕ). at + k) (sym (read-ten r e t (is c t st)))

        pub flags-told : (v : Verdict) → OfTrees s (at + 10) (n - 1) (λ ts. v ≡ ties_stage ts) → OfTrees s at n (λ ts. v ≡ flags_stage ts)
        unfolding flags_stage flag_verdict
        flags-told v rest = first-and-rest (λ ts. v ≡ flags_stage ts) (λ c t ts w.
            rest c ts (rest-stands w (at + 10) (n - 1) (flag-next c t (first-stands w)) (omega arith))
            ∙ rw (missing c t ts w ∙ ap not e) refl)

    module _ (greatest : ℕ) where
      pub k-wrong : (why : verdicts.Verdict) → OfTree s at (KTold greatest (Some why))
          → OfTrees s at n (λ ts. verdict_of why ≡ options_stage greatest ts)
      unfolding options_stage
      k-wrong why told = first-and-rest (λ ts. verdict_of why ≡ options_stage greatest ts)
          (λ c t ts w. told c t (first-stands w) (flags_stage ts))

      module _ (told : OfTree s at (KTold greatest None)) where
        -- A k that is right is a literal.
        pub k-next : OfTree s at (λ t. at + 10 ≡ at + length (expr_bytes t))
        k-next c t st = ap (λ (k : ℕ). at + k) (sym (right-ten greatest t (told c t st)))

        pub k-right : (v : Verdict) → OfTrees s (at + 10) (n - 1) (λ ts. v ≡ flags_stage ts)
            → OfTrees s at n (λ ts. v ≡ options_stage greatest ts)
        unfolding options_stage
        k-right v rest = first-and-rest (λ ts. v ≡ options_stage greatest ts) (λ c t ts w.
            rest c ts (rest-stands w (at + 10) (n - 1) (k-next c t (first-stands w)) (omega arith))
            ∙ told c t (first-stands w) (flags_stage ts))
