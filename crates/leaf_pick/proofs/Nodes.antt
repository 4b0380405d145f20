-- What is known of a node that is no And, of one that asks for nothing, and of one that is no function.
use Prim.Native.Nat.{ℕ, ◌<◌, ◌≤◌, ◌-◌}
use native.Mathlib.Omega.{arith}
use mathlib.Core.Path.{◌≡◌, refl, sym, ap, ◌∙◌, subst⁻¹}
use mathlib.Core.Bool.{Bool, true, false}
use mathlib.Core.List.{List}
use lib.ListN.{length, drop}
use mathlib.Core.Logic.{inr}
use mathlib.Core.Option.{none}
use borrow.Author.Tests.{ne_eqb}
use Rattle.definitions.specs.Words.Basics.{ascii, same_name, any}
use Rattle.definitions.specs.Words.Expression.{relations, Expr, binary, call, Exprs, Record}
use Rattle.definitions.specs.Words.Leaves.{type_named, relation_named, comparison}
use Rattle.definitions.specs.Bytes.Decode.{Columns}
use Rattle.definitions.specs.Filter.Match.{Request, ask_nothing, relation_request, call_request_by, comparison_request, request_by, match_request, match_leaf_by}
use Rattle.definitions.specs.Filter.Settings.{Settings, allowed, passing, only_if, match_under}
use Rattle.definitions.specs.Filter.Extract.{is_knn}
use Rattle.expression.specs.Nodes.{Stands, OfTreeIn}
use Rattle.expression.specs.Places.{part}
use Rattle.expression.specs.Leaves.{CallStands, NodeIs, PlainNode, plain_column, plain_literal, plain_other, plain_field}
use Rattle.expression.specs.declared.leaves.Called.{Called}
use Rattle.expression.specs.declared.leaves.Node.{Node}
use Rattle.expression.specs.declared.leaves.Node.TheVariants.{And, Binary, Call, Plain}
use Rattle.std.proofs.lemmas.List.{length-drop, length-take-le}
use Rattle.theorems.proofs.Tools.{same-name}
use Rattle.leaf_matching.specs.Matches.{is_relation, Lacks}
use Rattle.leaf_matching.proofs.AllowLaws.{passing-lacks}
use Rattle.leaf_matching.proofs.Asked.{request_kind, Only, comparison-only, only-distance, other_name}

-- A node that is neither an operator nor a function asks for nothing, and so does an operator that compares no distance.
plain-asks : (d : ℕ) {t : Expr} → PlainNode t → request_by d t ≡ ask_nothing
unfolding request_by
plain-asks d plain_column = refl
plain-asks d plain_literal = refl
plain-asks d plain_other = refl
plain-asks d plain_field = refl

binary-asks : (d operator : ℕ) (l r : Expr) → 4 < operator → request_by d (binary operator l r) ≡ ask_nothing
unfolding request_by comparison comparison_request
binary-asks d operator l r h =
    rw (
      ne_eqb operator 1 (λ e. omega (arith, e)),
      ne_eqb operator 2 (λ e. omega (arith, e)),
      ne_eqb operator 3 (λ e. omega (arith, e)),
      ne_eqb operator 4 (λ e. omega (arith, e)),
    )

-- So it does not match, whatever the settings.
nothing-asked : (S : Settings) (records : List Record) (t : Expr) → request_by S.default_k t ≡ ask_nothing → match_under S records t ≡ none
unfolding match_under only_if passing match_leaf_by match_request
nothing-asked S records t e = ap (λ (q : Request). passing (allowed S) (match_request records q)) e

pub plain-passed : (S : Settings) (records : List Record) {t : Expr} → PlainNode t → match_under S records t ≡ none
plain-passed S records {t} is = nothing-asked S records t (plain-asks S.default_k is)

pub binary-passed : (S : Settings) (records : List Record) (operator : ℕ) {l r t : Expr} → t ≡ binary operator l r → 4 < operator
    → match_under S records t ≡ none
binary-passed S records operator {l} {r} {t} e h =
    nothing-asked S records t (ap (request_by S.default_k) e ∙ binary-asks S.default_k operator l r h)

-- A name is as long as the bytes from its start to its end.
pub name-length : {c : Columns} {s : List ℕ} {k : Called} {name : List ℕ} {ts : Exprs} → CallStands c s k name ts
    → length name ≡ k.end - k.name
unfolding part
name-length {s = s} {k = k} it = ap length (sym it.spelling)
    ∙ length-take-le (k.end - k.name) (drop k.name s) (rw (length-drop k.name s) (omega (arith, it.high)))

-- A name of another length is another name.
other-length : (name other : List ℕ) → (length name ≡ length other → ⊥) → (b : Bool) → same_name name other ≡ b → b ≡ false
other-length name other h true same = absurd (h (ap length (same-name name other same)))
other-length name other h false same = refl

-- A function asks for something only where its name has 6 bytes, or 9 to 13.
module _ (name : List ℕ) (six : length name ≡ 6 → ⊥) (others : (n : ℕ) → length name ≡ n → 9 ≤ n → n ≤ 13 → ⊥) where
  apart : (text : List ℕ) → (length name ≡ length text → ⊥) → same_name name text ≡ false
  apart text h = other-length name text h (same_name name text) refl

  name-asks : (d : ℕ) (ts : Exprs) → request_by d (call name ts) ≡ ask_nothing
  unfolding request_by call_request_by relation_named type_named relations any ascii relation_request
  name-asks d ts =
      rw (
        apart (ascii "st_knn") six,
        apart (ascii "st_dwithin") (λ e. others 10 e (omega arith) (omega arith)),
        apart (ascii "st_intersects") (λ e. others 13 e (omega arith) (omega arith)),
        apart (ascii "rs_intersects") (λ e. others 13 e (omega arith) (omega arith)),
        apart (ascii "st_contains") (λ e. others 11 e (omega arith) (omega arith)),
        apart (ascii "rs_contains") (λ e. others 11 e (omega arith) (omega arith)),
        apart (ascii "st_within") (λ e. others 9 e (omega arith) (omega arith)),
        apart (ascii "rs_within") (λ e. others 9 e (omega arith) (omega arith)),
        apart (ascii "st_covers") (λ e. others 9 e (omega arith) (omega arith)),
        apart (ascii "st_coveredby") (λ e. others 12 e (omega arith) (omega arith)),
        apart (ascii "st_covered_by") (λ e. others 13 e (omega arith) (omega arith)),
        apart (ascii "st_touches") (λ e. others 10 e (omega arith) (omega arith)),
        apart (ascii "st_crosses") (λ e. others 10 e (omega arith) (omega arith)),
        apart (ascii "st_overlaps") (λ e. others 11 e (omega arith) (omega arith)),
        apart (ascii "st_equals") (λ e. others 9 e (omega arith) (omega arith)),
      )

  pub call-passed : (S : Settings) (records : List Record) {ts : Exprs} {t : Expr} → t ≡ call name ts → match_under S records t ≡ none
  call-passed S records {ts} {t} e = nothing-asked S records t (ap (request_by S.default_k) e ∙ name-asks S.default_k ts)

-- Any node but a function asks for a distance or for nothing.
node-only : (d : ℕ) (c : Columns) (s : List ℕ) (at : ℕ) (t : Expr) (node : Node) → ((called : Called) → node ≡ Call called → ⊥)
    → NodeIs c s at node t → Only 2 (request_by d t)
unfolding request_kind request_by
node-only d c s at t (And first) other is = subst⁻¹ (λ (t : Expr). Only 2 (request_by d t)) is.is (inr refl)
node-only d c s at t (Binary operator first) other is =
    subst⁻¹ (λ (t : Expr). Only 2 (request_by d t)) is.is (comparison-only operator (comparison operator _ _))
node-only d c s at t (Call k) other is = absurd (other k refl)
node-only d c s at t (Plain head) other is = inr (ap request_kind (plain-asks d is.0))

-- So it is no KNN match; nor is a function whose name has another length than `st_knn`.
module _ (S : Settings) (records : List Record) where
  pub node-no-knn : (c : Columns) (s : List ℕ) (at : ℕ) (t : Expr) (node : Node) → ((called : Called) → node ≡ Call called → ⊥)
      → NodeIs c s at node t → Lacks is_knn (match_under S records t)
  unfolding match_under only_if
  node-no-knn c s at t node other is =
      passing-lacks S is_knn _ (only-distance S.default_k records t (node-only S.default_k c s at t node other is)).0

  pub call-no-knn : (name : List ℕ) {ts : Exprs} {t : Expr} → t ≡ call name ts → (length name ≡ 6 → ⊥)
      → Lacks is_knn (match_under S records t)
  unfolding match_under only_if ascii
  call-no-knn name {ts} e six = rw e (passing-lacks S is_knn _
      (other_name S.default_k records name ts (other-length name (ascii "st_knn") six (same_name name (ascii "st_knn")) refl)))

module _ {c : Columns} {s : List ℕ} {at : ℕ} {t : Expr} (node : Node) (is : OfTreeIn s at (λ c t. NodeIs c s at node t))
    (stands : Stands c s at t) where
  pub no-function : ((called : Called) → node ≡ Call called → ⊥)
      → (d : ℕ) (records : List Record) → Lacks is_knn (match_leaf_by d records t) × Lacks is_relation (match_leaf_by d records t)
  no-function other d records = only-distance d records t (node-only d c s at t node other (is c t stands))
