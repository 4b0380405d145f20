-- What each arm of `node_at` answers.
use Prim.Native.Nat.{ℕ, ◌+◌, ◌-◌, ◌≤◌, ◌<◌}
use native.Mathlib.Omega.{arith}
use mathlib.Core.Path.{◌≡◌, refl, sym, ap, ◌∙◌}
use mathlib.Core.List.{List, [], ◌∷◌, ◌++◌}
use mathlib.Core.Logic.{⊎_elim}
use types.Run.{OneOf}
use denote.Enum.Declared.{tag_of}
use lib.ListN.{length, take, get_or, length-append}
use lib.Seq.{take_at}
use Rattle.definitions.specs.Words.Expression.{Expr, column, literal, and, binary, call, other, field, Exprs, count}
use Rattle.definitions.specs.Bytes.Decode.{Columns}
use Rattle.expression.specs.Places.{Holds, part}
use Rattle.expression.specs.Nodes.{head_bytes, children_of, kind_of, Stands, Tree, OfTreeIn}
use Rattle.expression.specs.Heads.{HeadIs}
use Rattle.expression.specs.Leaves.{NodeIs, Both, CallIs, Calls, PlainNode, plain_column, plain_literal, plain_other, plain_field}
use Rattle.expression.specs.declared.heads.Head.{Head}
use Rattle.expression.specs.declared.leaves.Called.{Called}
use Rattle.expression.specs.declared.leaves.Node.{Node}
use Rattle.expression.specs.declared.leaves.Node.TheVariants.{And, Binary, Call, Plain}
use Rattle.expression.specs.contracts.leaves.Node.{the_type}
use Rattle.expression.proofs.Placed.{fits, byte_at, front, next}
use Rattle.expression.proofs.OfKind.{a-binary, a_call}
use Rattle.expression.proofs.Standing.{head-stands, head-fits, kind-is, children-stand}

-- The part of s where bytes stand is those bytes.
pub held-part : {s x : List ℕ} {at : ℕ} → Holds s at x → (end : ℕ) → end ≡ at + length x → part s at end ≡ x
unfolding part
held-part {s} {x} {at} h end e = ap (take (end - at)) h.bytes ∙ take_at x h.rest (end - at) (omega arith)

-- A call's name stands after the two bytes for kind and length, and before the count.
pub name-stands : {s : List ℕ} {at : ℕ} (name : List ℕ) (args : Exprs) → Holds s at (head_bytes (call name args)) → Holds s (at + 2) name
unfolding head_bytes
name-stands {s} {at} name args h =
    let after : Holds s (at + 2) (name ++ (count args ∷ [])) = next (next h (at + 1) refl) (at + 2) (omega arith) in
    front name (count args ∷ []) after

pub plain-node : (t : Expr) → (kind_of t ≡ 2 → ⊥) → (kind_of t ≡ 3 → ⊥) → PlainNode t
unfolding kind_of
plain-node (column i g) b k = plain_column
plain-node (literal y v) b k = plain_literal
plain-node (and l r) b k = absurd (b refl)
plain-node (binary o l r) b k = absurd (b refl)
plain-node (call name args) b k = absurd (k refl)
plain-node (other g cs) b k = plain_other
plain-node (field b g) n k = plain_field

module _ {c : Columns} {s : List ℕ} {at : ℕ} {t : Expr} where
  -- The operator is a node's second byte.
  pub operator-within : Stands c s at t → get_or s at 0 ≡ 2 → at + 1 < length s
  unfolding head_bytes
  operator-within h e =
      a-binary (λ t. at + length (head_bytes t) ≤ length s → at + 1 < length s) (λ l r k. omega arith) (λ o l r k. omega arith) t
      (kind-is h ∙ e) (head-fits h)

  module _ (h : Head) where
    pub node-and : Stands c s at t → HeadIs at h t → get_or s at 0 ≡ 2 → get_or s (at + 1) 0 ≡ 0 → Both and c s at h.next t
    unfolding head_bytes children_of count
    node-and stands is e z = a-binary (λ t. Stands c s at t → HeadIs at h t → Both and c s at h.next t)
        (λ l r st i. record {
          l = l;
          r = r;
          is = refl;
          children = refl;
          begins = i.next;
          row = children-stand st h.next 2
              i.next refl;
        })
        (λ o l r st i. absurd (omega (arith, st.in_range.0, byte_at (head-stands st) 1 (omega arith))))
        t (kind-is stands ∙ e) stands is

    pub node-binary : Stands c s at t → HeadIs at h t → get_or s at 0 ≡ 2 → (get_or s (at + 1) 0 ≡ 0 → ⊥)
        → Both (binary (get_or s (at + 1) 0)) c s at h.next t
    unfolding head_bytes children_of count
    node-binary stands is e some = a-binary (λ t. Stands c s at t → HeadIs at h t → Both (binary (get_or s (at + 1) 0)) c s at h.next t)
        (λ l r st i. absurd (some (byte_at (head-stands st) 1 (omega arith))))
        (λ o l r st i. record {
          l = l;
          r = r;
          is = ap (λ (o : ℕ). binary o l r) (sym (byte_at (head-stands st) 1 (omega arith)));
          children = refl;
          begins = i.next;
          row = children-stand st h.next 2 i.next refl;
        })
        t (kind-is stands ∙ e) stands is

    pub node_call : Stands c s at t → HeadIs at h t → get_or s at 0 ≡ 3
        → CallIs c s at (record { name = at + 2; end = h.next - 1; first = h.next; count = h.children }) t
    unfolding head_bytes children_of
    node_call stands is e =
        a_call (λ t. Stands c s at t → HeadIs at h t
        → CallIs c s at (record { name = at + 2; end = h.next - 1; first = h.next; count = h.children }) t)
        (λ name args st i.
        let size : h.next ≡ at + 3 + length name = i.next ∙ simp length-append (omega arith) in
        let here : Holds s (at + 2) name = name-stands name args (head-stands st) in
        record {
          name = name;
          arguments = args;
          is = refl;
          begins = i.next;
          stands = record {
            low = omega arith;
            high = omega (arith, fits here);
            spelling = held-part here (h.next - 1) (omega arith);
            row = children-stand st h.next h.children i.next i.children;
          };
        })
        t (kind-is stands ∙ e) stands is

-- Where a function was not found, none stands.
pub no-call : {c : Columns} {s : List ℕ} {at : ℕ} {t : Expr} → Stands c s at t → (r : Node) → OneOf (0 ∷ 1 ∷ 3 ∷ []) (tag_of the_type r)
    → NodeIs c s at r t → kind_of t ≡ 3 → ⊥
unfolding kind_of
no-call h (And first) o b e = let z : ◌≡◌ {A = ℕ} 2 3 = ap kind_of (sym b.is) ∙ e in omega arith
no-call h (Binary operator first) o b e = let z : ◌≡◌ {A = ℕ} 2 3 = ap kind_of (sym b.is) ∙ e in omega arith
no-call h (Call k) o b e = ⊎_elim (λ z. omega arith) (⊎_elim (λ z. omega arith) (λ z. omega arith)) o
no-call h (Plain head) o (plain_column, k) e = omega arith
no-call h (Plain head) o (plain_literal, k) e = omega arith
no-call h (Plain head) o (plain_other, k) e = omega arith
no-call h (Plain head) o (plain_field, k) e = omega arith

-- A function stands where one was found.
pub call-there : {s : List ℕ} {at : ℕ} (tree : Tree s at) {r : Node} → OfTreeIn s at (λ c t. NodeIs c s at r t) → {k : Called} → r ≡ Call k
    → Calls s k
call-there tree is e = let b = rw e at (is tree.0 tree.1 tree.2) in (tree.0, b.name, b.arguments, b.stands)
