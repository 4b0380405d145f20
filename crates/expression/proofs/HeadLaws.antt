-- What each arm of `head_at` answers.
use Prim.Native.Nat.{ℕ, suc, ◌+◌, ◌<◌}
use native.Mathlib.Omega.{arith}
use mathlib.Core.Path.{◌≡◌, refl, ap, ◌∙◌}
use mathlib.Core.List.{List, []}
use lib.ListN.{length, get_or, length-append}
use lib.Seq.{get_or-append_seam}
use Rattle.definitions.specs.Words.Basics.{big_endian}
use Rattle.definitions.specs.Words.Expression.{Expr, call, Exprs, count}
use Rattle.definitions.specs.Bytes.Decode.{Columns}
use Rattle.expression.specs.Places.{Holds}
use Rattle.expression.specs.Nodes.{head_bytes, children_of, Stands}
use Rattle.expression.specs.Heads.{HeadIs}
use Rattle.expression.proofs.Placed.{byte_at}
use Rattle.expression.proofs.OfKind.{a-column, a-literal, a-binary, a_call, an-other, a-field}
use Rattle.expression.proofs.Standing.{head-stands, head-fits, kind-is}

-- A call's name has as many bytes as the second byte says, and its arguments are counted after it.
call-name : {s : List ℕ} {at : ℕ} (name : List ℕ) (args : Exprs) → Holds s at (head_bytes (call name args))
    → get_or s (at + 1) 0 ≡ length name
unfolding head_bytes
call-name name args k = byte_at k 1 (omega arith)

call-count : {s : List ℕ} {at : ℕ} (name : List ℕ) (args : Exprs) → Holds s at (head_bytes (call name args))
    → get_or s (at + get_or s (at + 1) 0 + 2) 0 ≡ count args
unfolding head_bytes
call-count {s} {at} name args k =
    ap (λ (p : ℕ). get_or s p 0) (omega (arith, call-name name args k))
    ∙ byte_at k (suc (suc (length name))) (simp length-append (omega arith))
    ∙ get_or-append_seam name (count args) [] 0

module _ {c : Columns} {s : List ℕ} {at : ℕ} {t : Expr} where
  -- The head has as many bytes as its kind says.
  pub head-column : Stands c s at t → get_or s at 0 ≡ 0 → HeadIs at (record { next = at + 5; children = 0 }) t
  unfolding head_bytes children_of big_endian count
  head-column h e =
      a-column (HeadIs at (record { next = at + 5; children = 0 })) (λ i g. record { next = refl; children = refl }) t (kind-is h ∙ e)

  pub head-literal : Stands c s at t → get_or s at 0 ≡ 1 → HeadIs at (record { next = at + 10; children = 0 }) t
  unfolding head_bytes children_of big_endian count
  head-literal h e =
      a-literal (HeadIs at (record { next = at + 10; children = 0 })) (λ y v. record { next = refl; children = refl }) t (kind-is h ∙ e)

  pub head-binary : Stands c s at t → get_or s at 0 ≡ 2 → HeadIs at (record { next = at + 2; children = 2 }) t
  unfolding head_bytes children_of count
  head-binary h e = a-binary (HeadIs at (record { next = at + 2; children = 2 })) (λ l r. record { next = refl; children = refl })
      (λ o l r. record { next = refl; children = refl }) t (kind-is h ∙ e)

  pub head-field : Stands c s at t → 4 < get_or s at 0 → HeadIs at (record { next = at + 4; children = 0 }) t
  unfolding head_bytes children_of big_endian count
  head-field h e =
      a-field (HeadIs at (record { next = at + 4; children = 0 })) (λ b g. record { next = refl; children = refl }) t
      (omega (arith, kind-is h))

  pub head-other : Stands c s at t → get_or s at 0 ≡ 4 → HeadIs at (record { next = at + 4; children = get_or s (at + 3) 0 }) t
  unfolding head_bytes children_of big_endian
  head-other h e = an-other (λ t. Holds s at (head_bytes t) → HeadIs at (record { next = at + 4; children = get_or s (at + 3) 0 }) t)
      (λ g cs k. record { next = refl; children = byte_at k 3 (omega arith) }) t (kind-is h ∙ e) (head-stands h)

  pub head-call : Stands c s at t → get_or s at 0 ≡ 3
      → HeadIs at (record { next = at + get_or s (at + 1) 0 + 2 + 1; children = get_or s (at + get_or s (at + 1) 0 + 2) 0 }) t
  unfolding head_bytes children_of
  head-call h e = a_call
      (λ t. Holds s at (head_bytes t)
      → HeadIs at (record { next = at + get_or s (at + 1) 0 + 2 + 1; children = get_or s (at + get_or s (at + 1) 0 + 2) 0 }) t)
      (λ name args k. record { next = simp length-append (omega (arith, call-name name args k)); children = call-count name args k })
      t (kind-is h ∙ e) (head-stands h)

  -- So the counts of children lie within s.
  pub call-within : Stands c s at t → get_or s at 0 ≡ 3 → at + get_or s (at + 1) 0 + 2 < length s
  call-within h e = omega (arith, (head-call h e).next, head-fits h)

  pub other-within : Stands c s at t → get_or s at 0 ≡ 4 → at + 3 < length s
  other-within h e = omega (arith, (head-other h e).next, head-fits h)
