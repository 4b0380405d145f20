-- What the head of a call reads: the name's length, the name, how many arguments.
use Prim.Native.Nat.{ℕ, ◌+◌, ◌≤◌, ◌<◌}
use native.Mathlib.Omega.{arith}
use mathlib.Core.Path.{◌≡◌, refl, sym, ap, ◌∙◌}
use mathlib.Core.Bool.{Bool, true, false}
use mathlib.Core.List.{List}
use lib.ListN.{length, take, drop, get_or, length-drop}
use Rattle.std.specs.Prelude.{if◌then◌else◌}
use Rattle.std.proofs.lemmas.List.{take_all}
use Rattle.std.proofs.lemmas.Bool.{cases_lt}
use Rattle.std.proofs.Common.{◌⊎◌, inl, inr}
use mathlib.Core.Logic.{⊎_elim}
use Rattle.definitions.specs.Words.Expression.{Expr, call}
use Rattle.definitions.specs.Bytes.Readers.{read, stopped, Reader, continue, ◌>>=◌, give, byte_up_to, byte_between, repeat}
use Rattle.definitions.specs.Bytes.Decode.{call_node, repeat_exprs}
use Rattle.node_reader.specs.Fields.{name_like, CutNameIs}
use Rattle.node_reader.proofs.FieldBytes.{between-ends, between-out, between-read, up-ends, up-out, up-read}
use Rattle.node_reader.proofs.NameBytes.{name-read, name-bad, name-cut}
use Rattle.terms.specs.Refusals.{number_of}
use Rattle.terms.specs.declared.refusals.Refusal.{Refusal}
use Rattle.theorems.proofs.ReaderLaws.{after, halts}

module _ (s : List ℕ) (at : ℕ) (child : Reader Expr) (n : ℕ) where
  pub call-ends : length s ≤ at + 1 → call_node child n (drop (at + 1) s) ≡ stopped 3
  unfolding call_node
  call-ends h = halts _ (between-ends s (at + 1) n 1 32 h)

  module _ (size : ℕ) (is : size ≡ get_or s (at + 1) 0) (there : at + 1 < length s) where
    pub call-out : (size ≡ 0) ⊎ ((size ≡ 0 → ⊥) × 32 < size) → call_node child n (drop (at + 1) s) ≡ stopped 4
    unfolding call_node
    call-out (inl none) = halts _ (between-out s (at + 1) n 1 32 there (inl (omega arith)))
    call-out (inr many) = halts _ (between-out s (at + 1) n 1 32 there (inr (omega arith, omega (arith, many.1))))

    module _ (some : 1 ≤ size) (few : size ≤ 32) where
      -- What is read after the length.
      rest : call_node child n (drop (at + 1) s)
          ≡ continue (repeat size (byte_between 33 126) n (drop (at + 2) s))
          (λ name. byte_up_to 16 >>= λ arguments. repeat_exprs arguments child >>= λ es. give (call name es))
      unfolding call_node
      rest = after _ (between-read s (at + 1) n 1 32 (at + 2) (omega arith) there (omega arith) (omega arith)
          ∙ ap (λ (k : ℕ). read k n (drop (at + 2) s)) (sym is))

      pub name-bad-stops : name_like (take size (drop (at + 2) s)) ≡ false → call_node child n (drop (at + 1) s) ≡ stopped 4
      name-bad-stops bad = rest ∙ halts _ (name-bad s (at + 2) size n bad)

      module _ (fits : at + 2 + size ≤ length s) (good : name_like (take size (drop (at + 2) s)) ≡ true) where
        arguments : call_node child n (drop (at + 1) s)
            ≡ continue (byte_up_to 16 n (drop (at + 2 + size) s))
            (λ arguments. repeat_exprs arguments child >>= λ es. give (call (take size (drop (at + 2) s)) es))
        arguments = rest ∙ after _ (name-read s (at + 2) size n (omega arith) good)

        pub arguments-end : length s ≤ at + 2 + size → call_node child n (drop (at + 1) s) ≡ stopped 3
        arguments-end h = arguments ∙ halts _ (up-ends s (at + 2 + size) n 16 h)

        pub arguments-out : at + 2 + size < length s → 16 < get_or s (at + 2 + size) 0 → call_node child n (drop (at + 1) s) ≡ stopped 4
        arguments-out h many = arguments ∙ halts _ (up-out s (at + 2 + size) n 16 h many)

        pub call-read : at + 2 + size < length s → get_or s (at + 2 + size) 0 ≤ 16 → call_node child n (drop (at + 1) s)
            ≡ continue (repeat_exprs (get_or s (at + 2 + size) 0) child n (drop (at + 2 + size + 1) s))
            (λ es. give (call (take size (drop (at + 2) s)) es))
        call-read h low = arguments ∙ after _ (up-read s (at + 2 + size) n 16 (at + 2 + size + 1) refl h low)

      -- It is cut off in its name or after it.
      pub call-cut : length s < at + 3 + size → (why : Refusal) → CutNameIs s (at + 2) why
          → call_node child n (drop (at + 1) s) ≡ stopped (number_of why)
      call-cut short why cut = by-name (name_like (drop (at + 2) s)) refl ∙ ap stopped (sym cut)
        where
          whole : take size (drop (at + 2) s) ≡ drop (at + 2) s
          whole = take_all size (drop (at + 2) s) (simp length-drop (omega arith))

          by-name : (t : Bool) → name_like (drop (at + 2) s) ≡ t → call_node child n (drop (at + 1) s) ≡ stopped (if t then 3 else 4)
          by-name true good = ⊎_elim
              (λ h. rest ∙ halts _ (name-cut s (at + 2) size n (omega arith) h good))
              (λ h. arguments-end h (ap name_like whole ∙ good) (omega arith)) (cases_lt (length s) (at + 2 + size))
          by-name false bad = name-bad-stops (ap name_like whole ∙ bad)
