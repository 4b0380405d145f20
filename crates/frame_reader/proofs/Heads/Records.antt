-- Records that were read: their bytes stand there, as many as were asked for.
use Prim.Native.Nat.{ℕ, zero, suc, ◌^◌, ◌≤◌, ◌<◌}
use mathlib.Core.Path.{◌≡◌, refl, sym, ap, ◌∙◌}
use mathlib.Core.List.{List, [], ◌∷◌, ◌++◌}
use lib.ListN.{length}
use Rattle.definitions.specs.Words.Basics.{big_endian}
use Rattle.definitions.specs.Words.Expression.{Record}
use Rattle.definitions.specs.Bytes.Encode.{side_number, record_bytes, records_bytes}
use Rattle.definitions.specs.Bytes.Readers.{read, byte_up_to, number, repeat}
use Rattle.definitions.specs.Bytes.Decode.{side_numbered, side_up_to, one_record}
use Rattle.definitions.specs.Bytes.Good.{AllBytes}
use Rattle.theorems.proofs.ReaderLaws.{step, given}
use Rattle.theorems.proofs.Inverse.{byte-up-to-back, number-back, after-bytes, join}
use Rattle.theorems.proofs.InversePlan.{side-number}

one-recorded : (n m : ℕ) (s t : List ℕ) (r : Record) → AllBytes s → one_record n s ≡ read r m t → s ≡ record_bytes r ++ t
unfolding one_record side_up_to record_bytes
one-recorded n m s t r h e =
    step (side_up_to 2 n s) _ e (λ x n₁ s₁ e₁ f₁. step (byte_up_to 2 n s) _ e₁ (λ b k u e₀ f₀.
    let side : (s ≡ b ∷ u) × (b ≤ 2) × (k ≡ n) = byte-up-to-back 2 n k b s u e₀ in
    let first : s ≡ side_number x ∷ s₁ =
    given (λ y m t. s ≡ side_number y ∷ t) (side_numbered b) x k n₁ u s₁ f₀
    (side.0 ∙ ap (λ (y : ℕ). y ∷ u) (sym (side-number b side.1))) in
    let h₁ : AllBytes s₁ = after-bytes (side_number x ∷ []) s₁ s first h in
    step (number 2 n₁ s₁) _ f₁ (λ c n₂ s₂ e₂ f₂.
    let child : (s₁ ≡ big_endian 2 c ++ s₂) × (c < 256 ^ 2) × (n₂ ≡ n₁) = number-back 2 n₁ n₂ c s₁ s₂ h₁ e₂ in
    step (number 2 n₂ s₂) _ f₂ (λ g n₃ s₃ e₃ f₃.
    let tag : (s₂ ≡ big_endian 2 g ++ s₃) × (g < 256 ^ 2) × (n₃ ≡ n₂) =
    number-back 2 n₂ n₃ g s₂ s₃ (after-bytes (big_endian 2 c) s₂ s₁ child.0 h₁) e₃ in
    given (λ y m t. s ≡ record_bytes y ++ t) (record { side = x; child = c; tag = g }) r n₃ m s₃ t f₃
    (first ∙ ap (λ (y : List ℕ). side_number x ∷ y) (join (big_endian 2 c) (big_endian 2 g) s₁ s₂ s₃ child.0 tag.0))))))

pub recorded : (k n m : ℕ) (s t : List ℕ) (rs : List Record) → AllBytes s → repeat k one_record n s ≡ read rs m t
    → (s ≡ records_bytes rs ++ t) × (length rs ≡ k)
unfolding repeat records_bytes
recorded zero n m s t rs h e = given (λ x m t. (s ≡ records_bytes x ++ t) × (length x ≡ 0)) [] rs n m s t e (refl, refl)
recorded (suc k) n m s t rs h e =
    step (one_record n s) _ e (λ r n₁ s₁ e₁ f₁.
    let first : s ≡ record_bytes r ++ s₁ = one-recorded n n₁ s s₁ r h e₁ in
    step (repeat k one_record n₁ s₁) _ f₁ (λ xs n₂ s₂ e₂ f₂.
    let others : (s₁ ≡ records_bytes xs ++ s₂) × (length xs ≡ k) =
    recorded k n₁ n₂ s₁ s₂ xs (after-bytes (record_bytes r) s₁ s first h) e₂ in
    given (λ x m t. (s ≡ records_bytes x ++ t) × (length x ≡ suc k)) (r ∷ xs) rs n₂ m s₂ t f₂
    (join (record_bytes r) (records_bytes xs) s s₁ s₂ first others.0, ap suc others.1)))
