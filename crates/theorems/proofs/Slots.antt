-- Laws of items written one to a slot.
use Prim.Native.Nat.{ℕ, suc, ◌+◌, ◌*◌, ◌≤◌}
use native.Mathlib.Omega.{arith}
use native.Mathlib.Nat.{mul-suc, mul-zero, zero-add, add_comm, add_assoc}
use mathlib.Core.Path.{◌≡◌, refl, sym, ap, ap₂, ◌∙◌}
use mathlib.Core.List.{List, [], ◌∷◌, ◌++◌, append_assoc}
use lib.ListN.{length, take, drop, length-append, length-drop, take-append-drop}
use lib.Seq.{take-append-add, drop-append-add, drop-append-le, length-take-le, drop-drop}
use Rattle.definitions.specs.Calls.Base.{written_over}
use Rattle.definitions.specs.Calls.QueueBytes.{in_slots}

-- Each item is as long as its slot or shorter, and each slot is there.
abbrev pub Slotted : (width : ℕ) → (items : List (List ℕ)) → (bytes : List ℕ) → Type 0
Slotted width [] bytes = Unit {0}
Slotted width (item ∷ items) bytes = (length item ≤ width) × (width ≤ length bytes) × Slotted width items (drop width bytes)

module _ (w : ℕ) where
  pub next-slot : (n : ℕ) → w * suc n ≡ w + w * n
  next-slot n = mul-suc w n ∙ add_comm (w * n) w

  pub slot-length : (x s : List ℕ) → length x ≤ w → w ≤ length s → length (written_over x (take w s)) ≡ w
  unfolding written_over
  slot-length x s narrow room = simp (length-append, length-drop, length-take-le) (omega arith)

  pub slots_length : (xs : List (List ℕ)) (s : List ℕ) → Slotted w xs s → length (in_slots w xs s) ≡ length s
  unfolding in_slots
  slots_length [] s h = refl
  slots_length (x ∷ xs) s h =
      length-append (written_over x (take w s)) (in_slots w xs (drop w s))
      ∙ ap₂ ◌+◌ (slot-length x s h.0 h.1) (slots_length xs (drop w s) h.2 ∙ length-drop w s) ∙ omega (arith, h.1)

  pub slotted-front : (xs : List (List ℕ)) (x s : List ℕ) → Slotted w (xs ++ (x ∷ [])) s → Slotted w xs s
  slotted-front [] x s h = tt
  slotted-front (y ∷ xs) x s h = (h.0, h.1, slotted-front xs x (drop w s) h.2)

  -- What is behind the slots that were written is as it was.
  pub slots-behind : (xs : List (List ℕ)) (s : List ℕ) → Slotted w xs s → drop (w * length xs) (in_slots w xs s) ≡ drop (w * length xs) s
  unfolding in_slots
  slots-behind [] s h = refl
  slots-behind (x ∷ xs) s h =
      let slot : List ℕ = written_over x (take w s) in
      let size : w * suc (length xs) ≡ length slot + w * length xs =
      next-slot (length xs) ∙ ap (λ (n : ℕ). n + w * length xs) (sym (slot-length x s h.0 h.1)) in
      ap (λ (n : ℕ). drop n (slot ++ in_slots w xs (drop w s))) size
      ∙ drop-append-add slot (in_slots w xs (drop w s)) (w * length xs)
      ∙ slots-behind xs (drop w s) h.2
      ∙ drop-drop (w * length xs) w s
      ∙ ap (λ (n : ℕ). drop n s) (sym (next-slot (length xs)))

  pub one-slot : (x s : List ℕ) → length x ≤ w → w ≤ length s → written_over x (take w s) ++ drop w s ≡ x ++ drop (length x) s
  unfolding written_over
  one-slot x s narrow room =
      append_assoc x (drop (length x) (take w s)) (drop w s)
      ∙ ap (λ (l : List ℕ). x ++ l)
      (sym (drop-append-le (length x) (take w s) (drop w s) (simp length-take-le (omega arith)))
      ∙ ap (drop (length x)) (take-append-drop w s))

  -- One item more is written to the next slot.
  pub slots-more : (xs : List (List ℕ)) (x s : List ℕ) → Slotted w (xs ++ (x ∷ [])) s
      → in_slots w (xs ++ (x ∷ [])) s
      ≡ take (w * length xs) (in_slots w xs s) ++ (x ++ drop (w * length xs + length x) (in_slots w xs s))
  unfolding in_slots
  slots-more [] x s h = one-slot x s h.0 h.1 ∙ rw (mul-zero, zero-add)
  slots-more (y ∷ xs) x s h =
      let slot : List ℕ = written_over y (take w s) in
      let rest : List ℕ = in_slots w xs (drop w s) in
      let n : ℕ = w * length xs in
      let size : w * suc (length xs) ≡ length slot + n =
      next-slot (length xs) ∙ ap (λ (k : ℕ). k + n) (sym (slot-length y s h.0 h.1)) in
      ap (λ (l : List ℕ). slot ++ l) (slots-more xs x (drop w s) h.2)
      ∙ sym (append_assoc slot (take n rest) (x ++ drop (n + length x) rest))
      ∙ ap₂ (λ (a b : List ℕ). a ++ (x ++ b)) (sym (take-append-add slot rest n))
      (sym (drop-append-add slot rest (n + length x)) ∙ ap (λ (k : ℕ). drop k (slot ++ rest)) (sym (add_assoc (length slot) n (length x))))
      ∙ ap (λ (k : ℕ). take k (slot ++ rest) ++ (x ++ drop (k + length x) (slot ++ rest))) (sym size)
