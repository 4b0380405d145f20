-- What the contracts of the writers say of the bytes of what stands at the places that a writer is given.
use Rattle.std.specs.Prelude.{ℕ, ◌+◌, ◌≤◌, ◌≡◌, List, ◌++◌, length}
use Rattle.byte_writer.specs.Written.{Wrote, WroteAt}

-- Something stands there, and its bytes have room from w on.
pub record Room {A : Type 0} (At : A → Type 0) (bytes : A → List ℕ) (w : ℕ) (out : List ℕ) : Type 0 where
  pub it : A
  pub stands : At it
  pub room : w + length (bytes it) ≤ length out

-- Of each that stands there the bytes were written to the start, and the answer is their length.
pub record Puts {A : Type 0} (At : A → Type 0) (bytes : A → List ℕ) (before after : List ℕ) (answer : ℕ) : Type 0 where
  pub size : (a : A) → At a → answer ≡ length (bytes a)
  pub wrote : (a : A) → At a → Wrote (bytes a) before after

-- Of each that stands there they were written from w on, and the answer is where they end.
pub record PutsAt {A : Type 0} (At : A → Type 0) (bytes : A → List ℕ) (w : ℕ) (before after : List ℕ) (answer : ℕ) : Type 0 where
  pub wrote : (a : A) → At a → WroteAt w (bytes a) before after answer

-- One and then another.
pub record Both {A B : Type 0} (One : A → Type 0) (Two : B → Type 0) (x : A × B) : Type 0 where
  pub one : One x.0
  pub two : Two x.1

abbrev pub joined : {A B : Type 0} → (A → List ℕ) → (B → List ℕ) → A × B → List ℕ
joined f g x = f x.0 ++ g x.1

-- Bytes as they are.
abbrev pub same : List ℕ → List ℕ
same x = x
