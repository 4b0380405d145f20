-- Request 7 of document 02: which child indexes a list is searched for. (Ours.)
use Rattle.std.specs.Prelude.{ℕ, ◌/◌, ◌%◌, ◌<◌, ◌≡◌, Bool, List, length, get_or, Option}
use Rattle.projection.specs.Chains.{MaySeek, Sought}
use Rattle.projection.specs.declared.places.Chains.{Chains}

-- What holds of the child index of each of the first numbers of a row that goes by a side.
abbrev pub Each : (side : ℕ) (row : List ℕ) (count : ℕ) → (ℕ → Type 0) → Type 0
Each side row count P = (k : ℕ) → k < count → get_or row k 0 / 65536 % 4 ≡ side → P (get_or row k 0 % 65536)

-- Each has a flag.
pub record Marked (side : ℕ) (row : List ℕ) (count : ℕ) (sought : List Bool) : Type 0 where
  pub wide : length sought ≡ 4096
  pub each : Each side row count (MaySeek sought)

abbrev pub AllMarked : (side : ℕ) (row : List ℕ) (sought : List Bool) → Type 0
AllMarked side row sought = Marked side row (length row) sought

-- The chains, if there are any, have each.
abbrev pub AllSought : (side : ℕ) (items row : List ℕ) → Option Chains → Type 0
AllSought side items row chains = Each side row (length row) (Sought items chains)
