-- The keys of the marked columns' records, in a row.
use Rattle.std.specs.Prelude.{ℕ, ◌+◌, ◌*◌, ◌%◌, ◌≤◌, ◌<◌, ◌≡◌, Bool, true, false, List, length, get_or}
use Rattle.expression.specs.Places.{short_at}

-- The side and child index of the record at a place, as one number.
abbrev pub key_at : (s : List ℕ) (at : ℕ) → ℕ
key_at s at = get_or s at 0 * 65536 + short_at s (at + 1)

-- A key is that of a marked column's record.
pub record MarkedKey (s : List ℕ) (rec count : ℕ) (flags : List ℕ) (key : ℕ) : Type 0 where
  pub index : ℕ
  pub below : index < count
  pub marked : get_or flags index 0 ≡ 1
  pub same : key ≡ key_at s (rec + 5 * index)

-- A key is among the first n of a row.
abbrev pub Among : (keys : List ℕ) (n key : ℕ) → Type 0
Among keys n key = (i : ℕ) × (i < n) × (get_or keys i 0 ≡ key)

-- Whether it is.
abbrev pub AmongIs : (keys : List ℕ) (n key : ℕ) → Bool → Type 0
AmongIs keys n key true = Among keys n key
AmongIs keys n key false = (i : ℕ) → i < n → get_or keys i 0 ≡ key → ⊥

-- The last bytes of the first n of a row have flags.
pub record Ended (keys : List ℕ) (n : ℕ) (ends : List Bool) : Type 0 where
  pub wide : length ends ≡ 256
  pub each : (i : ℕ) → i < n → get_or ends (get_or keys i 0 % 256) false ≡ true

-- The first n of a row are the keys of the marked columns' records, of all and of no other.
pub record KeyRow (s : List ℕ) (rec count : ℕ) (flags : List ℕ) (keys : List ℕ) (n : ℕ) : Type 0 where
  pub few : n ≤ count
  pub room : n ≤ length keys
  pub each : (i : ℕ) → i < n → MarkedKey s rec count flags (get_or keys i 0)
  pub all : (index : ℕ) → index < count → get_or flags index 0 ≡ 1 → Among keys n (key_at s (rec + 5 * index))
