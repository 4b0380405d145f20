-- Request 7 of document 02: chains of the places of a list's items. (Ours.)
use Rattle.std.specs.Prelude.{ℕ, suc, ◌%◌, ◌≤◌, ◌<◌, ◌≡◌, List, length, take, get_or, Bool, true, false, Option, Some, None, ⊤}
use Rattle.std.proofs.Math.Option as optional
use Rattle.std.proofs.Math.Option.{none, some}
use Rattle.definitions.specs.Words.Limits.{most_items}
use Rattle.definitions.specs.Filter.Project.{place_in}
use Rattle.projection.specs.declared.places.Chains.{Chains}

-- What an answer says.
abbrev pub place_of : Option ℕ → optional.Option ℕ
place_of (Some place) = some place
place_of None = none

-- The link with which an item's chain begins.
abbrev pub link_of : (heads : List ℕ) (item : ℕ) → ℕ
link_of heads item = get_or heads (item % 1024) 0

-- A link is 0, or a place and one. From a link on a chain has an item at a place, or has none; places fall along it.
pub data Walk (items nexts : List ℕ) (item : ℕ) : (link : ℕ) → optional.Option ℕ → Type 0 where
  ends : Walk items nexts item 0 none
  here : {k : ℕ} → k < length items → get_or items k 0 ≡ item → Walk items nexts item (suc k) (some k)
  further : {k : ℕ} {place : optional.Option ℕ} → k < length items → (get_or items k 0 ≡ item → ⊥) → get_or nexts k 0 ≤ k
      → Walk items nexts item (get_or nexts k 0) place → Walk items nexts item (suc k) place

-- An item has a chain.
pub record Chain (items heads nexts : List ℕ) (item : ℕ) : Type 0 where
  pub chains : length heads ≡ 1024
  pub room : length items ≤ length nexts
  pub place : optional.Option ℕ
  pub walk : Walk items nexts item (link_of heads item) place

-- A number may be sought: its last twelve bits have a flag.
abbrev pub MaySeek : (sought : List Bool) (item : ℕ) → Type 0
MaySeek sought item = get_or sought (item % 4096) false ≡ true

-- The chains have the first `count` items: every number that may be sought is found where it stands first among these.
pub record Chained (items heads nexts : List ℕ) (sought : List Bool) (count : ℕ) : Type 0 where
  pub chains : length heads ≡ 1024
  pub room : length items ≤ length nexts
  pub low : (chain : ℕ) → get_or heads chain 0 ≤ count
  pub walks : (item : ℕ) → MaySeek sought item → Walk items nexts item (link_of heads item) (place_in (take count items) item)

-- Chains that have nothing yet, and room for the list.
pub record Unfilled (items heads nexts : List ℕ) : Type 0 where
  pub chains : length heads ≡ 1024
  pub room : length items ≤ length nexts
  pub few : length items ≤ most_items
  pub none : (chain : ℕ) → get_or heads chain 0 ≡ 0

-- The chains, if there are any, have an item where it stands first in the list.
pub record InChains (items heads nexts : List ℕ) (item : ℕ) : Type 0 where
  pub chains : length heads ≡ 1024
  pub room : length items ≤ length nexts
  pub walk : Walk items nexts item (link_of heads item) (place_in items item)

abbrev pub Sought : (items : List ℕ) → Option Chains → (item : ℕ) → Type 0
Sought items (Some chains) item = InChains items chains.heads.now chains.nexts.now item
Sought items None item = ⊤
