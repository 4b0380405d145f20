-- Laws of chains: a step along one, a list of no items, and one item more, which is put before its chain if the chain lacks it.
use Prim.Native.Nat.{ℕ, zero, suc, ◌+◌, ◌-◌, ◌%◌, ◌≤◌, ◌<◌}
use native.Mathlib.Omega.{arith}
use native.Mathlib.Numerals.{add-one}
use mathlib.Core.Path.{◌≡◌, refl, sym, ap, ◌∙◌, subst}
use mathlib.Core.Bool.{Bool, true, false}
use mathlib.Core.List.{List}
use mathlib.Core.Option.{Option, none, some}
use lib.ListN.{length, take, get_or, set, replicate, length-set, length-replicate}
use lib.Seq.{get_or-set_same, get_or-set_other}
use lib.Dec.{eqb}
use borrow.Author.Tests.{eqb-true, eqb-false}
use Rattle.definitions.specs.Words.Limits.{most_items}
use Rattle.definitions.specs.Filter.Project.{place_in}
use Rattle.projection.specs.Chains.{link_of, Walk, ends, here, further, Chain, MaySeek, Chained, Unfilled}
use Rattle.projection.proofs.PlaceLaws.{place-passed, place-stays, place-new}

-- ---- a step

-- What a walk says of the item at its link: it is the one, or the walk goes on from a link further down.
pub record Step (items nexts : List ℕ) (item k : ℕ) (place : Option ℕ) : Type 0 where
  pub inside : k < length items
  pub found : get_or items k 0 ≡ item → place ≡ some k
  pub falls : (get_or items k 0 ≡ item → ⊥) → get_or nexts k 0 ≤ k
  pub on : (get_or items k 0 ≡ item → ⊥) → Walk items nexts item (get_or nexts k 0) place

module _ {items nexts : List ℕ} {item : ℕ} where
  step : {link : ℕ} {place : Option ℕ} → Walk items nexts item link place → (j : ℕ) → link ≡ suc j → Step items nexts item j place
  step ends j e = absurd (omega arith)
  step (here {k} inside same) j e =
      subst (λ (n : ℕ). Step items nexts item n (some k)) (omega arith)
      (record { inside = inside; found = λ h. refl; falls = λ other. absurd (other same); on = λ other. absurd (other same) })
  step (further {k} {place} inside other falls rest) j e =
      subst (λ (n : ℕ). Step items nexts item n place) (omega arith)
      (record { inside = inside; found = λ h. absurd (other h); falls = λ h. falls; on = λ h. rest })

  stopped : {link : ℕ} {place : Option ℕ} → Walk items nexts item link place → link ≤ 0 → none ≡ place
  stopped ends low = refl
  stopped (here inside same) low = absurd (omega arith)
  stopped (further inside other falls rest) low = absurd (omega arith)

-- ---- the search of a chain

-- What the search keeps: from its link on the chain has what it has from the start.
pub record Searching (items nexts : List ℕ) (item start link : ℕ) : Type 0 where
  pub room : length items ≤ length nexts
  pub place : Option ℕ
  pub walk : Walk items nexts item link place
  pub same : (place : Option ℕ) → Walk items nexts item start place → Walk items nexts item link place

module _ {items nexts : List ℕ} {item start link : ℕ} (inv : Searching items nexts item start link) where
  search-step : 0 < link → Step items nexts item (link - 1) inv.place
  search-step more = step inv.walk (link - 1) (omega arith)

  pub search-inside : 0 < link → link - 1 < length items
  search-inside more = (search-step more).inside

  pub search-found : 0 < link → get_or items (link - 1) 0 ≡ item → (place : Option ℕ) → Walk items nexts item start place
      → some (link - 1) ≡ place
  search-found more same place walk = sym ((step (inv.same place walk) (link - 1) (omega arith)).found same)

  module _ (more : 0 < link) (other : get_or items (link - 1) 0 ≡ item → ⊥) where
    pub search-goes-on : Searching items nexts item start (get_or nexts (link - 1) 0)
    search-goes-on = record {
      room = inv.room;
      place = inv.place;
      walk = (search-step more).on other;
      same = λ place walk. (step (inv.same place walk) (link - 1) (omega arith)).on other;
    }

  pub search-ends : link ≤ 0 → (place : Option ℕ) → Walk items nexts item start place → none ≡ place
  search-ends low place walk = stopped (inv.same place walk) low

-- ---- one item more

-- Two numbers are equal, or not.
either_way : {P : Type 0} (a b : ℕ) → (a ≡ b → P) → ((a ≡ b → ⊥) → P) → P
either_way {P} a b same other = told (eqb a b) refl
  where
    told : (t : Bool) → eqb a b ≡ t → P
    told true e = same (eqb-true a b e)
    told false e = other (eqb-false a b e)

pub chained-none : {items heads nexts : List ℕ} {sought : List Bool} → Unfilled items heads nexts → Chained items heads nexts sought 0
unfolding place_in
chained-none {items} {heads} {nexts} u = record {
  chains = u.chains;
  room = u.room;
  low = λ chain. omega (arith, u.none chain);
  walks = λ item may. subst (λ (link : ℕ). Walk items nexts item link none) (sym (u.none (item % 1024))) ends;
}

pub chain-of : {items heads nexts : List ℕ} {sought : List Bool} {count : ℕ} → Chained items heads nexts sought count → (item : ℕ)
    → MaySeek sought item → Chain items heads nexts item
chain-of {items} {heads} {nexts} {sought} {count} c item may =
    record { chains = c.chains; room = c.room; place = place_in (take count items) item; walk = c.walks item may }

-- What a store past its links keeps of a chain.
kept-past : {items nexts : List ℕ} {item link : ℕ} {place : Option ℕ} (k w : ℕ) → Walk items nexts item link place → link ≤ k
    → Walk items (set nexts k w) item link place
kept-past k w ends low = ends
kept-past k w (here inside same) low = here inside same
kept-past {items} {nexts} {item} k w (further {k = j} {place} inside other falls rest) low =
    let same : get_or (set nexts k w) j 0 ≡ get_or nexts j 0 = get_or-set_other nexts k j w 0 (λ e. omega arith) in
    further inside other (omega arith)
    (subst (λ (link : ℕ). Walk items (set nexts k w) item link place) (sym same) (kept-past k w rest (omega arith)))

module _ {items heads nexts : List ℕ} {sought : List Bool} {k : ℕ} (c : Chained items heads nexts sought k) (inside : k < length items)
    (x : ℕ) (is : get_or items k 0 ≡ x) where
  -- Nothing like it may be sought: the chains stay.
  pub chained-skips : get_or sought (x % 4096) false ≡ false → Chained items heads nexts sought (k + 1)
  chained-skips unsought = record {
    chains = c.chains;
    room = c.room;
    low = λ chain. omega (arith, c.low chain);
    walks = λ item may.
        let other : get_or items k 0 ≡ item → ⊥ = λ h.
        let same : get_or sought (x % 4096) false ≡ true = ap (λ (n : ℕ). get_or sought (n % 4096) false) (sym is ∙ h) ∙ may in
        cc in
        subst (Walk items nexts item (link_of heads item)) (sym (place-passed items k item inside other)) (c.walks item may);
  }

  -- It is found: the chains stay.
  module _ (place : ℕ) (e : some place ≡ place_in (take k items) x) where
    same_place : (item : ℕ) → place_in (take (k + 1) items) item ≡ place_in (take k items) item
    same_place item = either_way (get_or items k 0) item
        (λ h. place-stays items k item inside place (ap (place_in (take k items)) (sym h ∙ is) ∙ sym e))
        (λ other. place-passed items k item inside other)

    pub chained-stays : Chained items heads nexts sought (k + 1)
    chained-stays = record {
      chains = c.chains;
      room = c.room;
      low = λ chain. omega (arith, c.low chain);
      walks = λ item may. subst (Walk items nexts item (link_of heads item)) (sym (same_place item)) (c.walks item may);
    }

  -- It is not: it is put before its chain.
  module _ (e : none ≡ place_in (take k items) x) where
    abbrev heads' : List ℕ
    heads' = set heads (x % 1024) (k + 1)

    abbrev nexts' : List ℕ
    nexts' = set nexts k (link_of heads x)

    head-new : (chain : ℕ) → chain ≡ x % 1024 → get_or heads' chain 0 ≡ k + 1
    head-new chain h = ap (λ (n : ℕ). get_or heads' n 0) h ∙ get_or-set_same heads (x % 1024) (k + 1) 0 (omega (arith, c.chains))

    head-other : (chain : ℕ) → (chain ≡ x % 1024 → ⊥) → get_or heads' chain 0 ≡ get_or heads chain 0
    head-other chain h = get_or-set_other heads (x % 1024) chain (k + 1) 0 h

    next-new : get_or nexts' k 0 ≡ link_of heads x
    next-new = get_or-set_same nexts k (link_of heads x) 0 (omega (arith, c.room))

    -- Another item's chain from its old link on.
    old : (item : ℕ) → MaySeek sought item → (get_or items k 0 ≡ item → ⊥)
        → Walk items nexts' item (link_of heads item) (place_in (take (k + 1) items) item)
    old item may other =
        subst (Walk items nexts' item (link_of heads item)) (sym (place-passed items k item inside other))
        (kept-past k (link_of heads x) (c.walks item may) (c.low (item % 1024)))

    -- In the same chain the new item stands before it.
    behind : (item : ℕ) → MaySeek sought item → (get_or items k 0 ≡ item → ⊥) → item % 1024 ≡ x % 1024
        → Walk items nexts' item (suc k) (place_in (take (k + 1) items) item)
    behind item may other h =
        let link : get_or nexts' k 0 ≡ link_of heads item = next-new ∙ ap (λ (n : ℕ). get_or heads n 0) (sym h) in
        further inside other (omega (arith, c.low (item % 1024)))
        (subst (λ (n : ℕ). Walk items nexts' item n (place_in (take (k + 1) items) item)) (sym link) (old item may other))

    walk-new : (item : ℕ) → MaySeek sought item → Walk items nexts' item (link_of heads' item) (place_in (take (k + 1) items) item)
    walk-new item may = either_way (get_or items k 0) item
        (λ h.
        let new : place_in (take (k + 1) items) item ≡ some k =
        place-new items k item inside (ap (place_in (take k items)) (sym h ∙ is) ∙ sym e) h in
        let first : link_of heads' item ≡ suc k = head-new (item % 1024) (ap (λ (n : ℕ). n % 1024) (sym h ∙ is)) ∙ add-one k in
        rw (first, new) (here inside h))
        (λ other. either_way (item % 1024) (x % 1024)
        (λ h. rw (head-new (item % 1024) h ∙ add-one k) (behind item may other h))
        (λ h. rw (head-other (item % 1024) h) (old item may other)))

    pub chained-new : Chained items heads' nexts' sought (k + 1)
    chained-new = record {
      chains = simp length-set c.chains;
      room = simp length-set c.room;
      low = λ chain. either_way chain (x % 1024) (λ h. omega (arith, head-new chain h))
          (λ h. omega (arith, head-other chain h, c.low chain));
      walks = walk-new;
    }

-- ---- before any item

zeros : (n chain : ℕ) → get_or {A = ℕ} (replicate n 0) chain 0 ≡ 0
zeros zero chain = refl
zeros (suc n) zero = refl
zeros (suc n) (suc chain) = zeros n chain

-- Rows of nothing but 0 have no chain.
pub zeros-unfilled : (items : List ℕ) (n m : ℕ) → n ≡ 1024 → length items ≤ m → length items ≤ most_items
    → Unfilled items (replicate n 0) (replicate m 0)
zeros-unfilled items n m size room few = record {
  chains = length-replicate n 0 ∙ size;
  room = omega (arith, length-replicate {A = ℕ} m 0);
  few = few;
  none = zeros n;
}
