-- A row of keys that is filled key by key, and the flags of their last bytes.
use Prim.Native.Nat.{ℕ, ◌+◌, ◌*◌, ◌%◌, ◌≤◌, ◌<◌}
use native.Mathlib.Omega.{arith}
use mathlib.Core.Path.{◌≡◌, sym, ap, ◌∙◌}
use mathlib.Core.Bool.{Bool, true, false}
use mathlib.Core.List.{List}
use lib.ListN.{length, take, get_or, set, length-set}
use lib.Seq.{get_or-set_same, get_or-set_other, length-take-le, get_or-take}
use borrow.Author.Count.{below_more}
use Rattle.std.proofs.lemmas.Grind.{common_steps}
use Rattle.remainder.specs.Keys.{key_at, MarkedKey, Among, AmongIs, Ended, KeyRow}

-- The keys of the marked ones among the first `i` records are in the row.
pub record Filled (s : List ℕ) (rec count : ℕ) (flags keys : List ℕ) (n i : ℕ) (long : ℕ) : Type 0 where
  pub below : i ≤ count
  pub same : length keys ≡ long
  pub row : KeyRow s rec i flags keys n

further : {s : List ℕ} {rec : ℕ} {flags : List ℕ} {i key : ℕ} → MarkedKey s rec i flags key → MarkedKey s rec (i + 1) flags key
further k = record { index = k.index; below = omega (arith, k.below); marked = k.marked; same = k.same }

module _ {s : List ℕ} {rec count : ℕ} {flags : List ℕ} where
  module _ {keys : List ℕ} {n i long : ℕ} (f : Filled s rec count flags keys n i long) (less : i < count) where
    pub filled-marked : get_or flags i 0 ≡ 1 → n < length keys → (key : ℕ) → key ≡ key_at s (rec + 5 * i)
        → Filled s rec count flags (set keys n key) (n + 1) (i + 1) long
    filled-marked e room key is =
        let here : get_or (set keys n key) n 0 ≡ key = get_or-set_same keys n key 0 room in
        record {
          below = omega arith;
          same = simp length-set f.same;
          row = record {
            few = omega (arith, f.row.few);
            room = simp length-set (omega arith);
            each = below_more (λ k. MarkedKey s rec (i + 1) flags (get_or (set keys n key) k 0)) n
                (λ k b. rw (get_or-set_other keys n k key 0 (λ q. omega (arith, q))) (further (f.row.each k b)))
                (record { index = i; below = omega arith; marked = e; same = here ∙ is });
            all = below_more (λ k. get_or flags k 0 ≡ 1 → Among (set keys n key) (n + 1) (key_at s (rec + 5 * k))) i
                (λ k b m.
                let one = f.row.all k b m in
                (one.0, omega (arith, one.1), get_or-set_other keys n one.0 key 0 (λ q. omega (arith, q, one.1)) ∙ one.2))
                (λ m. (n, omega arith, here ∙ is));
          };
        }

    pub filled-passed : (get_or flags i 0 ≡ 1 → ⊥) → Filled s rec count flags keys n (i + 1) long
    filled-passed unmarked = record {
      below = omega arith;
      same = f.same;
      row = record {
        few = omega (arith, f.row.few);
        room = f.row.room;
        each = λ k b. further (f.row.each k b);
        all = below_more (λ k. get_or flags k 0 ≡ 1 → Among keys n (key_at s (rec + 5 * k))) i f.row.all (λ m. absurd (unmarked m));
      };
    }

-- The row without what comes after them.
pub keys-alone : {s : List ℕ} {rec count : ℕ} {flags keys : List ℕ} {n : ℕ} → KeyRow s rec count flags keys n
    → KeyRow s rec count flags (take n keys) (length (take n keys))
keys-alone {keys = keys} {n = n} row =
    let long : length (take n keys) ≡ n = length-take-le n keys row.room in
    rw long (record {
      few = row.few;
      room = omega (arith, long);
      each = λ i b. rw (get_or-take n keys i 0 b) (row.each i b);
      all = λ i b m. let one = row.all i b m in (one.0, one.1, get_or-take n keys one.0 0 one.1 ∙ one.2);
    })

-- ---- the flags of their last bytes

set-stays : (flags : List Bool) (i k : ℕ) → i < length flags → get_or flags k false ≡ true → get_or (set flags i true) k false ≡ true
set-stays flags i k inside is = grind (arith, common_steps)

module _ {keys : List ℕ} {n : ℕ} {ends : List Bool} (e : Ended keys n ends) where
  -- One key more.
  pub ended-more : (key : ℕ) → n < length keys → Ended (set keys n key) (n + 1) (set ends (key % 256) true)
  ended-more key room = record {
    wide = simp length-set e.wide;
    each = below_more (λ i. get_or (set ends (key % 256) true) (get_or (set keys n key) i 0 % 256) false ≡ true) n
        (λ i b. rw (get_or-set_other keys n i key 0 (λ q. omega (arith, q)))
        (set-stays ends (key % 256) (get_or keys i 0 % 256) (omega (arith, e.wide)) (e.each i b)))
        (rw (get_or-set_same keys n key 0 room) (get_or-set_same ends (key % 256) true false (omega (arith, e.wide))));
  }

  -- The row without what comes after them.
  pub ends-alone : n ≤ length keys → Ended (take n keys) (length (take n keys)) ends
  ends-alone room = record {
    wide = e.wide;
    each = λ i b. let inside : i < n = omega (arith, b, length-take-le n keys room) in rw (get_or-take n keys i 0 inside) (e.each i inside);
  }

  -- A key whose last byte has no flag is not in the row.
  pub end-apart : (key : ℕ) → get_or ends (key % 256) false ≡ false → AmongIs keys n key false
  end-apart key unmarked = λ i b same.
      let marked : get_or ends (key % 256) false ≡ true = ap (λ (k : ℕ). get_or ends (k % 256) false) (sym same) ∙ e.each i b in cc
