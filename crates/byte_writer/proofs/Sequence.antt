-- Laws of the writers' contracts: from the start or from w on, in a lent part, one after another, and by another view of the same bytes.
use Prim.Native.Nat.{ℕ, ◌+◌, ◌≤◌, ◌<◌}
use native.Mathlib.Omega.{arith}
use native.Mathlib.Nat.{zero-add}
use mathlib.Core.Path.{◌≡◌, refl, sym, ap, ◌∙◌}
use mathlib.Core.List.{List, ◌∷◌, ◌++◌, append_assoc}
use lib.ListN.{length, take, drop, set, length-append}
use lib.Seq.{sets, sets-eq, length-sets}
use Rattle.byte_writer.specs.Written.{Wrote, WroteAt}
use Rattle.byte_writer.specs.Writing.{Room, Puts, PutsAt, Both, joined}
use Rattle.byte_writer.proofs.Written.{store, chain, to_start, behind, together, behind-length, part-wrote}

-- ---- from the start, and in a lent part

module _ {A : Type 0} {At : A → Type 0} {bytes : A → List ℕ} where
  pub from_zero : {before after : List ℕ} {r : ℕ} → Puts At bytes before after r → PutsAt At bytes 0 before after r
  from_zero {before} p = record {
    wrote = λ a h.
        record {
          ends = omega (arith, p.size a h);
          out = p.wrote a h
              ∙ ap (λ (k : ℕ). bytes a ++ drop k before) (sym (zero-add (length (bytes a))));
        };
  }

  pub part_room : {w : ℕ} {out : List ℕ} → Room At bytes w out → Room At bytes 0 (behind w out)
  part_room {w} {out} p = record { it = p.it; stands = p.stands; room = omega (arith, p.room, behind-length w out) }

  pub part-put : (before part : List ℕ) (w : ℕ) {r : ℕ} → Puts At bytes (behind w before) part r
      → PutsAt At bytes w before (together w before part) (w + r)
  part-put before part w {r} p = record { wrote = λ a h. part-wrote (bytes a) before part w (p.wrote a h) r (p.size a h) }

  -- It ends within the buffer.
  pub ends-within : {w r : ℕ} {out after : List ℕ} → Room At bytes w out → PutsAt At bytes w out after r → r ≤ length out
  ends-within p put = omega (arith, p.room, (put.wrote p.it p.stands).ends)

-- ---- one after another

pub first-room : {A B : Type 0} {One : A → Type 0} {Two : B → Type 0} {f : A → List ℕ} (g : B → List ℕ) {w : ℕ} {out : List ℕ}
    → Room (Both One Two) (joined f g) w out → Room One f w out
first-room {f = f} g p =
    record { it = p.it.0; stands = p.stands.one; room = omega (arith, p.room, length-append (f p.it.0) (g p.it.1)) }

module _ {A B : Type 0} {One : A → Type 0} {Two : B → Type 0} {f : A → List ℕ} {g : B → List ℕ} where
  pub second-room : {w v : ℕ} {out middle : List ℕ} → Room (Both One Two) (joined f g) w out → PutsAt One f w out middle v
      → length middle ≡ length out
      → Room Two g v middle
  second-room p put e =
      let wrote = put.wrote p.it.0 p.stands.one in
      record {
        it = p.it.1;
        stands = p.stands.two;
        room = omega
            (arith, p.room, length-append (f p.it.0) (g p.it.1), wrote.ends);
      }

  pub both-put : {w v r : ℕ} {before middle after : List ℕ} → w ≤ length before → PutsAt One f w before middle v
      → PutsAt Two g v middle after r
      → PutsAt (Both One Two) (joined f g) w before after r
  both-put room first second = record { wrote = λ x h. chain room (first.wrote x.0 h.one) (second.wrote x.1 h.two) }

-- ---- after bytes that are known

-- Stores one after the other.
pub stores : (h before : List ℕ) (w : ℕ) → w + length h ≤ length before → WroteAt w h before (sets before w h) (w + length h)
stores h before w room = record { ends = refl; out = sets-eq h before w room ∙ append_assoc (take w before) h (drop (w + length h) before) }

-- One byte stored at the start, the rest after it.
pub byte-then : (b : ℕ) {r : ℕ} {x before after : List ℕ} → 0 < length before → WroteAt 1 x (set before 0 b) after r
    → WroteAt 0 (b ∷ x) before after r
byte-then b {before = before} room after = chain (omega arith) (store before 0 b room) after

-- The bytes x are a head and then those of something that stands at its places.
pub record Headed {B : Type 0} (h : List ℕ) (At : B → Type 0) (bytes : B → List ℕ) (x : List ℕ) : Type 0 where
  pub it : B
  pub stands : At it
  pub is : x ≡ h ++ bytes it

module _ {A B : Type 0} {At : A → Type 0} {bytes : A → List ℕ} {h : List ℕ} {Rest : B → Type 0} {rest : B → List ℕ}
    (view : (a : A) → At a → Headed h Rest rest (bytes a)) where
  headed-length : {out : List ℕ} (p : Room At bytes 0 out) → length h + length (rest (view p.it p.stands).it) ≤ length out
  headed-length p =
      let v = view p.it p.stands in
      omega (arith, p.room, ap length v.is, length-append h (rest v.it))

  pub head-room : {out : List ℕ} → Room At bytes 0 out → length h ≤ length out
  head-room p = omega (arith, headed-length p)

  pub rest-room : {w : ℕ} {before middle : List ℕ} → Room At bytes 0 before → WroteAt 0 h before middle w → length middle ≡ length before
      → Room Rest rest w middle
  rest-room p first e =
      let v = view p.it p.stands in
      record { it = v.it; stands = v.stands; room = omega (arith, headed-length p, first.ends) }

  pub headed-put : {w r : ℕ} {before middle after : List ℕ} → WroteAt 0 h before middle w → PutsAt Rest rest w middle after r
      → Puts At bytes before after r
  headed-put {w} {r} {before} {middle} {after} first second =
      let both : (a : A) → At a → (r ≡ length (bytes a)) × Wrote (bytes a) before after = λ a stands.
      let v = view a stands in
      rw v.is (to_start (chain (omega arith) first (second.wrote v.it v.stands))) in
      record { size = λ a s. (both a s).0; wrote = λ a s. (both a s).1 }

  -- The head stored byte by byte.
  pub stored-room : {before : List ℕ} → Room At bytes 0 before → Room Rest rest (0 + length h) (sets before 0 h)
  stored-room {before} p = rest-room p (stores h before 0 (omega (arith, head-room p))) (length-sets before 0 h)

  pub stored-put : {r : ℕ} {before after : List ℕ} → Room At bytes 0 before → PutsAt Rest rest (0 + length h) (sets before 0 h) after r
      → Puts At bytes before after r
  stored-put {r} {before} p second = headed-put (stores h before 0 (omega (arith, head-room p))) second
