-- Collecting: what is known after the first characters of a piece, none of them a line feed.
use Rattle.std.specs.Prelude.{if◌then◌else◌}
use Prim.Native.Nat.{ℕ, zero, suc, ◌+◌, ◌≤◌, ◌<◌}
use native.Mathlib.Omega.{arith}
use native.Mathlib.Numerals.{add-one}
use native.Mathlib.Nat.{add-zero}
use mathlib.Core.Path.{◌≡◌, refl, sym, ap, ◌∙◌}
use mathlib.Core.Bool.{Bool, true, false}
use mathlib.Core.List.{List, [], ◌∷◌, ◌++◌, append_assoc, append-nil}
use lib.ListN.{length, take, drop, get_or, set, length-append, length-set, drop_of_length-le}
use lib.Seq.{drop-cons, take-suc, take-suc-set, length-take-le, set_out, sets}
use lib.Dec.{ltb}
use borrow.Author.Tests.{ne_eqb, ltb-true, ltb-false}
use Rattle.lines.specs.Pieces.{first_line, has_feed}
use Rattle.lines.specs.Collecting.{Begun, Joined, count_after, CollectedIs}

-- ---- one character

pub join_one : {buffer line : List ℕ} {count : ℕ} (c : ℕ) → Begun buffer count line → count < length buffer
    → Begun (set buffer count c) (count + 1) (line ++ (c ∷ []))
join_one {buffer} {line} {count} c b h = record {
  held = λ e. rw (add-one, take-suc-set buffer count c) (ap (λ (l : List ℕ). l ++ (c ∷ [])) (b.held (omega arith)));
  long = λ e. absurd (omega (arith, length-set buffer count c));
}

-- A line that fills the buffer or is longer is longer than it with one more.
fills : {buffer line : List ℕ} {count : ℕ} (over : Bool) → ltb (length buffer) count ≡ over → Begun buffer count line
    → length buffer ≤ count → length buffer ≤ length line
fills {buffer} {line} {count} true e b h = omega (arith, b.long (ltb-true (length buffer) count e))
fills {buffer} {line} {count} false e b h =
    let below : count ≤ length buffer = ltb-false (length buffer) count e in
    omega (arith, length-take-le count buffer below, ap length (b.held below))

pub join-past : {buffer line : List ℕ} {count : ℕ} (c : ℕ) → Begun buffer count line → length buffer ≤ count
    → Begun buffer (length buffer + 1) (line ++ (c ∷ []))
join-past {buffer} {line} {count} c b h = record {
  held = λ e. absurd (omega arith);
  long = λ e. simp length-append (omega (arith, fills (ltb (length buffer) count) refl b h));
}

-- One more is counted, or the line is longer than the buffer.
count-one : (size count k : ℕ) → count_after size count k < size → count_after size count (k + 1) ≡ count_after size count k + 1
count-one size count zero h = omega arith
count-one size count (suc k) h = rw (add-one (suc k)) (omega arith)

count_past : (size count k : ℕ) → size ≤ count_after size count k → count_after size count (k + 1) ≡ size + 1
count_past size count zero h = omega arith
count_past size count (suc k) h = rw (add-one (suc k)) (omega arith)

-- Where there is room the next place is the counted one; where there is none it is outside the buffer.
place-one : (size count k : ℕ) → count_after size count k < size → count_after size count k ≡ count + k
place-one size count zero h = omega arith
place-one size count (suc k) h = omega arith

place-past : (size count k : ℕ) → size ≤ count_after size count k → size ≤ count + k
place-past size count zero h = omega arith
place-past size count (suc k) h = omega arith

sets_more : (l : List ℕ) (i : ℕ) (vs : List ℕ) (v : ℕ) → sets l i (vs ++ (v ∷ [])) ≡ set (sets l i vs) (i + length vs) v
sets_more l i [] v = rw add-zero refl
sets_more l i (w ∷ vs) v =
    let place : suc i + length vs ≡ i + suc (length vs) = omega arith in
    sets_more (set l i w) (suc i) vs v ∙ ap (λ (k : ℕ). set (sets (set l i w) (suc i) vs) k v) place

-- ---- so far

pub record Collecting (piece before : List ℕ) (count at : ℕ) (after : List ℕ) (counted : ℕ) : Type 0 where
  pub within : at ≤ length piece
  pub line : first_line piece ≡ take at piece ++ first_line (drop at piece)
  pub feed : has_feed piece ≡ has_feed (drop at piece)
  pub joined : Joined before count (take at piece) after counted
  pub counts : counted ≡ count_after (length before) count at
  pub buffer : after ≡ sets before count (take at piece)
  pub kept : length after ≡ length before

pub no-feed : (c : ℕ) (s : List ℕ) → (c ≡ 10 → ⊥) → (first_line (c ∷ s) ≡ c ∷ first_line s) × (has_feed (c ∷ s) ≡ has_feed s)
unfolding first_line has_feed
no-feed c s h = (simp (ne_eqb c 10 h), simp (ne_eqb c 10 h))

-- One character more, however it joined the line.
one_more : {piece before after next : List ℕ} {count at counted total : ℕ} → Collecting piece before count at after counted
    → at < length piece
    → (get_or piece at 0 ≡ 10 → ⊥) → ((line : List ℕ) → Begun after counted line → Begun next total (line ++ (get_or piece at 0 ∷ [])))
    → total ≡ count_after (length before) count (at + 1) → next ≡ set after (count + at) (get_or piece at 0)
    → Collecting piece before count (at + 1) next total
one_more {piece} {before} {after} {next} {count} {at} {counted} {total} s h c joins size stored =
    let here : drop at piece ≡ get_or piece at 0 ∷ drop (at + 1) piece = rw (add-one at) (drop-cons piece at 0 h) in
    let front : take (at + 1) piece ≡ take at piece ++ (get_or piece at 0 ∷ []) = rw (add-one at) (take-suc piece at 0 h) in
    let passed = no-feed (get_or piece at 0) (drop (at + 1) piece) c in
    record {
      within = omega arith;
      line =
          s.line ∙ ap (λ (l : List ℕ). take at piece ++ l) (ap first_line here ∙ passed.0)
          ∙ sym (append_assoc (take at piece) (get_or piece at 0 ∷ []) (first_line (drop (at + 1) piece)))
          ∙ ap (λ (l : List ℕ). l ++ first_line (drop (at + 1) piece)) (sym front);
      feed = s.feed ∙ ap has_feed here ∙ passed.1;
      joined = λ line b. rw (front, ← append_assoc) (joins (line ++ take at piece) (s.joined line b));
      counts = size;
      buffer =
          stored ∙ ap (λ (l : List ℕ). set l (count + at) (get_or piece at 0)) s.buffer
          ∙ sym (rw front (sets_more before count (take at piece) (get_or piece at 0) ∙ rw (length-take-le at piece s.within) refl));
      kept = ap length stored ∙ length-set after (count + at) (get_or piece at 0) ∙ s.kept;
    }

pub collect-one : {piece before after : List ℕ} {count at counted : ℕ} → Collecting piece before count at after counted → at < length piece
    → (get_or piece at 0 ≡ 10 → ⊥) → counted < length after
    → Collecting piece before count (at + 1) (set after counted (get_or piece at 0)) (counted + 1)
collect-one {piece} {before} {after} {count} {at} {counted} s h c room =
    let below : count_after (length before) count at < length before = rw (← s.counts, ← s.kept) room in
    one_more s h c (λ line b. join_one (get_or piece at 0) b room)
    (ap (λ (k : ℕ). k + 1) s.counts ∙ sym (count-one (length before) count at below))
    (ap (λ (k : ℕ). set after k (get_or piece at 0)) (s.counts ∙ place-one (length before) count at below))

pub collect-past : {piece before after : List ℕ} {count at counted : ℕ} → Collecting piece before count at after counted → at < length piece
    → (get_or piece at 0 ≡ 10 → ⊥) → length after ≤ counted → Collecting piece before count (at + 1) after (length after + 1)
collect-past {piece} {before} {after} {count} {at} {counted} s h c full =
    let past : length before ≤ count_after (length before) count at = rw (← s.counts, ← s.kept) full in
    one_more s h c (λ line b. join-past (get_or piece at 0) b full)
    (ap (λ (k : ℕ). k + 1) s.kept ∙ sym (count_past (length before) count at past))
    (sym (set_out after (count + at) (get_or piece at 0) (rw s.kept (place-past (length before) count at past))))

-- ---- the answers

-- Nothing of the line is left.
stopped : {piece before after : List ℕ} {count at counted : ℕ} (taken : ℕ) (feed : Bool) → Collecting piece before count at after counted
    → first_line (drop at piece) ≡ [] → has_feed (drop at piece) ≡ feed → taken ≡ at + (if feed then 1 else 0)
    → CollectedIs piece before count after (record { taken = taken; count = counted; ended = feed })
stopped {piece} {before} {after} {count} {at} {counted} taken feed s none is size =
    let line : first_line piece ≡ take at piece = s.line ∙ ap (λ (l : List ℕ). take at piece ++ l) none ∙ append-nil (take at piece) in
    let found : has_feed piece ≡ feed = s.feed ∙ is in
    record {
      taken = rw (line, found, length-take-le at piece s.within) size;
      ended = sym found;
      counts = rw (line, length-take-le at piece s.within) s.counts;
      buffer = rw line s.buffer;
      line = rw line s.joined;
    }

pub at-feed : {piece before after : List ℕ} {count at counted : ℕ} → Collecting piece before count at after counted → at < length piece
    → get_or piece at 0 ≡ 10
    → CollectedIs piece before count after (record { taken = at + 1; count = counted; ended = true })
unfolding first_line has_feed
at-feed {piece} {before} {after} {count} {at} s h c =
    let here : drop at piece ≡ 10 ∷ drop (suc at) piece = rw (← c) (drop-cons piece at 0 h) in
    stopped (at + 1) true s (ap first_line here) (ap has_feed here) refl

pub at-end : {piece before after : List ℕ} {count at counted : ℕ} → Collecting piece before count at after counted → length piece ≤ at
    → CollectedIs piece before count after (record { taken = length piece; count = counted; ended = false })
unfolding first_line has_feed
at-end {piece} {before} {after} {count} {at} s h =
    let here : drop at piece ≡ [] = drop_of_length-le piece {i = at} h in
    stopped (length piece) false s (ap first_line here) (ap has_feed here) (omega (arith, s.within))
