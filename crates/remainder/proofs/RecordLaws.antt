-- Which records stay: two records compared, one among the marked ones, all that stay in order.
use Rattle.std.specs.Prelude.{if◌then◌else◌}
use Prim.Native.Nat.{ℕ, ◌+◌, ◌*◌, ◌≤◌, ◌<◌}
use native.Mathlib.Omega.{arith}
use native.Mathlib.Numerals.{add-one}
use mathlib.Core.Path.{◌≡◌, refl, sym, ap, ap₂, ◌∙◌, subst}
use mathlib.Core.Bool.{Bool, true, false, ◌&&◌, ◌||◌}
use mathlib.Core.List.{List, [], ◌∷◌, ◌++◌, append-nil}
use lib.ListN.{length, get_or, take, drop, set, length-append, length-set, take-append-drop}
use lib.Seq.{take-suc, take_all}
use lib.Dec.{eqb}
use borrow.Author.Tests.{eqb-true, eq-eqb, ne_eqb}
use Rattle.definitions.specs.Words.Basics.{any, keep}
use Rattle.definitions.specs.Words.Expression.{Side, left, right, no_side, Record}
use Rattle.definitions.specs.Bytes.Encode.{side_number, record_bytes, records_bytes}
use Rattle.definitions.specs.Words.References.{record_at, same_side}
use Rattle.definitions.specs.Filter.Extract.{same_column, new_index}
use Rattle.definitions.specs.Bytes.Good.{All}
use Rattle.theorems.proofs.ExchangeGood.{records-length}
use Rattle.theorems.proofs.ExtractGood.{same-column-refl}
use Rattle.theorems.proofs.Pruned.{any_found}
use Rattle.theorems.proofs.Merged.{records-both}
use Rattle.expression.specs.Places.{short_at}
use Rattle.expression.proofs.Placed as placed
use Rattle.byte_writer.specs.Written.{WroteAt}
use Rattle.plan_writer.specs.Predicates.{frame_head}
use Rattle.plan_writer.specs.Tables.{Entry, Table}
use Rattle.remainder.specs.Keys.{key_at, AmongIs, KeyRow}
use Rattle.remainder.specs.Records.{stays, MarkedBy, OfMarked, Referenced, OneFits, OneKept, kept_all, RecordsKept, RecordsPut, AllFit, AllKept}
use Rattle.theorems.proofs.ExchangeGood.{record-length}
use Rattle.byte_writer.proofs.Written.{behind, together, chain, copied-wrote, part-wrote, nothing-wrote, to_start, under}
use Rattle.byte_writer.proofs.NumberLaws.{number-length}
use Rattle.plan_writer.proofs.TableLaws.{entry_of, entry-child, table_none, table_more, table-whole}

-- ---- two records

same-side : (x y : Side) → same_side x y ≡ eqb (side_number x) (side_number y)
unfolding same_side side_number
same-side left left = refl
same-side left right = refl
same-side left no_side = refl
same-side right left = refl
same-side right right = refl
same-side right no_side = refl
same-side no_side left = refl
same-side no_side right = refl
same-side no_side no_side = refl

side-is : {s : List ℕ} {at : ℕ} {r : Record} → Entry s at r → get_or s at 0 ≡ side_number r.side
unfolding record_bytes
side-is h = placed.first h.bytes

same-by-bytes : {s : List ℕ} {a b : ℕ} {x y : Record} → Entry s a x → Entry s b y
    → same_column x y ≡ (eqb (get_or s a 0) (get_or s b 0) && eqb (short_at s (a + 1)) (short_at s (b + 1)))
unfolding same_column
same-by-bytes {s} {a} {b} {x} {y} h k =
    ap₂ ◌&&◌ (same-side x.side y.side ∙ sym (ap₂ eqb (side-is h) (side-is k))) (sym (ap₂ eqb (entry-child h) (entry-child k)))

and-apart : (a b c d : ℕ) → (a ≡ b → c ≡ d → ⊥) → (eqb a b && eqb c d) ≡ false
and-apart a b c d n = by_bool (eqb a b) refl where
  by_bool : (t : Bool) → eqb a b ≡ t → (eqb a b && eqb c d) ≡ false
  by_bool true e = ap₂ ◌&&◌ e (ne_eqb c d (n (eqb-true a b e)))
  by_bool false e = ap (λ (t : Bool). t && eqb c d) e

module _ {s : List ℕ} {a b : ℕ} {x y : Record} (h : Entry s a x) (k : Entry s b y) where
  keys-same : key_at s a ≡ key_at s b → same_column x y ≡ true
  keys-same e =
      let sides : get_or s a 0 ≡ get_or s b 0 = omega (arith, e, entry-child h, entry-child k, h.short, k.short) in
      same-by-bytes h k
      ∙ ap₂ ◌&&◌ (eq-eqb (get_or s a 0) (get_or s b 0) sides)
      (eq-eqb (short_at s (a + 1)) (short_at s (b + 1)) (omega (arith, e, sides)))

  keys-apart : (key_at s a ≡ key_at s b → ⊥) → same_column x y ≡ false
  keys-apart n =
      same-by-bytes h k ∙ and-apart (get_or s a 0) (get_or s b 0) (short_at s (a + 1)) (short_at s (b + 1)) (λ e f. n (omega (arith, e, f)))

-- ---- one among the marked ones

any_none : (test : ℕ → Bool) (P : ℕ → Type 0) → ((c : ℕ) → P c → test c ≡ false) → (cs : List ℕ) → All P cs → any test cs ≡ false
unfolding any
any_none test P f [] h = refl
any_none test P f (c ∷ cs) h = ap₂ ◌||◌ (f c h.0) (any_none test P f cs h.1)

module _ {s : List ℕ} {rec count : ℕ} {flags : List ℕ} {records : List Record} {columns : List ℕ}
    (m : MarkedBy s rec count flags records columns) (j : ℕ) (below : j < count) where
  test : ℕ → Bool
  test index = same_column (record_at records index) (record_at records j)

  referenced-here : (i : ℕ) → i < count → get_or flags i 0 ≡ 1 → test i ≡ true → true ≡ stays records columns (record_at records j)
  unfolding test
  referenced-here i b e same = sym (any_found test i columns (m.flagged.only i b e) same)

  -- Its own column is marked.
  pub marked-stays : get_or flags j 0 ≡ 1 → true ≡ stays records columns (record_at records j)
  unfolding test
  marked-stays e = referenced-here j below e (same-column-refl (record_at records j))

  -- Its key is among theirs, or not.
  pub among-stays : {keys : List ℕ} {n : ℕ} → KeyRow s rec count flags keys n → (answer : Bool)
      → AmongIs keys n (key_at s (rec + 5 * j)) answer
      → answer ≡ stays records columns (record_at records j)
  unfolding test
  among-stays row true found =
      let one = row.each found.0 found.1 in
      referenced-here one.index one.below one.marked
      (keys-same (entry_of m.entries one.index one.below) (entry_of m.entries j below) (sym one.same ∙ found.2))
  among-stays row false none = sym (any_none test (λ index. (index < count) × (get_or flags index 0 ≡ 1))
      (λ index h. let one = row.all index h.0 h.1 in
      keys-apart (entry_of m.entries index h.0) (entry_of m.entries j below) (λ e. none one.0 one.1 (one.2 ∙ e)))
      columns m.flagged.held)

-- ---- all that stay, in order

if-cons : (b : Bool) (x : Record) {u : List Record} (v w : List Record) → u ≡ v ++ w
    → (if b then x ∷ u else u) ≡ (if b then x ∷ v else v) ++ w
if-cons true x v w e = ap (λ (l : List Record). x ∷ l) e
if-cons false x v w e = e

keep_append : (test : Record → Bool) (xs ys : List Record) → keep test (xs ++ ys) ≡ keep test xs ++ keep test ys
unfolding keep
keep_append test [] ys = refl
keep_append test (x ∷ xs) ys = if-cons (test x) x (keep test xs) (keep test ys) (keep_append test xs ys)

-- Those among the first j and one more.
kept_more : (test : Record → Bool) (records : List Record) (j : ℕ) → j < length records
    → records_bytes (keep test (take (j + 1) records))
    ≡ records_bytes (keep test (take j records)) ++ records_bytes (keep test (record_at records j ∷ []))
unfolding record_at
kept_more test records j b =
    ap (λ (n : ℕ). records_bytes (keep test (take n records))) (add-one j)
    ∙ ap (λ (l : List Record). records_bytes (keep test l)) (take-suc records j (record { side = no_side; child = 0; tag = 0 }) b)
    ∙ ap records_bytes (keep_append test (take j records) (record_at records j ∷ []))
    ∙ records-both (keep test (take j records)) (keep test (record_at records j ∷ []))

kept-among : (test : Record → Bool) (records : List Record) (n : ℕ)
    → length (records_bytes (keep test (take n records))) ≤ length (records_bytes (keep test records))
kept-among test records n = omega (
  arith,
  simp length-append at (ap length (records-both (keep test (take n records)) (keep test (drop n records)))),
  ap (λ (l : List Record). length (records_bytes (keep test l))) (take-append-drop n records),
  ap (λ (l : List Record). length (records_bytes l)) (keep_append test (take n records) (drop n records)),
)

-- A single one.
yes-kept : (test : Record → Bool) (r : Record) → test r ≡ true → records_bytes (keep test (r ∷ [])) ≡ record_bytes r
unfolding keep records_bytes
yes-kept test r e = rw e (append-nil (record_bytes r))

not-kept : (test : Record → Bool) (r : Record) → test r ≡ false → records_bytes (keep test (r ∷ [])) ≡ []
unfolding keep records_bytes
not-kept test r e = rw e

one-most : (test : Record → Bool) (r : Record) (b : Bool) → test r ≡ b → length (records_bytes (keep test (r ∷ []))) ≤ 5
one-most test r true e = omega (arith, ap length (yes-kept test r e), record-length r)
one-most test r false e = omega (arith, ap length (not-kept test r e))

module _ {s : List ℕ} {rec count : ℕ} {flags : List ℕ} {j kept : ℕ} {before : List ℕ} (p : OneFits s rec count flags j kept before) where
  pub one-within : rec + 5 * j + 5 ≤ length s
  one-within = omega (arith, placed.fits (entry_of p.is.entries j p.below).bytes, record-length (record_at p.records j))

  pub one-room : Referenced s rec count flags j true → 5 * kept + 5 ≤ length before
  one-room is =
      let r : Record = record_at p.records j in
      omega (
        arith,
        p.room,
        ap length (yes-kept (stays p.records p.columns) r (sym (is p.records p.columns p.is))),
        record-length r,
      )

module _ {s : List ℕ} {rec count : ℕ} {flags : List ℕ} (j kept : ℕ) (before : List ℕ) where
  pub one_kept : (part : List ℕ) → part ≡ take 5 (drop (rec + 5 * j) s) ++ drop 5 (behind (5 * kept) before) → j < count
      → Referenced s rec count flags j true
      → OneKept s rec count flags j kept before (together (5 * kept) before part) (kept + 1)
  one_kept part copied below is records columns m =
      let r : Record = record_at records j in
      let wrote : WroteAt (5 * kept) (record_bytes r) before (together (5 * kept) before part) (5 * kept + 5) =
      part-wrote (record_bytes r) before part (5 * kept)
      (copied-wrote (behind (5 * kept) before) 5 (entry_of m.entries j below).bytes (sym (record-length r)) copied) 5
      (sym (record-length r)) in
      rw (yes-kept (stays records columns) r (sym (is records columns m))) (record { ends = omega (arith, wrote.ends); out = wrote.out })

  pub none_kept : Referenced s rec count flags j false → OneKept s rec count flags j kept before before kept
  none_kept is records columns m =
      rw (not-kept (stays records columns) (record_at records j) (sym (is records columns m))) (nothing-wrote before (5 * kept))

-- ---- the loop over the records

-- The first j records are done, and `kept` of them stay.
pub record Keeping (s : List ℕ) (rec count : ℕ) (flags : List ℕ) (before : List ℕ) (room : ℕ) (out to : List ℕ)
    (kept j : ℕ) : Type 0 where
  pub below : j ≤ count
  pub fewer : kept ≤ j
  pub long : length out ≡ length before
  pub wide : length to ≡ room
  pub done : OfMarked s rec count flags
      (λ records columns. AllKept (records_bytes (keep (stays records columns) (take j records))) before out to j
      records columns (5 * kept))

module _ {s : List ℕ} {rec count : ℕ} {flags : List ℕ} {before : List ℕ} where
  pub keeping_none : (to : List ℕ) → Keeping s rec count flags before (length to) before to 0 0
  unfolding keep records_bytes
  keeping_none to = record {
    below = omega arith;
    fewer = omega arith;
    long = refl;
    wide = refl;
    done = λ records columns m. record { out = nothing-wrote before 0; table = table_none };
  }

  module _ {room : ℕ} {out to : List ℕ} {kept j : ℕ} (k : Keeping s rec count flags before room out to kept j) (less : j < count) where
    -- How many there are is the next new index.
    next-index : (records : List Record) (columns : List ℕ) → MarkedBy s rec count flags records columns
        → kept ≡ new_index (stays records columns) records j
    unfolding new_index
    next-index records columns m =
        omega (arith, (k.done records columns m).out.ends, records-length (keep (stays records columns) (take j records)))

    pub next_fits : AllFit s rec count flags 0 before → OneFits s rec count flags j kept out
    next_fits p = record {
      records = p.records;
      columns = p.columns;
      is = p.is;
      below = less;
      room = omega (
        arith,
        p.room,
        k.long,
        (k.done p.records p.columns p.is).out.ends,
        simp length-append at
            (ap length (kept_more (stays p.records p.columns) p.records j (omega (arith, p.is.entries.counted)))),
        kept-among (stays p.records p.columns) p.records (j + 1),
      );
    }

    pub keeping-more : AllFit s rec count flags 0 before → (after : List ℕ) → length after ≡ length out → j < length to → (now : ℕ)
        → OneKept s rec count flags j kept out after now → Keeping s rec count flags before room after (set to j kept) now (j + 1)
    keeping-more p after same b now one = record {
      below = omega arith;
      fewer = omega (
        arith,
        k.fewer,
        (one p.records p.columns p.is).ends,
        one-most (stays p.records p.columns) (record_at p.records j)
            (stays p.records p.columns (record_at p.records j)) refl,
      );
      long = same ∙ k.long;
      wide = simp length-set k.wide;
      done = λ records columns m.
          let was = k.done records columns m in
          record {
            out =
                rw (kept_more (stays records columns) records j (omega (arith, m.entries.counted)))
                (chain (omega arith) was.out (one records columns m));
            table =
                subst (λ (n : ℕ). Table (new_index (stays records columns) records) (j + 1) (set to j n))
                (sym (next-index records columns m))
                (table_more (new_index (stays records columns) records) to j b was.table);
          };
    }

  pub keeping_all : {room : ℕ} {out to : List ℕ} {kept j : ℕ} → Keeping s rec count flags before room out to kept j → j ≡ count
      → RecordsKept s rec count flags before out to kept
  keeping_all {out = out} {to = to} {kept = kept} {j = j} k e records columns m =
      let was = k.done records columns m in
      let whole : take j records ≡ records = take_all j records (omega (arith, m.entries.counted)) in
      record {
        out = subst (λ (l : List Record). WroteAt 0 (records_bytes (keep (stays records columns) l)) before out (5 * kept)) whole was.out;
        table = table-whole e was.table;
      }

-- ---- with the first byte and the count

pub columns-put : {s : List ℕ} {rec count : ℕ} {flags : List ℕ} (before part : List ℕ) {to after : List ℕ} (kept : ℕ) {r : ℕ}
    → 3 ≤ length before
    → RecordsKept s rec count flags (behind 3 before) part to kept
    → WroteAt 0 (frame_head kept) (together 3 before part) after r
    → RecordsPut s rec count flags before after to (3 + 5 * kept)
unfolding frame_head
columns-put before part {to} {after} kept {r} room kept-is head records columns m =
    let all = kept-is records columns m in
    let x : List ℕ = records_bytes (kept_all records columns) in
    let many : kept ≡ length (kept_all records columns) = omega (arith, all.out.ends, records-length (kept_all records columns)) in
    let whole : List ℕ = together 3 before part in
    let three : r ≡ 3 = omega (arith, head.ends, number-length 2 kept) in
    let later : WroteAt 3 x before whole (3 + 5 * kept) =
    part-wrote x before part 3 (to_start all.out).1 (5 * kept) (to_start all.out).0 in
    record { out = rw (← many) (under room later (subst (WroteAt 0 (frame_head kept) whole after) three head)); table = all.table }
