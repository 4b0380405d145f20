-- Tables filled entry by entry, and what they make of an expression.
use Prim.Native.Nat.{ℕ, ◌+◌, ◌*◌, ◌≤◌, ◌<◌}
use native.Mathlib.Omega.{arith}
use native.Mathlib.Nat.{not-suc-le-zero}
use mathlib.Core.Path.{◌≡◌, refl, ap, ◌∙◌, subst}
use mathlib.Core.List.{List}
use lib.ListN.{length, get_or, set}
use lib.Seq.{get_or-set_same, get_or-set_other}
use borrow.Author.Count.{below_more}
use Rattle.definitions.specs.Words.Basics.{big_endian}
use Rattle.definitions.specs.Words.Expression.{Expr, Record}
use Rattle.definitions.specs.Bytes.Encode.{expr_bytes, record_bytes}
use Rattle.definitions.specs.Bytes.Decode.{index_below}
use Rattle.definitions.specs.Words.References.{record_at, map_columns}
use Rattle.definitions.specs.Bytes.Good.{InRange}
use Rattle.theorems.proofs.ExchangeGood.{records-length}
use Rattle.expression.specs.Places.{short_at}
use Rattle.expression.proofs.Placed.{fits, front, next}
use Rattle.plan_writer.specs.Copies.{copy_of}
use Rattle.plan_writer.specs.Tables.{Table, Entry, Entries, ChildTable}
use Rattle.expression.proofs.Records.{short-is, entry_at}
use Rattle.plan_writer.proofs.Fields.{child-short}
use Rattle.plan_writer.proofs.Ranges.{map-agrees}

-- None yet, one entry more, and all of them.
pub table_none : {new : ℕ → ℕ} {to : List ℕ} → Table new 0 to
table_none = record { entry = λ k b. absurd (not-suc-le-zero b) }

pub table-whole : {new : ℕ → ℕ} {a b : ℕ} {to : List ℕ} → a ≡ b → Table new a to → Table new b to
table-whole {new} {a} {b} {to} e h = subst (λ (n : ℕ). Table new n to) e h

pub table_more : (new : ℕ → ℕ) (to : List ℕ) (i : ℕ) → i < length to → Table new i to → Table new (i + 1) (set to i (new i))
table_more new to i room h = record {
  entry = below_more (λ k. get_or (set to i (new i)) k 0 ≡ new k) i
      (λ k b. get_or-set_other to i k (new i) 0 (λ e. omega (arith, e)) ∙ h.entry k b) (get_or-set_same to i (new i) 0 room);
}

-- ---- child indexes

pub records-within : {s : List ℕ} {rec count : ℕ} {records : List Record} → Entries s rec count records → rec + 5 * count ≤ length s
records-within {records = records} h = omega (arith, fits h.bytes, records-length records, h.counted)

pub entry_of : {s : List ℕ} {rec count : ℕ} {records : List Record} → Entries s rec count records → (j : ℕ) → j < count
    → Entry s (rec + 5 * j) (record_at records j)
entry_of {s} {rec} {count} {records} h j b =
    record {
      bytes = entry_at records h.bytes j (omega (arith, h.counted)) (rec + 5 * j) refl;
      short = child-short records j
          h.in_range;
    }

pub entry-child : {s : List ℕ} {at : ℕ} {r : Record} → Entry s at r → short_at s (at + 1) ≡ r.child
unfolding record_bytes
entry-child {s} {at} {r} h = short-is (front (big_endian 2 r.child) (big_endian 2 r.tag) (next h.bytes (at + 1) refl)) h.short

pub child-table : {s : List ℕ} {rec : ℕ} (count : ℕ) {to : List ℕ} → Table (λ j. short_at s (rec + 5 * j + 1)) count to
    → ChildTable s rec count to
child-table count h records entries = record { entry = λ j b. h.entry j b ∙ entry-child (entry_of entries j b) }

-- ---- what a table makes of an expression

-- It renumbers as it says, below its bound.
pub table-copies : {new : ℕ → ℕ} {count : ℕ} {to : List ℕ} → Table new count to → (t : Expr) → InRange (index_below count) t
    → copy_of to t ≡ expr_bytes (map_columns new t)
table-copies {new} {count} {to} h t range = ap expr_bytes (map-agrees count (λ i. get_or to i 0) new h.entry t range)
