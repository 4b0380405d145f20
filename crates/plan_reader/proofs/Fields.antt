-- Numbers that were read are in their ranges, and what is stored for them.
use Prim.Native.Nat.{ℕ, zero, suc, ◌+◌, ◌≤◌, ◌<◌}
use native.Mathlib.Omega.{arith}
use mathlib.Core.Path.{◌≡◌, refl, ap}
use mathlib.Core.List.{List}
use lib.ListN.{length, drop, length-drop}
use lib.Dec.{eqb}
use Rattle.definitions.specs.Bytes.Readers.{byte, byte_up_to, number}
use Rattle.definitions.specs.Bytes.Decode.{Columns, k_field}
use Rattle.definitions.specs.Bytes.Good.{AllBytes, nodes}
use Rattle.definitions.specs.Words.Expression.{Expr}
use Rattle.theorems.proofs.KLaws.{k-held}
use Rattle.theorems.proofs.Inverse.{byte-back, byte-up-to-back, number-back}
use Rattle.theorems.proofs.InversePlan.{k-back}
use Rattle.sedona_query_planner.specs.Predicates.{flag, ties_numbered}
use Rattle.filter_tree.proofs.NodeBytes.{nodes-by-bytes}
use Rattle.node_reader.specs.Fields.{ReadsAt}
use Rattle.node_reader.specs.Places.{ExprAt}
use Rattle.plan_reader.specs.Predicates.{CountedUpTo}
use Rattle.node_reader.proofs.Standing.{bytes-from}

pub up_to : (s : List ℕ) (at next value most : ℕ) → ReadsAt s at next value (byte_up_to most) → value ≤ most
up_to s at next value most reads = (byte-up-to-back most 0 0 value (drop at s) (drop next s) (reads 0)).1

pub four-bytes : (s : List ℕ) (at next value : ℕ) → AllBytes s → ReadsAt s at next value (number 4) → value < 4294967296
four-bytes s at next value bytes reads = (number-back 4 0 0 value (drop at s) (drop next s) (bytes-from at s bytes) (reads 0)).1

pub k-below : (s : List ℕ) (at next value : ℕ) → AllBytes s → ReadsAt s at next value k_field → value < 4294967296
k-below s at next value bytes reads =
    k-held value (k-back 0 0 value (drop at s) (drop next s) (bytes-from at s bytes) (reads 0)).1

-- A flag that is 0 or 1, and ties of 0 to 2, are what is stored for them.
pub flag-stored : (n : ℕ) → n ≤ 1 → flag (eqb n 1) ≡ n
flag-stored zero h = refl
flag-stored (suc zero) h = refl
flag-stored (suc (suc n)) h = absurd (omega arith)

pub ties-stored : (n : ℕ) → n ≤ 2 → ties_numbered n ≡ n
ties-stored zero h = refl
ties-stored (suc zero) h = refl
ties-stored (suc (suc zero)) h = refl
ties-stored (suc (suc (suc n))) h = absurd (omega arith)

-- An expression's nodes are at most a third of its bytes.
pub counted-on : {c : Columns} {s : List ℕ} {at count end total : ℕ} {e : Expr} → CountedUpTo at count → ExprAt c s at end e
    → total ≡ count + nodes e → total ≤ 1024 → CountedUpTo end total
counted-on {c} {e = e} before stands counted few =
    (omega (arith, before.0, counted, nodes-by-bytes c e stands.readable.in_range, stands.bytes.ends), few)

-- A byte more.
pub byte-after : (s : List ℕ) (at next kind : ℕ) → at ≤ length s → next ≤ length s → ReadsAt s at next kind byte → at ≤ next
byte-after s at next kind low high reads =
    let one = byte-back 0 0 kind (drop at s) (drop next s) (reads 0) in
    omega (arith, low, high, ap length one.0, length-drop at s, length-drop next s)
