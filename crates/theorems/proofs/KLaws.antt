-- Which numbers are a k: four bytes hold one, and of those that they hold only 0 is none.
use Prim.Native.Nat.{ℕ, ◌<◌}
use native.Mathlib.Omega.{arith}
use mathlib.Core.Path.{◌≡◌}
use mathlib.Core.Bool.{true, false}
use lib.Dec.{leb, ltb}
use borrow.Author.Tests.{ltb-true, lt-ltb, le-leb}
use Rattle.definitions.specs.Words.Literals.{is_k}
use Rattle.theorems.proofs.Tools.{and-both}

pub k-held : (k : ℕ) → is_k k ≡ true → k < 4294967296
unfolding is_k
k-held k h = ltb-true k 4294967296 (and-both (leb 1 k) (ltb k 4294967296) h).1

pub is-k : (k : ℕ) → (k ≡ 0 → ⊥) → k < 4294967296 → is_k k ≡ true
unfolding is_k
is-k k some few = rw (le-leb 1 k (omega arith), lt-ltb k 4294967296 few)

pub zero-no-k : (k : ℕ) → k ≡ 0 → is_k k ≡ false
unfolding is_k
zero-no-k k e = rw e
