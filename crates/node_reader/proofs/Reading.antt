-- What a `?` returns, a test of two bounds, and a byte at a place.
use Prim.Native.Nat.{ℕ, ◌+◌, ◌≤◌, ◌<◌}
use native.Mathlib.Numerals.{add-one}
use mathlib.Core.Path.{◌≡◌, ap, ◌∙◌}
use mathlib.Core.Bool.{true, false, ◌&&◌}
use mathlib.Core.List.{List}
use lib.ListN.{length, drop, get_or}
use lib.Seq.{drop-cons}
use lib.Dec.{leb}
use borrow.Author.Tests.{le-leb, lt-leb}
use Rattle.definitions.specs.Bytes.Readers.{read, byte}
use Rattle.std.proofs.Common.{◌⊎◌, inl, inr}
use Rattle.std.specs.Prelude.{Result, Err}
use Rattle.std.specs.Result.{IsErr, IsErrAnd}
use Rattle.std.proofs.lemmas.Result.{err_from_is_err_and}
use Rattle.terms.specs.declared.refusals.Refusal.{Refusal}

-- What a `?` returns is the refusal that it met.
pub kept : {A : Type 0} {r : Result A Refusal} {why : Refusal} → IsErr r × IsErrAnd r (λ e. e ≡ why) → r ≡ Err why
kept {r = r} h = let p = err_from_is_err_and r h.1 in p.1 ∙ ap Err p.2

-- A test of two bounds.
module _ (least b most : ℕ) where
  pub within : least ≤ b → b ≤ most → leb least b && leb b most ≡ true
  within low high = rw (le-leb least b low, le-leb b most high)

  pub outside : (b < least) ⊎ (least ≤ b × most < b) → leb least b && leb b most ≡ false
  outside (inl low) = rw (lt-leb least b low)
  outside (inr high) = rw (le-leb least b high.0, lt-leb b most high.1)

-- The byte at a place.
pub there : (s : List ℕ) (at b n : ℕ) → at < length s → b ≡ get_or s at 0 → byte n (drop at s) ≡ read b n (drop (at + 1) s)
there s at b n h e = rw (add-one, drop-cons s at 0 h, e)
