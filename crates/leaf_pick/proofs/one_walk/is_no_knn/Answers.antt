-- `is_no_knn`: only a function whose name has six bytes asks for KNN.
use native.Mathlib.Omega.{arith}
use Prim.Native.Nat.{ℕ}
use mathlib.Core.Path.{◌≡◌, refl}
use mathlib.Core.Bool.{Bool, true, false, not, false≢true}
use lib.Dec.{eqb}
use borrow.Author.Tests.{eqb-false}
use Rattle.leaf_pick.proofs.Nodes.{node-no-knn, call-no-knn, name-length}
use Rattle.leaf_pick.proofs.one_walk.is_no_knn.Goals as goal

-- A test that says no.
not-same : (n m : ℕ) (b : Bool) → eqb n m ≡ b → not b ≡ true → n ≡ m → ⊥
not-same n m true is e = absurd (false≢true e)
not-same n m false is e = eqb-false n m is

pub returns-in_default : goal.returns-in_default
returns-in_default c =
    λ e S records d s at t is. node-no-knn S records d s at t c.args.node c.in_default.not-Call is

pub returns : goal.returns
returns c =
    λ e S records d s at t is.
    let call = rw c.in-Call.is at is in
    call-no-knn S records call.name call.is
    (λ six. not-same c.saturating_sub.result 6 _ refl e (omega (arith, six, name-length call.stands, c.saturating_sub.ensures)))
