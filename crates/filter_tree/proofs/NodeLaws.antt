-- The records of a node are its own and those of its children; how many there are, and their kinds.
use Prim.Native.Nat.{ℕ, suc, ◌+◌}
use native.Mathlib.Omega.{arith}
use mathlib.Core.Path.{◌≡◌, refl, ap}
use mathlib.Core.List.{◌∷◌, append-nil}
use lib.ListN.{length, length-append}
use Rattle.definitions.specs.Words.Basics.{big_endian}
use Rattle.definitions.specs.Words.Expression.{Expr, column, literal, and, binary, call, other, field}
use Rattle.definitions.specs.Bytes.Good.{nodes, nodes_all}
use Rattle.definitions.specs.Bytes.NodeTable.{kind_byte, record_of, nodes_from, row_from}
use Rattle.theorems.proofs.Cases.{each}
use Rattle.expression.specs.Nodes.{head_bytes, children_of, kind_of}

pub nodes-split : (at : ℕ) (t : Expr) → nodes_from at t ≡ record_of at t ∷ row_from (at + length (head_bytes t)) (children_of t)
unfolding nodes_from row_from head_bytes children_of big_endian
nodes-split at (column i g) = refl
nodes-split at (literal y v) = refl
nodes-split at (and l r) = rw append-nil
nodes-split at (binary o l r) = rw append-nil
nodes-split at (call name args) =
    ap (λ (p : ℕ). record_of at (call name args) ∷ row_from p args) (simp length-append (omega arith))
nodes-split at (other g cs) = refl
nodes-split at (field b g) = refl

pub nodes-below : (t : Expr) → nodes t ≡ suc (nodes_all (children_of t))
unfolding nodes nodes_all children_of
nodes-below = each (λ t. nodes t ≡ suc (nodes_all (children_of t)))
    (λ i g. refl) (λ y v. refl) (λ l r. omega arith) (λ o l r. omega arith) (λ n ts. refl) (λ g ts. refl) (λ b g. refl)

pub kind-byte : (t : Expr) → kind_of t ≡ kind_byte t
unfolding kind_of kind_byte
kind-byte = each (λ t. kind_of t ≡ kind_byte t)
    (λ i g. refl) (λ y v. refl) (λ l r. refl) (λ o l r. refl) (λ n ts. refl) (λ g ts. refl) (λ b g. refl)
