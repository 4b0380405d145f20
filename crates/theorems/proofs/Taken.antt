-- The AND-leaf at a position, and the expression without it.
use Rattle.std.specs.Prelude.{if◌then◌else◌}
use Prim.Native.Nat.{ℕ, zero, suc, ◌+◌, ◌-◌, ◌≤◌, ◌<◌, max}
use native.Mathlib.Nat.{not-suc-le-zero, le_of_suc-le-suc}
use native.Mathlib.Omega.{arith}
use mathlib.Core.Path.{◌≡◌, refl, sym, ap, ap₂, ◌∙◌}
use mathlib.Core.Bool.{Bool, true, false, ◌&&◌, and_assoc}
use mathlib.Core.List.{List, [], ◌∷◌, ◌++◌, append_assoc, append-nil}
use mathlib.Core.Option.{Option, none, some}
use lib.ListN.{length, take, drop, get_or, length-append, get_or-append}
use lib.Seq.{get_or-append-add, take-append-le, drop-append-le, take-append-add, drop-append-add}
use lib.Dec.{ltb}
use borrow.Author.Tests.{ltb-true, ltb-false}
use Rattle.definitions.specs.Words.Basics.{all}
use Rattle.definitions.specs.Words.Expression.{Expr, column, literal, and, binary, call, other, field}
use Rattle.definitions.specs.Bytes.Encode.{expr_bytes}
use Rattle.definitions.specs.Words.Leaves.{leaves, leaf_arity, arity}
use Rattle.definitions.specs.Bytes.Decode.{Columns}
use Rattle.definitions.specs.Filter.Extract.{and_left, and_right, without}
use Rattle.definitions.specs.Bytes.Good.{nodes, depth, InRange}
use Rattle.definitions.specs.Claims.Pick.{RestOfLeaves}
pub use Rattle.theorems.proofs.Tools.{and-both}

-- A leaf taken out of an expression, and what is left.
pub data Taken : Expr → Expr → Option Expr → Type 0 where
  here : {e : Expr} → Taken e e none
  in_left : {l leaf : Expr} {rest : Option Expr} (r : Expr) → Taken l leaf rest → Taken (and l r) leaf (some (and_left rest r))
  in_right : {r leaf : Expr} {rest : Option Expr} (l : Expr) → Taken r leaf rest → Taken (and l r) leaf (some (and_right l rest))

-- A single leaf is at position 0.
only : (e d : Expr) (i : ℕ) → i < 1 → Taken e (get_or (e ∷ []) i d) none
only e d zero h = here
only e d (suc i) h = absurd (not-suc-le-zero (le_of_suc-le-suc h))

-- In an And, the leaves of the left side come first.
taken-and : (l r d : Expr) (i : ℕ) → i < length (leaves l ++ leaves r)
    → ((j : ℕ) → j < length (leaves l) → Taken l (get_or (leaves l) j d) (without j l))
    → ((j : ℕ) → j < length (leaves r) → Taken r (get_or (leaves r) j d) (without j r))
    → (b : Bool) → ltb i (length (leaves l)) ≡ b
    → Taken (and l r) (get_or (leaves l ++ leaves r) i d)
    (some (if b then and_left (without i l) r else and_right l (without (i - length (leaves l)) r)))
taken-and l r d i h f g true e =
    let k : i < length (leaves l) = ltb-true i (length (leaves l)) e in
    rw (get_or-append (leaves l) (leaves r) d i k) (in_left r (f i k))
taken-and l r d i h f g false e =
    let k : length (leaves l) ≤ i = ltb-false i (length (leaves l)) e in
    let j : ℕ = i - length (leaves l) in
    let at : get_or (leaves l ++ leaves r) i d ≡ get_or (leaves r) j d =
    ap (λ (x : ℕ). get_or (leaves l ++ leaves r) x d) (omega arith) ∙ get_or-append-add (leaves l) (leaves r) j d in
    rw at (in_right l (g j (omega (arith, simp length-append at h))))

pub taken : (e d : Expr) (i : ℕ) → i < length (leaves e) → Taken e (get_or (leaves e) i d) (without i e)
unfolding leaves without
taken (column a t) d i h = only (column a t) d i h
taken (literal type v) d i h = only (literal type v) d i h
taken (and l r) d i h = taken-and l r d i h (λ j k. taken l d j k) (λ j k. taken r d j k) (ltb i (length (leaves l))) refl
taken (binary o l r) d i h = only (binary o l r) d i h
taken (call name es) d i h = only (call name es) d i h
taken (other tag es) d i h = only (other tag es) d i h
taken (field b t) d i h = only (field b t) d i h

-- ---- the leaves of what is left

unfoldable pub rest_leaves : Option Expr → List Expr
rest_leaves none = []
rest_leaves (some r) = leaves r

left-leaves : (rest : Option Expr) (r : Expr) → leaves (and_left rest r) ≡ rest_leaves rest ++ leaves r
unfolding and_left rest_leaves leaves
left-leaves none r = refl
left-leaves (some l) r = refl

right-leaves : (l : Expr) (rest : Option Expr) → leaves (and_right l rest) ≡ leaves l ++ rest_leaves rest
unfolding and_right rest_leaves leaves
right-leaves l none = sym (append-nil (leaves l))
right-leaves l (some r) = refl

-- A list without the element at a position.
abbrev but : ℕ → List Expr → List Expr
but i es = take i es ++ drop (suc i) es

one_less : (e : Expr) (i : ℕ) → i < 1 → [] ≡ but i (e ∷ [])
one_less e zero h = refl
one_less e (suc i) h = absurd (not-suc-le-zero (le_of_suc-le-suc h))

and-less : (l r : Expr) (i : ℕ) → i < length (leaves l ++ leaves r)
    → ((j : ℕ) → j < length (leaves l) → rest_leaves (without j l) ≡ but j (leaves l))
    → ((j : ℕ) → j < length (leaves r) → rest_leaves (without j r) ≡ but j (leaves r))
    → (b : Bool) → ltb i (length (leaves l)) ≡ b
    → leaves (if b then and_left (without i l) r else and_right l (without (i - length (leaves l)) r)) ≡ but i (leaves l ++ leaves r)
and-less l r i h f g true e =
    let k : i < length (leaves l) = ltb-true i (length (leaves l)) e in
    left-leaves (without i l) r ∙ ap (λ (x : List Expr). x ++ leaves r) (f i k) ∙ append_assoc (take i (leaves l)) _ _
    ∙ sym (ap₂ ◌++◌ (take-append-le i (leaves l) (leaves r) (omega arith)) (drop-append-le (suc i) (leaves l) (leaves r) k))
and-less l r i h f g false e =
    let k : length (leaves l) ≤ i = ltb-false i (length (leaves l)) e in
    let j : ℕ = i - length (leaves l) in
    let is : length (leaves l) + j ≡ i = omega arith in
    let past : suc i ≡ length (leaves l) + suc j = omega arith in
    right-leaves l (without j r) ∙ ap (λ (x : List Expr). leaves l ++ x) (g j (omega (arith, simp length-append at h)))
    ∙ sym (append_assoc (leaves l) _ _)
    ∙ sym (ap₂ ◌++◌ (ap (λ (x : ℕ). take x (leaves l ++ leaves r)) (sym is) ∙ take-append-add (leaves l) (leaves r) j)
    (ap (λ (x : ℕ). drop x (leaves l ++ leaves r)) past ∙ drop-append-add (leaves l) (leaves r) (suc j)))

pub less : (e : Expr) (i : ℕ) → i < length (leaves e) → rest_leaves (without i e) ≡ but i (leaves e)
unfolding leaves without rest_leaves
less (column a t) i h = one_less (column a t) i h
less (literal type v) i h = one_less (literal type v) i h
less (and l r) i h = and-less l r i h (λ j k. less l j k) (λ j k. less r j k) (ltb i (length (leaves l))) refl
less (binary o l r) i h = one_less (binary o l r) i h
less (call name es) i h = one_less (call name es) i h
less (other tag es) i h = one_less (other tag es) i h
less (field b t) i h = one_less (field b t) i h

pub rest-of-leaves-are : RestOfLeaves
unfolding rest_leaves
rest-of-leaves-are e r i h is = ap rest_leaves (sym is) ∙ less e i h

-- ---- what the leaf and the rest have of the whole

-- Sizes of an optional rest, the And that goes with it counted to it.
unfoldable pub rest_bytes : Option Expr → ℕ
rest_bytes none = 0
rest_bytes (some r) = 2 + length (expr_bytes r)

unfoldable pub rest_nodes : Option Expr → ℕ
rest_nodes none = 0
rest_nodes (some r) = 1 + nodes r

abbrev pub RestIs : (Expr → Type 0) → Option Expr → Type 0
RestIs P none = Unit {0}
RestIs P (some r) = P r

left-bytes : (rest : Option Expr) (r : Expr) → length (expr_bytes (and_left rest r)) ≡ rest_bytes rest + length (expr_bytes r)
unfolding and_left rest_bytes expr_bytes
left-bytes none r = omega arith
left-bytes (some l) r = simp length-append (omega arith)

right-bytes : (l : Expr) (rest : Option Expr) → length (expr_bytes (and_right l rest)) ≡ rest_bytes rest + length (expr_bytes l)
unfolding and_right rest_bytes expr_bytes
right-bytes l none = omega arith
right-bytes l (some r) = simp length-append (omega arith)

pub taken-bytes : {e leaf : Expr} {rest : Option Expr} → Taken e leaf rest
    → length (expr_bytes e) ≡ length (expr_bytes leaf) + rest_bytes rest
unfolding expr_bytes rest_bytes
taken-bytes here = omega arith
taken-bytes (in_left {l = l} {rest = rest} r t) = simp length-append (omega (arith, taken-bytes t, left-bytes rest r))
taken-bytes (in_right {r = r} {rest = rest} l t) = simp length-append (omega (arith, taken-bytes t, right-bytes l rest))

left-nodes : (rest : Option Expr) (r : Expr) → nodes (and_left rest r) ≡ rest_nodes rest + nodes r
unfolding and_left rest_nodes nodes
left-nodes none r = omega arith
left-nodes (some l) r = omega arith

right-nodes : (l : Expr) (rest : Option Expr) → nodes (and_right l rest) ≡ rest_nodes rest + nodes l
unfolding and_right rest_nodes nodes
right-nodes l none = omega arith
right-nodes l (some r) = omega arith

pub taken-nodes : {e leaf : Expr} {rest : Option Expr} → Taken e leaf rest → nodes e ≡ nodes leaf + rest_nodes rest
unfolding nodes rest_nodes
taken-nodes here = omega arith
taken-nodes (in_left {rest = rest} r t) = omega (arith, taken-nodes t, left-nodes rest r)
taken-nodes (in_right {rest = rest} l t) = omega (arith, taken-nodes t, right-nodes l rest)

pub leaf-depth : {e leaf : Expr} {rest : Option Expr} → Taken e leaf rest → depth leaf ≤ depth e
unfolding depth
leaf-depth here = omega arith
leaf-depth (in_left r t) = omega (arith, leaf-depth t)
leaf-depth (in_right l t) = omega (arith, leaf-depth t)

left-depth : (d : ℕ) (rest : Option Expr) (r : Expr) → RestIs (λ x. depth x ≤ d) rest → depth (and_left rest r) ≤ suc (max d (depth r))
unfolding and_left depth
left-depth d none r h = omega arith
left-depth d (some l) r h = omega arith

right-depth : (d : ℕ) (l : Expr) (rest : Option Expr) → RestIs (λ x. depth x ≤ d) rest → depth (and_right l rest) ≤ suc (max (depth l) d)
unfolding and_right depth
right-depth d l none h = omega arith
right-depth d l (some r) h = omega arith

pub rest-depth : {e leaf : Expr} {rest : Option Expr} → Taken e leaf rest → RestIs (λ x. depth x ≤ depth e) rest
unfolding depth
rest-depth here = tt
rest-depth (in_left {l = l} {rest = rest} r t) = left-depth (depth l) rest r (rest-depth t)
rest-depth (in_right {r = r} {rest = rest} l t) = right-depth (depth r) l rest (rest-depth t)

pub leaf-in-range : (c : Columns) {e leaf : Expr} {rest : Option Expr} → Taken e leaf rest → InRange c e → InRange c leaf
leaf-in-range c here h = h
leaf-in-range c (in_left r t) h = leaf-in-range c t h.0
leaf-in-range c (in_right l t) h = leaf-in-range c t h.1

left-in-range : (c : Columns) (rest : Option Expr) (r : Expr) → RestIs (InRange c) rest → InRange c r → InRange c (and_left rest r)
unfolding and_left
left-in-range c none r h k = k
left-in-range c (some l) r h k = (h, k)

right-in-range : (c : Columns) (l : Expr) (rest : Option Expr) → InRange c l → RestIs (InRange c) rest → InRange c (and_right l rest)
unfolding and_right
right-in-range c l none h k = h
right-in-range c l (some r) h k = (h, k)

pub rest-in-range : (c : Columns) {e leaf : Expr} {rest : Option Expr} → Taken e leaf rest → InRange c e → RestIs (InRange c) rest
rest-in-range c here h = tt
rest-in-range c (in_left {rest = rest} r t) h = left-in-range c rest r (rest-in-range c t h.0) h.1
rest-in-range c (in_right {rest = rest} l t) h = right-in-range c l rest h.0 (rest-in-range c t h.1)

-- ---- arity

all_append : (xs ys : List Expr) → all leaf_arity (xs ++ ys) ≡ (all leaf_arity xs && all leaf_arity ys)
unfolding all
all_append [] ys = refl
all_append (x ∷ xs) ys =
    ap (λ (b : Bool). leaf_arity x && b) (all_append xs ys) ∙ sym (and_assoc (leaf_arity x) (all leaf_arity xs) (all leaf_arity ys))

pub arity-and : (l r : Expr) → arity (and l r) ≡ (arity l && arity r)
unfolding arity leaves
arity-and l r = all_append (leaves l) (leaves r)

left-arity : (rest : Option Expr) (r : Expr) → RestIs (λ x. arity x ≡ true) rest → arity r ≡ true → arity (and_left rest r) ≡ true
unfolding and_left
left-arity none r h k = k
left-arity (some l) r h k = arity-and l r ∙ ap₂ ◌&&◌ h k

right-arity : (l : Expr) (rest : Option Expr) → arity l ≡ true → RestIs (λ x. arity x ≡ true) rest → arity (and_right l rest) ≡ true
unfolding and_right
right-arity l none h k = h
right-arity l (some r) h k = arity-and l r ∙ ap₂ ◌&&◌ h k

pub rest-arity : {e leaf : Expr} {rest : Option Expr} → Taken e leaf rest → arity e ≡ true → RestIs (λ x. arity x ≡ true) rest
rest-arity here h = tt
rest-arity (in_left {l = l} {rest = rest} r t) h =
    let both : (arity l ≡ true) × (arity r ≡ true) = and-both (arity l) (arity r) (sym (arity-and l r) ∙ h) in
    left-arity rest r (rest-arity t both.0) both.1
rest-arity (in_right {r = r} {rest = rest} l t) h =
    let both : (arity l ≡ true) × (arity r ≡ true) = and-both (arity l) (arity r) (sym (arity-and l r) ∙ h) in
    right-arity l rest both.0 (rest-arity t both.1)
