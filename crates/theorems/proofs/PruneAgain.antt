-- Pruning what is left of a pruned frame is pruning it once.
use Rattle.std.specs.Prelude.{if◌then◌else◌}
use Prim.Native.Nat.{ℕ, zero, suc, ◌-◌}
use mathlib.Core.Path.{◌≡◌, refl, sym, ap, ap₂, ◌∙◌, fun_ext}
use mathlib.Core.Bool.{Bool, true, false, ◌||◌, or-true, or_assoc, false≢true}
use mathlib.Core.List.{List, [], ◌∷◌, ◌++◌, map}
use mathlib.Core.Option
use mathlib.Core.Option.{Option, none, some}
use lib.ListN.{length, take, length-map}
use lib.Dec.{ltb}
use borrow.Author.Tests.{ltb-true}
use Rattle.definitions.specs.Words.Basics.{any, keep}
use Rattle.definitions.specs.Words.Expression.{Expr, column, literal, and, binary, call, other, field, Record, Frame}
use Rattle.definitions.specs.Words.Leaves.{leaves}
use Rattle.definitions.specs.Bytes.Decode.{index_below}
use Rattle.definitions.specs.Words.References.{columns_of, map_columns, record_at}
use Rattle.definitions.specs.Filter.Extract.{and_left, and_right, without, same_column, referenced, new_index, prune}
use Rattle.definitions.specs.Bytes.Good.{All, InRange}
use Rattle.theorems.proofs.Columns.{all-every, all-left, all-right, all_append, all_both, map-leaves, columns-below}
use Rattle.theorems.proofs.Moved.{map_same, map-twice, columns-mapped}
use Rattle.theorems.proofs.MatchMeans.{map-all}
use Rattle.theorems.proofs.Taken.{Taken, here, in_left, in_right, RestIs}
use Rattle.theorems.proofs.ExtractGood.{references}
use Rattle.theorems.proofs.Truth.{kept_at}

-- ---- the expression without a leaf, renumbered

leaves-number : (f : ℕ → ℕ) (e : Expr) → length (leaves (map_columns f e)) ≡ length (leaves e)
leaves-number f e = ap length (map-leaves f e) ∙ length-map (leaves e) (map_columns f)

left-mapped : (f : ℕ → ℕ) (rest : Option Expr) (r : Expr) → and_left (Option.map (map_columns f) rest) (map_columns f r)
    ≡ map_columns f (and_left rest r)
unfolding and_left map_columns
left-mapped f none r = refl
left-mapped f (some l) r = refl

right-mapped : (f : ℕ → ℕ) (l : Expr) (rest : Option Expr) → and_right (map_columns f l) (Option.map (map_columns f) rest)
    ≡ map_columns f (and_right l rest)
unfolding and_right map_columns
right-mapped f l none = refl
right-mapped f l (some r) = refl

by-half : (f : ℕ → ℕ) (l r : Expr) (x x' y y' : Option Expr) (b : Bool) → x' ≡ Option.map (map_columns f) x → y'
    ≡ Option.map (map_columns f) y
    → (if b then and_left x' (map_columns f r) else and_right (map_columns f l) y')
    ≡ map_columns f (if b then and_left x r else and_right l y)
by-half f l r x x' y y' true h k = ap (λ (z : Option Expr). and_left z (map_columns f r)) h ∙ left-mapped f x r
by-half f l r x x' y y' false h k = ap (λ (z : Option Expr). and_right (map_columns f l) z) k ∙ right-mapped f l y

pub without-mapped : (f : ℕ → ℕ) (e : Expr) (i : ℕ) → without i (map_columns f e) ≡ Option.map (map_columns f) (without i e)
unfolding without map_columns
without-mapped f (column a t) i = refl
without-mapped f (literal type v) i = refl
without-mapped f (and l r) i =
    ap (λ (n : ℕ). some (if ltb i n then and_left (without i (map_columns f l)) (map_columns f r) else and_right (map_columns f l)
    (without (i - n) (map_columns f r)))) (leaves-number f l)
    ∙ ap {B = Option Expr} some
    (by-half f l r (without i l) (without i (map_columns f l)) (without (i - length (leaves l)) r)
    (without (i - length (leaves l)) (map_columns f r))
    (ltb i (length (leaves l))) (without-mapped f l i) (without-mapped f r (i - length (leaves l))))
without-mapped f (binary o l r) i = refl
without-mapped f (call name es) i = refl
without-mapped f (other tag es) i = refl
without-mapped f (field b t) i = refl

-- ---- kept twice

if-keep : (t u : Bool) (r : Record) (xs ys : List Record) (test : Record → Bool) → test r ≡ u → (u ≡ true → t ≡ true) → keep test xs ≡ ys
    → keep test (if t then r ∷ xs else xs) ≡ (if u then r ∷ ys else ys)
unfolding keep
if-keep true u r xs ys test e h k = ap₂ (λ (b : Bool) (l : List Record). if b then r ∷ l else l) e k
if-keep false true r xs ys test e h k = absurd (false≢true (h refl))
if-keep false false r xs ys test e h k = k

-- A test that implies the first one keeps the same of all as of what the first one keeps.
pub keep-again : (t u : Record → Bool) → ((r : Record) → u r ≡ true → t r ≡ true) → (rs : List Record) → keep u (keep t rs) ≡ keep u rs
unfolding keep
keep-again t u h [] = refl
keep-again t u h (r ∷ rs) = if-keep (t r) (u r) r (keep t rs) (keep u rs) u refl (h r) (keep-again t u h rs)

if-prefix : (b : Bool) (r : Record) (xs ys : List Record) → take (length xs) ys ≡ xs
    → take (length (if b then r ∷ xs else xs)) (if b then r ∷ ys else ys) ≡ (if b then r ∷ xs else xs)
if-prefix true r xs ys h = ap (λ (l : List Record). r ∷ l) h
if-prefix false r xs ys h = h

-- What is kept of a beginning is a beginning of what is kept.
keep-prefix : (t : Record → Bool) (rs : List Record) (i : ℕ) → take (length (keep t (take i rs))) (keep t rs) ≡ keep t (take i rs)
unfolding keep
keep-prefix t [] zero = refl
keep-prefix t [] (suc i) = refl
keep-prefix t (r ∷ rs) zero = refl
keep-prefix t (r ∷ rs) (suc i) = if-prefix (t r) r (keep t (take i rs)) (keep t rs) (keep-prefix t rs i)

new-again : (t u : Record → Bool) → ((r : Record) → u r ≡ true → t r ≡ true) → (rs : List Record) (i : ℕ)
    → new_index u (keep t rs) (new_index t rs i) ≡ new_index u rs i
unfolding new_index
new-again t u h rs i = ap (λ (l : List Record). length (keep u l)) (keep-prefix t rs i) ∙ ap length (keep-again t u h (take i rs))

-- ---- the records referenced

-- The record of a column's new number is the record of the old one.
abbrev pub Kept : (rs rs' : List Record) → (ℕ → ℕ) → ℕ → Type 0
Kept rs rs' f i = record_at rs' (f i) ≡ record_at rs i

any-map : (g : ℕ → Bool) (f : ℕ → ℕ) (xs : List ℕ) → any g (map f xs) ≡ any (λ i. g (f i)) xs
unfolding any
any-map g f [] = refl
any-map g f (x ∷ xs) = ap (λ (b : Bool). g (f x) || b) (any-map g f xs)

any-agree : (g h : ℕ → Bool) (xs : List ℕ) → All (λ i. g i ≡ h i) xs → any g xs ≡ any h xs
unfolding any
any-agree g h [] a = refl
any-agree g h (x ∷ xs) a = ap₂ ◌||◌ a.0 (any-agree g h xs a.1)

referenced-mapped : (rs rs' : List Record) (f : ℕ → ℕ) (e : Expr) → All (Kept rs rs' f) (columns_of e) → (r : Record)
    → referenced rs' (map_columns f e) r ≡ referenced rs e r
unfolding referenced
referenced-mapped rs rs' f e a r =
    ap (any (λ i. same_column (record_at rs' i) r)) (columns-mapped f e)
    ∙ any-map (λ i. same_column (record_at rs' i) r) f (columns_of e)
    ∙ any-agree (λ i. same_column (record_at rs' (f i)) r) (λ i. same_column (record_at rs i) r) (columns_of e)
    (map-all (Kept rs rs' f) (λ i. same_column (record_at rs' (f i)) r ≡ same_column (record_at rs i) r)
    (λ i h. ap (λ (x : Record). same_column x r) h) (columns_of e) a)

-- Pruned again, with all that it references kept the first time.
pub prune-again : (rs : List Record) (t : Record → Bool) (e : Expr) → All (Kept rs (keep t rs) (new_index t rs)) (columns_of e)
    → ((r : Record) → referenced rs e r ≡ true → t r ≡ true) → prune (keep t rs) (map_columns (new_index t rs) e) ≡ prune rs e
unfolding prune
prune-again rs t e a h =
    let u : Record → Bool = referenced rs e in
    let same : referenced (keep t rs) (map_columns (new_index t rs) e) ≡ u =
    fun_ext (referenced-mapped rs (keep t rs) (new_index t rs) e a) in
    ap {B = Frame} (λ (x : Record
    → Bool). record { records = keep x (keep t rs); expr = map_columns (new_index x (keep t rs)) (map_columns (new_index t rs) e) }) same
    ∙ ap₂ (λ (r : List Record) (x : Expr). record { records = r; expr = x }) (keep-again t u h rs)
    (map-twice (new_index t rs) (new_index u (keep t rs)) e ∙ map_same _ _ e (all-every _ (new-again t u h rs) (columns_of e)))

-- ---- what a leaf's removal leaves of the columns

any_append : (g : ℕ → Bool) (xs ys : List ℕ) → any g (xs ++ ys) ≡ (any g xs || any g ys)
unfolding any
any_append g [] ys = refl
any_append g (x ∷ xs) ys = ap (λ (b : Bool). g x || b) (any_append g xs ys) ∙ sym (or_assoc (g x) (any g xs) (any g ys))

or-both : (a a' b b' : Bool) → (a ≡ true → a' ≡ true) → (b ≡ true → b' ≡ true) → (a || b) ≡ true → (a' || b') ≡ true
or-both true a' b b' f g e = ap (λ (x : Bool). x || b') (f refl)
or-both false a' b b' f g e = ap (λ (x : Bool). a' || x) (g e) ∙ or-true a'

any-both : (g : ℕ → Bool) (xs xs' ys ys' : List ℕ) → (any g xs ≡ true → any g xs' ≡ true) → (any g ys ≡ true → any g ys' ≡ true)
    → any g (xs ++ ys) ≡ true → any g (xs' ++ ys') ≡ true
any-both g xs xs' ys ys' h k e =
    any_append g xs' ys' ∙ or-both (any g xs) (any g xs') (any g ys) (any g ys') h k (sym (any_append g xs ys) ∙ e)

any_left : (g : ℕ → Bool) (xs ys : List ℕ) → any g xs ≡ true → any g (xs ++ ys) ≡ true
any_left g xs ys e = any_append g xs ys ∙ ap (λ (x : Bool). x || any g ys) e

any-right : (g : ℕ → Bool) (xs ys : List ℕ) → any g ys ≡ true → any g (xs ++ ys) ≡ true
any-right g xs ys e = any_append g xs ys ∙ ap (λ (x : Bool). any g xs || x) e ∙ or-true (any g xs)

-- Every column of the rest is one of the whole.
abbrev pub Fewer : Expr → Expr → Type 0
Fewer e r = (g : ℕ → Bool) → any g (columns_of r) ≡ true → any g (columns_of e) ≡ true

left-fewer : (l : Expr) (rest : Option Expr) (r : Expr) → RestIs (Fewer l) rest → Fewer (and l r) (and_left rest r)
unfolding and_left columns_of
left-fewer l none r h = λ g. any-right g (columns_of l) (columns_of r)
left-fewer l (some x) r h = λ g. any-both g (columns_of x) (columns_of l) (columns_of r) (columns_of r) (h g) (λ e. e)

right-fewer : (l : Expr) (rest : Option Expr) (r : Expr) → RestIs (Fewer r) rest → Fewer (and l r) (and_right l rest)
unfolding and_right columns_of
right-fewer l none r h = λ g. any_left g (columns_of l) (columns_of r)
right-fewer l (some x) r h = λ g. any-both g (columns_of l) (columns_of l) (columns_of x) (columns_of r) (λ e. e) (h g)

pub rest-fewer : {e leaf : Expr} {rest : Option Expr} → Taken e leaf rest → RestIs (Fewer e) rest
rest-fewer here = tt
rest-fewer (in_left {l = l} {rest = rest} r t) = left-fewer l rest r (rest-fewer t)
rest-fewer (in_right {r = r} {rest = rest} l t) = right-fewer l rest r (rest-fewer t)

left-columns : (P : ℕ → Type 0) (rest : Option Expr) (r : Expr) → RestIs (λ x. All P (columns_of x)) rest → All P (columns_of r)
    → All P (columns_of (and_left rest r))
unfolding and_left columns_of
left-columns P none r h k = k
left-columns P (some l) r h k = all_append P (columns_of l) (columns_of r) h k

right-columns : (P : ℕ → Type 0) (l : Expr) (rest : Option Expr) → All P (columns_of l) → RestIs (λ x. All P (columns_of x)) rest
    → All P (columns_of (and_right l rest))
unfolding and_right columns_of
right-columns P l none h k = h
right-columns P l (some r) h k = all_append P (columns_of l) (columns_of r) h k

-- What holds of every column holds of those of the rest.
pub rest-columns : (P : ℕ → Type 0) {e leaf : Expr} {rest : Option Expr} → Taken e leaf rest → All P (columns_of e)
    → RestIs (λ x. All P (columns_of x)) rest
unfolding columns_of
rest-columns P here h = tt
rest-columns P (in_left {l = l} {rest = rest} r t) h =
    left-columns P rest r (rest-columns P t (all-left P (columns_of l) (columns_of r) h)) (all-right P (columns_of l) (columns_of r) h)
rest-columns P (in_right {r = r} {rest = rest} l t) h =
    right-columns P l rest (all-left P (columns_of l) (columns_of r) h) (rest-columns P t (all-right P (columns_of l) (columns_of r) h))

-- ---- pruning round by round

-- The records of a pruned expression's columns are kept.
pub all-kept : (rs : List Record) (e : Expr) → InRange (index_below (length rs)) e
    → All (Kept rs (keep (referenced rs e) rs) (new_index (referenced rs e) rs)) (columns_of e)
all-kept rs e r =
    let test : Record → Bool = referenced rs e in
    all_both (λ i. ltb i (length rs) ≡ true) (λ i. test (record_at rs i) ≡ true) (Kept rs (keep test rs) (new_index test rs))
    (λ i b t. kept_at test rs i (ltb-true i (length rs) b) t) (columns_of e) (columns-below (length rs) e r) (references rs e)

rest-again : (rs : List Record) (e : Expr) (rest : Option Expr)
    → RestIs (λ x. All (Kept rs (keep (referenced rs e) rs) (new_index (referenced rs e) rs)) (columns_of x)) rest
    → RestIs (Fewer e) rest
    → Option.map (prune (keep (referenced rs e) rs)) (Option.map (map_columns (new_index (referenced rs e) rs)) rest)
    ≡ Option.map (prune rs) rest
unfolding referenced
rest-again rs e none a h = refl
rest-again rs e (some x) a h =
    ap {B = Option Frame} some (prune-again rs (referenced rs e) x a (λ r. h (λ i. same_column (record_at rs i) r)))

-- The remainder of a pruned frame is the pruned rest of the frame that was pruned.
pub remainder-again : (rs : List Record) (e leaf : Expr) (i : ℕ) → InRange (index_below (length rs)) e → Taken e leaf (without i e)
    → Option.map (prune (prune rs e).records) (without i (prune rs e).expr) ≡ Option.map (prune rs) (without i e)
unfolding prune
remainder-again rs e leaf i r t =
    let test : Record → Bool = referenced rs e in
    ap (Option.map (prune (keep test rs))) (without-mapped (new_index test rs) e i)
    ∙ rest-again rs e (without i e) (rest-columns (Kept rs (keep test rs) (new_index test rs)) t (all-kept rs e r)) (rest-fewer t)
