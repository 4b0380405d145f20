-- A five-argument `st_knn` that matches has ties 0 or 1, any other has ties absent (2): so its ties tell how many arguments a KNN leaf has.
use Rattle.std.specs.Prelude.{if◌then◌else◌}
use Prim.Native.Nat.{ℕ, ◌≤◌}
use native.Mathlib.Omega.{arith}
use mathlib.Core.Path.{◌≡◌, refl, sym, ap, subst}
use mathlib.Core.Bool.{Bool, true, false}
use mathlib.Core.List.{List, ◌∷◌}
use mathlib.Core.Option.{Option, none, some}
use lib.ListN.{length}
use lib.Dec.{leb, eqb}
use borrow.Author.Tests.{leb-true, ne_eqb}
use Rattle.definitions.specs.Words.Basics.{ascii, same_name}
use Rattle.definitions.specs.Words.Expression.{Side, Relation, Expr, column, literal, and, binary, call, other, field, Exprs, nil, cons, Record, knn}
use Rattle.definitions.specs.Words.Literals.{literal_in_range, number_bool}
use Rattle.definitions.specs.Words.Leaves.{relation_named}
use Rattle.definitions.specs.Filter.Match.{literal_k, literal_bool, knn_literals, knn_request, knn_request_by, match_leaf}
use Rattle.definitions.specs.Bytes.Decode.{Columns, index_below}
use Rattle.definitions.specs.Bytes.Good.{InRange, InRangeAll}
use Rattle.definitions.specs.Meaning.Values.{Valuation, Meaning, value, values, frame_columns, Fair}
use Rattle.definitions.specs.Claims.Values.{FairByArguments}
use Rattle.definitions.proofs.Everything.{everything}
use Rattle.theorems.proofs.Tools.{same-name}
use Rattle.theorems.proofs.KnnLeaves.{Asked, Matched, leaf-matched}

-- 1 for five arguments, 0 for another number of them.
abbrev by_count : (arguments : ℕ) → ℕ
by_count arguments = if eqb arguments 5 then 1 else 0

-- 0 for absent ties, 1 for given ones.
abbrev by_ties : (ties : ℕ) → ℕ
by_ties ties = if eqb ties 2 then 0 else 1

-- `st_knn` by its number of arguments; everything else is unknown.
abbrev counting : Meaning
counting = record {
  literal_value = λ type bytes. 2;
  binary_value = λ operator a b. 2;
  call_value = λ name arguments. if same_name name (ascii "st_knn") then by_count (length arguments) else 2;
  other_value = λ tag children. 2;
  field_value = λ bits tag. 2;
  relation_value = λ type a b. 2;
  distance_value = λ a b. 2;
  dwithin_value = λ a b bound. 2;
  knn_value = λ query object k spheroid ties. by_ties ties;
}

-- A flag in range is 0 or 1.
abbrev Flag : Option ℕ → Type 0
Flag none = Unit {0}
Flag (some b) = b ≤ 1

boolean : (type bytes : ℕ) → literal_in_range type bytes ≡ true → Flag (number_bool type bytes)
unfolding number_bool literal_in_range
boolean type bytes = by-type (eqb type 1) _ where
  by-type : (b x : Bool) → (if b then leb bytes 1 else x) ≡ true → Flag (if b then some bytes else none)
  by-type true x r = leb-true bytes 1 r
  by-type false x r = tt

flag : (c : Columns) (e : Expr) → InRange c e → Flag (literal_bool e)
unfolding literal_bool
flag c (literal type bytes) r = boolean type bytes r.2
flag c (column index tag) r = tt
flag c (and l right) r = tt
flag c (binary operator l right) r = tt
flag c (call name arguments) r = tt
flag c (other tag children) r = tt
flag c (field bits tag) r = tt

-- Absent ties ask for 0, given ones for 1.
absent-asked : (k spheroid : Option ℕ) (a b : Expr) → Asked (λ k spheroid ties. 0 ≡ by_ties ties) (knn_literals k spheroid (some 2) a b)
unfolding knn_literals
absent-asked none spheroid a b = tt
absent-asked (some k) none a b = tt
absent-asked (some k) (some spheroid) a b = refl

given-asked : (k spheroid ties : Option ℕ) (a b : Expr) → Flag ties
    → Asked (λ k spheroid ties. 1 ≡ by_ties ties) (knn_literals k spheroid ties a b)
unfolding knn_literals
given-asked none spheroid ties a b f = tt
given-asked (some k) none ties a b f = tt
given-asked (some k) (some spheroid) none a b f = tt
given-asked (some k) (some spheroid) (some ties) a b f = ap (λ (t : Bool). if t then 0 else 1) (sym (ne_eqb ties 2 (λ e. omega arith)))

-- What an `st_knn` call asks for, by its arguments.
knn-asked : (c : Columns) (M : Meaning) (columns : ℕ → ℕ) (a b : Expr) (more : Exprs) → InRangeAll c (cons a (cons b more))
    → Asked (λ k spheroid ties. by_count (length (values M columns (cons a (cons b more)))) ≡ by_ties ties)
    (knn_request (cons a (cons b more)))
unfolding knn_request_by values
knn-asked c M columns a b nil r = refl
knn-asked c M columns a b (cons k nil) r = absent-asked (literal_k k) (some 0) a b
knn-asked c M columns a b (cons k (cons s nil)) r = absent-asked (literal_k k) (literal_bool s) a b
knn-asked c M columns a b (cons k (cons s (cons t nil))) r =
    given-asked (literal_k k) (literal_bool s) (literal_bool t) a b (flag c t r.1.1.1.1.0)
knn-asked c M columns a b (cons k (cons s (cons t (cons u more)))) r = tt

counting-knn : (v : Valuation) (rs : List Record) (name : List ℕ) (a b : Expr) (more : Exprs)
    → InRangeAll (index_below (length rs)) (cons a (cons b more))
    → (k spheroid ties : ℕ) (probe : Side) (l r : Expr)
    → match_leaf rs (call name (cons a (cons b more))) ≡ some (knn k spheroid probe ties l r)
    → value counting (frame_columns v rs) (call name (cons a (cons b more))) ≡ by_ties ties
counting-knn v rs name a b more within k spheroid ties probe l r e =
    let es : Exprs = cons a (cons b more) in
    let f : ℕ → ℕ = frame_columns v rs in
    subst (Matched (λ k spheroid ties. value counting f (call name es) ≡ by_ties ties)) e
    (leaf-matched (λ k spheroid ties. value counting f (call name es) ≡ by_ties ties) 1 rs name a b more (λ n.
    subst (λ (x : List ℕ). Asked (λ k spheroid ties. value counting f (call x es) ≡ by_ties ties) (knn_request es)) (sym n)
    (unfold value everything in knn-asked (index_below (length rs)) counting f a b more within)))

-- A relation's name is not `st_knn`.
relation-counted : (name : List ℕ) (type : Relation) (t : Bool) → relation_named name ≡ some type → same_name name (ascii "st_knn") ≡ t
    → (arguments : List ℕ) → (if t then by_count (length arguments) else 2) ≡ 2
unfolding everything
relation-counted name type true e s arguments =
    let z : ◌≡◌ {A = ℕ} 0 1 =
    cc (subst (λ (x : List ℕ). relation_named x ≡ some type) (same-name name (ascii "st_knn") s) e) in absurd (omega arith)
relation-counted name type false e s arguments = refl

counting-fair : Fair counting
unfolding everything
counting-fair = record {
  relation_call = λ name type e a b more. relation-counted name type (same_name name (ascii "st_knn")) e refl (a ∷ b ∷ more);
  relation_inverse = λ type a b. refl;
  distance_call = λ a b more. refl;
  distance_symmetric = λ a b. refl;
  dwithin_call = λ a b bound more. refl;
  dwithin_symmetric = λ a b bound. refl;
  knn_leaf = counting-knn;
}

pub fair-counting : FairByArguments
unfolding everything
fair-counting = (counting, counting-fair, λ a b k s t. refl, λ a b k s. refl)
