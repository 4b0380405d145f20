-- Column indexes below a bound: a wider one, and tables that agree below it.
use Prim.Native.Nat.{ℕ, ◌≤◌, ◌<◌}
use native.Mathlib.Omega.{arith}
use mathlib.Core.Path.{◌≡◌, refl, ap, ap₂}
use borrow.Author.Tests.{ltb-true, lt-ltb}
use mathlib.Core.List.{List}
use Rattle.definitions.specs.Words.Expression.{Expr, column, literal, and, binary, call, other, field, Exprs, nil, cons}
use Rattle.definitions.specs.Bytes.Decode.{index_below}
use Rattle.definitions.specs.Words.References.{map_columns, map_columns_all}
use Rattle.definitions.specs.Bytes.Good.{InRange, InRangeAll}
use Rattle.expression.specs.Nodes.{Stands}

module _ (a b : ℕ) (wide : a ≤ b) where
  mutual
    wider : (t : Expr) → InRange (index_below a) t → InRange (index_below b) t
    wider (column i g) = λ h. (lt-ltb i b (omega (arith, ltb-true i a h.0)), h.1, h.2)
    wider (literal y v) = λ h. h
    wider (and l r) = λ h. (wider l h.0, wider r h.1)
    wider (binary o l r) = λ h. (h.0, h.1, wider l h.2, wider r h.3)
    wider (call name ts) = λ h. (h.0, h.1, h.2, h.3, wider-all ts h.4)
    wider (other g ts) = λ h. (h.0, h.1, wider-all ts h.2)
    wider (field bits g) = λ h. h

    wider-all : (ts : Exprs) → InRangeAll (index_below a) ts → InRangeAll (index_below b) ts
    wider-all nil = λ h. h
    wider-all (cons t ts) = λ h. (wider t h.0, wider-all ts h.1)

pub wider-stands : {a b : ℕ} → a ≤ b → {s : List ℕ} {at : ℕ} {t : Expr} → Stands (index_below a) s at t → Stands (index_below b) s at t
wider-stands {a} {b} wide {s} {at} {t} h = record { bytes = h.bytes; in_range = wider a b wide t h.in_range }

-- Two ways to renumber that agree below the bound do the same.
module _ (n : ℕ) (f g : ℕ → ℕ) (same : (i : ℕ) → i < n → f i ≡ g i) where
  mutual
    unfolding map_columns

    pub map-agrees : (t : Expr) → InRange (index_below n) t → map_columns f t ≡ map_columns g t
    map-agrees (column i k) = λ h. ap (λ (j : ℕ). column j k) (same i (ltb-true i n h.0))
    map-agrees (literal y v) = λ h. refl
    map-agrees (and l r) = λ h. ap₂ and (map-agrees l h.0) (map-agrees r h.1)
    map-agrees (binary o l r) = λ h. ap₂ (binary o) (map-agrees l h.2) (map-agrees r h.3)
    map-agrees (call name ts) = λ h. ap (call name) (maps-agree ts h.4)
    map-agrees (other k ts) = λ h. ap (other k) (maps-agree ts h.2)
    map-agrees (field bits k) = λ h. refl

    maps-agree : (ts : Exprs) → InRangeAll (index_below n) ts → map_columns_all f ts ≡ map_columns_all g ts
    maps-agree nil = λ h. refl
    maps-agree (cons t ts) = λ h. ap₂ cons (map-agrees t h.0) (maps-agree ts h.1)
