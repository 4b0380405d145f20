-- What a leaf asks for is made of parts of the leaf, with numbers in range.
use Prim.Native.Nat.{ℕ, ◌+◌, ◌≤◌, max}
use native.Mathlib.Omega.{arith}
use mathlib.Core.Path.{◌≡◌, refl, ap, subst}
use mathlib.Core.Bool.{Bool, true, false, ◌||◌}
use mathlib.Core.List.{List}
use mathlib.Core.Option.{Option, none, some}
use lib.ListN.{length, length-append}
use lib.Dec.{eqb, lit≤}
use borrow.Author.Tests.{leb-true, eqb-true}
use Rattle.definitions.specs.Words.Basics.{given◌then◌else◌, ascii, same_name}
use Rattle.definitions.specs.Words.Expression.{Relation, Expr, column, literal, and, binary, call, other, field, Exprs, nil, cons}
use Rattle.definitions.specs.Words.Literals.{literal_in_range, is_k, only_k, number_bool}
use Rattle.definitions.specs.Bytes.Encode.{expr_bytes, exprs_bytes}
use Rattle.definitions.specs.Words.Leaves.{relation_named, Comparison, compares, no_comparison, comparison, distance_arguments}
use Rattle.definitions.specs.Bytes.Decode.{Columns}
use Rattle.definitions.specs.Filter.Match.{literal_u32, literal_k, literal_bool, Request, ask_relation, ask_distance, ask_knn, ask_nothing, relation_request, dwithin_request, knn_literals, knn_request_by, call_request_by, distance_request, comparison_request, request_by}
use Rattle.definitions.specs.Bytes.Good.{nodes, nodes_all, depth, depth_all, InRange, InRangeAll}
pub use Rattle.theorems.proofs.Tools.{by-test, same-name}

-- Short names for the sizes of an expression.
abbrev bytes : Expr → ℕ
bytes e = length (expr_bytes e)

-- A request whose parts lie within an expression of so many bytes, nodes and levels.
abbrev pub Within : Columns → (room size levels : ℕ) → Request → Type 0
Within c room size levels (ask_relation type a b) =
    InRange c a × InRange c b × (2 + bytes a + bytes b ≤ room) × (nodes a + nodes b ≤ size) × (depth a ≤ levels) × (depth b ≤ levels)
Within c room size levels (ask_distance form a b d) =
    (form ≤ 4) × InRange c a × InRange c b × InRange c d
    × (3 + bytes a + bytes b + bytes d ≤ room) × (nodes a + nodes b + nodes d ≤ size) × (depth a ≤ levels) × (depth b ≤ levels)
    × (depth d ≤ levels)
Within c room size levels (ask_knn k spheroid ties a b) =
    (is_k k ≡ true) × (spheroid ≤ 1) × (ties ≤ 2) × InRange c a × InRange c b
    × (8 + bytes a + bytes b ≤ room) × (nodes a + nodes b ≤ size) × (depth a ≤ levels) × (depth b ≤ levels)
Within c room size levels ask_nothing = Unit {0}

-- ---- literals

abbrev AtMost : ℕ → Option ℕ → Type 0
AtMost n none = Unit {0}
AtMost n (some k) = k ≤ n

-- A number that is asked for as k is one.
abbrev pub K : Option ℕ → Type 0
K none = Unit {0}
K (some k) = is_k k ≡ true

only-k : (n : Option ℕ) → K (given n then only_k else none)
unfolding only_k
only-k none = tt
only-k (some k) = by-test K (is_k k) (some k) none (λ e. e) (λ _. tt)

pub k-range : (e : Expr) → K (literal_k e)
unfolding literal_k
k-range e = only-k (literal_u32 e)

bool-range : (c : Columns) (e : Expr) → InRange c e → AtMost 1 (literal_bool e)
unfolding literal_bool number_bool literal_in_range
bool-range c (column i t) h = tt
bool-range c (literal type v) h =
    by-test (AtMost 1) (eqb type 1) (some v) none
    (λ e. leb-true v 1 (subst (λ (t : ℕ). literal_in_range t v ≡ true) (eqb-true type 1 e) h.2)) (λ e. tt)
bool-range c (and l r) h = tt
bool-range c (binary o l r) h = tt
bool-range c (call name es) h = tt
bool-range c (other tag es) h = tt
bool-range c (field b t) h = tt

-- ---- calls

-- The sizes of a list of arguments.
abbrev bytes_all : Exprs → ℕ
bytes_all es = length (exprs_bytes es)

-- A request made of a list of arguments, `over` bytes in front of them.
abbrev WithinAll : Columns → (over : ℕ) → Exprs → Request → Type 0
WithinAll c over es q = Within c (over + bytes_all es) (nodes_all es) (depth_all es) q

relation-within : (c : Columns) (over : ℕ) (t : Option Relation) (es : Exprs) → 2 ≤ over → InRangeAll c es
    → WithinAll c over es (relation_request t es)
unfolding relation_request expr_bytes nodes depth
relation-within c over none es k h = tt
relation-within c over (some t) nil k h = tt
relation-within c over (some t) (cons a nil) k h = tt
relation-within c over (some t) (cons a (cons b more)) k h =
    (h.0, h.1.0, simp length-append (omega arith), omega arith, omega arith, omega arith)

dwithin-within : (c : Columns) (over : ℕ) (es : Exprs) → 3 ≤ over → InRangeAll c es → WithinAll c over es (dwithin_request es)
unfolding dwithin_request expr_bytes nodes depth
dwithin-within c over nil k h = tt
dwithin-within c over (cons a nil) k h = tt
dwithin-within c over (cons a (cons b nil)) k h = tt
dwithin-within c over (cons a (cons b (cons d more))) k h =
    (lit≤ tt, h.0, h.1.0, h.1.1.0, simp length-append (omega arith), omega arith, omega arith, omega arith, omega arith)

knn-literals-within : (c : Columns) (room size levels : ℕ) (k s t : Option ℕ) (a b : Expr) → K k → AtMost 1 s → AtMost 2 t
    → InRange c a → InRange c b → 8 + bytes a + bytes b ≤ room → nodes a + nodes b ≤ size → depth a ≤ levels → depth b ≤ levels
    → Within c room size levels (knn_literals k s t a b)
unfolding knn_literals
knn-literals-within c room size levels none s t a b hk hs ht ha hb f1 f2 f3 f4 = tt
knn-literals-within c room size levels (some k) none t a b hk hs ht ha hb f1 f2 f3 f4 = tt
knn-literals-within c room size levels (some k) (some s) none a b hk hs ht ha hb f1 f2 f3 f4 = tt
knn-literals-within c room size levels (some k) (some s) (some t) a b hk hs ht ha hb f1 f2 f3 f4 =
    (hk, hs, ht, ha, hb, f1, f2, f3, f4)

at-most-more : (k : Option ℕ) → AtMost 1 k → AtMost 2 k
at-most-more none h = tt
at-most-more (some k) h = omega arith

knn-within : (default : ℕ) → is_k default ≡ true → (c : Columns) (over : ℕ) (es : Exprs) → 8 ≤ over → InRangeAll c es
    → WithinAll c over es (knn_request_by default es)
unfolding knn_request_by expr_bytes nodes depth
knn-within default is c over nil k h = tt
knn-within default is c over (cons a nil) k h = tt
knn-within default is c over (cons a (cons b nil)) k h =
    (is, lit≤ tt, lit≤ tt, h.0, h.1.0, simp length-append (omega arith), omega arith, omega arith, omega arith)
knn-within default is c over (cons a (cons b (cons x nil))) k h =
    knn-literals-within c _ _ _ (literal_k x) (some 0) (some 2) a b (k-range x) (lit≤ tt) (lit≤ tt) h.0 h.1.0
    (simp length-append (omega arith)) (omega arith) (omega arith) (omega arith)
knn-within default is c over (cons a (cons b (cons x (cons s nil)))) k h =
    knn-literals-within c _ _ _ (literal_k x) (literal_bool s) (some 2) a b (k-range x) (bool-range c s h.1.1.1.0) (lit≤ tt) h.0
    h.1.0
    (simp length-append (omega arith)) (omega arith) (omega arith) (omega arith)
knn-within default is c over (cons a (cons b (cons x (cons s (cons t nil))))) k h =
    knn-literals-within c _ _ _ (literal_k x) (literal_bool s) (literal_bool t) a b (k-range x) (bool-range c s h.1.1.1.0)
    (at-most-more (literal_bool t) (bool-range c t h.1.1.1.1.0)) h.0 h.1.0
    (simp length-append (omega arith)) (omega arith) (omega arith) (omega arith)
knn-within default is c over (cons a (cons b (cons x (cons s (cons t (cons y more)))))) k h = tt

call-within : (default : ℕ) → is_k default ≡ true → (c : Columns) (name : List ℕ) (es : Exprs) → InRangeAll c es
    → WithinAll c (3 + length name) es (call_request_by default name es)
unfolding call_request_by ascii
call-within default is c name es h =
    by-test (WithinAll c (3 + length name) es) (same_name name (ascii "st_knn")) (knn_request_by default es) _
    (λ e. knn-within default is c (3 + length name) es (omega (arith, ap length (same-name name (ascii "st_knn") e))) h)
    (λ _. by-test (WithinAll c (3 + length name) es) (same_name name (ascii "st_dwithin")) (dwithin_request es)
    (relation_request (relation_named name) es)
    (λ e. dwithin-within c (3 + length name) es (omega arith) h)
    (λ e. relation-within c (3 + length name) (relation_named name) es (omega arith) h))

-- A larger frame around the same request.
within_more : (c : Columns) (r r' s s' l l' : ℕ) (q : Request) → r ≤ r' → s ≤ s' → l ≤ l' → Within c r s l q → Within c r' s' l' q
within_more c r r' s s' l l' (ask_relation t a b) hr hs hl h =
    (h.0, h.1, omega (arith, h.2), omega (arith, h.3), omega (arith, h.4), omega (arith, h.5))
within_more c r r' s s' l l' (ask_distance form a b d) hr hs hl h =
    (h.0, h.1, h.2, h.3, omega (arith, h.4), omega (arith, h.5), omega (arith, h.6), omega (arith, h.7), omega (arith, h.8))
within_more c r r' s s' l l' (ask_knn k sp t a b) hr hs hl h =
    (h.0, h.1, h.2, h.3, h.4, omega (arith, h.5), omega (arith, h.6), omega (arith, h.7), omega (arith, h.8))
within_more c r r' s s' l l' ask_nothing hr hs hl h = tt

-- ---- comparisons

-- An `st_distance` call measures two parts of itself.
distance-within : (c : Columns) (form : ℕ) (m d : Expr) → form ≤ 4 → InRange c m → InRange c d
    → Within c (2 + bytes m + bytes d) (nodes m + nodes d) (max (depth m) (depth d)) (distance_request form d (distance_arguments m))
unfolding distance_request distance_arguments expr_bytes nodes depth
distance-within c form (column i t) d k h g = tt
distance-within c form (literal type v) d k h g = tt
distance-within c form (and l r) d k h g = tt
distance-within c form (binary o l r) d k h g = tt
distance-within c form (call name es) d k h g =
    by-test (λ (x : Option Exprs). Within c (2 + bytes (call name es) + bytes d) (nodes (call name es) + nodes d)
    (max (depth (call name es)) (depth d)) (distance_request form d x))
    (same_name name (ascii "st_distance")) (some es) none (λ e. two es h.4) (λ e. tt)
  where
    two : (xs : Exprs) → InRangeAll c xs
        → Within c (2 + bytes (call name xs) + bytes d) (nodes (call name xs) + nodes d) (max (depth (call name xs)) (depth d))
        (distance_request form d (some xs))
    two nil r = tt
    two (cons a nil) r = tt
    two (cons a (cons b more)) r =
        (k, r.0, r.1.0, g, simp length-append (omega arith), omega arith, omega arith, omega arith, omega arith)
distance-within c form (other tag es) d k h g = tt
distance-within c form (field b t) d k h g = tt

either-by : (o p q : ℕ) (a : Bool) → eqb o p ≡ a → p ≤ 4 → q ≤ 4 → (a || eqb o q) ≡ true → o ≤ 4
either-by o p q true e hp hq h = omega (arith, eqb-true o p e)
either-by o p q false e hp hq h = omega (arith, eqb-true o q h)

either : (o p q : ℕ) → p ≤ 4 → q ≤ 4 → (eqb o p || eqb o q) ≡ true → o ≤ 4
either o p q hp hq h = either-by o p q (eqb o p) refl hp hq h

comparison-within : (c : Columns) (o : ℕ) (l r : Expr) → InRange c l → InRange c r
    → Within c (2 + bytes l + bytes r) (nodes l + nodes r) (max (depth l) (depth r)) (comparison_request o (comparison o l r))
unfolding comparison comparison_request
comparison-within c o l r hl hr =
    by-test P (eqb o 1 || eqb o 2) (compares l r) _
    (λ e. distance-within c o l r (either o 1 2 (lit≤ tt) (lit≤ tt) e) hl hr)
    (λ _. by-test P (eqb o 3 || eqb o 4) (compares r l) no_comparison
    (λ e. within_more c _ _ _ _ _ _ (distance_request o l (distance_arguments r)) (omega arith) (omega arith) (omega arith)
    (distance-within c o r l (either o 3 4 (lit≤ tt) (lit≤ tt) e) hr hl))
    (λ e. tt))
  where
    P : Comparison → Type 0
    P x = Within c (2 + bytes l + bytes r) (nodes l + nodes r) (max (depth l) (depth r)) (comparison_request o x)

pub request-within : (default : ℕ) → is_k default ≡ true → (c : Columns) (e : Expr) → InRange c e
    → Within c (bytes e) (nodes e) (depth e) (request_by default e)
unfolding request_by expr_bytes nodes depth
request-within default is c (column i t) h = tt
request-within default is c (literal type v) h = tt
request-within default is c (and l r) h = tt
request-within default is c (binary o l r) h =
    within_more c _ _ _ _ _ _ (comparison_request o (comparison o l r)) (simp length-append (omega arith)) (omega arith) (omega arith)
    (comparison-within c o l r h.2 h.3)
request-within default is c (call name es) h =
    within_more c _ _ _ _ _ _ (call_request_by default name es) (simp length-append (omega arith)) (omega arith) (omega arith)
    (call-within default is c name es h.4)
request-within default is c (other tag es) h = tt
request-within default is c (field b t) h = tt
