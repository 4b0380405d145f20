-- A leaf matches unless a reason applies, argument by argument: so a verdict says a match exactly where there is one, and its line.
use Rattle.std.specs.Prelude.{if◌then◌else◌}
use Prim.Native.Nat.{ℕ, ◌<◌}
use native.Mathlib.Omega.{arith}
use mathlib.Core.Path.{◌≡◌, refl, sym, ap, ◌∙◌, subst}
use mathlib.Core.Bool.{Bool, true, false, ◌&&◌, ◌||◌, not, and-false, and-true, or-true, or-false}
use mathlib.Core.List.{List, [], ◌∷◌}
use mathlib.Core.Option.{Option, none, some, map}
use lib.Dec.{leb, ltb, eqb}
use lib.IntN.{ℤ, pos, negsuc}
use borrow.Author.Tests.{ltb-true, ltb-false, le-leb, lt-leb, lt-ltb, not-true}
use Rattle.definitions.specs.Words.Basics.{given◌then◌else◌, ascii, same_name, any, all}
use Rattle.definitions.specs.Words.Expression.{Side, left, right, no_side, Relation, Expr, column, literal, and, binary, call, other, field, Exprs, nil, cons, Record, Predicate, relation, distance, knn, invert}
use Rattle.definitions.specs.Bytes.Encode.{predicate_kind}
use Rattle.definitions.specs.Words.Literals.{signed, u32, number_u32, is_k, only_k}
use Rattle.definitions.specs.Words.Leaves.{relation_named, Comparison, compares, no_comparison, comparison, distance_arguments}
use Rattle.definitions.specs.Filter.Match.{literal_u32, literal_k, literal_bool, Request, ask_distance, ask_nothing, relation_request, dwithin_request, knn_literals, knn_request_by, call_request_by, distance_request, comparison_request, request_by, ArgumentSide, no_columns, all_on, mixed, side_of, Order, left_right, right_left, no_order, order_of, match_relation, store_distance, match_distance, match_knn, match_request, match_leaf_by}
use Rattle.definitions.specs.Filter.Settings.{Settings, good_settings, has_bit, allowed, passing, only_if, match_under, GoodSettings}
use Rattle.definitions.specs.Filter.Verdicts.{Verdict, verdict_byte, reasons, PriceLine, relation_line, distance_line, knn_line, no_line, line_named, line_compared, line_meant, is_no_line, is_distance_line, is_knn_line, with_bound, arguments_compared, arguments_of, argument_is, has_argument, sides_of, of_both, of_mark, whole_number, literal_whole, no_number, is_below_one, is_above, below_one, above, no_flag, left_out, lacks, geometry_is, bound_is, knn_literal_is, applies_by, applies, first_that, matches_as, verdict_under}
use Rattle.definitions.specs.Claims.Verdicts.{line_said, VerdictExactly}
use Rattle.theorems.proofs.Tools.{by-test, and-both}
use Rattle.theorems.proofs.VerdictSides.{not-and, ordered, geometry_reasons, geometries-are, bound-ok, bounds-are}

-- ---- k and the flags

module _ (greatest : ℕ) (width : greatest < 4294967296) where
  k-ok : Option ℕ → Bool
  k-ok none = false
  k-ok (some n) = leb n greatest

  too-great : (n : ℕ) → leb n greatest ≡ false → k-ok (given (if leb n 4294967295 then some n else none) then only_k else none) ≡ false
  unfolding k-ok only_k
  too-great n e =
      by-test (λ (x : Option ℕ). k-ok (given x then only_k else none) ≡ false) (leb n 4294967295) (some n) none
      (λ _. by-test (λ (x : Option ℕ). k-ok x ≡ false) (is_k n) (some n) none (λ _. e) (λ _. refl)) (λ _. refl)

  pos-k : (n : ℕ) (rest p q : Bool) → ltb n 1 ≡ p → ltb greatest n ≡ q
      → (p || (q || rest)) ≡ (not (k-ok (given u32 (pos n) then only_k else none)) || rest)
  unfolding u32 only_k is_k k-ok
  pos-k n rest true q e f =
      rw (le-leb n 4294967295 (omega (arith, ltb-true n 1 e)), lt-leb 1 n (ltb-true n 1 e)) refl
  pos-k n rest false true e f =
      sym (ap (λ (b : Bool). not b || rest) (too-great n (lt-leb n greatest (ltb-true greatest n f))))
  pos-k n rest false false e f =
      rw (
        le-leb n 4294967295 (omega (arith, ltb-false greatest n f, width)),
        le-leb 1 n (ltb-false n 1 e),
        lt-ltb n 4294967296 (omega (arith, ltb-false greatest n f, width)),
        le-leb n greatest (ltb-false greatest n f),
      ) refl

  whole-k : (z : Option ℤ) (rest : Bool)
      → ((given z then (λ y. false) else true)
      || ((given z then is_below_one else false) || ((given z then is_above greatest else false) || rest)))
      ≡ (not (k-ok (given (given z then u32 else none) then only_k else none)) || rest)
  unfolding is_below_one is_above
  whole-k none rest = unfold k-ok in refl
  whole-k (some (negsuc n)) rest = unfold k-ok u32 in refl
  whole-k (some (pos n)) rest = pos-k n rest (ltb n 1) (ltb greatest n) refl refl

  number-whole : (type v : ℕ) → number_u32 type v ≡ (given whole_number type v then u32 else none)
  unfolding number_u32 whole_number
  number-whole type v = cases (eqb type 2 || eqb type 3) (eqb type 4 || eqb type 5)
    where
      cases : (p q : Bool)
          → (if p then u32 (signed v) else if q then u32 (pos v) else none)
          ≡ (given (if p then some (signed v) else if q then some (pos v) else none) then u32 else none)
      cases true q = refl
      cases false true = refl
      cases false false = refl

  k-reasons-are : (e : Expr) (rest : Bool)
      → (no_number e || (below_one e || (above greatest e || rest))) ≡ (not (k-ok (literal_k e)) || rest)
  unfolding no_number below_one above literal_whole literal_k literal_u32
  k-reasons-are (literal type v) rest =
      whole-k (whole_number type v) rest
      ∙ sym (ap (λ (x : Option ℕ). not (k-ok (given x then only_k else none)) || rest) (number-whole type v))
  k-reasons-are (column i t) rest = unfold k-ok in refl
  k-reasons-are (and l r) rest = unfold k-ok in refl
  k-reasons-are (binary o l r) rest = unfold k-ok in refl
  k-reasons-are (call name es) rest = unfold k-ok in refl
  k-reasons-are (other tag es) rest = unfold k-ok in refl
  k-reasons-are (field b t) rest = unfold k-ok in refl

is-flag : Option ℕ → Bool
is-flag none = false
is-flag (some n) = true

flag-reason : (e : Expr) → no_flag e ≡ not (is-flag (literal_bool e))
unfolding no_flag is-flag
flag-reason e = by-flag (literal_bool e)
  where
    by-flag : (x : Option ℕ) → (given x then (λ flag. false) else true) ≡ not (is-flag x)
    by-flag none = refl
    by-flag (some n) = refl

-- What the reasons of a leaf are read by, under one name.
unfoldable pub reading : ℕ
unfolding any reasons applies_by is_no_line is_distance_line is_knn_line left_out lacks has_argument argument_is geometry_is bound_is
    knn_literal_is
reading = 0

-- ---- matches under settings

-- The line of a kind where this holds, else none.
abbrev if-holds : (kind : ℕ) → Bool → Option ℕ
if-holds kind c = if c then some kind else none

if-not : (kind : ℕ) (c : Bool) → (if not c then none else some kind) ≡ if-holds kind c
if-not kind true = refl
if-not kind false = refl

if-match : (b : Bool) (p : Predicate) → map predicate_kind (if b then some p else none) ≡ if-holds (predicate_kind p) b
if-match true p = refl
if-match false p = refl

module _ (S : Settings) (good : GoodSettings S) (rs : List Record) (leaf : Expr) where
  -- The line of a match that the settings allow.
  abbrev line : Option Predicate → Option ℕ
  line m = map predicate_kind (passing (allowed S) m)

  line-is : (p : Predicate) → line (some p) ≡ if-holds (predicate_kind p) (allowed S p)
  unfolding passing
  line-is p = if-match (allowed S p) p

  abbrev bit : (place : ℕ) → Bool
  bit place = has_bit place S.kinds

  relation-matches : (t : Relation) (a b : Expr) (o : Order) → line (match_relation t a b o) ≡ if-holds 0x11 (bit 0 && (ordered o && true))
  unfolding passing allowed match_relation ordered predicate_kind
  relation-matches t a b left_right = line-is (relation t a b) ∙ simp and-true
  relation-matches t a b right_left = line-is (relation (invert t) b a) ∙ simp and-true
  relation-matches t a b no_order = simp and-false

  stored-matches : (form : ℕ) (s : Side) (a b d : Expr) (o : Order)
      → line (store_distance form s a b d o) ≡ if-holds 0x12 (bit 1 && (ordered o && true))
  unfolding passing allowed store_distance ordered predicate_kind
  stored-matches form s a b d left_right = line-is (distance form s a b d) ∙ simp and-true
  stored-matches form s a b d right_left = line-is (distance form s b a d) ∙ simp and-true
  stored-matches form s a b d no_order = simp and-false

  distance-matches : (form : ℕ) (a b d : Expr) (side : ArgumentSide) (o : Order)
      → line (match_distance rs form a b d side o) ≡ if-holds 0x12 (bit 1 && (ordered o && bound-ok side))
  unfolding match_distance bound-ok passing
  distance-matches form a b d no_columns o = stored-matches form no_side a b d o
  distance-matches form a b d (all_on left) o = stored-matches form left a b _ o
  distance-matches form a b d (all_on right) o = stored-matches form right a b _ o
  distance-matches form a b d (all_on no_side) o = simp and-false
  distance-matches form a b d mixed o = simp and-false

  abbrev ok-k : Option ℕ → Bool
  ok-k = k-ok S.greatest_k good.width

  nearest-matches : (k s t : ℕ) (a b : Expr) (o : Order)
      → line (match_knn k s t a b o) ≡ if-holds 0x13 (bit 2 && (ordered o && leb k S.greatest_k))
  unfolding passing allowed match_knn ordered predicate_kind
  nearest-matches k s t a b left_right = line-is (knn k s left t a b)
  nearest-matches k s t a b right_left = line-is (knn k s right t a b)
  nearest-matches k s t a b no_order = simp and-false

  abbrev order_in : (a b : Expr) → Order
  order_in a b = order_of (side_of rs a) (side_of rs b)

  knn-matches : (k s t : Option ℕ) (a b : Expr)
      → line (match_request rs (knn_literals k s t a b))
      ≡ if-holds 0x13 (bit 2 && (ordered (order_in a b) && (ok-k k && (is-flag s && is-flag t))))
  unfolding knn_literals match_request k-ok is-flag passing
  knn-matches none s t a b = simp and-false
  knn-matches (some k) none t a b = simp and-false
  knn-matches (some k) (some s) none a b = simp and-false
  knn-matches (some k) (some s) (some t) a b = nearest-matches k s t _ _ (order_in a b) ∙ simp and-true

  -- ---- the line that is said of a leaf, by the line that it is meant for and its arguments

  -- What is to be shown of one that asks for this.
  abbrev Said : PriceLine → Exprs → Request → Type 0
  Said meant es q =
      (if any (applies_by S rs leaf meant es) reasons then none else line_said (matches_as meant)) ≡ line (match_request rs q)

  -- One of a kind that the settings may leave out, with two geometries: what comes after them is a reason unless this holds.
  by-geometries : (kind place : ℕ) (a b : Expr) (rest c : Bool) (x : Option ℕ) → rest ≡ not c
      → x ≡ if-holds kind (bit place && (ordered (order_in a b) && c))
      → (if not (bit place) || geometry_reasons (sides_of rs a) (sides_of rs b) rest then none else some kind) ≡ x
  unfolding sides_of side_of
  by-geometries kind place a b rest c x e m =
      rw (geometries-are (sides_of rs a) (sides_of rs b) rest, e)
      (rw (sym (not-and (ordered (order_in a b)) c), sym (not-and (bit place) (ordered (order_in a b) && c)))
      (if-not kind (bit place && (ordered (order_in a b) && c)) ∙ sym m))

  said-relation : (t : Relation) (es : Exprs) → Said relation_line es (relation_request (some t) es)
  unfolding reading relation_request match_request matches_as line_said verdict_byte
  said-relation t nil = unfold passing in simp or-true
  said-relation t (cons a nil) = unfold passing in simp or-true
  said-relation t (cons a (cons b more)) = by-geometries 0x11 0 a b false true _ refl (relation-matches t _ _ (order_in a b))

  -- A distance asks for its first three arguments.
  unfoldable third : (form : ℕ) → Exprs → Request
  third form nil = ask_nothing
  third form (cons a nil) = ask_nothing
  third form (cons a (cons b nil)) = ask_nothing
  third form (cons a (cons b (cons d more))) = ask_distance form a b d

  bound-reasons : (d : Expr) → (of_both (sides_of rs d) || (of_mark (sides_of rs d) || false)) ≡ not (bound-ok (side_of rs d))
  unfolding sides_of side_of
  bound-reasons d = bounds-are (sides_of rs d) false ∙ or-false _

  said-distance : (form : ℕ) (es : Exprs) → Said distance_line es (third form es)
  unfolding reading third match_request matches_as line_said verdict_byte
  said-distance form nil = unfold passing in simp or-true
  said-distance form (cons a nil) = unfold passing in simp or-true
  said-distance form (cons a (cons b nil)) = unfold passing in simp or-true
  said-distance form (cons a (cons b (cons d more))) =
      by-geometries 0x12 1 a b _ (bound-ok (side_of rs d)) _ (bound-reasons d) (distance-matches form _ _ d (side_of rs d) (order_in a b))

  literal-chain : (k s t : Bool) → (not k || (not s || (not t || false))) ≡ not (k && (s && t))
  literal-chain false s t = refl
  literal-chain true false t = refl
  literal-chain true true false = refl
  literal-chain true true true = refl

  said-literals : (a b k : Expr) (s t : Option ℕ) (x y : Bool) → x ≡ not (is-flag s) → y ≡ not (is-flag t)
      → (if not (bit 2) || geometry_reasons (sides_of rs a) (sides_of rs b)
      (no_number k || (below_one k || (above S.greatest_k k || (x || (y || false))))) then none else some 0x13)
      ≡ line (match_request rs (knn_literals (literal_k k) s t a b))
  said-literals a b k s t x y e f =
      by-geometries 0x13 2 a b _ (ok-k (literal_k k) && (is-flag s && is-flag t)) _
      (k-reasons-are S.greatest_k good.width k (x || (y || false)) ∙ rw (e, f) (literal-chain (ok-k (literal_k k)) (is-flag s) (is-flag t)))
      (knn-matches (literal_k k) s t a b)

  default-fits : leb S.default_k S.greatest_k ≡ true
  unfolding good_settings
  default-fits =
      (and-both (leb 1 S.default_k) _ (and-both (leb S.kinds 7) _ (and-both (leb 1 S.kinds) _ good.good).1).1).1

  said-knn : (es : Exprs) → Said knn_line es (knn_request_by S.default_k es)
  unfolding reading knn_request_by matches_as line_said verdict_byte
  said-knn nil = unfold match_request passing in simp or-true
  said-knn (cons a nil) = unfold match_request passing in simp or-true
  said-knn (cons a (cons b nil)) =
      by-geometries 0x13 2 a b false (leb S.default_k S.greatest_k) _ (ap not (sym default-fits))
      (unfold match_request in nearest-matches S.default_k 0 2 _ _ (order_in a b))
  said-knn (cons a (cons b (cons k nil))) = unfold is-flag in said-literals a b k (some 0) (some 2) false false refl refl
  said-knn (cons a (cons b (cons k (cons s nil)))) =
      said-literals a b k (literal_bool s) (some 2) (no_flag s) false (flag-reason s) (unfold is-flag in refl)
  said-knn (cons a (cons b (cons k (cons s (cons t nil))))) =
      said-literals a b k (literal_bool s) (literal_bool t) (no_flag s) (no_flag t) (flag-reason s) (flag-reason t)
  said-knn (cons a (cons b (cons k (cons s (cons t (cons u more)))))) = unfold match_request passing in simp or-true

  -- One that is meant for no line.
  said-nothing : (es : Exprs) → Said no_line es ask_nothing
  unfolding reading match_request passing
  said-nothing es = simp or-true

  dwithin-third : (es : Exprs) → third 0 es ≡ dwithin_request es
  unfolding third dwithin_request
  dwithin-third nil = refl
  dwithin-third (cons a nil) = refl
  dwithin-third (cons a (cons b nil)) = refl
  dwithin-third (cons a (cons b (cons d more))) = refl

  bound-third : (form : ℕ) (d : Expr) (es : Exprs) → third form (with_bound d es) ≡ distance_request form d (some es)
  unfolding third with_bound distance_request
  bound-third form d nil = refl
  bound-third form d (cons a nil) = refl
  bound-third form d (cons a (cons b more)) = refl

  said-call : (name : List ℕ) (es : Exprs) → Said (line_named name) es (call_request_by S.default_k name es)
  unfolding line_named call_request_by
  said-call name es = cases (same_name name (ascii "st_knn")) (same_name name (ascii "st_dwithin")) (relation_named name)
    where
      none-asked : Said no_line es (relation_request none es)
      none-asked = unfold relation_request in said-nothing es

      cases : (p q : Bool) (t : Option Relation)
          → Said (if p then knn_line else if q then distance_line else given t then (λ type. relation_line) else no_line) es
          (if p then knn_request_by S.default_k es else if q then dwithin_request es else relation_request t es)
      cases true q t = said-knn es
      cases false true t = subst (Said distance_line es) (dwithin-third es) (said-distance 0 es)
      cases false false (some t) = said-relation t es
      cases false false none = none-asked

  said-compared : (form : ℕ) (c : Comparison) → Said (line_compared c) (arguments_compared c) (comparison_request form c)
  unfolding line_compared arguments_compared comparison_request
  said-compared form no_comparison = said-nothing nil
  said-compared form (compares measured d) = by-arguments (distance_arguments measured)
    where
      none-asked : Said no_line nil (distance_request form d none)
      none-asked = unfold distance_request in said-nothing nil

      by-arguments : (m : Option Exprs)
          → Said (given m then (λ es. distance_line) else no_line) (given m then with_bound d else nil) (distance_request form d m)
      by-arguments none = none-asked
      by-arguments (some es) =
          subst (Said distance_line (with_bound d es)) (bound-third form d es) (said-distance form (with_bound d es))

  said-leaf : (e : Expr) → Said (line_meant e) (arguments_of e) (request_by S.default_k e)
  unfolding line_meant arguments_of request_by
  said-leaf (column i t) = said-nothing nil
  said-leaf (literal type v) = said-nothing nil
  said-leaf (and l r) = said-nothing nil
  said-leaf (binary o l r) = said-compared o (comparison o l r)
  said-leaf (call name es) = said-call name es
  said-leaf (other tag es) = said-nothing nil
  said-leaf (field b t) = said-nothing nil

-- ---- the verdict

-- Whether a verdict is a reason.
abbrev pub is_reason : Verdict → Bool
is_reason v = not (leb (verdict_byte v) 0x13)

reason-says : (v : Verdict) → is_reason v ≡ true → line_said v ≡ none
unfolding line_said
reason-says v e = ap (λ (b : Bool). if b then some (verdict_byte v) else none) (not-true (leb (verdict_byte v) 0x13) e)

by-head : (test : Verdict → Bool) (last v : Verdict) (vs : List Verdict) (b : Bool) → line_said v ≡ none
    → line_said (first_that test last vs) ≡ (if any test vs then none else line_said last)
    → line_said (if b then v else first_that test last vs) ≡ (if b || any test vs then none else line_said last)
by-head test last v vs true e h = e
by-head test last v vs false e h = h

pub first-said : (test : Verdict → Bool) (last : Verdict) (vs : List Verdict) → all is_reason vs ≡ true
    → line_said (first_that test last vs) ≡ (if any test vs then none else line_said last)
unfolding first_that any all
first-said test last [] h = refl
first-said test last (v ∷ vs) h =
    let both : (is_reason v ≡ true) × (all is_reason vs ≡ true) = and-both (is_reason v) (all is_reason vs) h in
    by-head test last v vs (test v) (reason-says v both.0) (first-said test last vs both.1)

pub reasons-are : all is_reason reasons ≡ true
unfolding all reasons verdict_byte
reasons-are = refl

pub verdict-exactly-holds : VerdictExactly
unfolding verdict_under match_under only_if match_leaf_by applies
verdict-exactly-holds S good rs leaf =
    first-said (applies S rs leaf) (matches_as (line_meant leaf)) reasons reasons-are ∙ said-leaf S good rs leaf leaf
