-- What is asked for, by what was found of a comparison and of a function.
use Rattle.std.specs.Prelude.{if◌then◌else◌, Some, None, Result, Ok, Err}
use Rattle.std.specs.Result.{result_ok}
use Prim.Native.Nat.{ℕ, ◌+◌, ◌≤◌, ◌<◌}
use native.Mathlib.Omega.{arith}
use mathlib.Core.Path.{◌≡◌, refl, sym, ap, ◌∙◌, subst}
use mathlib.Core.Bool.{Bool, true, false}
use mathlib.Core.List.{List}
use lib.ListN.{length}
use mathlib.Core.Option.{Option, none, some, none-ne-some}
use Rattle.definitions.specs.Words.Basics.{ascii, same_name}
use Rattle.definitions.specs.Words.Expression.{Relation, Expr, column, literal, and, binary, call, other, field, Exprs, nil, cons, count}
use Rattle.definitions.specs.Words.Leaves.{Comparison, no_comparison, comparison, distance_arguments, relation_named}
use Rattle.definitions.specs.Filter.Match.{relation_request, dwithin_request, knn_literals, knn_request, knn_request_by, call_request, call_request_by, distance_request, comparison_request, request, request_by}
use Rattle.definitions.specs.Bytes.Decode.{Columns}
use Rattle.definitions.specs.Bytes.Good.{nodes as nodes_in}
use Rattle.theorems.proofs.Requests.{same-name}
use Rattle.expression.specs.Places.{part}
use Rattle.expression.specs.Nodes.{head_bytes, children_of, Row}
use Rattle.expression.specs.Leaves.{Both, CallStands, CallIs, PlainNode, plain_column, plain_literal, plain_other, plain_field}
use Rattle.expression.specs.declared.leaves.Called.{Called}
use Rattle.expression.proofs.Standing.{two-of, three-of}
use Rattle.node_table.specs.declared.NodeRecord.{NodeRecord as Lent}
use Rattle.filter_tree.specs.Trees.{NodedAll, Node, OfNode, Indexed}
use Rattle.filter_tree.proofs.Children.{noded-first}
use Rattle.filter_tree.proofs.Indexes.{index-first, index-node, index-second, row-more, noded-more, index-children}
use Rattle.terms.specs.Forms.{form_number, FormIs}
use Rattle.terms.specs.declared.refusals.Refusal.{Refusal}
use Rattle.terms.specs.declared.forms.DistanceForm.{DistanceForm}
use Rattle.terms.specs.declared.forms.DistanceForm.TheVariants.{Dwithin}
use Rattle.sedona_expr.specs.declared.utils.ParsedDistancePredicate.{ParsedDistancePredicate}
use Rattle.sedona_expr.specs.Parsed.{SidesOf, Arguments, is_distance, Distance}

-- A distance of these indexes.
abbrev pub distance_at : DistanceForm → (i j k : ℕ) → ParsedDistancePredicate
distance_at form i j k = record { form = form; arg0 = i; arg1 = j; distance = k }

-- The index after the node of an index.
abbrev After : (nodes : List Lent) (i j : ℕ) → Type 0
After nodes i j = OfNode nodes i (λ at t. j ≡ i + nodes_in t)

-- A form is the operator that it was read from, and none is read above 4.
pub form-read : {n : ℕ} (read : Result DistanceForm Refusal) {form : DistanceForm} → FormIs n read → Some form ≡ result_ok read
    → n ≡ form_number form
form-read (Ok f) is e = cc
form-read (Err why) is e = cc

pub form-unread : {n : ℕ} (read : Result DistanceForm Refusal) → FormIs n read → None ≡ result_ok read → 4 < n
form-unread (Ok f) is e = cc
form-unread (Err why) is e = is.0

-- ---- comparisons

chosen : (same : Bool) (args all : Exprs) → (if same then some args else none) ≡ some all → args ≡ all
chosen true args all e = cc
chosen false args all e = absurd (none-ne-some _ e)

-- The arguments of `st_distance` are its children.
pub argument-children : (t : Expr) (all : Exprs) → distance_arguments t ≡ some all → children_of t ≡ all
unfolding distance_arguments children_of
argument-children (column i g) all e = absurd (none-ne-some _ e)
argument-children (literal y v) all e = absurd (none-ne-some _ e)
argument-children (and l r) all e = absurd (none-ne-some _ e)
argument-children (binary o l r) all e = absurd (none-ne-some _ e)
argument-children (call name args) all e = chosen (same_name name (ascii "st_distance")) args all e
argument-children (other g cs) all e = absurd (none-ne-some _ e)
argument-children (field b g) all e = absurd (none-ne-some _ e)

module _ (form : ℕ) where
  few-compared : (bound : Expr) (args : Exprs) → count args < 2 → is_distance (distance_request form bound (some args)) ≡ false
  unfolding distance_request is_distance count
  few-compared bound nil h = refl
  few-compared bound (cons a nil) h = refl
  few-compared bound (cons a (cons b more)) h = absurd (omega arith)

  pub not-compared : {q : Comparison} → q ≡ no_comparison → is_distance (comparison_request form q) ≡ false
  unfolding comparison_request is_distance
  not-compared e = rw e

  -- Its sides are told by their indexes.
  module _ {c : Columns} {s : List ℕ} {nodes : List Lent} {measured bound : ℕ} {q : Comparison}
      (sides : SidesOf (Indexed c s nodes) measured bound q) where
    asked : comparison_request form q ≡ distance_request form sides.b (distance_arguments sides.m)
    unfolding comparison_request
    asked = ap (comparison_request form) sides.is

    pub not-measured : distance_arguments sides.m ≡ none → is_distance (comparison_request form q) ≡ false
    unfolding distance_request is_distance
    not-measured e = rw (asked, e)

    module _ {first n : ℕ} (found : Arguments c s first n (distance_arguments sides.m)) where
      pub too_few : n < 2 → is_distance (comparison_request form q) ≡ false
      too_few h = rw (asked, found.is) (few-compared sides.b found.all (omega (arith, found.row.counted)))

      -- The arguments are the children of the side that is read.
      measured-two : (P : Exprs → Type 0) → ((a b : Expr) (more : Exprs) → distance_arguments sides.m ≡ some (cons a (cons b more))
          → children_of sides.m ≡ cons a (cons b more) → P (cons a (cons b more))) → 2 ≤ n → P found.all
      measured-two P f h = two-of
          (λ args. distance_arguments sides.m ≡ some args → children_of sides.m ≡ args → P args)
          (λ a b more is same. f a b more is same) found.all (omega (arith, found.row.counted)) found.is
          (argument-children sides.m found.all found.is)

      pub first-measured : 2 ≤ n → Node nodes (measured + 1)
      first-measured = measured-two (λ args. Node nodes (measured + 1))
          (λ a b more is same. (
            sides.stands_measured.at + length (head_bytes sides.m),
            a,
            noded-first (subst (NodedAll nodes (sides.stands_measured.at + length (head_bytes sides.m)) (measured + 1)) same
                (index-children sides.stands_measured).1),
          ))

      pub compared-distance : 2 ≤ n → {j : ℕ} → After nodes (measured + 1) j → (kind : DistanceForm) → form ≡ form_number kind
          → Distance c s nodes (distance_at kind (measured + 1) j bound) (comparison_request form q)
      unfolding distance_request
      compared-distance h {j} after kind named = measured-two
          (λ args. Distance c s nodes (distance_at kind (measured + 1) j bound) (comparison_request form q))
          (λ a b more is same.
          let place : ℕ = sides.stands_measured.at + length (head_bytes sides.m) in
          let both = index-children sides.stands_measured in
          let noded : NodedAll nodes place (measured + 1) (cons a (cons b more)) =
          subst (NodedAll nodes place (measured + 1)) same both.1 in
          let row : Row c s place (count (children_of sides.m)) (cons a (cons b more)) =
          subst (Row c s place (count (children_of sides.m))) same both.0 in
          record {
            a = a;
            b = b;
            bound = sides.b;
            is = asked ∙ rw (is, named);
            arg0 = index-first row noded;
            arg1 = index-second row noded after;
            distance = sides.stands_bound;
          }) h

-- ---- functions

no-knn-literals : (k spheroid ties : Option ℕ) (a b : Expr) → is_distance (knn_literals k spheroid ties a b) ≡ false
unfolding knn_literals is_distance
no-knn-literals none spheroid ties a b = refl
no-knn-literals (some k) none ties a b = refl
no-knn-literals (some k) (some spheroid) none a b = refl
no-knn-literals (some k) (some spheroid) (some ties) a b = refl

knn-no-distance : (args : Exprs) → is_distance (knn_request args) ≡ false
unfolding knn_request_by is_distance
knn-no-distance nil = refl
knn-no-distance (cons a nil) = refl
knn-no-distance (cons a (cons b nil)) = refl
knn-no-distance (cons a (cons b (cons k nil))) = no-knn-literals _ _ _ a b
knn-no-distance (cons a (cons b (cons k (cons s nil)))) = no-knn-literals _ _ _ a b
knn-no-distance (cons a (cons b (cons k (cons s (cons t nil))))) = no-knn-literals _ _ _ a b
knn-no-distance (cons a (cons b (cons k (cons s (cons t (cons x more)))))) = refl

relation-no-distance : (type : Option Relation) (args : Exprs) → is_distance (relation_request type args) ≡ false
unfolding relation_request is_distance
relation-no-distance none args = refl
relation-no-distance (some type) nil = refl
relation-no-distance (some type) (cons a nil) = refl
relation-no-distance (some type) (cons a (cons b more)) = refl

few-dwithin : (args : Exprs) → count args < 3 → is_distance (dwithin_request args) ≡ false
unfolding dwithin_request is_distance count
few-dwithin nil h = refl
few-dwithin (cons a nil) h = refl
few-dwithin (cons a (cons b nil)) h = refl
few-dwithin (cons a (cons b (cons d more))) h = absurd (omega arith)

-- A name other than `st_dwithin` asks for no distance.
other_name : (name : List ℕ) (args : Exprs) (knn : Bool) → same_name name (ascii "st_knn") ≡ knn
    → same_name name (ascii "st_dwithin") ≡ false
    → is_distance (call_request name args) ≡ false
unfolding call_request_by
other_name name args true e f = rw e (knn-no-distance args)
other_name name args false e f = rw (e, f) (relation-no-distance (relation_named name) args)

dwithin-asked : (name : List ℕ) (args : Exprs) → same_name name (ascii "st_dwithin") ≡ true → call_request name args ≡ dwithin_request args
unfolding call_request_by ascii same_name
dwithin-asked name args e = ap (λ (n : List ℕ). call_request n args) (same-name name (ascii "st_dwithin") e)

module _ {c : Columns} {s : List ℕ} {k : Called} {name : List ℕ} {args : Exprs} (st : CallStands c s k name args) {same : Bool}
    (e : same ≡ same_name (part s k.name k.end) (ascii "st_dwithin")) where
  named : same_name name (ascii "st_dwithin") ≡ same
  named = ap (λ (n : List ℕ). same_name n (ascii "st_dwithin")) (sym st.spelling) ∙ sym e

  pub not-dwithin : same ≡ false → is_distance (call_request name args) ≡ false
  not-dwithin f = other_name name args (same_name name (ascii "st_knn")) refl (named ∙ f)

  module _ (f : same ≡ true) where
    pub dwithin-too-few : k.count < 3 → is_distance (call_request name args) ≡ false
    dwithin-too-few h = rw (dwithin-asked name args (named ∙ f)) (few-dwithin args (omega (arith, st.row.counted)))

    module _ {nodes : List Lent} {i : ℕ} (noded : NodedAll nodes k.first i args) (h : 3 ≤ k.count) where
      pub first-given : Node nodes i
      first-given = two-of (λ args. NodedAll nodes k.first i args → Node nodes i)
          (λ a b more t. (k.first, a, noded-first t)) args (omega (arith, st.row.counted)) noded

      module _ {j : ℕ} (after : After nodes i j) where
        pub second-given : Node nodes j
        second-given = two-of (λ args. Row c s k.first k.count args → NodedAll nodes k.first i args → Node nodes j)
            (λ a b more row t. index-node (index-second row t after)) args (omega (arith, st.row.counted)) st.row noded

        pub dwithin-distance : {d : ℕ} → After nodes j d → Distance c s nodes (distance_at Dwithin i j d) (call_request name args)
        unfolding dwithin_request
        dwithin-distance {d} last = three-of
            (λ args. Row c s k.first k.count args → NodedAll nodes k.first i args → call_request name args ≡ dwithin_request args
            → Distance c s nodes (distance_at Dwithin i j d) (call_request name args))
            (λ a b e more row t is. record {
              a = a;
              b = b;
              bound = e;
              is = is;
              arg0 = index-first row t;
              arg1 = index-second row t after;
              distance = index-second (row-more row t after) (noded-more row t after) last;
            })
            args (omega (arith, st.row.counted)) st.row noded (dwithin-asked name args (named ∙ f))

-- ---- any node

pub plain-asks : {t : Expr} → PlainNode t → is_distance (request t) ≡ false
unfolding request_by is_distance
plain-asks plain_column = refl
plain-asks plain_literal = refl
plain-asks plain_other = refl
plain-asks plain_field = refl

module _ {c : Columns} {s : List ℕ} {at : ℕ} {t : Expr} where
  pub and-asks : {first : ℕ} → Both and c s at first t → is_distance (request t) ≡ false
  unfolding request_by is_distance
  and-asks b = rw b.is

  pub binary-asks : {operator first : ℕ} (b : Both (binary operator) c s at first t)
      → request t ≡ comparison_request operator (comparison operator b.l b.r)
  unfolding request_by
  binary-asks b = ap request b.is

  pub call_asks : {k : Called} (b : CallIs c s at k t) → request t ≡ call_request b.name b.arguments
  unfolding request_by
  call_asks b = ap request b.is
