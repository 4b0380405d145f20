-- What each return of `match_or_pass` answers, and what its calls require.
use Rattle.std.specs.Prelude.{Err}
use Rattle.std.specs.ControlFlow.{break_value}
use Rattle.std.specs.declared.ops.ControlFlow.{ControlFlow}
use Rattle.std.specs.declared.ops.ControlFlow.TheVariants.{Continue, Break}
use Prim.Native.Nat.{ℕ, ◌+◌, ◌-◌, ◌≤◌, ◌<◌}
use native.Mathlib.Nat.{zero-add}
use native.Mathlib.Omega.{arith}
use mathlib.Core.Path.{◌≡◌, refl, sym, ap, ◌∙◌, subst, subst⁻¹}
use mathlib.Core.Bool.{Bool}
use mathlib.Core.List.{List, [], ◌∷◌, map, map-append}
use mathlib.Core.Option.{Option, none, some}
use lib.ListN.{length, length-append, length-map}
use Rattle.definitions.specs.Words.Expression.{Expr, and, Record, Predicate}
use Rattle.definitions.specs.Bytes.Encode.{expr_bytes}
use Rattle.definitions.specs.Words.Leaves.{leaves}
use Rattle.definitions.specs.Bytes.Decode.{index_below}
use Rattle.definitions.specs.Bytes.Good.{nodes as nodes_in}
use Rattle.definitions.specs.Filter.Extract as definition
use Rattle.definitions.specs.Filter.Extract.{is_knn, first_match, first_of, Matcher, matches_by}
use Rattle.expression.proofs.AndLeaves.{leaves-few}
use Rattle.expression.specs.Nodes.{left_of, right_of}
use Rattle.expression.specs.Nodes.{head_bytes, OfTree, OfTreeIn}
use Rattle.expression.specs.Leaves.{Both, NodeIs}
use Rattle.expression.specs.declared.leaves.Node.{Node}
use Rattle.expression.specs.declared.leaves.Node.TheVariants as node
use Rattle.expression.proofs.Standing.{node-some, first-stands, rest-stands}
use Rattle.theorems.proofs.Walks.{moved}
use Rattle.node_table.specs.declared.NodeRecord.{NodeRecord as Lent}
use Rattle.filter_tree.specs.Trees.{Noded, Node as Within, OfNode}
use Rattle.filter_tree.proofs.Children.{noded-first, noded-rest}
use Rattle.filter_tree.proofs.Scans.{noded-within, scan-begins}
use Rattle.filter_tree.proofs.Indexes.{both-noded}
use Rattle.expression.proofs.OneTree.{of_tree}
use Rattle.leaf_matching.specs.Frames.{Over, Framed, OfFrame}
use Rattle.leaf_matching.specs.Matches.{Lacks, Matches, MatchingIs}
use Rattle.leaf_matching.specs.declared.matching.NoMatch.{NoMatch}
use Rattle.leaf_matching.specs.declared.matching.NoMatch.TheVariants.{Unmatched, NotAsked}
use Rattle.leaf_matching.proofs.Asked.{none-lacks}
use Rattle.leaf_pick.specs.Picks.{wants, matches, FirstIs, NothingIs, Found, FoundIs, FoundOrPassed, TakenIs, PickedIs}
use Rattle.expression.specs.Cuts.{CutAt, here, in_left, in_right}
use Rattle.sedona_query_planner.specs.declared.spatial_predicate.SpatialPredicate.{SpatialPredicate}
use Rattle.leaf_pick.specs.declared.first_match.Wanted.{Wanted}
use Rattle.leaf_pick.specs.declared.first_match.Wanted.TheVariants.{Other}
use Rattle.leaf_pick.specs.declared.first_match.Pick.{Pick}
use Rattle.leaf_pick.specs.declared.first_match.Passed.{Passed}
use Rattle.leaf_pick.specs.declared.first_match.Stop.{Stop}
use Rattle.leaf_pick.proofs.PickLaws.{at_position, pick_other, first-append, first-match, first-lacks}

-- ---- leaves and matches of an And

module _ (match : Matcher) (test : Predicate → Bool) (records : List Record) (l r : Expr) where
  and_first : first_match test (matches match records (and l r))
      ≡ first_of (first_match test (matches match records l)) (moved (length (leaves l)) (first_match test (matches match records r)))
  unfolding leaves
  and_first =
      ap (first_match test) (map-append (match records) (leaves l) (leaves r))
      ∙ first-append test (matches match records l) (matches match records r)
      ∙ ap (λ (n : ℕ). first_of (first_match test (matches match records l)) (moved n (first_match test (matches match records r))))
      (length-map (leaves l) (match records))

  and-left : {p : definition.Pick} → first_match test (matches match records l) ≡ some p
      → first_match test (matches match records (and l r)) ≡ some p
  unfolding first_of
  and-left e = and_first ∙ rw e

  and-right : first_match test (matches match records l) ≡ none
      → first_match test (matches match records (and l r)) ≡ moved (length (leaves l)) (first_match test (matches match records r))
  unfolding first_of
  and-right e = and_first ∙ rw e

-- ---- a leaf

one-match : (match : Matcher) (records : List Record) (t : Expr) → leaves t ≡ t ∷ [] → matches match records t ≡ match records t ∷ []
one-match match records t single = ap (map (match records)) single

-- Whyever a leaf has no match, it has none of the kind.
pub no-match_lacks : (kind : Predicate → Bool) (s : List ℕ) (records : List Record) (found : Option Predicate) (why : NoMatch)
    → MatchingIs kind s records found (Err why) → Lacks kind found
no-match_lacks kind s records found Unmatched m = none-lacks kind found m
no-match_lacks kind s records found NotAsked m = m

module _ {match : Matcher} (wanted : Wanted) {s : List ℕ} {rec at : ℕ} {records : List Record} {t : Expr} (over : Over s rec at records t)
    (single : leaves t ≡ t ∷ []) where
  pub leaf-matched : {before up : ℕ} (p : SpatialPredicate) (end : ℕ)
      → Matches (wants wanted) s records p (match records t) → end ≡ at + length (expr_bytes t)
      → FirstIs match wanted s at before up
      (record { predicate = p; position = before; cut = record { leaf = at; end = end; parent = up } }) records t
  leaf-matched {before} p end m ends = record {
    i = 0;
    q = m.q;
    first =
        ap (first_match (wants wanted)) (one-match match records t single)
        ∙ first-match (wants wanted) (match records t) m.q m.is m.passes;
    counted = omega arith;
    stands = m.stands;
    cut = here single refl ends refl;
  }

  pub leaf-lacks : {before : ℕ} → Lacks (wants wanted) (match records t) → NothingIs match wanted before (before + 1) records t
  leaf-lacks {before} m = record {
    first = ap (first_match (wants wanted)) (one-match match records t single) ∙ first-lacks (wants wanted) (match records t) m;
    counted = ap (λ (n : ℕ). before + n) (sym (ap length single));
  }

-- ---- an And

-- Its children.
pub record Children (s : List ℕ) (rec at left : ℕ) (records : List Record) (t : Expr) : Type 0 where
  pub l : Expr
  pub r : Expr
  pub is : t ≡ and l r
  pub begins : left ≡ left_of at
  pub first : Over s rec left records l
  pub second : (p : ℕ) → p ≡ left + length (expr_bytes l) → Over s rec p records r

module _ {s : List ℕ} {rec at left : ℕ} {found : Node} (is : OfTreeIn s at (λ c t. NodeIs c s at found t))
    (told : found ≡ node.And left) where
  pub its-children : {records : List Record} {t : Expr} → Over s rec at records t → Children s rec at left records t
  unfolding head_bytes
  its-children {records} {t} over =
      let b : Both and (index_below (length records)) s at left t = rw told at (is (index_below (length records)) t over.tree) in
      record {
        l = b.l;
        r = b.r;
        is = b.is;
        begins = b.begins ∙ ap (λ (t : Expr). at + length (head_bytes t)) b.is;
        first = record { entries = over.entries; tree = first-stands b.row };
        second = λ p e. record { entries = over.entries; tree = first-stands (rest-stands b.row p 1 e refl) };
      }

  pub left-framed : Framed s rec at → Framed s rec left
  left-framed p = (p.0, (its-children p.2).l, (its-children p.2).first)

  pub left_after : Framed s rec at → at < left
  left_after p = omega (arith, (its-children p.2).begins)

  module _ {match : Matcher} {wanted : Wanted} {before : ℕ} where
    pub match-left : {up : ℕ} {p : Pick} → OfFrame s rec left (FirstIs match wanted s left before at p)
        → OfFrame s rec at (FirstIs match wanted s at before up p)
    match-left {up} {p} inner records t over =
        let c : Children s rec at left records t = its-children over in
        let f : FirstIs match wanted s left before at p records c.l = inner records c.l c.first in
        subst⁻¹ (FirstIs match wanted s at before up p records) c.is (record {
          i = f.i;
          q = f.q;
          first = and-left match (wants wanted) records c.l c.r f.first;
          counted = f.counted;
          stands = f.stands;
          cut = in_left (subst (λ (a : ℕ). CutAt p.cut at c.l a f.i) c.begins f.cut);
        })

    module _ {right count : ℕ} (inner : OfFrame s rec left (NothingIs match wanted before count))
        (ends : OfTree s left (λ l. right ≡ left + length (expr_bytes l))) where
      pub right-framed : Framed s rec at → before ≤ at → Framed s rec right × (at < right) × (count ≤ right)
      right-framed p h =
          let c : Children s rec at left p.0 p.1 = its-children p.2 in
          let n : NothingIs match wanted before count p.0 c.l = inner p.0 c.l c.first in
          let e : right ≡ left + length (expr_bytes c.l) = ends _ c.l c.first.tree in (
            (p.0, c.r, c.second right e),
            omega (arith, c.begins, e),
            omega (arith, c.begins, e, n.counted, leaves-few c.l),
          )

      pub match-right : (up : ℕ) (r : Found) → OfFrame s rec right (FoundIs match wanted s right count at r)
          → OfFrame s rec at (FoundIs match wanted s at before up r)
      unfolding moved leaves
      match-right up (Break p) outer records t over =
          let c : Children s rec at left records t = its-children over in
          let n : NothingIs match wanted before count records c.l = inner records c.l c.first in
          let e : right ≡ left + length (expr_bytes c.l) = ends _ c.l c.first.tree in
          let f : FirstIs match wanted s right count at p records c.r = outer records c.r (c.second right e) in
          let place : right ≡ right_of at c.l = e ∙ ap (λ (a : ℕ). a + length (expr_bytes c.l)) c.begins in
          subst⁻¹ (FirstIs match wanted s at before up p records) c.is (record {
            i = length (leaves c.l) + f.i;
            q = f.q;
            first = and-right match (wants wanted) records c.l c.r n.first ∙ ap (moved (length (leaves c.l))) f.first;
            counted = omega (arith, f.counted, n.counted);
            stands = f.stands;
            cut = in_right (subst (λ (a : ℕ). CutAt p.cut at c.r a f.i) place f.cut);
          })
      match-right up (Continue many) outer records t over =
          let c : Children s rec at left records t = its-children over in
          let n : NothingIs match wanted before count records c.l = inner records c.l c.first in
          let f : NothingIs match wanted count many records c.r =
          outer records c.r (c.second right (ends _ c.l c.first.tree)) in
          subst⁻¹ (NothingIs match wanted before many records) c.is (record {
            first = and-right match (wants wanted) records c.l c.r n.first ∙ ap (moved (length (leaves c.l))) f.first;
            counted = simp length-append (omega (arith, n.counted, f.counted));
          })

both-nodes : (l r : Expr) → nodes_in (and l r) ≡ 1 + nodes_in l + nodes_in r
unfolding nodes_in
both-nodes l r = omega arith

-- What the loop along the right children keeps: what is found from the node that it came to is found from the first.
pub record Along (match : Matcher) (wanted : Wanted) (s : List ℕ) (nodes : List Lent) (rec : ℕ) (from : Stop) (parent : ℕ) (stop : Stop)
    (above : ℕ) : Type 0 where
  pub there : Framed s rec stop.at
  pub noded : OfTree s stop.at (Noded nodes stop.at stop.index)
  pub low : from.at ≤ stop.at
  pub few : stop.position ≤ stop.at
  pub rest : (r : ControlFlow Pick Passed) → OfFrame s rec stop.at (FoundOrPassed match wanted s stop above r)
      → OfFrame s rec from.at (FoundOrPassed match wanted s from parent r)

module _ {match : Matcher} {wanted : Wanted} {s : List ℕ} {nodes : List Lent} {rec : ℕ} {from : Stop} {parent : ℕ} where
  pub along-begins : Framed s rec from.at → OfTree s from.at (Noded nodes from.at from.index) → from.position ≤ from.at
      → Along match wanted s nodes rec from parent from parent
  along-begins there noded few = record { there = there; noded = noded; low = omega arith; few = few; rest = λ r is. is }

  module _ {stop : Stop} {above : ℕ} (inv : Along match wanted s nodes rec from parent stop above) where
    pub along-within : stop.index < length nodes
    along-within = noded-within (inv.noded _ _ inv.there.2.tree)

    pub stop-node : Within nodes stop.index
    stop-node = (_, _, inv.noded _ _ inv.there.2.tree)

    -- A leaf is taken, or passed.
    pub along-taken : {p : Pick} → OfFrame s rec stop.at (FirstIs match wanted s stop.at stop.position above p)
        → OfFrame s rec from.at (FirstIs match wanted s from.at from.position parent p)
    along-taken {p} is = inv.rest (Break p) is

    pub along-passed : {position after : ℕ} → OfFrame s rec stop.at (NothingIs match wanted stop.position position)
        → OfNode nodes stop.index (λ at t. after ≡ stop.index + nodes_in t)
        → OfFrame s rec from.at (FoundOrPassed match wanted s from parent (Continue (record { position = position; after = after })))
    along-passed nothing after =
        inv.rest (Continue (record { position = _; after = _ }))
        (λ records t over. (nothing records t over, after stop.at t (inv.noded _ t over.tree)))

    -- What is found from the node that it came to, with no word of where that ends, is found from the first.
    pub along-found : (r : Found) → OfFrame s rec stop.at (FoundIs match wanted s stop.at stop.position above r)
        → OfFrame s rec from.at (FoundIs match wanted s from.at from.position parent r)
    along-found (Break p) = along-taken
    along-found (Continue position) = λ nothing records t over.
        let h = inv.noded _ _ inv.there.2.tree in
        (along-passed {after = stop.index + nodes_in inv.there.1} nothing (λ at u k. omega (arith, scan-begins h, scan-begins k))
        records t over).0

    module _ {left : ℕ} {found : Node} (is : OfTreeIn s stop.at (λ c t. NodeIs c s stop.at found t)) (told : found ≡ node.And left) where
      its-both : Both and (index_below (length inv.there.0)) s stop.at left inv.there.1
      its-both = rw told at (is _ inv.there.1 inv.there.2.tree)

      pub along-noded : OfTree s left (Noded nodes left (stop.index + 1))
      along-noded =
          of_tree (Noded nodes left (stop.index + 1)) (first-stands its-both.row)
          (noded-first (both-noded (inv.noded _ _ inv.there.2.tree) its-both))

      pub left-node : Within nodes (stop.index + 1)
      left-node = (_, _, along-noded _ _ (first-stands its-both.row))

      pub left_there : {m : ℕ} → length s - from.at ≡ m → (length s - left < m) × (Framed s rec left × (stop.position ≤ left))
      left_there whole =
          let after = left_after is told inv.there in (
            omega (arith, whole, after, inv.low, node-some inv.there.2.tree),
            (left-framed is told inv.there, omega (arith, after, inv.few)),
          )

      -- Where the left side is passed from.
      abbrev pub left_stop : Stop
      left_stop = record { at = left; index = stop.index + 1; position = stop.position }

      pub along-left : {p : Pick} → OfFrame s rec left (FirstIs match wanted s left stop.position stop.at p)
          → OfFrame s rec from.at (FirstIs match wanted s from.at from.position parent p)
      along-left {p} inner = inv.rest (Break p) (match-left is told inner)

      -- Where it was passed, nothing is found in it, and its records end where the answer says.
      pub left-passed : {passed : Passed} → OfFrame s rec left (FoundOrPassed match wanted s left_stop stop.at (Continue passed))
          → OfFrame s rec left (NothingIs match wanted stop.position passed.position)
          × OfNode nodes (stop.index + 1) (λ at t. passed.after ≡ stop.index + 1 + nodes_in t)
      left-passed inner =
          let c : Children s rec stop.at left inv.there.0 inv.there.1 = its-children is told inv.there.2 in (
            λ records t over. (inner records t over).0,
            λ at t h.
                omega (arith, (inner inv.there.0 c.l c.first).1, scan-begins h, scan-begins (along-noded _ c.l c.first.tree)),
          )

      module _ {right counted : ℕ} (nothing : OfFrame s rec left (NothingIs match wanted stop.position counted))
          (ends : OfNode nodes (stop.index + 1) (λ at t. right ≡ at + length (expr_bytes t)))
        where
          left-ends : OfTree s left (λ l. right ≡ left + length (expr_bytes l))
          left-ends d l stands = ends left l (along-noded d l stands)

          after-left : Framed s rec right × (stop.at < right) × (counted ≤ right)
          after-left = right-framed is told nothing left-ends inv.there inv.few

          pub along-less : length s - right < length s - stop.at
          along-less = omega (arith, after-left.1, node-some inv.there.2.tree)

          module _ (k : ℕ) (after : OfNode nodes (stop.index + 1) (λ at t. k ≡ stop.index + 1 + nodes_in t)) where
            -- The right side, from where the left one ends.
            abbrev pub right_stop : Stop
            right_stop = record { at = right; index = k; position = counted }

            passed-on : (r : ControlFlow Pick Passed) → OfFrame s rec right (FoundOrPassed match wanted s right_stop stop.at r)
                → OfFrame s rec stop.at (FoundOrPassed match wanted s stop above r)
            passed-on (Break p) outer records t over = match-right is told nothing left-ends above (Break p) outer records t over
            passed-on (Continue x) outer records t over =
                let c : Children s rec stop.at left records t = its-children is told over in
                let e : right ≡ left + length (expr_bytes c.l) = left-ends _ c.l c.first.tree in (
                  match-right is told nothing left-ends above (Continue x.position) (λ records t over. (outer records t over).0)
                      records t over,
                  omega (
                    arith,
                    (outer records c.r (c.second right e)).1,
                    after left c.l (along-noded _ c.l c.first.tree),
                    ap nodes_in c.is,
                    both-nodes c.l c.r,
                  ),
                )

            pub along-right : Along match wanted s nodes rec from parent right_stop stop.at
            along-right =
                let b = its-both in
                let h = inv.noded _ _ inv.there.2.tree in
                let e : right ≡ left + length (expr_bytes b.l) = left-ends _ b.l (first-stands b.row) in
                record {
                  there = after-left.0;
                  noded = of_tree (Noded nodes right k) (first-stands (rest-stands b.row right 1 e refl))
                      (noded-first (noded-rest (both-noded h b) right k e (after left b.l (noded-first (both-noded h b)))));
                  low = omega (arith, inv.low, after-left.1);
                  few = after-left.2;
                  rest = λ r outer. inv.rest r (passed-on r outer);
                }

-- ---- two passes

-- The first match of a pass is the pick.
pub taken_is : {match : Matcher} {s : List ℕ} {at : ℕ} {wanted : Wanted} {p : Pick} {records : List Record} {t : Expr}
    → FirstIs match wanted s at 0 at p records t
    → definition.pick (matches match records t) ≡ first_match (wants wanted) (matches match records t) → TakenIs match s at p records t
unfolding matches_by
taken_is {match} {s} {at} {wanted} {p} {records} {t} f e =
    let same : p.position ≡ f.i = f.counted ∙ zero-add f.i in
    record {
      q = f.q;
      is = e ∙ f.first ∙ ap (λ (i : ℕ). at_position i f.q) (sym same);
      stands = f.stands;
      cut = subst⁻¹ (CutAt p.cut at t at) same f.cut;
    }

-- After a pass for KNN that found nothing, what the other finds is the pick.
pub second-pass : (match : Matcher) (s : List ℕ) (at : ℕ) (records : List Record) (t : Expr) (found : Found)
    → first_match is_knn (matches match records t) ≡ none → FoundIs match Other s at 0 at found records t
    → PickedIs match s at (break_value found) records t
unfolding matches_by
second-pass match s at records t (Break p) lacks f = taken_is f (pick_other _ lacks)
second-pass match s at records t (Continue count) lacks f = pick_other _ lacks ∙ f.first
