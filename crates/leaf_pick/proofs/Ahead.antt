-- What the loop of the walk keeps: of the nodes that are still ahead of it, what is picked and reached among them.
use Rattle.std.specs.Prelude.{if◌then◌else◌, Some, None}
use Prim.Native.Nat.{ℕ, suc, ◌+◌, ◌≤◌, ◌<◌}
use native.Mathlib.Omega.{arith}
use native.Mathlib.Nat.{zero-add, add-zero}
use native.Mathlib.Numerals.{add-one}
use mathlib.Core.Path.{◌≡◌, refl, sym, ap, ◌∙◌, subst}
use mathlib.Core.Bool.{Bool, true, false}
use mathlib.Core.List.{List, [], ◌∷◌, map}
use mathlib.Core.Option.{Option, none}
use lib.ListN.{length}
use Rattle.definitions.specs.Words.Expression.{Expr, Record, Predicate}
use Rattle.definitions.specs.Bytes.Encode.{records_bytes}
use Rattle.definitions.specs.Bytes.Decode.{index_below}
use Rattle.definitions.specs.Filter.Extract as definition
use Rattle.definitions.specs.Filter.Extract.{is_knn_match, Matcher, matches_by}
use Rattle.definitions.specs.Filter.OneWalk as walks
use Rattle.definitions.specs.Filter.OneWalk.{reading, stopped_at, read_leaf, walk_on, one_walk, remembered, count_to, walk_length_by}
use Rattle.theorems.proofs.Proved.{one-walk-is-pick}
use Rattle.expression.specs.Places.{Holds}
use Rattle.expression.specs.Nodes.{OfTree, OfTreeIn}
use Rattle.expression.specs.Leaves.{NodeIs}
use Rattle.expression.specs.declared.leaves.Node.{Node as Found}
use Rattle.expression.specs.declared.leaves.Node.TheVariants as node
use Rattle.expression.proofs.OneTree.{of_tree}
use Rattle.node_table.specs.declared.NodeRecord.{NodeRecord as Lent}
use Rattle.filter_tree.specs.Trees.{Noded, Node, OfNode}
use Rattle.filter_tree.specs.Spines.{Reach, is_leaf, leaves_among, matches_among, EachReached, EachLeaf, LeafThere, OfSpine}
use Rattle.filter_tree.proofs.Onwards.{spine-few, found-and, found-leaf}
use Rattle.leaf_matching.specs.Frames.{Over, Framed, OfFrame, Argued, OfArgument}
use Rattle.leaf_pick.specs.Picks.{matches}
use Rattle.leaf_pick.specs.Walks.{Memory, Remembers, Kept, same, here, StoppedIs, GoingIs, SpotOf, WalkIs}
use Rattle.leaf_pick.specs.declared.one_walk.SeenLeaf.{SeenLeaf}
use Rattle.leaf_pick.specs.declared.one_walk.Walk.{Walk}

-- ---- of a frame

-- These nodes are ahead, `left` by their indexes; the walk goes on among them.
pub record Ahead (match : Matcher) (s : List ℕ) (nodes : List Lent) (rec : ℕ) (left : List ℕ) (position : ℕ) (w : Walk SeenLeaf)
    (records : List Record) (t : Expr) (all : List Reach) : Type 0 where
  pub entries : Holds s rec (records_bytes records)
  pub indexes : left ≡ map (λ x. x.index) all
  pub each : EachReached (index_below (length records)) s nodes all
  pub spots : EachLeaf (LeafThere t 0) position all
  pub first : Option definition.Pick
  pub remembers : Remembers s records w.found first
  pub spot : SpotOf t w.found
  pub picks : one_walk (matches match records t) ≡ walk_on (reading position first) (map (match records) (leaves_among all))
  pub walked : walk_length_by match (record { records = records; expr = t }) ≡ w.read
      + count_to is_knn_match (matches_among (match records) all)

abbrev pub SomeAhead : (match : Matcher) (s : List ℕ) (nodes : List Lent) (rec : ℕ) (left : List ℕ) (position : ℕ) (w : Walk SeenLeaf)
    → List Record → Expr → Type 0
SomeAhead match s nodes rec left position w records t = (all : List Reach) × Ahead match s nodes rec left position w records t all

-- The first of those ahead, which has this index, and the others.
pub record Now (match : Matcher) (s : List ℕ) (nodes : List Lent) (rec index : ℕ) (left more : List ℕ) (position : ℕ) (w : Walk SeenLeaf)
    (records : List Record) (t : Expr) : Type 0 where
  pub x : Reach
  pub others : List Reach
  pub ahead : Ahead match s nodes rec left position w records t (x ∷ others)
  pub first-is : x.index ≡ index
  pub rest-is : more ≡ map (λ x. x.index) others

module _ {match : Matcher} {s : List ℕ} {nodes : List Lent} {rec : ℕ} where
  -- ---- it begins

  begins : {left : List ℕ} → OfSpine s nodes 0 left
      → OfArgument s rec nodes 0 (SomeAhead match s nodes rec left 0 (record { found = None; read = 0 }))
  unfolding one_walk walk_length_by
  begins is records t a =
      let here = is (index_below (length records)) a.at t a.over.tree a.noded in (
        here.all,
        record {
          entries = a.over.entries;
          indexes = here.indexes;
          each = here.each;
          spots = here.spots;
          first = none;
          remembers = refl;
          spot = tt;
          picks = ap (λ (ls : List Expr). walk_on (reading 0 none) (map (match records) ls)) (sym here.leaves);
          walked = ap (count_to is_knn_match) (sym (here.walk (match records))) ∙ sym (zero-add _);
        },
      )

  module _ {left more : List ℕ} {index position : ℕ} {w : Walk SeenLeaf} {records : List Record} {t : Expr} where
    now-of : left ≡ index ∷ more → (all : List Reach) → Ahead match s nodes rec left position w records t all
        → Now match s nodes rec index left more position w records t
    now-of is [] a = absurd (omega (arith, ap length (sym is ∙ a.indexes)))
    now-of is (x ∷ others) a =
        let same : index ∷ more ≡ x.index ∷ map (λ x. x.index) others = sym is ∙ a.indexes in
        record { x = x; others = others; ahead = a; first-is = cc; rest-is = cc }

    module _ (n : Now match s nodes rec index left more position w records t) where
      now-over : Over s rec n.x.at records n.x.tree
      now-over = record { entries = n.ahead.entries; tree = n.ahead.each.0.stands }

      now-noded : Noded nodes n.x.at index n.x.tree
      now-noded = subst (λ (k : ℕ). Noded nodes n.x.at k n.x.tree) n.first-is n.ahead.each.0.noded

      -- ---- an And

      ahead-and : is_leaf n.x.tree ≡ false
          → Ahead match s nodes rec more position (record { found = w.found; read = w.read + 1 }) records t n.others
      unfolding leaves_among matches_among count_to is_knn_match
      ahead-and k = record {
        entries = n.ahead.entries;
        indexes = n.rest-is;
        each = n.ahead.each.1;
        spots = subst (λ (b : Bool). EachLeaf (LeafThere t 0) (if b then suc position else position) n.others) k n.ahead.spots.1;
        first = n.ahead.first;
        remembers = n.ahead.remembers;
        spot = n.ahead.spot;
        picks =
            n.ahead.picks
            ∙ ap (λ (b : Bool). walk_on (reading position n.ahead.first)
            (map (match records) (if b then n.x.tree ∷ leaves_among n.others else leaves_among n.others))) k;
        walked =
            n.ahead.walked
            ∙ ap (λ (b : Bool). w.read + count_to is_knn_match
            ((if b then match records n.x.tree else none) ∷ matches_among (match records) n.others)) k
            ∙ omega arith;
      }

      -- ---- a leaf

      module _ (k : is_leaf n.x.tree ≡ true) where
        leaf-picks : one_walk (matches match records t)
            ≡ walk_on (read_leaf position n.ahead.first (match records n.x.tree)) (map (match records) (leaves_among n.others))
        unfolding leaves_among walk_on
        leaf-picks =
            n.ahead.picks
            ∙ ap (λ (b : Bool). walk_on (reading position n.ahead.first)
            (map (match records) (if b then n.x.tree ∷ leaves_among n.others else leaves_among n.others))) k

        leaf_walked : walk_length_by match (record { records = records; expr = t })
            ≡ w.read + suc (if is_knn_match (match records n.x.tree) then 0 else count_to is_knn_match
            (matches_among (match records) n.others))
        unfolding matches_among count_to
        leaf_walked =
            n.ahead.walked
            ∙ ap (λ (b : Bool). w.read + count_to is_knn_match
            ((if b then match records n.x.tree else none) ∷ matches_among (match records) n.others)) k

        kept-spot : {before after : Memory} → Kept index position before after → SpotOf t before → SpotOf t after
        kept-spot same spot = spot
        kept-spot (here {seen} h) spot =
            subst (λ (p : ℕ). LeafThere t 0 p seen.index) (sym h.counted)
            (subst (LeafThere t 0 position) (n.first-is ∙ sym h.same) (n.ahead.spots.0 k))

        ahead-leaf : {kept : Memory} → GoingIs match s index position n.ahead.first w.found kept records n.x.tree
            → Ahead match s nodes rec more (position + 1) (record { found = kept; read = w.read + 1 }) records t n.others
        ahead-leaf g = record {
          entries = n.ahead.entries;
          indexes = n.rest-is;
          each = n.ahead.each.1;
          spots = subst (λ (p : ℕ). EachLeaf (LeafThere t 0) p n.others) (sym (add-one position))
              (subst (λ (b : Bool). EachLeaf (LeafThere t 0) (if b then suc position else position) n.others) k n.ahead.spots.1);
          first = g.now-first;
          remembers = g.remembers;
          spot = kept-spot g.kept n.ahead.spot;
          picks =
              leaf-picks ∙ ap (λ (m : walks.Memory). walk_on m (map (match records) (leaves_among n.others))) g.is
              ∙ ap (λ (p : ℕ). walk_on (reading p g.now-first) (map (match records) (leaves_among n.others))) (omega arith);
          walked =
              leaf_walked
              ∙ ap (λ (b : Bool). w.read + suc (if b then 0 else count_to is_knn_match (matches_among (match records) n.others))) g.far
              ∙ omega arith;
        }

        leaf-stopped : {seen : SeenLeaf} → StoppedIs match s index position n.ahead.first seen records n.x.tree
            → WalkIs match s (record { found = Some seen; read = w.read + 1 }) records t
        unfolding matches_by remembered walk_on
        leaf-stopped {seen} h = record {
          remembers = (
            h.p,
            sym (one-walk-is-pick (matches match records t))
                ∙ ap remembered
                (leaf-picks ∙ ap (λ (m : walks.Memory). walk_on m (map (match records) (leaves_among n.others))) h.is
                ∙ stays h.p (map (match records) (leaves_among n.others))),
            h.seen-is,
          );
          spot = kept-spot {before = None} (here h.seen_here) tt;
          walk = sym
              (leaf_walked
              ∙ ap (λ (b : Bool). w.read + suc (if b then 0 else count_to is_knn_match (matches_among (match records) n.others))) h.near
              ∙ omega arith);
        }
          where
            stays : (p : definition.Pick) (ms : List (Option Predicate)) → walk_on (stopped_at p) ms ≡ stopped_at p
            stays p [] = refl
            stays p (m ∷ ms) = refl

  -- ---- it ends

  ends : {position : ℕ} {w : Walk SeenLeaf} {records : List Record} {t : Expr} (all : List Reach)
      → Ahead match s nodes rec [] position w records t all → WalkIs match s w records t
  unfolding matches_by remembered walk_on leaves_among matches_among count_to
  ends (x ∷ all) a = absurd (omega (arith, ap length a.indexes))
  ends {w = w} {records} {t} [] a = record {
    remembers = subst (Remembers s records w.found) (sym (ap remembered a.picks) ∙ one-walk-is-pick (matches match records t)) a.remembers;
    spot = a.spot;
    walk = sym (a.walked ∙ add-zero w.read);
  }

-- ---- of every frame that stands there

-- What the loop keeps.
pub record Along (match : Matcher) (s : List ℕ) (nodes : List Lent) (rec : ℕ) (left : List ℕ) (position : ℕ)
    (w : Walk SeenLeaf) : Type 0 where
  pub ahead : OfArgument s rec nodes 0 (SomeAhead match s nodes rec left position w)
  pub few : w.read + length left ≤ length nodes
  pub fewer : position ≤ w.read

module _ {match : Matcher} {s : List ℕ} {nodes : List Lent} {rec : ℕ} where
  pub along-begins : {left : List ℕ} → Argued s rec nodes 0 → OfSpine s nodes 0 left
      → Along match s nodes rec left 0 (record { found = None; read = 0 })
  along-begins there is = record {
    ahead = begins is;
    few = omega (arith, spine-few (is _ _ _ there.2.over.tree there.2.noded) there.2.noded);
    fewer = omega arith;
  }

  module _ {left : List ℕ} {position : ℕ} {w : Walk SeenLeaf} (inv : Along match s nodes rec left position w) where
    pub along-ends : left ≡ [] → OfArgument s rec nodes 0 (WalkIs match s w)
    along-ends none-left records t a =
        let some = inv.ahead records t a in
        ends some.0 (subst (λ (l : List ℕ). Ahead match s nodes rec l position w records t some.0) none-left some.1)

    module _ {index : ℕ} {more : List ℕ} (is : left ≡ index ∷ more) where
      pub along-read : w.read < length nodes
      along-read = omega (arith, inv.few, ap length is)

      now : OfArgument s rec nodes 0 (Now match s nodes rec index left more position w)
      now records t a = let some = inv.ahead records t a in now-of is some.0 some.1

      module _ (there : Argued s rec nodes 0) where
        pub here-node : Node nodes index
        here-node = let n = now _ _ there.2 in (n.x.at, n.x.tree, now-noded n)

        -- It stands at its place.
        module _ {at : ℕ} (start : OfNode nodes index (λ p t. at ≡ p)) where
          pub here-framed : Framed s rec at
          here-framed =
              let n = now _ _ there.2 in
              (there.0, n.x.tree, subst (λ (p : ℕ). Over s rec p there.0 n.x.tree) (sym (start _ _ (now-noded n))) (now-over n))

          pub here-noded : OfTree s at (Noded nodes at index)
          unfolding here-framed
          here-noded =
              let n = now _ _ there.2 in
              of_tree (Noded nodes at index) here-framed.2.tree
              (subst (λ (p : ℕ). Noded nodes p index n.x.tree) (sym (start _ _ (now-noded n))) (now-noded n))

      module _ {at : ℕ} (start : OfNode nodes index (λ p t. at ≡ p)) where
        placed : {records : List Record} {t : Expr} (n : Now match s nodes rec index left more position w records t)
            → Over s rec at records n.x.tree
        placed {records} n = subst (λ (p : ℕ). Over s rec p records n.x.tree) (sym (start _ _ (now-noded n))) (now-over n)

        module _ {found : Found} (told : OfTreeIn s at (λ c t. NodeIs c s at found t)) where
          -- ---- an And

          pub along-and : {first : ℕ} → found ≡ node.And first
              → Along match s nodes rec more position (record { found = w.found; read = w.read + 1 })
          along-and e = record {
            ahead = λ records t a.
                let n = now records t a in
                (n.others, ahead-and n (found-and (rw e at (told _ n.x.tree (placed n).tree))));
            few = omega (arith, inv.few, ap length is);
            fewer = omega (arith, inv.fewer);
          }

          -- ---- a leaf

          module _ (never : (first : ℕ) → found ≡ node.And first → ⊥) where
            its-leaf : {records : List Record} {t : Expr} (n : Now match s nodes rec index left more position w records t)
                → is_leaf n.x.tree ≡ true
            its-leaf n = found-leaf found told (placed n).tree never

            pub along-stopped : {seen : SeenLeaf}
                → OfFrame s rec at (λ records u. (first : Option definition.Pick) → Remembers s records w.found first
                → StoppedIs match s index position first seen records u)
                → OfArgument s rec nodes 0 (WalkIs match s (record { found = Some seen; read = w.read + 1 }))
            along-stopped inner records t a =
                let n = now records t a in
                leaf-stopped n (its-leaf n) (inner records n.x.tree (placed n) n.ahead.first n.ahead.remembers)

            pub along-going : {kept : Memory}
                → OfFrame s rec at (λ records u. (first : Option definition.Pick) → Remembers s records w.found first
                → GoingIs match s index position first w.found kept records u)
                → Along match s nodes rec more (position + 1) (record { found = kept; read = w.read + 1 })
            along-going inner = record {
              ahead = λ records t a.
                  let n = now records t a in
                  (n.others, ahead-leaf n (its-leaf n) (inner records n.x.tree (placed n) n.ahead.first n.ahead.remembers));
              few = omega (arith, inv.few, ap length is);
              fewer = omega (arith, inv.fewer);
            }
