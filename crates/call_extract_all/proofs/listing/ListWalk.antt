-- What the loop of `list_matches` keeps: the leaves that it has passed are listed, the others are among the nodes still to come.
use Prim.Native.Nat.{ℕ, ◌+◌, ◌≤◌}
use native.Mathlib.Omega.{arith}
use native.Mathlib.Nat.{add-zero}
use mathlib.Core.Path.{◌≡◌, refl, sym, ap, ◌∙◌, subst}
use mathlib.Core.Bool.{Bool, false}
use mathlib.Core.List.{List, [], ◌∷◌, ◌++◌, map, append_assoc, append-nil}
use mathlib.Core.Option.{Option, none, some}
use lib.ListN.{length, length-append, length-map}
use Rattle.definitions.specs.Words.Expression.{Expr, and, Record, Predicate}
use Rattle.definitions.specs.Words.Leaves.{leaves}
use Rattle.definitions.specs.Bytes.Decode.{index_below}
use Rattle.definitions.specs.Filter.Extract.{is_knn, Matcher}
use Rattle.definitions.specs.Filter.Conjuncts.{positions_from, matching, is_other, match_count}
use Rattle.definitions.specs.Calls.ExtractAll.{picks_bytes}
use Rattle.theorems.proofs.AllParts.{bytes-append}
use Rattle.expression.specs.Nodes.{Stands, Tree, OfTree, OfTreeIn}
use Rattle.expression.specs.Leaves.{Both, NodeIs}
use Rattle.expression.specs.declared.leaves.Node.{Node}
use Rattle.expression.specs.declared.leaves.Node.TheVariants as node
use Rattle.node_table.specs.declared.NodeRecord.{NodeRecord as Lent}
use Rattle.filter_tree.specs.Trees.{Noded, Node as IsNode, OfNode}
use Rattle.filter_tree.specs.Spines.{Reach, is_leaf, leaves_among, EachReached, OfSpine}
use Rattle.expression.proofs.OneTree.{of_tree}
use Rattle.byte_writer.proofs.Written.{behind, together, behind-length, nothing-wrote}
use Rattle.leaf_pick.specs.Picks.{matches}
use Rattle.filter_tree.proofs.Onwards.{among-inner, among-leaf, found-and, single-is-leaf}
use Rattle.filter_tree.proofs.Indexes.{starts-there, starts-noded}
use Rattle.call_extract_all.specs.Listings.{listed, Listable, ListFits, ListIs, ListPut}
use Rattle.call_extract_all.specs.declared.listing.Tally.{Tally}
use Rattle.call_extract_all.proofs.ListLaws.{both-listed}

-- ---- of a frame

-- These nodes are still to come, and the leaves before theirs are listed.
pub record Listed (match : Matcher) (s : List ℕ) (nodes : List Lent) (left : List ℕ) (position : ℕ)
    (knns knns' others others' gone gone' : List ℕ) (r : Tally) (records : List Record) (t : Expr) (all : List Reach) : Type 0 where
  pub indexes : left ≡ map (λ x. x.index) all
  pub each : EachReached (index_below (length records)) s nodes all
  pub done : List (Option Predicate)
  pub whole : matches match records t ≡ done ++ map (match records) (leaves_among all)
  pub is : ListIs position done knns knns' others others' gone gone' r

nothing-listed : (position : ℕ) (knns others gone : List ℕ)
    → ListIs position [] knns knns others others gone gone (record { position = position; knn = 0; other = 0; rounds = 0 })
unfolding match_count matching positions_from picks_bytes
nothing-listed position knns others gone = record {
  counted = sym (add-zero position);
  rounds = refl;
  knn = refl;
  other = refl;
  knn_wrote = refl;
  other_wrote = refl;
  flags = nothing-wrote gone position;
}

-- There are no more matches than leaves.
count-short : (ms : List (Option Predicate)) → match_count ms ≤ length ms
unfolding match_count
count-short [] = omega arith
count-short (none ∷ ms) = omega (arith, count-short ms)
count-short (some p ∷ ms) = omega (arith, count-short ms)

module _ {match : Matcher} {s : List ℕ} {nodes : List Lent} {left : List ℕ} {position : ℕ}
    {knns knns' others others' gone gone' : List ℕ} {r : Tally} {records : List Record} {t : Expr} where
  listed-ends : Listed match s nodes left position knns knns' others others' gone gone' r records t []
      → ListIs position (matches match records t) knns knns' others others' gone gone' r
  unfolding leaves_among
  listed-ends h =
      subst (λ (x : List (Option Predicate)). ListIs position x knns knns' others others' gone gone' r)
      (sym (h.whole ∙ append-nil h.done)) h.is

  module _ {index : ℕ} {more : List ℕ} {x : Reach} {xs : List Reach} (is : left ≡ index ∷ more)
      (h : Listed match s nodes left position knns knns' others others' gone gone' r records t (x ∷ xs)) where
    firsts : index ∷ more ≡ x.index ∷ map (λ x. x.index) xs
    firsts = sym is ∙ h.indexes

    index-is : x.index ≡ index
    index-is = let both = firsts in cc

    later-are : more ≡ map (λ x. x.index) xs
    later-are = let both = firsts in cc

    -- An And has no leaf of its own.
    listed-passes : is_leaf x.tree ≡ false → Listed match s nodes more position knns knns' others others' gone gone' r records t xs
    listed-passes inner = record {
      indexes = later-are;
      each = h.each.1;
      done = h.done;
      whole = h.whole ∙ ap (λ (ls : List Expr). h.done ++ map (match records) ls) (sym (among-inner x xs inner refl));
      is = h.is;
    }

    -- A leaf is listed and the others are left.
    module _ (single : leaves x.tree ≡ x.tree ∷ []) where
      abbrev own : List (Option Predicate)
      own = matches match records x.tree

      abbrev later : List (Option Predicate)
      later = map (match records) (leaves_among xs)

      split : matches match records t ≡ h.done ++ (own ++ later)
      split =
          h.whole
          ∙ ap (λ (ls : List Expr). h.done ++ map (match records) ls) (sym (among-leaf x xs (single-is-leaf x.tree single) refl))
          ∙ ap (λ (ls : List Expr). h.done ++ (map (match records) ls ++ later)) (sym single)

      leaf-sum : length (leaves t) ≡ length h.done + (1 + length later)
      leaf-sum = omega (
        arith,
        length-map (leaves t) (match records),
        length-map (leaves x.tree) (match records),
        ap length single,
        ap length split,
        length-append h.done (own ++ later),
        length-append own later,
      )

      sum : (test : Predicate → Bool) → length (listed test position (matches match records t))
          ≡ length (listed test position h.done)
          + (length (listed test r.position own) + length (listed test (r.position + length own) later))
      sum test =
          ap (λ (x : List (Option Predicate)). length (listed test position x)) split
          ∙ ap length (bytes-append test position r.position h.done (own ++ later) h.is.counted)
          ∙ length-append (listed test position h.done) (listed test r.position (own ++ later))
          ∙ ap (λ (n : ℕ). length (listed test position h.done) + n)
          (ap length (bytes-append test r.position (r.position + length own) own later refl)
          ∙ length-append (listed test r.position own) (listed test (r.position + length own) later))

      listed-goes-on : {part piece after : List ℕ} {one : Tally} → position ≤ length gone
          → ListIs r.position own (behind r.knn knns') part (behind r.other others') piece gone' after one
          → Listed match s nodes more position knns (together r.knn knns' part) others (together r.other others' piece) gone after
          (record { position = one.position; knn = r.knn + one.knn; other = r.other + one.other; rounds = r.rounds + one.rounds })
          records t xs
      listed-goes-on {part} {piece} {after} {one} room two = record {
        indexes = later-are;
        each = h.each.1;
        done = h.done ++ own;
        whole = split ∙ sym (append_assoc h.done own later);
        is = both-listed position h.done own knns knns' part others others' piece gone gone' after r one room h.is two;
      }

-- ---- of every frame that stands there

-- What the loop keeps: some nodes are still to come.
pub record Listing (match : Matcher) (s : List ℕ) (nodes : List Lent) (rec count at position : ℕ) (left : List ℕ)
    (knns knns' others others' gone gone' : List ℕ) (r : Tally) : Type 0 where
  pub so_far : (records : List Record) (t : Expr) → Listable s rec count at records t
      → (all : List Reach) × Listed match s nodes left position knns knns' others others' gone gone' r records t all

pub listing-begins : {match : Matcher} {s : List ℕ} {nodes : List Lent} {rec count at i position : ℕ} {left knns others gone : List ℕ}
    → OfTree s at (Noded nodes at i) → OfSpine s nodes i left
    → Listing match s nodes rec count at position left knns knns others others gone gone
    (record { position = position; knn = 0; other = 0; rounds = 0 })
listing-begins {match} {at = at} {position = position} {knns = knns} {others} {gone} noded is = record {
  so_far = λ records t l.
      let spine = is (index_below (length records)) at t l.tree (noded (index_below (length records)) t l.tree) in (
        spine.all,
        record {
          indexes = spine.indexes;
          each = spine.each;
          done = [];
          whole = ap (map (match records)) (sym spine.leaves);
          is = nothing-listed position knns others gone;
        },
      );
}

none-come : (all : List Reach) → map (λ x. x.index) all ≡ [] → all ≡ []
none-come [] e = refl
none-come (x ∷ xs) e = absurd (omega (arith, ap length e))

module _ {match : Matcher} {s : List ℕ} {nodes : List Lent} {rec count at position : ℕ} {left : List ℕ}
    {knns knns' others others' gone gone' : List ℕ} {r : Tally}
    (inv : Listing match s nodes rec count at position left knns knns' others others' gone gone' r) where
  abbrev With : List Record → Expr → List Reach → Type 0
  With records t all = Listed match s nodes left position knns knns' others others' gone gone' r records t all

  pub listing-ends : (to : List ℕ) → left ≡ [] → ListPut match s rec count at position to knns knns' others others' gone gone' r
  listing-ends to end records t l =
      let some = inv.so_far records t l in
      listed-ends (subst (With records t) (none-come some.0 (sym some.1.indexes ∙ end)) some.1)

  module _ {index : ℕ} {more : List ℕ} (is : left ≡ index ∷ more) where
    -- The first of those to come, and the others.
    record Now (records : List Record) (t : Expr) : Type 0 where
      pub x : Reach
      pub xs : List Reach
      pub so_far : With records t (x ∷ xs)

    split-all : {records : List Record} {t : Expr} (all : List Reach) → With records t all → Now records t
    split-all [] h = absurd (omega (arith, ap length (sym is ∙ h.indexes)))
    split-all (x ∷ xs) h = record { x = x; xs = xs; so_far = h }

    now : {records : List Record} {t : Expr} → Listable s rec count at records t → Now records t
    now {records} {t} l = let some = inv.so_far records t l in split-all some.0 some.1

    now-noded : {records : List Record} {t : Expr} (n : Now records t) → Noded nodes n.x.at index n.x.tree
    now-noded n = subst (λ (k : ℕ). Noded nodes n.x.at k n.x.tree) (index-is is n.so_far) n.so_far.each.0.noded

    module _ {to : List ℕ} (f : ListFits match s rec count at position to knns others gone) where
      here : Now f.records f.tree
      here = now f.frame

      pub here-node : IsNode nodes index
      here-node = (here.x.at, here.x.tree, now-noded here)

      -- Where it starts.
      module _ {place : ℕ} (starts : OfNode nodes index (λ at t. place ≡ at)) where
        now-stands : {records : List Record} {t : Expr} (n : Now records t) → Stands (index_below (length records)) s place n.x.tree
        now-stands n = starts-there n.so_far.each.0.stands (now-noded n) starts

        now-listable : {records : List Record} {t : Expr} → Listable s rec count at records t → (n : Now records t)
            → Listable s rec count place records n.x.tree
        now-listable l n = record { entries = l.entries; few = l.few; tree = now-stands n }

        pub here-tree : Tree s place
        here-tree = (index_below (length f.records), here.x.tree, now-stands here)

        pub here-noded : OfTree s place (Noded nodes place index)
        here-noded = of_tree (Noded nodes place index) (now-stands here) (starts-noded (now-noded here) starts)

        -- ---- an And

        pub listing-passes : {first : ℕ} {found : Node} → OfTreeIn s place (λ c t. NodeIs c s place found t) → found ≡ node.And first
            → Listing match s nodes rec count at position more knns knns' others others' gone gone' r
        listing-passes {first} {found} is-found told = record {
          so_far = λ records t l.
              let n : Now records t = now l in
              let b : Both and (index_below (length records)) s place first n.x.tree =
              rw told at (is-found (index_below (length records)) n.x.tree (now-stands n)) in
              (n.xs, listed-passes is n.so_far (found-and b));
        }

        -- ---- a leaf

        module _ (lone : OfTree s place (λ t. leaves t ≡ t ∷ [])) where
          single : {records : List Record} {t : Expr} (n : Now records t) → leaves n.x.tree ≡ n.x.tree ∷ []
          single {records} n = lone (index_below (length records)) n.x.tree (now-stands n)

          module _ (same : length knns' ≡ length knns) (alike : length others' ≡ length others) where
            -- It fits behind those before it.
            pub leaf-fits : length gone' ≡ length gone
                → ListFits match s rec count place r.position to (behind r.knn knns') (behind r.other others') gone'
            leaf-fits kept =
                let h = here.so_far in
                let one = single here in
                record {
                  records = f.records;
                  tree = here.x.tree;
                  frame = now-listable f.frame here;
                  wide = f.wide;
                  table = f.table;
                  knn = omega (arith, f.knn, sum is h one is_knn, h.is.knn, behind-length r.knn knns');
                  other = omega (arith, f.other, sum is h one is_other, h.is.other, behind-length r.other others');
                  flags = omega (arith, f.flags, leaf-sum is h one, h.is.counted, kept, ap length one);
                }

            module _ {part piece after : List ℕ} {one : Tally}
                (put : ListPut match s rec count place r.position to (behind r.knn knns') part (behind r.other others') piece gone' after
                one)
              where
                own-put : ListIs r.position (matches match f.records here.x.tree) (behind r.knn knns') part (behind r.other others') piece
                    gone' after one
                own-put = put f.records here.x.tree (now-listable f.frame here)

                -- No sum wraps.
                pub sums-fit : (r.knn + one.knn ≤ length knns) × (r.other + one.other ≤ length others)
                    × (r.rounds + one.rounds ≤ length gone)
                sums-fit =
                    let h = here.so_far in
                    let lone = single here in (
                      omega (arith, f.knn, sum is h lone is_knn, h.is.knn, own-put.knn),
                      omega (arith, f.other, sum is h lone is_other, h.is.other, own-put.other),
                      omega (
                        arith,
                        f.flags,
                        leaf-sum is h lone,
                        h.is.rounds,
                        own-put.rounds,
                        count-short h.done,
                        count-short (matches match f.records here.x.tree),
                        length-map (leaves here.x.tree) (match f.records),
                        ap length lone,
                      ),
                    )

                pub listing-goes-on : Listing match s nodes rec count at position more knns (together r.knn knns' part) others
                    (together r.other others' piece) gone after
                    (record { position = one.position; knn = r.knn + one.knn; other = r.other + one.other; rounds = r.rounds + one.rounds })
                listing-goes-on = record {
                  so_far = λ records t l.
                      let n : Now records t = now l in (
                        n.xs,
                        listed-goes-on is n.so_far (single n) (omega (arith, f.flags)) (put records n.x.tree (now-listable l n)),
                      );
                }
