-- What the walk ended with, as the engine of two passes gives it.
use Rattle.std.specs.Prelude.{Some, None}
use Prim.Native.Nat.{ℕ, ◌+◌}
use mathlib.Core.Path.{◌≡◌, sym, ap, ◌∙◌, subst}
use mathlib.Core.List.{List}
use mathlib.Core.Option.{some}
use lib.ListN.{length, get_or}
use Rattle.definitions.specs.Words.Expression.{Expr, Record}
use Rattle.definitions.specs.Bytes.Encode.{expr_bytes}
use Rattle.definitions.specs.Filter.Extract.{pick, Matcher, matches_by}
use Rattle.node_table.specs.declared.NodeRecord.{NodeRecord as Lent}
use Rattle.node_table.proofs.RecordLaws.{blank}
use Rattle.filter_tree.specs.Trees.{Noded, Node, OfNode, IsLeaf, AboveIs}
use Rattle.filter_tree.proofs.Scans.{noded-start}
use Rattle.filter_tree.proofs.Parents.{leaf-node, above-node, start-is, end-is, cut-there}
use Rattle.expression.specs.Nodes.{OfTree}
use Rattle.leaf_matching.specs.Frames.{Over, Framed, ArgumentAt, Argued}
use Rattle.leaf_pick.specs.Walks.{Remembers, SpotOf, WalkIs, WalkedIs}
use Rattle.leaf_pick.specs.declared.one_walk.SeenLeaf.{SeenLeaf}
use Rattle.leaf_pick.specs.declared.one_walk.Walk.{Walk}

-- The root's expression has index 0.
module _ {s : List ℕ} {rec at : ℕ} {nodes : List Lent} (noded : OfTree s at (Noded nodes at 0)) where
  pub root-at : {records : List Record} {t : Expr} → Over s rec at records t → ArgumentAt s rec nodes 0 records t
  root-at over = record { at = at; over = over; noded = noded _ _ over.tree }

  pub root-argued : Framed s rec at → Argued s rec nodes 0
  root-argued p = (p.0, p.1, root-at p.2)

module _ {match : Matcher} {s : List ℕ} {at : ℕ} {w : Walk SeenLeaf} {records : List Record} {t : Expr}
    (h : WalkIs match s w records t) where
  pub walked-nothing : w.found ≡ None → WalkedIs match s at (record { found = None; read = w.read }) records t
  walked-nothing told = record { picked = rw told at h.remembers; walk = h.walk }

  module _ {seen : SeenLeaf} (told : w.found ≡ Some seen) {nodes : List Lent} (noded : Noded nodes at 0 t) where
    found : Remembers s records (Some seen) (pick (matches_by match (record { records = records; expr = t })))
    found = rw told at h.remembers

    spot : SpotOf t (Some seen)
    spot = rw told at h.spot

    pub seen-leaf : IsLeaf nodes seen.index
    seen-leaf = (at, t, (spot 0).0, seen.position, noded, (spot 0).1)

    pub seen-node : Node nodes seen.index
    seen-node = leaf-node (spot 0).1 noded

    module _ {up : ℕ} (above : AboveIs nodes seen.index up) where
      up-is : up ≡ (spot 0).0
      up-is = above at t (spot 0).0 seen.position noded (spot 0).1

      pub up-node : Node nodes up
      up-node = subst (Node nodes) (sym up-is) (above-node (spot 0).1 noded (at, t, noded))

      pub walked-leaf : {leaf end parent : ℕ} → OfNode nodes seen.index (λ at t. leaf ≡ at)
          → OfNode nodes seen.index (λ at t. end ≡ at + length (expr_bytes t)) → OfNode nodes up (λ at t. parent ≡ at)
          → WalkedIs match s at
          (record {
            found = Some (record {
              predicate = seen.predicate;
              position = seen.position;
              cut =
                  record { leaf = leaf; end = end; parent = parent };
            });
            read = w.read;
          }) records t
      walked-leaf start ends begins = record {
        picked = record {
          q = found.0.predicate;
          is = found.1 ∙ ap (λ (k : ℕ). some (record { position = k; predicate = found.0.predicate })) found.2.position;
          stands = found.2.stands;
          cut = cut-there (spot 0).1 noded _ (start-is seen-node start) (end-is seen-node ends)
              (start-is up-node begins ∙ ap (λ (k : ℕ). (get_or nodes k blank).start) up-is) at (sym (noded-start noded));
        };
        walk = h.walk;
      }
