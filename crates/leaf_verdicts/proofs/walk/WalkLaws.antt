-- The loop over And nodes and AND-leaves: the verdicts of the leaves that were passed are written.
use Rattle.std.specs.Prelude.{Some, None}
use Prim.Native.Nat.{ℕ, ◌+◌, ◌≤◌, ◌<◌}
use native.Mathlib.Omega.{arith}
use mathlib.Core.Path.{◌≡◌, refl, sym, ap, ◌∙◌, subst}
use mathlib.Core.Bool.{true}
use mathlib.Core.List.{List, [], ◌∷◌, ◌++◌, map, map-append}
use lib.ListN.{length, set, length-append, length-set}
use Rattle.definitions.specs.Words.Expression.{Expr, Record}
use Rattle.definitions.specs.Words.Leaves.{leaves}
use Rattle.definitions.specs.Bytes.Encode.{records_bytes}
use Rattle.definitions.specs.Bytes.Decode.{index_below}
use Rattle.definitions.specs.Filter.Settings.{Settings}
use Rattle.definitions.specs.Filter.Verdicts.{verdict_byte, verdict_under}
use Rattle.expression.specs.Places.{Holds}
use Rattle.node_table.specs.declared.NodeRecord.{NodeRecord as Lent}
use Rattle.filter_tree.specs.Spines.{is_leaf, OfSpine}
use Rattle.byte_writer.specs.Written.{WroteAt}
use Rattle.byte_writer.proofs.Written.{nothing-wrote, store, chain, to_start}
use Rattle.filter_tree.proofs.LeavesLeft.{LeavesLeft, FirstLeft, left-begins, left-first, left-ends}
use Rattle.leaf_verdicts.specs.Cases.{verdict_of, LeafTold}
use Rattle.leaf_verdicts.specs.Laid.{Laid, AtIndex, OfIndex}
use Rattle.leaf_verdicts.specs.Walks.{VerdictsAre}
use Rattle.leaf_verdicts.specs.declared.verdict.Verdict.{Verdict}

-- What it keeps.
pub record Going (S : Settings) (s : List ℕ) (rec : ℕ) (nodes : List Lent) (left : List ℕ) (number : ℕ) (before now : List ℕ)
    (records : List Record) (t : Expr) : Type 0 where
  pub entries : Holds s rec (records_bytes records)
  pub seen : List Expr
  pub to_come : LeavesLeft (index_below (length records)) s nodes left seen t
  pub counted : number ≡ length seen
  pub wrote : WroteAt 0 (map (λ leaf. verdict_byte (verdict_under S records leaf)) seen) before now number
  pub same : length now ≡ length before

module _ {S : Settings} {s : List ℕ} {rec : ℕ} {nodes : List Lent} {left before : List ℕ} where
  pub going-begins : OfSpine s nodes 0 left → OfIndex s rec nodes 0 (Going S s rec nodes left 0 before before)
  going-begins is at records t h = record {
    entries = h.over.entries;
    seen = [];
    to_come = left-begins (is (index_below (length records)) at t h.over.tree h.noded);
    counted = refl;
    wrote = nothing-wrote before 0;
    same = refl;
  }

  module _ {number : ℕ} {now : List ℕ} {records : List Record} {t : Expr} (inv : Going S s rec nodes left number before now records t) where
    module _ {index : ℕ} {more : List ℕ} (is : left ≡ index ∷ more) where
      first : FirstLeft (index_below (length records)) s nodes index more inv.seen t
      first = left-first inv.to_come is

      laid : Laid s rec nodes first.at index records first.tree
      laid = record { over = record { entries = inv.entries; tree = first.reached.stands }; noded = first.reached.noded }

      pub going-at : AtIndex s rec nodes index
      going-at = (first.at, records, first.tree, laid)

      -- Past an And.
      pub going-into : OfIndex s rec nodes index (LeafTold S None) → Going S s rec nodes more number before now records t
      going-into none = record {
        entries = inv.entries;
        seen = inv.seen;
        to_come = first.inner (none first.at records first.tree laid);
        counted = inv.counted;
        wrote = inv.wrote;
        same = inv.same;
      }

      module _ (verdict : Verdict) (some : OfIndex s rec nodes index (LeafTold S (Some verdict))) where
        leaf : (is_leaf first.tree ≡ true) × (verdict_of verdict ≡ verdict_under S records first.tree)
        leaf = some first.at records first.tree laid

        pub going-room : length (leaves t) ≤ length before → number < length now
        going-room room = omega (arith, room, inv.same, inv.counted, first.within leaf.0)

        -- Past an AND-leaf, whose verdict is written.
        pub going-past : number < length now → (byte : ℕ) → byte ≡ verdict_byte (verdict_of verdict)
            → Going S s rec nodes more (number + 1) before (set now number byte) records t
        going-past room byte told =
            let f : Expr → ℕ = λ leaf. verdict_byte (verdict_under S records leaf) in
            let here : byte ≡ f first.tree = told ∙ ap verdict_byte leaf.1 in
            let stored : WroteAt number (f first.tree ∷ []) now (set now number byte) (number + 1) =
            subst (λ (b : ℕ). WroteAt number (b ∷ []) now (set now number byte) (number + 1)) here
            (store now number byte room) in
            record {
              entries = inv.entries;
              seen = inv.seen ++ (first.tree ∷ []);
              to_come = first.leaf leaf.0;
              counted = simp length-append (omega (arith, inv.counted));
              wrote = subst (λ (x : List ℕ). WroteAt 0 x before (set now number byte) (number + 1))
                  (sym (map-append f inv.seen (first.tree ∷ []))) (chain (omega arith) inv.wrote stored);
              same = length-set now number byte ∙ inv.same;
            }

    pub going-ends : left ≡ [] → VerdictsAre S before now number records t
    going-ends done =
        let same = left-ends inv.to_come done in
        record {
          counted = inv.counted ∙ ap length same;
          wrote = (to_start (subst
              (λ (es : List Expr). WroteAt 0 (map (λ leaf. verdict_byte (verdict_under S records leaf)) es) before now number)
              same inv.wrote)).1;
        }
