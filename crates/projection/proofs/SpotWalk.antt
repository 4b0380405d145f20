-- What the loop of `collect_columns` keeps: the spots of the nodes that were passed are in the row, and with those of the nodes that are
-- left they are the expression's.
use Prim.Native.Nat.{ℕ, ◌+◌, ◌-◌, ◌≤◌, ◌<◌}
use native.Mathlib.Omega.{arith}
use mathlib.Core.Path.{◌≡◌, refl, sym, ap, ap₂, ◌∙◌, subst}
use mathlib.Core.List.{List, [], ◌∷◌, ◌++◌, map, map-append, append-nil, append_assoc}
use lib.ListN.{length, get_or, set, length-append, length-map, length-set}
use Rattle.definitions.specs.Words.Basics.{big_endian}
use Rattle.definitions.specs.Words.Limits.{most_bytes, two_bytes}
use Rattle.definitions.specs.Words.Expression.{Side, Expr, column, Exprs, nil, cons, count}
use Rattle.definitions.specs.Bytes.Encode.{expr_bytes, exprs_bytes}
use Rattle.definitions.specs.Bytes.Decode.{index_below}
use Rattle.expression.specs.Places.{short_at}
use Rattle.expression.specs.Nodes.{head_bytes, children_of, Stands, Row, Tree, OfTree}
use Rattle.expression.specs.Heads.{HeadIs}
use Rattle.expression.specs.declared.heads.Head.{Head}
use Rattle.expression.proofs.Placed.{fits}
use Rattle.expression.proofs.Standing.{tree-length, kind-is, first-stands, some-children, no-children, after-head}
use Rattle.expression.proofs.Standing.{one-row}
use Rattle.expression.proofs.OneTree.{of_tree}
use Rattle.expression.proofs.InOrder.{and_then, then-bytes, opened-row, as-few}
use Rattle.byte_writer.specs.Written.{WroteAt}
use Rattle.byte_writer.proofs.Written.{chain, nothing-wrote, store}
use Rattle.plan_writer.proofs.Fields.{column-is, column-size}
use Rattle.projection.specs.Spots.{Spot, spot_number, column_spots, child_spots}
use Rattle.projection.specs.Rows.{ColumnsFit, SpotsPut, ColumnsCollected}
use Rattle.projection.specs.declared.spots.Spotted.{Spotted}
use Rattle.projection.proofs.SpotLaws.{no-own-spots}

-- ---- one walk after another

pub collected-both : {at size more i : ℕ} {x y : List Spot} {before middle after : List ℕ} {p r : Spotted} → i ≤ length before
    → SpotsPut at size i x before middle p → SpotsPut p.end more p.index y middle after r
    → SpotsPut at (size + more) i (x ++ y) before after r
collected-both {i = i} {x} {y} {before} {middle} {after} {p} {r} room a b = record {
  ends = omega (arith, a.ends, b.ends);
  put = subst (λ (l : List ℕ). WroteAt i l before after r.index) (sym (map-append spot_number x y)) (chain room a.put b.put);
}

-- The index after a walk.
pub index-after : {at size i : ℕ} {x : List Spot} {before after : List ℕ} {r : Spotted} → SpotsPut at size i x before after r
    → r.index ≡ i + length x
index-after {i = i} {x} c = c.put.ends ∙ ap (λ (n : ℕ). i + n) (length-map x spot_number)

-- ---- the loop

spots-then : (side : Side) (at : ℕ) (ts us : Exprs)
    → child_spots side at (and_then ts us) ≡ child_spots side at ts ++ child_spots side (at + length (exprs_bytes ts)) us
unfolding and_then child_spots exprs_bytes
spots-then side at nil us = ap (λ (p : ℕ). child_spots side p us) (omega arith)
spots-then side at (cons t ts) us =
    let next : ℕ = at + length (expr_bytes t) in
    ap (λ (l : List Spot). column_spots side at t ++ l)
    (spots-then side next ts us ∙ ap (λ (p : ℕ). child_spots side next ts ++ child_spots side p us)
    (omega (arith, length-append (expr_bytes t) (exprs_bytes ts))))
    ∙ sym (append_assoc (column_spots side at t) (child_spots side next ts)
    (child_spots side (at + length (expr_bytes t ++ exprs_bytes ts)) us))

-- The expressions that are left, up to `stop`; their spots and those in the row are all.
pub record Collecting (s : List ℕ) (side : Side) (i stop : ℕ) (all : List Spot) (before : List ℕ) (end left index : ℕ) (row : List ℕ)
    : Type 0 where
  pub trees : Exprs
  pub stand : Row (index_below two_bytes) s end left trees
  pub ends : end + length (exprs_bytes trees) ≡ stop
  pub done : List Spot
  pub put : WroteAt i (map spot_number done) before row index
  pub whole : all ≡ done ++ child_spots side end trees
  pub same : length row ≡ length before

module _ {s : List ℕ} {at i : ℕ} {side : Side} {before : List ℕ} (p : ColumnsFit s at side i before) where
  abbrev pub stop : ℕ
  stop = at + length (expr_bytes p.tree)

  pub collecting-begins : Collecting s side i stop (column_spots side at p.tree) before at 1 i before
  unfolding exprs_bytes child_spots
  collecting-begins = record {
    trees = cons p.tree nil;
    stand = one-row p.stands;
    ends = ap (λ (l : List ℕ). at + length l) (append-nil (expr_bytes p.tree));
    done = [];
    put = nothing-wrote before i;
    whole = sym (append-nil (column_spots side at p.tree));
    same = refl;
  }

  -- A column lies within s and within the limit, and has an entry.
  pub record Within (end index : ℕ) (row : List ℕ) : Type 0 where
    pub bytes : end + 5 ≤ length s
    pub limit : end + 5 ≤ most_bytes
    pub child : short_at s (end + 1) < two_bytes
    pub entry : index < length row

  module _ {end left index : ℕ} {row : List ℕ}
      (inv : Collecting s side i stop (column_spots side at p.tree) before end left index row) where
    index-is : index ≡ i + length inv.done
    index-is = inv.put.ends ∙ ap (λ (n : ℕ). i + n) (length-map inv.done spot_number)

    pub collecting-ends : left ≤ 0 → ColumnsCollected s at side i before row (record { end = end; index = index })
    unfolding exprs_bytes child_spots
    collecting-ends none t h =
        of_tree (λ t. SpotsPut at (length (expr_bytes t)) i (column_spots side at t) before row (record { end = end; index = index }))
        p.stands
        (no-children (λ ts. end + length (exprs_bytes ts) ≡ stop → column_spots side at p.tree ≡ inv.done ++ child_spots side end ts
        → SpotsPut at (length (expr_bytes p.tree)) i (column_spots side at p.tree) before row (record { end = end; index = index }))
        (λ e k. record {
          ends = omega (arith, e);
          put = subst (λ (x : List Spot). WroteAt i (map spot_number x) before row index) (sym (k ∙ append-nil inv.done)) inv.put;
        }) inv.trees (omega (arith, inv.stand.counted)) inv.ends inv.whole)
        (index_below two_bytes) t h

    module _ (some : 0 < left) where
      by-first : (P : Exprs → Type 0) → ((t : Expr) (ts : Exprs) → P (cons t ts)) → P inv.trees
      by-first P f = some-children P f inv.trees (omega (arith, inv.stand.counted))

      pub collecting-tree : (t : Expr) × Stands (index_below two_bytes) s end t
      collecting-tree = by-first (λ ts. Row (index_below two_bytes) s end left ts → (t : Expr) × Stands (index_below two_bytes) s end t)
          (λ t ts w. (t, first-stands w)) inv.stand

      pub tree-there : Tree s end
      tree-there = (index_below two_bytes, collecting-tree.0, collecting-tree.1)

      module _ (zero : get_or s end 0 ≡ 0) where
        abbrev child : ℕ
        child = short_at s (end + 1)

        abbrev spot : Spot
        spot = record { side = side; at = end + 1; child = child }

        -- A column is the first.
        one-column : (P : Exprs → Type 0)
            → ((g : ℕ) (ts : Exprs) → Row (index_below two_bytes) s end left (cons (column child g) ts)
            → end + length (exprs_bytes (cons (column child g) ts)) ≡ stop
            → column_spots side at p.tree ≡ inv.done ++ child_spots side end (cons (column child g) ts) → P (cons (column child g) ts))
            → P inv.trees
        one-column P f = by-first (λ ts. Row (index_below two_bytes) s end left ts → end + length (exprs_bytes ts) ≡ stop
            → column_spots side at p.tree ≡ inv.done ++ child_spots side end ts → P ts)
            (λ t ts w. subst (λ (t : Expr). Row (index_below two_bytes) s end left (cons t ts)
            → end + length (exprs_bytes (cons t ts)) ≡ stop
            → column_spots side at p.tree ≡ inv.done ++ child_spots side end (cons t ts) → P (cons t ts))
            (sym (column-is (first-stands w) zero).tree) (f (short_at s (end + 3)) ts) w)
            inv.stand inv.ends inv.whole

        pub column-within : Within end index row
        unfolding exprs_bytes child_spots column_spots
        column-within = one-column (λ ts. Within end index row) (λ g ts w e k.
            let own = column-is collecting-tree.1 zero in
            record {
              bytes = omega (arith, fits own.bytes, column-size child (short_at s (end + 3)));
              limit =
                  omega (arith, e, p.short, length-append (expr_bytes (column child g)) (exprs_bytes ts), column-size child g);
              child = own.below;
              entry = omega (
                arith,
                index-is,
                inv.same,
                p.room,
                ap length k,
                length-append inv.done (spot ∷ child_spots side (end + length (expr_bytes (column child g))) ts),
              );
            })

        pub column-passed : (b : ℕ) → b ≡ spot_number spot
            → Collecting s side i stop (column_spots side at p.tree) before (end + 5) (left - 1) (index + 1) (set row index b)
        unfolding exprs_bytes child_spots column_spots children_of and_then head_bytes big_endian count
        column-passed b is = one-column
            (λ ts. Collecting s side i stop (column_spots side at p.tree) before (end + 5) (left - 1) (index + 1) (set row index b))
            (λ g ts w e k. record {
              trees = ts;
              stand = opened-row w (end + 5) (left - 1) refl (omega arith);
              ends = omega (arith, e, length-append (expr_bytes (column child g)) (exprs_bytes ts), column-size child g);
              done = inv.done ++ (spot ∷ []);
              put = subst (λ (x : List ℕ). WroteAt i x before (set row index b) (index + 1))
                  (ap (λ (v : ℕ). map spot_number inv.done ++ (v ∷ [])) is ∙ sym (map-append spot_number inv.done (spot ∷ [])))
                  (chain (omega (arith, p.room)) inv.put (store row index b column-within.entry));
              whole =
                  k ∙ sym (append_assoc inv.done (spot ∷ []) (child_spots side (end + length (expr_bytes (column child g))) ts))
                  ∙ ap (λ (n : ℕ). (inv.done ++ (spot ∷ [])) ++ child_spots side (end + n) ts) (column-size child g);
              same = simp length-set inv.same;
            })

      -- Any other node: its head is passed.
      module _ (other : get_or s end 0 ≡ 0 → ⊥) (head : Head) (is : OfTree s end (HeadIs end head)) where
        pub head-later : end < head.next
        head-later = after-head collecting-tree.1 head.next (is (index_below two_bytes) collecting-tree.0 collecting-tree.1).next

        pub head-passed
            : Collecting s side i stop (column_spots side at p.tree) before head.next (left - 1 + head.children) index row
        unfolding exprs_bytes child_spots
        head-passed = by-first
            (λ ts. Row (index_below two_bytes) s end left ts → end + length (exprs_bytes ts) ≡ stop
            → column_spots side at p.tree ≡ inv.done ++ child_spots side end ts
            → Collecting s side i stop (column_spots side at p.tree) before head.next (left - 1 + head.children) index row)
            (λ t ts w e k.
            let h = is (index_below two_bytes) t (first-stands w) in
            let below : Exprs = children_of t in
            let size : length (expr_bytes t ++ exprs_bytes ts) ≡ length (expr_bytes t) + length (exprs_bytes ts) =
            length-append (expr_bytes t) (exprs_bytes ts) in
            record {
              trees = and_then below ts;
              stand = opened-row w head.next (left - 1 + head.children) h.next (omega (arith, h.children));
              ends = omega (
                arith,
                e,
                h.next,
                size,
                tree-length t,
                ap length (then-bytes below ts),
                length-append (exprs_bytes below) (exprs_bytes ts),
              );
              done = inv.done;
              put = inv.put;
              whole =
                  k ∙ ap (λ (l : List Spot). inv.done ++ l)
                  (ap₂ ◌++◌ (no-own-spots side end t (λ z. other (sym (kind-is (first-stands w)) ∙ z))
                  ∙ ap (λ (n : ℕ). child_spots side n below) (sym h.next))
                  (ap (λ (n : ℕ). child_spots side n ts) (omega (arith, h.next, tree-length t)))
                  ∙ sym (spots-then side head.next below ts));
              same = inv.same;
            }) inv.stand inv.ends inv.whole

        -- They are no more than the bytes.
        pub left-few : left - 1 + head.children ≤ length s
        left-few =
            let on = head-passed in
            omega (arith, on.stand.counted, as-few on.trees, fits on.stand.bytes)
