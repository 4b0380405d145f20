-- The child indexes of an extraction replaced by their places, in its bytes: they are then the bytes of its projection.
use Prim.Native.Nat.{ℕ, ◌+◌}
use native.Mathlib.Omega.{arith}
use mathlib.Core.Path.{◌≡◌, refl, sym, ap, ap₂, ◌∙◌, subst}
use mathlib.Core.List.{List, [], ◌∷◌, ◌++◌, append_assoc, append-nil, map, map-append}
use mathlib.Core.Option
use mathlib.Core.Option.{Option, none, some}
use lib.ListN.{length, length-append, length-map}
use Rattle.definitions.specs.Words.Basics.{big_endian}
use Rattle.definitions.specs.Words.Expression as tree
use Rattle.definitions.specs.Words.Expression.{Side, left, right, Expr, column, literal, and, binary, call, other, field, Exprs, nil, cons, count, Record, Predicate, relation, distance, knn, Extraction, extracted}
use Rattle.definitions.specs.Bytes.Encode.{side_number, relation_number, expr_bytes, exprs_bytes, record_bytes, records_bytes, frame_bytes, predicate_kind, predicate_fields, remainder_bytes, extraction_bytes, plan_bytes}
use Rattle.definitions.specs.Words.References.{map_columns, map_columns_all}
use Rattle.definitions.specs.Filter.Exchange.{negate}
use Rattle.definitions.specs.Filter.Project.{ChildLists, new_place, project_expr, project_predicate, project_record, project_frame, project_extraction}
use Rattle.theorems.proofs.Columns.{map-count}
use Rattle.projection.specs.Spots.{Spot, column_spots, child_spots, record_spots}
use Rattle.projection.specs.PlanSpots.{both_spots, predicate_spots, remainder_spots, extraction_spots}
use Rattle.projection.specs.Projected.{moved}
use Rattle.projection.proofs.PatchLaws.{patched_by, by_append, put-over}

module _ (lists : ChildLists) where
  -- The child indexes, moved in the bytes x that start at a place, make y of them, and nothing else changes.
  pub record Moves (es : List Spot) (at : ℕ) (x y : List ℕ) : Type 0 where
    pub same : length x ≡ length y
    pub patch : (pre post : List ℕ) → length pre ≡ at → patched_by (map (moved lists) es) (pre ++ (x ++ post)) ≡ pre ++ (y ++ post)

  -- ---- one part after another

  none_moves : (at : ℕ) (x : List ℕ) → Moves [] at x x
  unfolding patched_by
  none_moves at x = record { same = refl; patch = λ pre post size. refl }

  both-move : {es fs : List Spot} {at : ℕ} {x y z w : List ℕ} → Moves es at x y → Moves fs (at + length x) z w
      → Moves (es ++ fs) at (x ++ z) (y ++ w)
  both-move {es} {fs} {at} {x} {y} {z} {w} a b = record {
    same = simp length-append (omega (arith, a.same, b.same));
    patch = λ pre post size.
        ap₂ patched_by (map-append (moved lists) es fs) (ap (λ (l : List ℕ). pre ++ l) (append_assoc x z post))
        ∙ by_append (map (moved lists) es) (map (moved lists) fs) (pre ++ (x ++ (z ++ post)))
        ∙ ap (patched_by (map (moved lists) fs)) (a.patch pre (z ++ post) size ∙ sym (append_assoc pre y (z ++ post)))
        ∙ b.patch (pre ++ y) post (simp length-append (omega (arith, a.same)))
        ∙ append_assoc pre y (w ++ post)
        ∙ ap (λ (l : List ℕ). pre ++ l) (sym (append_assoc y w post));
  }

  elsewhere : {es : List Spot} {p : ℕ} {x y : List ℕ} → (at : ℕ) → p ≡ at → Moves es p x y → Moves es at x y
  elsewhere {es} {p} {x} {y} at e h = subst (λ (q : ℕ). Moves es q x y) e h

  -- Bytes before that stay, and bytes after.
  after : {es : List Spot} {at : ℕ} {x y : List ℕ} (h : List ℕ) → Moves es (at + length h) x y → Moves es at (h ++ x) (h ++ y)
  after {es} {at} h b = both-move (none_moves at h) b

  before : {es : List Spot} {at : ℕ} {x y : List ℕ} (z : List ℕ) → Moves es at x y → Moves es at (x ++ z) (y ++ z)
  before {es} {at} {x} {y} z a =
      subst (λ (l : List Spot). Moves l at (x ++ z) (y ++ z)) (append-nil es) (both-move a (none_moves (at + length x) z))

  -- ---- one child index

  one-moves : (side : Side) (at child : ℕ) (b : ℕ) (rest : List ℕ)
      → Moves (record { side = side; at = at + 1; child = child } ∷ []) at (b ∷ (big_endian 2 child ++ rest))
      (b ∷ (big_endian 2 (new_place lists side child) ++ rest))
  unfolding patched_by big_endian
  one-moves side at child b rest =
      let new : List ℕ = big_endian 2 (new_place lists side child) in
      let own : Moves (record { side = side; at = at + 1; child = child } ∷ []) (at + 1) (big_endian 2 child) new = record {
        same = refl;
        patch = λ pre post size. put-over (at + 1) pre (big_endian 2 child) new post size refl;
      } in
      after (b ∷ []) (before rest own)

  -- ---- an expression

  mutual
    unfolding column_spots child_spots expr_bytes exprs_bytes project_expr map_columns map_columns_all big_endian

    tree-moves : (side : Side) (at : ℕ) (t : Expr)
        → Moves (column_spots side at t) at (expr_bytes t) (expr_bytes (project_expr lists side t))
    tree-moves side at (column i g) = one-moves side at i 0 (big_endian 2 g)
    tree-moves side at (literal y v) = none_moves at (expr_bytes (literal y v))
    tree-moves side at (and l r) =
        after (2 ∷ 0 ∷ []) (both-move (tree-moves side (at + 2) l) (tree-moves side (at + 2 + length (expr_bytes l)) r))
    tree-moves side at (binary o l r) =
        after (2 ∷ o ∷ []) (both-move (tree-moves side (at + 2) l) (tree-moves side (at + 2 + length (expr_bytes l)) r))
    tree-moves side at (call name ts) =
        subst (λ (n : ℕ). Moves (child_spots side (at + (3 + length name)) ts) at (expr_bytes (call name ts))
        (3 ∷ length name ∷ (name ++ (n ∷ exprs_bytes (map_columns_all (new_place lists side) ts)))))
        (sym (map-count (new_place lists side) ts))
        (after (3 ∷ length name ∷ []) (after name (after (count ts ∷ [])
        (elsewhere _ (omega arith) (row-moves side (at + (3 + length name)) ts)))))
    tree-moves side at (other g ts) =
        subst (λ (n : ℕ). Moves (child_spots side (at + 4) ts) at (expr_bytes (other g ts))
        (4 ∷ (big_endian 2 g ++ (n ∷ exprs_bytes (map_columns_all (new_place lists side) ts)))))
        (sym (map-count (new_place lists side) ts))
        (after (4 ∷ []) (after (big_endian 2 g) (after (count ts ∷ []) (elsewhere _ (omega arith) (row-moves side (at + 4) ts)))))
    tree-moves side at (field b g) = none_moves at (expr_bytes (field b g))

    row-moves : (side : Side) (at : ℕ) (ts : Exprs)
        → Moves (child_spots side at ts) at (exprs_bytes ts) (exprs_bytes (map_columns_all (new_place lists side) ts))
    row-moves side at nil = none_moves at []
    row-moves side at (cons t ts) = both-move (tree-moves side at t) (row-moves side (at + length (expr_bytes t)) ts)

  -- ---- records

  records-move : (at : ℕ) (rs : List Record)
      → Moves (record_spots at rs) at (records_bytes rs) (records_bytes (map (project_record lists) rs))
  unfolding record_spots records_bytes record_bytes project_record big_endian
  records-move at [] = none_moves at []
  records-move at (r ∷ rs) =
      both-move (one-moves r.side at r.child (side_number r.side) (big_endian 2 r.tag)) (records-move (at + 5) rs)

  -- ---- an extraction

  two-move : (one two : Side) (at : ℕ) (l r : Expr)
      → Moves (both_spots one two at l r) at (expr_bytes l ++ expr_bytes r)
      (expr_bytes (project_expr lists one l) ++ expr_bytes (project_expr lists two r))
  unfolding both_spots
  two-move one two at l r = both-move (tree-moves one at l) (tree-moves two (at + length (expr_bytes l)) r)

  predicate-moves : (P : Predicate) → Moves (predicate_spots P) 3 (predicate_fields P) (predicate_fields (project_predicate lists P))
  unfolding predicate_spots predicate_fields project_predicate big_endian
  predicate-moves (relation type l r) = after (relation_number type ∷ []) (two-move left right 4 l r)
  predicate-moves (distance form side l r bound) =
      let x : List ℕ = expr_bytes l in
      let y : List ℕ = expr_bytes r in
      let x' : List ℕ = expr_bytes (project_expr lists left l) in
      let y' : List ℕ = expr_bytes (project_expr lists right r) in
      let z' : List ℕ = expr_bytes (project_expr lists side bound) in
      let at : ℕ = 5 + (length x + length y) in
      after (form ∷ side_number side ∷ [])
      (subst (Moves (both_spots left right 5 l r ++ column_spots side at bound) 5 (x ++ (y ++ expr_bytes bound))) (append_assoc x' y' z')
      (subst (λ (q : List ℕ). Moves (both_spots left right 5 l r ++ column_spots side at bound) 5 q ((x' ++ y') ++ z'))
      (append_assoc x y (expr_bytes bound))
      (both-move (two-move left right 5 l r) (elsewhere _ (simp length-append) (tree-moves side at bound)))))
  predicate-moves (knn k spheroid probe ties l r) =
      after (big_endian 4 k) (after (spheroid ∷ side_number probe ∷ ties ∷ []) (two-move probe (negate probe) 10 l r))

  remainder-moves : (at : ℕ) (R : Option tree.Frame)
      → Moves (remainder_spots at R) at (remainder_bytes R) (remainder_bytes (Option.map (project_frame lists) R))
  unfolding remainder_spots remainder_bytes frame_bytes project_frame big_endian
  remainder-moves at none = none_moves at (0 ∷ [])
  remainder-moves at (some F) =
      let rs : List Record = F.records in
      let rs' : List Record = map (project_record lists) rs in
      subst (λ (n : ℕ). Moves (record_spots (at + 3) rs) at (frame_bytes F)
      (1 ∷ (big_endian 2 n ++ (records_bytes rs' ++ expr_bytes F.expr))))
      (sym (length-map rs (project_record lists)))
      (after (1 ∷ [])
      (after (big_endian 2 (length rs)) (before (expr_bytes F.expr) (elsewhere _ (omega arith) (records-move (at + 3) rs)))))

  same_kind : (P : Predicate) → predicate_kind (project_predicate lists P) ≡ predicate_kind P
  unfolding predicate_kind project_predicate
  same_kind (relation type l r) = refl
  same_kind (distance form side l r bound) = refl
  same_kind (knn k spheroid probe ties l r) = refl

  pub extraction-moves : (X : Extraction)
      → Moves (extraction_spots X) 0 (plan_bytes (extracted X)) (plan_bytes (extracted (project_extraction lists X)))
  unfolding extraction_spots plan_bytes extraction_bytes project_extraction big_endian
  extraction-moves X =
      let P : Predicate = X.predicate in
      subst (λ (n : ℕ). Moves (extraction_spots X) 0 (plan_bytes (extracted X))
      (n ∷ (big_endian 2 X.position ++ (predicate_fields (project_predicate lists P)
      ++ remainder_bytes (Option.map (project_frame lists) X.remainder)))))
      (sym (same_kind P))
      (after (predicate_kind P ∷ []) (after (big_endian 2 X.position)
      (both-move (predicate-moves P) (remainder-moves (3 + length (predicate_fields P)) X.remainder))))
