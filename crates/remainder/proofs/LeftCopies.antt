-- The loops over the columns mark and renumber the columns of what is left, and the three copies write its bytes.
mod PatchLaws
use Rattle.std.specs.Prelude.{if◌then◌else◌, fold}
use Prim.Native.Nat.{ℕ, ◌+◌, ◌≤◌, ◌<◌}
use native.Mathlib.Omega.{arith}
use mathlib.Core.Path.{◌≡◌, refl, sym, ap, ap₂, ◌∙◌, subst}
use mathlib.Core.Bool.{Bool, true, false}
use mathlib.Core.List.{List, [], ◌∷◌, ◌++◌, map, append_assoc}
use lib.ListN.{length, get_or, set, take, drop, length-append}
use lib.Seq.{drop-drop, drop-append_seam}
use borrow.Author.Tests.{ltb-true}
use Rattle.definitions.specs.Words.Basics.{big_endian, keep}
use Rattle.definitions.specs.Words.Expression.{Expr}
use Rattle.definitions.specs.Bytes.Encode.{expr_bytes}
use Rattle.definitions.specs.Bytes.Decode.{index_below}
use Rattle.definitions.specs.Words.References.{columns_of}
use Rattle.definitions.specs.Bytes.Good.{All}
use Rattle.theorems.proofs.Columns.{all_both, map-length}
use Rattle.expression.specs.Places.{Holds, Between}
use Rattle.expression.specs.declared.cuts.Cut.{Cut}
use Rattle.expression.proofs.Placed.{fits, front, back}
use Rattle.byte_writer.specs.Written.{Wrote, WroteAt}
use Rattle.byte_writer.specs.Writing.{Room, PutsAt, same}
use Rattle.byte_writer.proofs.Written.{chain, to_start}
use Rattle.filter_tree.proofs.Changing.{Changing, change-goes-on}
use Rattle.filter_tree.proofs.ColumnPlaces.{columns_at, index_in, each-column, column-index, columns-within}
use Rattle.node_table.specs.declared.NodeRecord.{NodeRecord as Lent}
use Rattle.filter_tree.specs.Trees.{Node, OfNode}
use Rattle.filter_tree.specs.Columns.{OfColumns}
use Rattle.filter_tree.proofs.Scans.{places-are}
use Rattle.plan_writer.specs.Copies.{copy_of}
use Rattle.plan_writer.proofs.Fields.{column-size}
use Rattle.remainder.specs.Around.{outside, moved, Movable, LeftAt}
use Rattle.remainder.specs.References.{marked}
use Rattle.remainder.specs.Remainders.{PatchFits, Patched}
use Rattle.remainder.proofs.CutLaws.{LeftOf, left-of, left-spans, Pieces, pieces}
use Rattle.remainder.proofs.LeftColumns.{all-kept, fold-kept, all-mapped, not-in-leaf, LeftColumns, left-columns}
use Rattle.plan_writer.proofs.Copying.{put_index}
use Rattle.remainder.proofs.LeftCopies.PatchLaws.{put_indexes, renumbered}

-- ---- what is known of what is left

module _ {n : ℕ} {s : List ℕ} {nodes : List Lent} {cut : Cut} {at : ℕ} {t e : Expr}
    (h : LeftAt (index_below n) s nodes cut at t e) where
  by-leaf : LeftOf cut at t e
  by-leaf = left-of h.cutting h.left

  columns : LeftColumns cut s at at 0 t e
  columns = left-columns at by-leaf 0 (omega arith) h.stands

  pub first-node : Node nodes 0
  first-node = (at, t, h.noded)

  pub cut-short : cut.parent + 2 ≤ length s
  cut-short =
      let spans = left-spans by-leaf in
      omega (arith, spans.leaf, spans.some, spans.end, fits h.stands.bytes)

  -- A column's five bytes stand in s, and its index is below n.
  pub column-places : All (λ p. (p + 5 ≤ length s) × (index_in s p < n)) (columns_at at t)
  column-places = each-column _ (λ p i g stands. (
    omega (arith, fits stands.bytes, column-size i g),
    omega (arith, column-index i g stands, ltb-true i n stands.in_range.0),
  )) at t h.stands

  pub left-movable : (root place : ℕ) → OfNode nodes 0 (λ at t. root ≡ at) → root ≤ place → outside cut place ≡ true
      → Movable cut root place
  left-movable root place starts low out =
      let spans = left-spans by-leaf in
      record {
        parent = omega (arith, spans.parent, starts at t h.noded);
        leaf = spans.leaf;
        end = spans.some;
        low = low;
        high = λ at-leaf. not-in-leaf cut out at-leaf;
      }

-- ---- a loop over columns that changes a value at each one outside the leaf

abbrev pub outside_only : {A : Type 0} → Cut → (A → ℕ → A) → A → (place : ℕ) → A
outside_only cut f a place = if outside cut place then f a place else a

-- A place outside the leaf changes the value, one in it does not.
module _ {A : Type 0} {P : ℕ → Type 0} (cut : Cut) (f : A → ℕ → A) {goal now : A} {left more : List ℕ} {place : ℕ}
    (inv : Changing P (outside_only cut f) goal left now) (is : left ≡ place ∷ more) where
  pub change-outside : true ≡ outside cut place → (after : A) → after ≡ f now place → Changing P (outside_only cut f) goal more after
  change-outside told after same =
      change-goes-on inv is after (same ∙ ap (λ (b : Bool). if b then f now place else now) told)

  pub change-inside : false ≡ outside cut place → Changing P (outside_only cut f) goal more now
  change-inside told = change-goes-on inv is now (ap (λ (b : Bool). if b then f now place else now) told)

-- ---- marks

-- A column's flag set.
abbrev pub mark_column : (s : List ℕ) → List ℕ → (place : ℕ) → List ℕ
mark_column s flags place = set flags (index_in s place) 1

abbrev pub MarkPlace : (s : List ℕ) (n place : ℕ) → Type 0
MarkPlace s n place = (place + 5 ≤ length s) × (index_in s place < n)

abbrev pub Marking : (s : List ℕ) → Cut → (n : ℕ) (before left now : List ℕ) → Expr → Type 0
Marking s cut n before left now e =
    Changing (MarkPlace s n) (outside_only cut (mark_column s)) (marked (columns_of e) before) left now

marks : (s flags places : List ℕ)
    → fold (mark_column s) flags places ≡ marked (map (index_in s) places) flags
unfolding marked
marks s flags [] = refl
marks s flags (p ∷ places) = marks s (set flags (index_in s p) 1) places

-- The columns that are read are those of the expression.
all-read : {n : ℕ} {s : List ℕ} {nodes : List Lent} {cut : Cut} {at : ℕ} {t e : Expr} → LeftAt (index_below n) s nodes cut at t e
    → {left : List ℕ} → OfColumns s nodes 0 left → left ≡ columns_at at t
all-read {n} {at = at} {t = t} h read = (read (index_below n) at t h.stands h.noded).places ∙ places-are at t

pub marking-begins : {n : ℕ} {s : List ℕ} {nodes : List Lent} {cut : Cut} {at : ℕ} {t e : Expr}
    → LeftAt (index_below n) s nodes cut at t e → {left : List ℕ} → OfColumns s nodes 0 left → (before : List ℕ)
    → Marking s cut n before left before e
marking-begins {n} {s} {cut = cut} {at = at} {t = t} {e = e} h read before =
    subst (λ (left : List ℕ). Marking s cut n before left before e) (sym (all-read h read)) (record {
      each = column-places h;
      rest =
          fold-kept (outside cut) (mark_column s) before (columns_at at t)
          ∙ marks s before (keep (outside cut) (columns_at at t)) ∙ ap (λ (x : List ℕ). marked x before) (columns h).indexes;
    })

-- ---- new indexes

-- A column renumbered where it was copied to.
abbrev pub renumber : (s : List ℕ) → Cut → (at : ℕ) (to : List ℕ) → List ℕ → (place : ℕ) → List ℕ
renumber s cut at to out place = put_index (moved cut at place + 1) (get_or to (index_in s place) 0) out

pub renumber-put : (s : List ℕ) (cut : Cut) (at : ℕ) (to : List ℕ) (place : ℕ) {before after : List ℕ} {w v r : ℕ}
    → w ≡ moved cut at place + 1 → v ≡ get_or to (index_in s place) 0 → WroteAt w (big_endian 2 v) before after r
    → after ≡ renumber s cut at to before place
unfolding big_endian
renumber-put s cut at to place {before} at-place is put =
    put.out ∙ ap₂ (λ (w v : ℕ). take w before ++ (big_endian 2 v ++ drop (w + 2) before)) at-place is

-- Its bytes stand in s, its index is in the table, and it was copied to five of `long` bytes.
pub record PatchPlace (s : List ℕ) (n : ℕ) (cut : Cut) (at long place : ℕ) : Type 0 where
  pub within : place + 5 ≤ length s
  pub below : index_in s place < n
  pub low : at ≤ place
  pub room : outside cut place ≡ true → moved cut at place + 5 ≤ long

abbrev pub Patching : (s to : List ℕ) → Cut → (at : ℕ) (before left now : List ℕ) → Expr → Type 0
Patching s to cut at before left now e =
    Changing (PatchPlace s (length to) cut at (length before)) (outside_only cut (renumber s cut at to))
    (copy_of to e ++ drop (length (copy_of to e)) before) left now

patches : (s : List ℕ) (cut : Cut) (at : ℕ) (to out places : List ℕ)
    → fold (renumber s cut at to) out places
    ≡ put_indexes to (map (moved cut at) places) (map (index_in s) places) out
unfolding put_indexes
patches s cut at to out [] = refl
patches s cut at to out (p ∷ places) =
    patches s cut at to (renumber s cut at to out p) places

module _ (to : List ℕ) {s : List ℕ} {nodes : List Lent} {cut : Cut} {at : ℕ} {t e : Expr}
    (h : LeftAt (index_below (length to)) s nodes cut at t e) where
  pub copy-size : length (copy_of to e) ≡ length (expr_bytes e)
  copy-size = map-length (λ index. get_or to index 0) e

  patch-places : (long : ℕ) → length (expr_bytes e) ≤ long → All (PatchPlace s (length to) cut at long) (columns_at at t)
  patch-places long room =
      let here = columns-within at (at + length (expr_bytes t)) at t (omega arith) (omega arith) in
      let there : All (λ p. (0 ≤ p) × (p + 5 ≤ long)) (map (moved cut at) (keep (outside cut) (columns_at at t))) =
      subst (All (λ p. (0 ≤ p) × (p + 5 ≤ long))) (sym (columns h).places) (columns-within 0 long 0 e (omega arith) (omega arith)) in
      all_both _ _ (PatchPlace s (length to) cut at long) (λ p a b. record { within = a.0; below = a.1; low = b.0.0; room = b.1 })
      (columns_at at t) (column-places h)
      (all_both _ _ (λ p. ((at ≤ p) × (p + 5 ≤ at + length (expr_bytes t))) × (outside cut p ≡ true → moved cut at p + 5 ≤ long))
      (λ p a b. (a, b)) (columns_at at t) here
      (all-kept (outside cut) (λ p. moved cut at p + 5 ≤ long) (columns_at at t)
      (all-mapped (moved cut at) (λ p. p + 5 ≤ long) (keep (outside cut) (columns_at at t))
      (all_both _ _ (λ p. p + 5 ≤ long) (λ p a b. a.1) _ there there))))

  patching : (before : List ℕ) → Wrote (expr_bytes e) before before
      → fold (outside_only cut (renumber s cut at to)) before (columns_at at t) ≡ copy_of to e ++ drop (length (copy_of to e)) before
  patching before begins =
      fold-kept (outside cut) (renumber s cut at to) before (columns_at at t)
      ∙ patches s cut at to before (keep (outside cut) (columns_at at t))
      ∙ ap₂ (λ (p i : List ℕ). put_indexes to p i before) (columns h).places (columns h).indexes
      ∙ ap (put_indexes to (columns_at 0 e) (columns_of e)) begins
      ∙ renumbered to e [] (drop (length (expr_bytes e)) before) 0 refl
      ∙ ap (λ (k : ℕ). copy_of to e ++ drop k before) (sym copy-size)

  pub patching-begins : (root : ℕ) → OfNode nodes 0 (λ at t. root ≡ at) → {left : List ℕ} → OfColumns s nodes 0 left
      → (before : List ℕ) → Wrote (expr_bytes e) before before → Patching s to cut root before left before e
  patching-begins root starts {left} read before begins =
      let room : length (expr_bytes e) ≤ length before =
      omega (arith, ap length begins, length-append (expr_bytes e) (drop (length (expr_bytes e)) before)) in
      subst (λ (q : ℕ). Patching s to cut q before left before e) (sym (starts at t h.noded))
      (subst (λ (left : List ℕ). Patching s to cut at before left before e) (sym (all-read h read))
      (record { each = patch-places (length before) room; rest = patching before begins }))

-- ---- the copies

holds-between : {s x : List ℕ} {at : ℕ} → Holds s at x → (end : ℕ) → end ≡ at + length x → Between s at end x
holds-between {s} {x} {at} h end e =
    let rest : drop end s ≡ h.rest =
    ap (λ (k : ℕ). drop k s) e ∙ sym (drop-drop (length x) at s) ∙ ap (drop (length x)) h.bytes ∙ drop-append_seam x h.rest in
    record { bytes = h.bytes ∙ ap (λ (l : List ℕ). x ++ l) (sym rest); ends = e; within = omega (arith, e, fits h) }

-- What begins with x begins with it still.
begins-still : (x before : List ℕ) {after : List ℕ} → Wrote x before after → Wrote x after after
begins-still x before {after} e =
    e ∙ ap (λ (l : List ℕ). x ++ l)
    (sym (ap (drop (length x)) e ∙ drop-append_seam x (drop (length x) before)))

module _ (to : List ℕ) {s : List ℕ} {nodes : List Lent} {cut : Cut} {at : ℕ} {t e : Expr}
    (h : LeftAt (index_below (length to)) s nodes cut at t e) where
  abbrev p : Pieces cut at t e
  p = pieces (by-leaf h)

  all-bytes : Holds s at (p.before ++ ((2 ∷ 0 ∷ []) ++ (p.between ++ (p.gone ++ p.behind))))
  all-bytes = subst (Holds s at) p.of_all h.stands.bytes

  after-head : Holds s (cut.parent + 2) (p.between ++ (p.gone ++ p.behind))
  after-head = back (2 ∷ 0 ∷ []) (p.between ++ (p.gone ++ p.behind))
      (back p.before ((2 ∷ 0 ∷ []) ++ (p.between ++ (p.gone ++ p.behind))) all-bytes cut.parent (sym p.parent)) (cut.parent + 2) refl

  size : length (expr_bytes e) ≡ length p.before + length p.between + length p.behind
  size = ap length p.of_left ∙ simp length-append (omega arith)

  whole-size : length (expr_bytes t) ≡ length p.before + 2 + length p.between + length p.gone + length p.behind
  whole-size = ap length p.of_all ∙ simp length-append (omega arith)

  module _ (root : ℕ) (starts : OfNode nodes 0 (λ at t. root ≡ at)) where
    there : root ≡ at
    there = starts at t h.noded

    before-span : Between s root cut.parent p.before
    before-span =
        subst (λ (q : ℕ). Between s q cut.parent p.before) (sym there)
        (holds-between (front p.before ((2 ∷ 0 ∷ []) ++ (p.between ++ (p.gone ++ p.behind))) all-bytes) cut.parent (sym p.parent))

    between-span : Between s (cut.parent + 2) cut.leaf p.between
    between-span = holds-between (front p.between (p.gone ++ p.behind) after-head) cut.leaf (sym p.leaf)

    pub before-room : (out : List ℕ) → length (copy_of to e) ≤ length out → Room (Between s root cut.parent) same 0 out
    before-room out room = record { it = p.before; stands = before-span; room = omega (arith, room, copy-size to h, size) }

    module _ {out one : List ℕ} {a : ℕ} (first : PutsAt (Between s root cut.parent) same 0 out one a) where
      pub between-room : length one ≡ length out → length (copy_of to e) ≤ length out
          → Room (Between s (cut.parent + 2) cut.leaf) same a one
      between-room kept room = record {
        it = p.between;
        stands = between-span;
        room = omega (arith, room, copy-size to h, size, (first.wrote p.before before-span).ends);
      }

      module _ {two : List ℕ} {b : ℕ} (second : PutsAt (Between s (cut.parent + 2) cut.leaf) same a one two b) where
        module _ (stop : ℕ) (stops : OfNode nodes 0 (λ at t. stop ≡ at + length (expr_bytes t))) where
          behind-span : Between s cut.end stop p.behind
          behind-span =
              holds-between
              (back p.gone p.behind (back p.between (p.gone ++ p.behind) after-head cut.leaf (sym p.leaf)) cut.end (sym p.end)) stop
              (omega (arith, stops at t h.noded, whole-size, p.parent, p.leaf, p.end))

          pub behind-room : length two ≡ length out → length (copy_of to e) ≤ length out → Room (Between s cut.end stop) same b two
          behind-room kept room = record {
            it = p.behind;
            stands = behind-span;
            room = omega
                (arith, room, copy-size to h, size, (first.wrote p.before before-span).ends, (second.wrote p.between between-span).ends);
          }

          module _ {three : List ℕ} {r : ℕ} (third : PutsAt (Between s cut.end stop) same b two three r) where
            spans-wrote : (r ≡ length (expr_bytes e)) × Wrote (expr_bytes e) out three
            spans-wrote =
                subst (λ (x : List ℕ). (r ≡ length x) × Wrote x out three) (append_assoc p.before p.between p.behind ∙ sym p.of_left)
                (to_start (chain (omega arith)
                (chain (omega arith) (first.wrote p.before before-span) (second.wrote p.between between-span))
                (third.wrote p.behind behind-span)))

            pub patch-fits : PatchFits s nodes to cut three
            patch-fits = (at, t, e, h, begins-still (expr_bytes e) out spans-wrote.1)

            -- And with the new indexes.
            pub rest-wrote : {after : List ℕ} → Patched s nodes to cut three after
                → (r ≡ length (copy_of to e)) × Wrote (copy_of to e) out after
            rest-wrote {after} patched =
                let x : List ℕ = expr_bytes e in
                let y : List ℕ = copy_of to e in
                let put : after ≡ y ++ drop (length y) three = patched at t e h (begins-still x out spans-wrote.1) in
                let kept : drop (length y) three ≡ drop (length y) out =
                ap (λ (k : ℕ). drop k three) (copy-size to h) ∙ ap (drop (length x)) spans-wrote.1
                ∙ drop-append_seam x (drop (length x) out) ∙ ap (λ (k : ℕ). drop k out) (sym (copy-size to h)) in
                (spans-wrote.0 ∙ sym (copy-size to h), put ∙ ap (λ (l : List ℕ). y ++ l) kept)
