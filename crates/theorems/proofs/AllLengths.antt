-- What the call writes is never longer than the frame.
use Rattle.std.specs.Prelude.{if◌then◌else◌}
use Prim.Native.Nat.{ℕ, ◌+◌, ◌≤◌}
use native.Mathlib.Omega.{arith}
use mathlib.Core.Path.{◌≡◌, refl, sym, ◌∙◌}
use mathlib.Core.Bool.{Bool, true, false, not}
use mathlib.Core.List.{List, [], ◌∷◌, ◌++◌, map, map-append}
use mathlib.Core.Option
use mathlib.Core.Option.{Option, none, some}
use lib.ListN.{length, length-append, length-map}
use Rattle.definitions.specs.Words.Basics.{big_endian, any}
use Rattle.definitions.specs.Words.Expression.{Expr, column, literal, and, binary, call, other, field, Record, Frame, Predicate}
use Rattle.definitions.specs.Bytes.Encode.{expr_bytes, frame_bytes, predicate_fields, remainder_bytes}
use Rattle.definitions.specs.Words.Leaves.{leaves}
use Rattle.definitions.specs.Bytes.Decode.{index_below}
use Rattle.definitions.specs.Filter.Extract.{Pick, is_knn, prune, Matcher, matches_by, is_match}
use Rattle.definitions.specs.Bytes.Good.{nodes, depth, InRange, RecordsInRange, ReadableFrame}
use Rattle.definitions.specs.Meaning.Values.{Meaning}
use Rattle.definitions.specs.Meaning.Matchers.{Fits, Lawful}
use Rattle.definitions.specs.Calls.ExtractAll.{pick_bytes, picks_bytes, conjuncts_bytes}
use Rattle.definitions.specs.Filter.Conjuncts.{matching, is_other, knn_first, and_both, unless, without_all, last_remainder}
use Rattle.theorems.proofs.Taken.{rest_bytes}
use Rattle.theorems.proofs.ExtractGood.{rest-length}
use Rattle.theorems.proofs.ExchangeGood.{frame-length}
use Rattle.theorems.proofs.AllPicks.{Matches}
use Rattle.theorems.proofs.AllRounds.{matches_leaf, told_of}

-- ---- the bytes of the picks

-- What the predicates of a list of matches take, each with its position.
cost : Matches → ℕ
cost [] = 0
cost (none ∷ ms) = cost ms
cost (some p ∷ ms) = 3 + length (predicate_fields p) + cost ms

pick-length : (p : Pick) → length (pick_bytes p) ≡ 3 + length (predicate_fields p.predicate)
unfolding pick_bytes big_endian
pick-length p = omega arith

picks-append : (ps qs : List Pick) → length (picks_bytes (ps ++ qs)) ≡ length (picks_bytes ps) + length (picks_bytes qs)
unfolding picks_bytes
picks-append [] qs = omega arith
picks-append (p ∷ ps) qs =
    omega (arith, length-append (pick_bytes p) (picks_bytes (ps ++ qs)), length-append (pick_bytes p) (picks_bytes ps), picks-append ps qs)

matching-cost : (is : List ℕ) (ms : Matches) → length is ≡ length ms
    → length (picks_bytes (matching is_knn is ms)) + length (picks_bytes (matching is_other is ms)) ≡ cost ms
unfolding matching cost picks_bytes is_other
matching-cost is [] n = refl
matching-cost [] (m ∷ ms) n = absurd (omega arith)
matching-cost (k ∷ is) (none ∷ ms) n = matching-cost is ms (omega arith)
matching-cost (k ∷ is) (some p ∷ ms) n = by (is_knn p) (matching-cost is ms (omega arith))
  where
    one : Pick
    one = record { position = k; predicate = p }

    by : (b : Bool) → length (picks_bytes (matching is_knn is ms)) + length (picks_bytes (matching is_other is ms)) ≡ cost ms
        → length (picks_bytes (if b then one ∷ matching is_knn is ms else matching is_knn is ms))
        + length (picks_bytes (if not b then one ∷ matching is_other is ms else matching is_other is ms))
        ≡ 3 + length (predicate_fields p) + cost ms
    by true h = omega (arith, pick-length one, length-append (pick_bytes one) (picks_bytes (matching is_knn is ms)))
    by false h = omega (arith, pick-length one, length-append (pick_bytes one) (picks_bytes (matching is_other is ms)))

picks-cost : (is : List ℕ) (ms : Matches) → length is ≡ length ms → length (picks_bytes (knn_first is ms)) ≡ cost ms
unfolding knn_first
picks-cost is ms n = picks-append (matching is_knn is ms) (matching is_other is ms) ∙ matching-cost is ms n

cost-append : (ms ns : Matches) → cost (ms ++ ns) ≡ cost ms + cost ns
unfolding cost
cost-append [] ns = omega arith
cost-append (none ∷ ms) ns = cost-append ms ns
cost-append (some p ∷ ms) ns = omega (arith, cost-append ms ns)

-- ---- a matching leaf and its And have room for its predicate

both_bytes : (x y : Option Expr) → rest_bytes (and_both x y) ≤ rest_bytes x + rest_bytes y
unfolding rest_bytes and_both expr_bytes
both_bytes none y = omega arith
both_bytes (some l) none = omega arith
both_bytes (some l) (some r) = omega (arith, length-append (expr_bytes l) (expr_bytes r))

module _ {match : Matcher} {Asks : Meaning → Type 0} (laws : Lawful match Asks) (rs : List Record) (rr : RecordsInRange rs) where
  abbrev goes : Expr → Bool
  goes = matches_leaf match rs

  abbrev Room : Expr → Type 0
  Room e = cost (map (match rs) (leaves e)) + rest_bytes (without_all goes e) ≤ 2 + length (expr_bytes e)

  leaf_room : (e : Expr) (m : Option Predicate) → Fits (length (expr_bytes e)) (nodes e) m
      → cost (m ∷ []) + rest_bytes (if is_match m then none else some e) ≤ 2 + length (expr_bytes e)
  unfolding cost rest_bytes is_match
  leaf_room e none s = omega arith
  leaf_room e (some p) s = omega (arith, s.1)

  one-room : (e : Expr) → InRange (index_below (length rs)) e → depth e ≤ 64
      → cost (match rs e ∷ []) + rest_bytes (unless goes e) ≤ 2 + length (expr_bytes e)
  unfolding unless
  one-room e r d = leaf_room e (match rs e) (laws.fits rs e rr (record { in_range = r; shallow = d }))

  and-room : (l r : Expr) → Room l → Room r
      → cost (map (match rs) (leaves l ++ leaves r)) + rest_bytes (and_both (without_all goes l) (without_all goes r))
      ≤ 2 + length (expr_bytes (and l r))
  unfolding expr_bytes
  and-room l r h k =
      rw (map-append (match rs) (leaves l) (leaves r))
      (omega (
        arith,
        cost-append (map (match rs) (leaves l)) (map (match rs) (leaves r)),
        both_bytes (without_all goes l) (without_all goes r),
        length-append (expr_bytes l) (expr_bytes r),
      ))

  -- The predicates, and what is left with an And's two bytes, fit in the expression and two bytes.
  expr-room : (e : Expr) → InRange (index_below (length rs)) e → depth e ≤ 64 → Room e
  unfolding leaves without_all depth
  expr-room (column i t) r d = one-room (column i t) r d
  expr-room (literal type v) r d = one-room (literal type v) r d
  expr-room (and l x) r d = and-room l x (expr-room l r.0 (omega arith)) (expr-room x r.1 (omega arith))
  expr-room (binary o l x) r d = one-room (binary o l x) r d
  expr-room (call name es) r d = one-room (call name es) r d
  expr-room (other tag es) r d = one-room (other tag es) r d
  expr-room (field bits t) r d = one-room (field bits t) r d

no-cost : (ms : Matches) → any is_match ms ≡ false → cost ms ≡ 0
unfolding cost any is_match
no-cost [] e = refl
no-cost (none ∷ ms) e = no-cost ms e
no-cost (some p ∷ ms) e = let z : ◌≡◌ {A = ℕ} 0 1 = cc in absurd (omega arith)

module _ {match : Matcher} {Asks : Meaning → Type 0} (laws : Lawful match Asks) (F : Frame) (good : ReadableFrame F) where
  last-room : (b : Bool) → any is_match (matches_by match F) ≡ b
      → cost (matches_by match F)
      + length (remainder_bytes
      (if b then Option.map (prune F.records) (without_all (matches_leaf match F.records) F.expr) else some F))
      ≤ length (frame_bytes F)
  unfolding remainder_bytes matches_by
  last-room true e =
      omega (
        arith,
        expr-room laws F.records good.records_in_range F.expr good.expr.in_range good.expr.shallow,
        rest-length F.records (without_all (matches_leaf match F.records) F.expr),
        frame-length F,
      )
  last-room false e = omega (arith, no-cost (matches_by match F) e)

  -- What is written is never longer than the frame.
  pub told-short : (is : List ℕ) → length is ≡ length (leaves F.expr)
      → length (conjuncts_bytes (told_of match is F)) ≤ length (frame_bytes F)
  unfolding conjuncts_bytes told_of last_remainder matches_by
  told-short is n =
      let ms : Matches = matches_by match F in
      omega (
        arith,
        length-append (picks_bytes (knn_first is ms)) (remainder_bytes (last_remainder match F)),
        picks-cost is ms (n ∙ sym (length-map (leaves F.expr) (match F.records))),
        last-room (any is_match ms) refl,
      )
