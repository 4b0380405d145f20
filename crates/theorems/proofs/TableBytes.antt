-- Each record of a frame's table names the bytes of its node in the frame.
use Prim.Native.Nat.{ℕ, zero, suc, ◌+◌, ◌*◌, ◌-◌, ◌≤◌, ◌<◌}
use native.Mathlib.Nat.{not-suc-le-zero, le_of_suc-le-suc}
use native.Mathlib.Omega.{arith}
use mathlib.Core.Path.{◌≡◌, refl, sym, ap, ◌∙◌, subst}
use mathlib.Core.List.{List, [], ◌∷◌, ◌++◌, append-nil, append_assoc}
use lib.ListN.{length, take, drop, get_or, length-append, length-drop}
use lib.Seq.{take-append_seam, drop-append_seam, drop-drop, drop_at, get_or-drop}
use Rattle.definitions.specs.Words.Basics.{big_endian}
use Rattle.definitions.specs.Words.Expression.{Expr, column, literal, and, binary, call, other, field, Exprs, nil, cons, count, Frame}
use Rattle.definitions.specs.Bytes.Encode.{expr_bytes, exprs_bytes, records_bytes, frame_bytes, plan_bytes}
use Rattle.definitions.specs.Bytes.NodeTable.{NodeRecord, kind_byte, record_of, nodes_from, row_from, node_table, blank}
use Rattle.definitions.specs.Claims.Table.{nodes_in_order, row_in_order, NamesNode, TableNamesBytes}
use Rattle.theorems.proofs.ExchangeGood.{records-length}

-- ---- a node

kind-first : (e : Expr) (rest : List ℕ) → get_or (expr_bytes e ++ rest) 0 0 ≡ kind_byte e
unfolding expr_bytes kind_byte
kind-first (column index tag) rest = refl
kind-first (literal type bytes) rest = refl
kind-first (and l r) rest = refl
kind-first (binary operator l r) rest = refl
kind-first (call name arguments) rest = refl
kind-first (other tag children) rest = refl
kind-first (field bits tag) rest = refl

some_byte : (e : Expr) → 1 ≤ length (expr_bytes e)
unfolding expr_bytes
some_byte (column index tag) = omega arith
some_byte (literal type bytes) = omega arith
some_byte (and l r) = omega arith
some_byte (binary operator l r) = omega arith
some_byte (call name arguments) = omega arith
some_byte (other tag children) = omega arith
some_byte (field bits tag) = omega arith

module _ (bytes : List ℕ) where
  -- The bytes from a place on begin with these.
  abbrev From : (at : ℕ) → (head rest : List ℕ) → Type 0
  From at head rest = drop at bytes ≡ head ++ rest

  -- After these come the others.
  past : (at : ℕ) (head rest : List ℕ) → From at head rest → drop (at + length head) bytes ≡ rest
  past at head rest e = sym (drop-drop (length head) at bytes) ∙ ap (drop (length head)) e ∙ drop-append_seam head rest

  named : (at : ℕ) (e : Expr) (rest : List ℕ) → From at (expr_bytes e) rest → NamesNode bytes e (record_of at e)
  unfolding record_of
  named at e rest is =
      let size : length bytes - at ≡ length (expr_bytes e) + length rest =
      sym (length-drop at bytes) ∙ ap length is ∙ length-append (expr_bytes e) rest in
      let same : at ≡ at + 0 = omega arith in
      let own : at + length (expr_bytes e) - at ≡ length (expr_bytes e) = omega arith in record {
        kind = ap (λ (k : ℕ). get_or bytes k 0) same ∙ sym (get_or-drop at bytes 0 0)
            ∙ ap (λ (s : List ℕ). get_or s 0 0) is ∙ kind-first e rest;
        own = ap (λ (k : ℕ). take k (drop at bytes)) own ∙ ap (take (length (expr_bytes e))) is ∙ take-append_seam (expr_bytes e) rest;
        inside = omega (arith, size, some_byte e);
      }

  -- ---- one record a node

  -- Each record names its node's bytes.
  data Each : List Expr → List NodeRecord → Type 0 where
    done : Each [] []
    one : {e : Expr} {r : NodeRecord} {es : List Expr} {rs : List NodeRecord} → NamesNode bytes e r → Each es rs → Each (e ∷ es) (r ∷ rs)

  joined : {es fs : List Expr} {rs qs : List NodeRecord} → Each es rs → Each fs qs → Each (es ++ fs) (rs ++ qs)
  joined done k = k
  joined (one n h) k = one n (joined h k)

  as-many : {es : List Expr} {rs : List NodeRecord} → Each es rs → length es ≡ length rs
  as-many done = refl
  as-many (one n h) = ap suc (as-many h)

  each_at : {es : List Expr} {rs : List NodeRecord} (e : Expr) (r : NodeRecord) → Each es rs → (i : ℕ) → i < length rs
      → NamesNode bytes (get_or es i e) (get_or rs i r)
  each_at e r done i k = absurd (not-suc-le-zero k)
  each_at e r (one n h) zero k = n
  each_at e r (one n h) (suc i) k = each_at e r h i (le_of_suc-le-suc k)

  -- Both sides of a binary node, after its first two bytes.
  both-sides : (at : ℕ) (l r : Expr) (kind operator : ℕ) (rest : List ℕ)
      → From at (kind ∷ operator ∷ (expr_bytes l ++ expr_bytes r)) rest
      → From (at + 2) (expr_bytes l) (expr_bytes r ++ rest) × From (at + 2 + length (expr_bytes l)) (expr_bytes r) rest
  both-sides at l r kind operator rest is =
      let first : From (at + 2) (expr_bytes l) (expr_bytes r ++ rest) =
      past at (kind ∷ operator ∷ []) ((expr_bytes l ++ expr_bytes r) ++ rest) is ∙ append_assoc (expr_bytes l) (expr_bytes r) rest in
      (first, past (at + 2) (expr_bytes l) (expr_bytes r ++ rest) first)

  -- The arguments of a call, after its name and their count.
  arguments-from : (at : ℕ) (name : List ℕ) (arguments : Exprs) (rest : List ℕ)
      → From at (3 ∷ length name ∷ (name ++ (count arguments ∷ exprs_bytes arguments))) rest
      → From (at + (3 + length name)) (exprs_bytes arguments) rest
  arguments-from at name arguments rest is =
      let head : List ℕ = 3 ∷ length name ∷ (name ++ (count arguments ∷ [])) in
      let size : length head ≡ 3 + length name = simp length-append (omega arith) in
      let split : From at head (exprs_bytes arguments ++ rest) =
      is ∙ ap {B = List ℕ} (λ s. 3 ∷ length name ∷ s) (append_assoc name (count arguments ∷ exprs_bytes arguments) rest
      ∙ sym (append_assoc name (count arguments ∷ []) (exprs_bytes arguments ++ rest))) in
      subst (λ (k : ℕ). drop (at + k) bytes ≡ exprs_bytes arguments ++ rest) size (past at head (exprs_bytes arguments ++ rest) split)

  mutual
    unfolding nodes_from row_from nodes_in_order row_in_order expr_bytes exprs_bytes big_endian

    each-node : (at : ℕ) (e : Expr) (rest : List ℕ) → From at (expr_bytes e) rest → Each (nodes_in_order e) (nodes_from at e)
    each-node at (column index tag) rest is = one (named at (column index tag) rest is) done
    each-node at (literal type value) rest is = one (named at (literal type value) rest is) done
    each-node at (and l r) rest is =
        let (first, second) = both-sides at l r 2 0 rest is in
        one (named at (and l r) rest is)
        (joined (each-node (at + 2) l _ first) (each-node (at + 2 + length (expr_bytes l)) r rest second))
    each-node at (binary operator l r) rest is =
        let (first, second) = both-sides at l r 2 operator rest is in
        one (named at (binary operator l r) rest is)
        (joined (each-node (at + 2) l _ first) (each-node (at + 2 + length (expr_bytes l)) r rest second))
    each-node at (call name arguments) rest is =
        one (named at (call name arguments) rest is)
        (each_row (at + (3 + length name)) arguments rest (arguments-from at name arguments rest is))
    each-node at (other tag children) rest is =
        one (named at (other tag children) rest is)
        (each_row (at + 4) children rest (past at (4 ∷ (big_endian 2 tag ++ (count children ∷ []))) (exprs_bytes children ++ rest) is))
    each-node at (field bits tag) rest is = one (named at (field bits tag) rest is) done

    each_row : (at : ℕ) (es : Exprs) (rest : List ℕ) → From at (exprs_bytes es) rest → Each (row_in_order es) (row_from at es)
    each_row at nil rest is = done
    each_row at (cons e es) rest is =
        let first : From at (expr_bytes e) (exprs_bytes es ++ rest) = is ∙ append_assoc (expr_bytes e) (exprs_bytes es) rest in
        joined (each-node at e _ first)
        (each_row (at + length (expr_bytes e)) es rest (past at (expr_bytes e) (exprs_bytes es ++ rest) first))

-- ---- a frame

-- The expression stands after the records.
expr-from : (F : Frame) → drop (3 + 5 * length F.records) (frame_bytes F) ≡ expr_bytes F.expr
unfolding frame_bytes big_endian
expr-from F =
    drop_at (1 ∷ (big_endian 2 (length F.records) ++ records_bytes F.records)) (expr_bytes F.expr) (3 + 5 * length F.records)
    (simp records-length (omega arith))

pub table-names-bytes-by : TableNamesBytes
unfolding node_table plan_bytes
table-names-bytes-by F good =
    let root : ℕ = 3 + 5 * length F.records in
    let each : Each (frame_bytes F) (nodes_in_order F.expr) (nodes_from root F.expr) =
    each-node (frame_bytes F) root F.expr [] (expr-from F ∙ sym (append-nil (expr_bytes F.expr))) in
    (as-many (frame_bytes F) each, λ i below. each_at (frame_bytes F) F.expr blank each i below, good.few_bytes)
