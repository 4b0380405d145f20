-- Decoding after encoding is the identity, with any bytes after it.
use Rattle.std.specs.Prelude.{if◌then◌else◌}
use Prim.Native.Nat.{ℕ, zero, suc, ◌+◌, ◌*◌, ◌/◌, ◌%◌, ◌^◌, ◌≤◌, ◌<◌, max}
use native.Mathlib.Nat.{pow-succ', one-le-pow, mod-eq_of_lt, not-suc-le-zero, le_of_suc-le-suc}
use native.Mathlib.Omega.{arith}
use mathlib.Core.Path.{◌≡◌, refl, ap, ap₂, ◌∙◌}
use mathlib.Core.Bool.{Bool, true, ◌&&◌}
use mathlib.Core.List.{List, [], ◌∷◌, ◌++◌, append_assoc}
use lib.ListN.{length}
use lib.Dec.{leb, ltb, lit<, lit≤}
use lib.Arith.{mod-mul}
use borrow.Author.Tests.{lt-ltb, le-leb}
use Rattle.definitions.specs.Words.Basics.{big_endian}
use Rattle.definitions.specs.Words.Expression.{Expr, column, literal, and, binary, call, other, field, Exprs, nil, cons, count}
use Rattle.definitions.specs.Words.Literals.{literal_in_range}
use Rattle.definitions.specs.Bytes.Encode.{expr_bytes, exprs_bytes}
use Rattle.definitions.specs.Bytes.Readers.{read, stopped, Reader, continue, give, byte_up_to, byte_between, number_after, number, repeat}
use Rattle.definitions.specs.Bytes.Decode.{repeat_exprs, Columns, index_below, fields, allowed_kind, column_node, field_node, literal_node, binary_expr, binary_node, call_node, other_node, any_column, node_of_kind, node_kind, node}
use Rattle.theorems.proofs.ReaderLaws.{after, passes}
use Rattle.definitions.specs.Bytes.Good.{nodes, depth, nodes_all, depth_all, InRange, InRangeAll, NameBytes}

-- ---- numbers of any width

number-after : (w high v n : ℕ) (rest : List ℕ)
    → number_after high w n (big_endian w v ++ rest) ≡ read (high * 256 ^ w + v % 256 ^ w) n rest
unfolding number_after big_endian
number-after zero high v n rest = ap (λ (x : ℕ). read x n rest) (omega arith)
number-after (suc w) high v n rest =
    number-after w (high * 256 + v / 256 ^ w % 256) v n rest
    ∙ ap (λ (x : ℕ). read x n rest) (rw (pow-succ' 256 w, mod-mul v (lit< tt) (one-le-pow w 256 (lit< tt))) (omega arith))

pub number-reads : (w v n : ℕ) (rest : List ℕ) → v < 256 ^ w → number w n (big_endian w v ++ rest) ≡ read v n rest
unfolding number
number-reads w v n rest h = number-after w 0 v n rest ∙ ap (λ (x : ℕ). read x n rest) (omega (arith, mod-eq_of_lt h))

pub between-reads : (least most b n : ℕ) (rest : List ℕ) → (leb least b && leb b most) ≡ true
    → byte_between least most n (b ∷ rest) ≡ read b n rest
unfolding byte_between
between-reads least most b n rest h = passes 4 (give b) n rest h

pub byte_reads : (most b n : ℕ) (rest : List ℕ) → b ≤ most → byte_up_to most n (b ∷ rest) ≡ read b n rest
unfolding byte_up_to
byte_reads most b n rest h = passes 4 (give b) n rest (le-leb b most h)

column-reads : (bound i t n : ℕ) (rest : List ℕ) → ltb i bound ≡ true → i < 65536 → t < 65536
    → column_node bound n ((big_endian 2 i ++ big_endian 2 t) ++ rest) ≡ read (column i t) n rest
unfolding column_node
column-reads bound i t n rest b hi ht = rw append_assoc
    (after _ (number-reads 2 i n (big_endian 2 t ++ rest) hi) ∙ after _ (number-reads 2 t n rest ht)
    ∙ passes 6 (give (column i t)) n rest b)

field-reads : (bits t n : ℕ) (rest : List ℕ) → bits ≤ 3 → t < 65536
    → field_node n (bits ∷ big_endian 2 t ++ rest) ≡ read (field bits t) n rest
unfolding field_node
field-reads bits t n rest hb ht = after _ (byte_reads 3 bits n (big_endian 2 t ++ rest) hb) ∙ after _ (number-reads 2 t n rest ht)

literal-reads : (type v n : ℕ) (rest : List ℕ) → type ≤ 6 → v < 18446744073709551616 → literal_in_range type v ≡ true
    → literal_node n (type ∷ big_endian 8 v ++ rest) ≡ read (literal type v) n rest
unfolding literal_node
literal-reads type v n rest ht hv hr =
    after _ (byte_reads 6 type n (big_endian 8 v ++ rest) ht)
    ∙ after _ (number-reads 8 v n rest hv)
    ∙ passes 4 (give (literal type v)) n rest hr

binary-reads : (child : Reader Expr) (operator n m k : ℕ) (l r : Expr) (s t rest : List ℕ) → operator ≤ 63
    → child n s ≡ read l m t → child m t ≡ read r k rest
    → binary_node child n (operator ∷ s) ≡ read (binary_expr operator l r) k rest
unfolding binary_node
binary-reads child operator n m k l r s t rest h el er =
    after _ (byte_reads 63 operator n s h) ∙ after _ el ∙ after _ er

name-reads : (name : List ℕ) (n : ℕ) (rest : List ℕ) → NameBytes name
    → repeat (length name) (byte_between 33 126) n (name ++ rest) ≡ read name n rest
unfolding repeat
name-reads [] n rest h = refl
name-reads (b ∷ s) n rest h =
    after _ (between-reads 33 126 b n (s ++ rest) h.0) ∙ after _ (name-reads s n rest h.1)

call-reads : (child : Reader Expr) (name : List ℕ) (arguments : Exprs) (n m : ℕ) (s rest : List ℕ)
    → 1 ≤ length name → length name ≤ 32 → NameBytes name → count arguments ≤ 16
    → repeat_exprs (count arguments) child n s ≡ read arguments m rest
    → call_node child n (length name ∷ (name ++ (count arguments ∷ s))) ≡ read (call name arguments) m rest
unfolding call_node
call-reads child name arguments n m s rest h1 h2 hn ha e =
    after _ (between-reads 1 32 (length name) n (name ++ (count arguments ∷ s))
    (ap₂ ◌&&◌ (le-leb 1 (length name) h1) (le-leb (length name) 32 h2)))
    ∙ after _ (name-reads name n (count arguments ∷ s) hn)
    ∙ after _ (byte_reads 16 (count arguments) n s ha)
    ∙ after _ e

other-reads : (child : Reader Expr) (tag : ℕ) (children : Exprs) (n m : ℕ) (s rest : List ℕ)
    → tag < 65536 → count children ≤ 16 → repeat_exprs (count children) child n s ≡ read children m rest
    → other_node child n (big_endian 2 tag ++ (count children ∷ s)) ≡ read (other tag children) m rest
unfolding other_node
other-reads child tag children n m s rest ht hc e =
    after _ (number-reads 2 tag n (count children ∷ s) ht)
    ∙ after _ (byte_reads 16 (count children) n s hc)
    ∙ after _ e

-- ---- a node: its kind is allowed, it is counted, then what its kind asks for

node-step : (c : Columns) (levels kind n : ℕ) (s : List ℕ) → allowed_kind c kind ≡ true → n < 1024
    → node c (suc levels) n (kind ∷ s) ≡ node_of_kind c (node c levels) kind (suc n) s
unfolding node node_kind
node-step c levels kind n s a h =
    after _ (passes 4 (give kind) n s a)
    ∙ ap (λ (t : Bool). continue (if t then read true (suc n) s else stopped 5)
    (λ b. node_of_kind c (node c levels) kind)) (lt-ltb n 1024 h)

-- Kinds 1 to 4 are allowed everywhere.
common-kind : (c : Columns) (kind : ℕ) → 1 ≤ kind → kind ≤ 4 → allowed_kind c kind ≡ true
unfolding allowed_kind
common-kind (index_below bound) kind h k = le-leb kind 4 k
common-kind fields kind h k = ap₂ ◌&&◌ (le-leb 1 kind h) (le-leb kind 5 (omega arith))

-- The statement for one expression, and for a list of them.
abbrev Reads : Columns → Expr → Type 0
Reads c e = (levels n : ℕ) (rest : List ℕ) → InRange c e → depth e ≤ levels → n + nodes e ≤ 1024
    → node c levels n (expr_bytes e ++ rest) ≡ read e (n + nodes e) rest

abbrev ReadsAll : Columns → Exprs → Type 0
ReadsAll c es = (levels n : ℕ) (rest : List ℕ) → InRangeAll c es → depth_all es ≤ levels → n + nodes_all es ≤ 1024
    → repeat_exprs (count es) (node c levels) n (exprs_bytes es ++ rest) ≡ read es (n + nodes_all es) rest

-- A node of some depth has a level of its own, and its children one less.
at_level : (c : Columns) (e : Expr) (kind d n m : ℕ) (s rest : List ℕ) (levels : ℕ) → suc d ≤ levels → allowed_kind c kind ≡ true → n < 1024
    → ((l : ℕ) → d ≤ l → node_of_kind c (node c l) kind (suc n) s ≡ read e m rest)
    → node c levels n (kind ∷ s) ≡ read e m rest
at_level c e kind d n m s rest zero h a k f = absurd (not-suc-le-zero h)
at_level c e kind d n m s rest (suc l) h a k f = node-step c l kind n s a k ∙ f l (le_of_suc-le-suc h)

-- The count after a node, however it was reached.
count-is : (e : Expr) (rest : List ℕ) {m k : ℕ} → m ≡ k → read e m rest ≡ read e k rest
count-is e rest h = ap (λ (m : ℕ). read e m rest) h

column-node : (c : Columns) (i t : ℕ) → Reads c (column i t)
unfolding expr_bytes nodes depth node_of_kind any_column allowed_kind
column-node (index_below bound) i t levels n rest r d k =
    at_level (index_below bound) (column i t) 0 0 n (n + 1) ((big_endian 2 i ++ big_endian 2 t) ++ rest) rest levels d refl (omega arith)
    (λ l h. column-reads bound i t (suc n) rest r.0 r.1 r.2 ∙ count-is (column i t) rest (omega arith))
column-node fields i t levels n rest r d k = absurd r

field-node : (c : Columns) (b t : ℕ) → Reads c (field b t)
unfolding expr_bytes nodes depth node_of_kind any_column allowed_kind
field-node (index_below bound) b t levels n rest r d k = absurd r
field-node fields b t levels n rest r d k =
    at_level fields (field b t) 5 0 n (n + 1) (b ∷ big_endian 2 t ++ rest) rest levels d refl (omega arith)
    (λ l h. field-reads b t (suc n) rest r.0 r.1 ∙ count-is (field b t) rest (omega arith))

-- An operator other than And.
binary-again : (operator : ℕ) (l r : Expr) → 1 ≤ operator → binary_expr operator l r ≡ binary operator l r
unfolding binary_expr
binary-again zero l r h = absurd (not-suc-le-zero h)
binary-again (suc o) l r h = refl

mutual
  unfolding expr_bytes nodes depth node_of_kind repeat_exprs count binary_expr

  pub node-reads : (c : Columns) (e : Expr) → Reads c e
  node-reads c (column i t) = column-node c i t
  node-reads c (literal type v) = λ levels n rest r d k.
      at_level c (literal type v) 1 0 n (n + 1) (type ∷ big_endian 8 v ++ rest) rest levels d (common-kind c 1 (lit≤ tt) (lit≤ tt))
      (omega arith)
      (λ l h. literal-reads type v (suc n) rest r.0 r.1 r.2 ∙ count-is (literal type v) rest (omega arith))
  node-reads c (and x y) = λ levels n rest r d k. rw (append_assoc (expr_bytes x) (expr_bytes y) rest)
      (at_level c (and x y) 2 (max (depth x) (depth y)) n (n + suc (nodes x + nodes y))
      (0 ∷ (expr_bytes x ++ (expr_bytes y ++ rest))) rest levels d
      (common-kind c 2 (lit≤ tt) (lit≤ tt)) (omega arith)
      (λ l h. binary-reads (node c l) 0 (suc n) (suc n + nodes x) (suc n + nodes x + nodes y) x y (expr_bytes x ++ (expr_bytes y ++ rest))
      (expr_bytes y ++ rest) rest (lit≤ tt)
      (node-reads c x l (suc n) (expr_bytes y ++ rest) r.0 (omega arith) (omega arith))
      (node-reads c y l (suc n + nodes x) rest r.1 (omega arith) (omega arith))
      ∙ count-is (and x y) rest (omega arith)))
  node-reads c (binary o x y) = λ levels n rest r d k. rw (append_assoc (expr_bytes x) (expr_bytes y) rest)
      (at_level c (binary o x y) 2 (max (depth x) (depth y)) n (n + suc (nodes x + nodes y))
      (o ∷ (expr_bytes x ++ (expr_bytes y ++ rest))) rest levels d
      (common-kind c 2 (lit≤ tt) (lit≤ tt)) (omega arith)
      (λ l h. binary-reads (node c l) o (suc n) (suc n + nodes x) (suc n + nodes x + nodes y) x y (expr_bytes x ++ (expr_bytes y ++ rest))
      (expr_bytes y ++ rest) rest r.1
      (node-reads c x l (suc n) (expr_bytes y ++ rest) r.2 (omega arith) (omega arith))
      (node-reads c y l (suc n + nodes x) rest r.3 (omega arith) (omega arith))
      ∙ ap₂ (λ (e : Expr) (m : ℕ). read e m rest) (binary-again o x y r.0) (omega arith)))
  node-reads c (call name es) = λ levels n rest r d k. rw (append_assoc name (count es ∷ exprs_bytes es) rest)
      (at_level c (call name es) 3 (depth_all es) n (n + suc (nodes_all es))
      (length name ∷ (name ++ (count es ∷ (exprs_bytes es ++ rest)))) rest levels d
      (common-kind c 3 (lit≤ tt) (lit≤ tt)) (omega arith)
      (λ l h. call-reads (node c l) name es (suc n) (suc n + nodes_all es) (exprs_bytes es ++ rest) rest r.0 r.1 r.2 r.3
      (nodes-read c es l (suc n) rest r.4 h (omega arith))
      ∙ count-is (call name es) rest (omega arith)))
  node-reads c (other tag es) = λ levels n rest r d k. rw (append_assoc (big_endian 2 tag) (count es ∷ exprs_bytes es) rest)
      (at_level c (other tag es) 4 (depth_all es) n (n + suc (nodes_all es))
      (big_endian 2 tag ++ (count es ∷ (exprs_bytes es ++ rest))) rest levels d
      (common-kind c 4 (lit≤ tt) (lit≤ tt)) (omega arith)
      (λ l h. other-reads (node c l) tag es (suc n) (suc n + nodes_all es) (exprs_bytes es ++ rest) rest r.0 r.1
      (nodes-read c es l (suc n) rest r.2 h (omega arith))
      ∙ count-is (other tag es) rest (omega arith)))
  node-reads c (field b t) = field-node c b t

  pub nodes-read : (c : Columns) (es : Exprs) → ReadsAll c es
  nodes-read c nil = λ levels n rest r d k. ap (λ (m : ℕ). read nil m rest) (omega arith)
  nodes-read c (cons e es) = λ levels n rest r d k. rw (append_assoc (expr_bytes e) (exprs_bytes es) rest)
      (after _ (node-reads c e levels n (exprs_bytes es ++ rest) r.0 (omega arith) (omega arith))
      ∙ after _ (nodes-read c es levels (n + nodes e) rest r.1 (omega arith) (omega arith))
      ∙ ap (λ (m : ℕ). read (cons e es) m rest) (omega arith))
