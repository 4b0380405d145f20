-- The bytes of a name, read one after the other, and looked at all at once.
use Prim.Native.Nat.{ℕ, zero, suc, ◌+◌, ◌-◌, ◌*◌, ◌%◌, ◌≤◌, ◌<◌}
use native.Mathlib.Numerals.{add-one}
use native.Mathlib.Omega.{arith}
use mathlib.Core.Path.{◌≡◌, refl, sym, ap, ap₂, ◌∙◌}
use mathlib.Core.Bool.{Bool, true, false, ◌&&◌, false≢true, and_assoc}
use mathlib.Core.List.{List, [], ◌∷◌, ◌++◌}
use lib.ListN.{length, take, drop, get_or, length-drop}
use lib.Dec.{leb}
use borrow.Author.Tests.{leb-true, leb-false, le-leb, lt-leb}
use lib.Seq.{take-suc, take-add, drop-drop}
use native.Mathlib.Nat.{add_comm}
use Rattle.definitions.specs.Words.Basics.{all}
use Rattle.definitions.specs.Bytes.Readers.{read, stopped, byte_between, repeat}
use Rattle.theorems.proofs.ReaderLaws.{after, halts}
use Rattle.theorems.proofs.Taken.{and-both}
use Rattle.node_reader.specs.Fields.{name_like}

abbrev may : ℕ → Bool
may b = leb 33 b && leb b 126

-- ---- the loop

all-one-more : (l : List ℕ) (b : ℕ) → name_like (l ++ (b ∷ [])) ≡ name_like l && may b
unfolding name_like all
all-one-more [] b = last (may b)
  where
    last : (x : Bool) → x && true ≡ true && x
    last true = refl
    last false = refl
all-one-more (a ∷ l) b = ap (λ (t : Bool). may a && t) (all-one-more l b) ∙ shift (may a) (all may l) (may b)
  where
    shift : (x y z : Bool) → x && (y && z) ≡ (x && y) && z
    shift true y z = refl
    shift false y z = refl

-- Both tests of a byte in one.
one-test : (b : ℕ) → b < 256 → leb ((b + 223) % 256) 93 ≡ leb 33 b && leb b 126
one-test b h = elim (leb 33 b) as (λ t. leb 33 b ≡ t → leb ((b + 223) % 256) 93 ≡ t && leb b 126) [
  | true ↦ λ e. elim (leb b 126) as (λ u. leb b 126 ≡ u → leb ((b + 223) % 256) 93 ≡ u) [
    | true ↦ λ k. le-leb ((b + 223) % 256) 93 (omega (arith, leb-true 33 b e, leb-true b 126 k))
    | false ↦ λ k. lt-leb ((b + 223) % 256) 93 (omega (arith, h, leb-false b 126 k))
  ] refl
  | false ↦ λ e. lt-leb ((b + 223) % 256) 93 (omega (arith, h, leb-false 33 b e))
] refl

-- One byte more.
pub like-more : (s : List ℕ) (i : ℕ) → i < length s → get_or s i 0 < 256
    → name_like (take i s) && leb ((get_or s i 0 + 223) % 256) 93 ≡ name_like (take (i + 1) s)
like-more s i h k = rw (add-one i, take-suc s i 0) (ap (λ (t : Bool). name_like (take i s) && t) (one-test (get_or s i 0) k)
    ∙ sym (all-one-more (take i s) (get_or s i 0)))

pub like-none : (s : List ℕ) → true ≡ name_like (take 0 s)
unfolding name_like all
like-none s = refl

-- ---- two windows

like-both : (x y : List ℕ) → name_like (x ++ y) ≡ name_like x && name_like y
unfolding name_like all
like-both [] y = refl
like-both (b ∷ x) y = ap (λ (t : Bool). may b && t) (like-both x y) ∙ sym (and_assoc (may b) (all may x) (all may y))

parted : (k m : ℕ) (l : List ℕ) → name_like (take (k + m) l) ≡ name_like (take k l) && name_like (take m (drop k l))
parted k m l = ap name_like (take-add k m l) ∙ like-both (take k l) (take m (drop k l))

middle-twice : (x m z : Bool) → (x && m) && (m && z) ≡ x && (m && z)
middle-twice true true z = refl
middle-twice true false z = refl
middle-twice false m z = refl

-- What the first and the last window cover, the last of which begins after `k`, and m of which are in both.
pub windows-cover : (l : List ℕ) (k m width size : ℕ) → width ≡ k + m → size ≡ k + width
    → name_like (take width l) && name_like (take width (drop k l)) ≡ name_like (take size l)
windows-cover l k m width size w n =
    let first = ap (λ (j : ℕ). name_like (take j l)) w ∙ parted k m l in
    let last = ap (λ (j : ℕ). name_like (take j (drop k l))) (w ∙ add_comm k m) ∙ parted m k (drop k l) in
    let all = ap (λ (j : ℕ). name_like (take j l)) (n ∙ ap (λ (j : ℕ). k + j) (w ∙ add_comm k m)) ∙ parted k (m + k) l
    ∙ ap (λ (t : Bool). name_like (take k l) && t) (parted m k (drop k l)) in
    ap₂ ◌&&◌ first last
    ∙ middle-twice (name_like (take k l)) (name_like (take m (drop k l))) (name_like (take k (drop m (drop k l))))
    ∙ sym all

pub windows-name : (s : List ℕ) (at size width last : ℕ) (x y : Bool) → width ≤ size → size ≤ 2 * width → last ≡ at + size - width
    → x ≡ name_like (take (at + width - at) (drop at s)) → y ≡ name_like (take (last + width - last) (drop last s))
    → x && y ≡ name_like (take size (drop at s))
windows-name s at size width last x y low high is first second =
    let begins : drop last s ≡ drop (size - width) (drop at s) =
    ap (λ (k : ℕ). drop k s) (omega (arith, is)) ∙ sym (drop-drop (size - width) at s) in
    ap₂ ◌&&◌ (first ∙ ap (λ (k : ℕ). name_like (take k (drop at s))) (omega arith))
    (second ∙ ap₂ (λ (k : ℕ) (l : List ℕ). name_like (take k l)) (omega arith) begins)
    ∙ windows-cover (drop at s) (size - width) (2 * width - size) width size (omega arith) (omega arith)

-- ---- what the reader gives

byte-may : (b n : ℕ) (s : List ℕ) → may b ≡ true → byte_between 33 126 n (b ∷ s) ≡ read b n s
unfolding byte_between
byte-may b n s e = rw e

byte-may-not : (b n : ℕ) (s : List ℕ) → may b ≡ false → byte_between 33 126 n (b ∷ s) ≡ stopped 4
unfolding byte_between
byte-may-not b n s e = rw e

byte-missing : (n : ℕ) → byte_between 33 126 n [] ≡ stopped 3
unfolding byte_between
byte-missing n = refl

names-read : (size n : ℕ) (s : List ℕ) → size ≤ length s → name_like (take size s) ≡ true
    → repeat size (byte_between 33 126) n s ≡ read (take size s) n (drop size s)
unfolding repeat name_like all
names-read zero n s h e = refl
names-read (suc size) n [] h e = absurd (omega arith)
names-read (suc size) n (b ∷ s) h e =
    let like = and-both (may b) (all may (take size s)) e in
    after _ (byte-may b n s like.0) ∙ after _ (names-read size n s (omega arith) like.1)

names-end : (size n : ℕ) (s : List ℕ) → length s < size → name_like s ≡ true → repeat size (byte_between 33 126) n s ≡ stopped 3
unfolding repeat name_like all
names-end zero n s h e = absurd (omega arith)
names-end (suc size) n [] h e = halts _ (byte-missing n)
names-end (suc size) n (b ∷ s) h e =
    let like = and-both (may b) (all may s) e in
    after _ (byte-may b n s like.0) ∙ halts _ (names-end size n s (omega arith) like.1)

first_stops : (b n : ℕ) (s : List ℕ) (size : ℕ) (t : Bool) → may b ≡ t → (may b ≡ true → repeat size (byte_between 33 126) n s ≡ stopped 4)
    → repeat (suc size) (byte_between 33 126) n (b ∷ s) ≡ stopped 4
unfolding repeat
first_stops b n s size true f later = after _ (byte-may b n s f) ∙ halts _ (later f)
first_stops b n s size false f later = halts _ (byte-may-not b n s f)

names-stop : (k size n : ℕ) (s : List ℕ) → k ≤ size → name_like (take k s) ≡ false → repeat size (byte_between 33 126) n s ≡ stopped 4
unfolding repeat name_like all
names-stop zero size n s h e = absurd (false≢true (sym e))
names-stop (suc k) zero n s h e = absurd (omega arith)
names-stop (suc k) (suc size) n [] h e = absurd (false≢true (sym e))
names-stop (suc k) (suc size) n (b ∷ s) h e =
    first_stops b n s size (may b) refl (λ f. names-stop k size n s (omega arith) (sym (ap (λ (t : Bool). t && all may (take k s)) f) ∙ e))

-- ---- the bytes at a place

module _ (s : List ℕ) (at size n : ℕ) where
  pub name-read : at + size ≤ length s → name_like (take size (drop at s)) ≡ true
      → repeat size (byte_between 33 126) n (drop at s) ≡ read (take size (drop at s)) n (drop (at + size) s)
  name-read fits e =
      names-read size n (drop at s) (simp length-drop (omega arith)) e
      ∙ ap (λ (t : List ℕ). read (take size (drop at s)) n t) (drop-drop size at s)

  pub name-bad : name_like (take size (drop at s)) ≡ false → repeat size (byte_between 33 126) n (drop at s) ≡ stopped 4
  name-bad e = names-stop size size n (drop at s) (omega arith) e

  pub name-cut : at ≤ length s → length s < at + size → name_like (drop at s) ≡ true
      → repeat size (byte_between 33 126) n (drop at s) ≡ stopped 3
  name-cut w h e = names-end size n (drop at s) (simp length-drop (omega arith)) e
