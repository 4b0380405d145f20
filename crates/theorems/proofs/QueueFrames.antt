-- The frames of one queue: read from their lengths and places, and written there.
use Prim.Native.Nat.{ℕ, zero, suc, ◌+◌, ◌*◌, ◌/◌, ◌%◌, ◌≤◌, ◌<◌}
use native.Mathlib.Omega.{arith}
use mathlib.Core.Path.{◌≡◌, refl, sym, ap, ap₂, ◌∙◌, subst}
use mathlib.Core.Bool.{Bool, true, false, ◌&&◌, false≢true}
use mathlib.Core.List.{List, [], ◌∷◌, ◌++◌, map, append_assoc}
use lib.ListN.{length, take, drop, get_or, length-drop, take-append-drop}
use lib.Seq.{take_at, drop_at, length-take-le, drop-drop}
use lib.Dec.{leb}
use borrow.Author.Tests.{le-leb, leb-true}
use Rattle.definitions.specs.Words.Basics.{Result, ok, refused, ◌>>=◌, ◌>>◌, require, big_endian}
use Rattle.definitions.specs.Calls.Base.{written_over}
use Rattle.definitions.specs.Bytes.Good.{AllBytes}
use Rattle.definitions.specs.Calls.Queues.{Frames}
use Rattle.definitions.specs.Calls.QueueBytes.{short, is_length, frames_of, in_slots, length_bytes}
use Rattle.definitions.specs.Claims.Queues.{FramesFit}
use Rattle.theorems.proofs.Tools.{bytes-from}
use Rattle.theorems.proofs.InverseFrame.{refused_not_ok, same_ok}
use Rattle.theorems.proofs.Slots.{Slotted, next-slot, slot-length, one-slot}

-- ---- a row of checks that ended well

pub passed : {B : Type 0} (number : ℕ) (test : Bool) (next : Result B) {x : B} → (require number test >> next) ≡ ok x
    → (test ≡ true) × (next ≡ ok x)
passed number true next e = (refl, e)
passed number false next e = absurd (refused_not_ok _ _ e)

pub came : {A B : Type 0} (first : Result A) (next : A → Result B) {x : B} → (first >>= next) ≡ ok x
    → (a : A) × (first ≡ ok a) × (next a ≡ ok x)
came (ok a) next e = (a, refl, e)
came (refused number) next e = absurd (refused_not_ok _ _ e)

pub in-range : (n : ℕ) → is_length n ≡ true → (1 ≤ n) × (n ≤ 1024)
in-range n e = by_first (leb 1 n) refl e where
  by_first : (b : Bool) → leb 1 n ≡ b → (b && leb n 1024) ≡ true → (1 ≤ n) × (n ≤ 1024)
  by_first true f e = (leb-true 1 n f, leb-true n 1024 e)
  by_first false f e = absurd (false≢true e)

pub range-in : (n : ℕ) → 1 ≤ n → n ≤ 1024 → is_length n ≡ true
range-in n low high = rw (le-leb 1 n low, le-leb n 1024 high)

-- ---- reading

-- So many frames are held by lengths and places.
pub data Row : (count : ℕ) (lengths places : List ℕ) → Frames → Type 0 where
  no_frame : {lengths places : List ℕ} → Row zero lengths places []
  one_frame : {n : ℕ} {lengths places : List ℕ} {later : Frames} → 1 ≤ short lengths → short lengths ≤ 1024
      → Row n (drop 2 lengths) (drop 1024 places) later → Row (suc n) lengths places (take (short lengths) places ∷ later)

pub row_of : (n : ℕ) (L P : List ℕ) (fs : Frames) → frames_of n L P ≡ ok fs → Row n L P fs
unfolding frames_of
row_of zero L P fs e = subst (Row zero L P) (same_ok _ _ e) no_frame
row_of (suc n) L P fs e =
    let checked = passed 10 (is_length (short L)) _ e in
    let read = came (frames_of n (drop 2 L) (drop 1024 P)) _ checked.1 in
    let range = in-range (short L) checked.0 in
    subst (Row (suc n) L P) (same_ok _ _ read.2)
    (one_frame range.0 range.1 (row_of n (drop 2 L) (drop 1024 P) read.0 read.1))

pub row_count : {n : ℕ} {L P : List ℕ} {fs : Frames} → Row n L P fs → length fs ≡ n
row_count no_frame = refl
row_count (one_frame low high more) = ap suc (row_count more)

pub row_fits : {n : ℕ} {L P : List ℕ} {fs : Frames} → Row n L P fs → 1024 * n ≤ length P → FramesFit fs
row_fits no_frame room = tt
row_fits (one_frame {n = n} {lengths = L} {places = P} low high more) room =
    let size : length (take (short L) P) ≡ short L = length-take-le (short L) P (omega arith) in
    (omega arith, omega arith, row_fits more (simp length-drop (omega arith)))

-- The frame at a position.
pub record At (L P : List ℕ) (k : ℕ) (frame : List ℕ) : Type 0 where
  pub size : short (drop (2 * k) L) ≡ length frame
  pub bytes : take (length frame) (drop (1024 * k) P) ≡ frame
  pub low : 1 ≤ length frame
  pub high : length frame ≤ 1024

pub row_at : {n : ℕ} {L P : List ℕ} {fs : Frames} → Row n L P fs → 1024 * n ≤ length P → (k : ℕ) → k < n → At L P k (get_or fs k [])
row_at no_frame room k below = absurd (omega arith)
row_at (one_frame {n = n} {lengths = L} {places = P} low high more) room zero below =
    let size : length (take (short L) P) ≡ short L = length-take-le (short L) P (omega arith) in
    record { size = sym size; bytes = ap (λ (m : ℕ). take m P) size; low = omega arith; high = omega arith }
row_at (one_frame {n = n} {lengths = L} {places = P} {later = later} low high more) room (suc k) below =
    let there = row_at more (simp length-drop (omega arith)) k (omega arith) in
    record {
      size = ap short (ap (λ (m : ℕ). drop m L) (next-slot 2 k) ∙ sym (drop-drop (2 * k) 2 L)) ∙ there.size;
      bytes =
          ap (take (length (get_or later k []))) (ap (λ (m : ℕ). drop m P) (next-slot 1024 k) ∙ sym (drop-drop (1024 * k) 1024 P))
          ∙ there.bytes;
      low = there.low;
      high = there.high;
    }

-- ---- writing frames where they are held changes nothing

two-bytes : (L : List ℕ) → AllBytes L → 2 ≤ length L → big_endian 2 (short L) ≡ take 2 L
unfolding big_endian
two-bytes [] bytes long = absurd (omega arith)
two-bytes (a ∷ []) bytes long = absurd (omega arith)
two-bytes (a ∷ b ∷ L) bytes long =
    let high : (a * 256 + b) / 256 % 256 ≡ a = omega (arith, bytes.0, bytes.1.0) in
    let low : (a * 256 + b) / 1 % 256 ≡ b = omega (arith, bytes.0, bytes.1.0) in
    ap₂ (λ (x y : ℕ). x ∷ y ∷ []) high low

same-slot : (w : ℕ) (x s : List ℕ) → x ≡ take (length x) s → length x ≤ w → w ≤ length s → written_over x (take w s) ++ drop w s ≡ s
same-slot w x s e narrow room =
    one-slot w x s narrow room ∙ ap (λ (l : List ℕ). l ++ drop (length x) s) e ∙ take-append-drop (length x) s

pub same-lengths : {n : ℕ} {L P : List ℕ} {fs : Frames} → Row n L P fs → AllBytes L → 2 * n ≤ length L → 1024 * n ≤ length P
    → in_slots 2 (map length_bytes fs) L ≡ L
unfolding in_slots
same-lengths no_frame bytes room places = refl
same-lengths (one_frame {n = n} {lengths = L} {places = P} {later = later} low high more) bytes room places =
    let x : List ℕ = length_bytes (take (short L) P) in
    let is : x ≡ take 2 L = ap (big_endian 2) (length-take-le (short L) P (omega arith)) ∙ two-bytes L bytes (omega arith) in
    let size : length x ≡ 2 = ap length is ∙ length-take-le 2 L (omega arith) in
    ap (λ (l : List ℕ). written_over x (take 2 L) ++ l)
    (same-lengths more (bytes-from 2 L bytes) (simp length-drop (omega arith)) (simp length-drop (omega arith)))
    ∙ same-slot 2 x L (is ∙ ap (λ (m : ℕ). take m L) (sym size)) (omega arith) (omega arith)

pub same-places : {n : ℕ} {L P : List ℕ} {fs : Frames} → Row n L P fs → 1024 * n ≤ length P → in_slots 1024 fs P ≡ P
unfolding in_slots
same-places no_frame room = refl
same-places (one_frame {n = n} {lengths = L} {places = P} {later = later} low high more) room =
    let x : List ℕ = take (short L) P in
    let size : length x ≡ short L = length-take-le (short L) P (omega arith) in
    ap (λ (l : List ℕ). written_over x (take 1024 P) ++ l) (same-places more (simp length-drop (omega arith)))
    ∙ same-slot 1024 x P (ap (λ (m : ℕ). take m P) (sym size)) (omega arith) (omega arith)

-- ---- frames that were written are read back

pub lengths-slotted : (fs : Frames) (L : List ℕ) → 2 * length fs ≤ length L → Slotted 2 (map length_bytes fs) L
unfolding big_endian
lengths-slotted [] L room = tt
lengths-slotted (f ∷ fs) L room = (omega arith, omega arith, lengths-slotted fs (drop 2 L) (simp length-drop (omega arith)))

pub places-slotted : (fs : Frames) (P : List ℕ) → FramesFit fs → 1024 * length fs ≤ length P → Slotted 1024 fs P
places-slotted [] P fit room = tt
places-slotted (f ∷ fs) P fit room = (fit.1, omega arith, places-slotted fs (drop 1024 P) fit.2 (simp length-drop (omega arith)))

number-back : (n : ℕ) (rest : List ℕ) → n ≤ 1024 → short (big_endian 2 n ++ rest) ≡ n
unfolding big_endian
number-back n rest few =
    let whole : n / 256 % 256 * 256 + n / 1 % 256 ≡ n = omega arith in
    whole

head_of : (x s rest : List ℕ) → written_over x s ++ rest ≡ x ++ (drop (length x) s ++ rest)
unfolding written_over
head_of x s rest = append_assoc x (drop (length x) s) rest

pub frames-back : (fs : Frames) (L P : List ℕ) → FramesFit fs → 2 * length fs ≤ length L → 1024 * length fs ≤ length P
    → frames_of (length fs) (in_slots 2 (map length_bytes fs) L) (in_slots 1024 fs P) ≡ ok fs
unfolding frames_of in_slots
frames-back [] L P fit lengths places = refl
frames-back (f ∷ fs) L P fit lengths places =
    let sizes : Slotted 2 (map length_bytes (f ∷ fs)) L = lengths-slotted (f ∷ fs) L lengths in
    let later_l : List ℕ = in_slots 2 (map length_bytes fs) (drop 2 L) in
    let later_p : List ℕ = in_slots 1024 fs (drop 1024 P) in
    let number : short (written_over (length_bytes f) (take 2 L) ++ later_l) ≡ length f =
    ap short (head_of (length_bytes f) (take 2 L) later_l) ∙ number-back (length f) _ fit.1 in
    let behind_l : drop 2 (written_over (length_bytes f) (take 2 L) ++ later_l) ≡ later_l =
    drop_at (written_over (length_bytes f) (take 2 L)) later_l 2 (slot-length 2 (length_bytes f) L sizes.0 sizes.1) in
    let behind_p : drop 1024 (written_over f (take 1024 P) ++ later_p) ≡ later_p =
    drop_at (written_over f (take 1024 P)) later_p 1024 (slot-length 1024 f P fit.1 (omega arith)) in
    let first : take (length f) (written_over f (take 1024 P) ++ later_p) ≡ f =
    ap (take (length f)) (head_of f (take 1024 P) later_p) ∙ take_at f _ (length f) refl in
    rw (
      number,
      range-in (length f) fit.0 fit.1,
      behind_l,
      behind_p,
      frames-back fs (drop 2 L) (drop 1024 P) fit.2 (simp length-drop (omega arith)) (simp length-drop (omega arith)),
      first,
    )
