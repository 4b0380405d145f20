-- Decoding: what is known after i pairs of digits, and what each answer means.
use Prim.Native.Nat.{ℕ, zero, suc, ◌+◌, ◌*◌, ◌/◌, ◌%◌, ◌≤◌, ◌<◌}
use native.Mathlib.Omega.{arith}
use native.Mathlib.Nat.{add-zero}
use native.Mathlib.Numerals.{add-one}
use mathlib.Core.Path.{◌≡◌, refl, sym, ap, ◌∙◌}
use mathlib.Core.List.{List, [], ◌∷◌, ◌++◌, append_assoc, append-nil}
use mathlib.Core.Option.{Option, none, some}
use lib.ListN.{length, take, drop, get_or, set, length-set, drop_of_length-le, take-append-drop}
use lib.Seq.{drop-cons, take-suc-set, drop-set-lt, drop-drop, length-take-le, get_or-take, get_or-drop}
use Rattle.std.specs.Simd.{first_chunks}
use borrow.Author.Tests.{le-leb, lt-leb}
use Rattle.hexadecimal.specs.Hex.{leading_pair, leading_bytes, decoded_to, DecodedIs}
use Rattle.byte_writer.specs.Written.{Wrote}
use Rattle.std.specs.Prelude.{Some, None}
use Rattle.definitions.specs.Words.Basics.{ok, refused}
use Rattle.definitions.specs.Lists.Program.{digit_value, pair_bytes, digit_bytes, or_refused, line_bytes}

-- A byte, or none, before what the later digits give.
abbrev ahead : List ℕ → Option (List ℕ) → Option (List ℕ)
ahead bytes none = none
ahead bytes (some others) = some (bytes ++ others)

pair-ahead : (h l : Option ℕ) {b : ℕ} (others : Option (List ℕ)) → some (b ∷ []) ≡ pair_bytes h l (some [])
    → pair_bytes h l others ≡ ahead (b ∷ []) others
unfolding pair_bytes
pair-ahead none l others e = absurd (let z : ◌≡◌ {A = ℕ} 0 1 = cc in omega arith)
pair-ahead (some h) none others e = absurd (let z : ◌≡◌ {A = ℕ} 0 1 = cc in omega arith)
pair-ahead (some h) (some l) none e = refl
pair-ahead (some h) (some l) (some bytes) e = cc

pair-none : (h l : Option ℕ) (others : Option (List ℕ)) → none ≡ pair_bytes h l (some []) → pair_bytes h l others ≡ none
unfolding pair_bytes
pair-none none l others e = refl
pair-none (some h) none others e = refl
pair-none (some h) (some l) others e = absurd (let z : ◌≡◌ {A = ℕ} 0 1 = cc in omega arith)

pair-of-none : (h l : Option ℕ) → pair_bytes h l none ≡ none
unfolding pair_bytes
pair-of-none none l = refl
pair-of-none (some h) none = refl
pair-of-none (some h) (some l) = refl

-- The same of the pairs that a line begins with.
lead-pair : (h l : Option ℕ) {b : ℕ} (others : List ℕ) → some (b ∷ []) ≡ pair_bytes h l (some []) → leading_pair h l others ≡ b ∷ others
unfolding pair_bytes leading_pair
lead-pair none l others e = absurd (let z : ◌≡◌ {A = ℕ} 0 1 = cc in omega arith)
lead-pair (some h) none others e = absurd (let z : ◌≡◌ {A = ℕ} 0 1 = cc in omega arith)
lead-pair (some h) (some l) others e = cc

lead-none : (h l : Option ℕ) (others : List ℕ) → none ≡ pair_bytes h l (some []) → leading_pair h l others ≡ []
unfolding pair_bytes leading_pair
lead-none none l others e = refl
lead-none (some h) none others e = refl
lead-none (some h) (some l) others e = absurd (let z : ◌≡◌ {A = ℕ} 0 1 = cc in omega arith)

odd-none : (line : List ℕ) → length line % 2 ≡ 1 → digit_bytes line ≡ none
unfolding digit_bytes
odd-none [] h = absurd (omega arith)
odd-none (a ∷ []) h = refl
odd-none (a ∷ b ∷ line) h = ap (pair_bytes (digit_value a) (digit_value b)) (odd-none line (omega arith)) ∙ pair-of-none (digit_value a)
    (digit_value b)

-- Two more characters of a list.
two-more : (s : List ℕ) (i : ℕ) → 2 * i + 1 < length s → drop (2 * i) s ≡ get_or s (2 * i) 0 ∷ get_or s (2 * i + 1) 0 ∷ drop (2 * (i + 1)) s
two-more s i h =
    let next : 2 * (i + 1) ≡ suc (2 * i + 1) = omega arith in
    drop-cons s (2 * i) 0 (omega arith)
    ∙ ap (λ (l : List ℕ). get_or s (2 * i) 0 ∷ l)
    (rw (← add-one (2 * i)) (drop-cons s (2 * i + 1) 0 h ∙ ap (λ (k : ℕ). get_or s (2 * i + 1) 0 ∷ drop k s) (sym next)))

-- i bytes stand at the start of `out`, and the later digits decide.
pub record DecodedSoFar (line before out : List ℕ) (i : ℕ) : Type 0 where
  pub within : 2 * i ≤ length line
  pub bytes : digit_bytes line ≡ ahead (take i out) (digit_bytes (drop (2 * i) line))
  pub leading : leading_bytes line ≡ take i out ++ leading_bytes (drop (2 * i) line)
  pub rest : drop i out ≡ drop i before
  pub kept : length out ≡ length before

ahead-ahead : (x y : List ℕ) (o : Option (List ℕ)) → ahead x (ahead y o) ≡ ahead (x ++ y) o
ahead-ahead x y none = refl
ahead-ahead x y (some bytes) = ap some (sym (append_assoc x y bytes))

-- The two characters at a place.
abbrev pub pair_at : List ℕ → ℕ → Option (List ℕ)
pair_at line i = pair_bytes (digit_value (get_or line (2 * i) 0)) (digit_value (get_or line (2 * i + 1) 0)) (some [])

-- Where the line is cut into pairs of characters, this is the pair at an index.
abbrev pub pair_of : List ℕ → Option (List ℕ)
pair_of pair = pair_bytes (digit_value (get_or pair 0 0)) (digit_value (get_or pair 1 0)) (some [])

of_pair : (n : ℕ) (line : List ℕ) (i k : ℕ) → i < n → k < 2 → get_or (get_or (first_chunks 2 n line) i []) k 0 ≡ get_or line (2 * i + k) 0
of_pair zero line i k h two = absurd (omega arith)
of_pair (suc n) line zero k h two =
    get_or-take 2 line k 0 two ∙ ap (λ (j : ℕ). get_or line j 0) (let e : k ≡ 2 * 0 + k = omega arith in e)
of_pair (suc n) line (suc i) k h two =
    of_pair n (drop 2 line) i k (omega arith) two ∙ get_or-drop 2 line (2 * i + k) 0
    ∙ ap (λ (j : ℕ). get_or line j 0) (let e : 2 + (2 * i + k) ≡ 2 * suc i + k = omega arith in e)

pub pair-there : (line : List ℕ) (n i : ℕ) → i < n → pair_of (get_or (first_chunks 2 n line) i []) ≡ pair_at line i
pair-there line n i h =
    let high : get_or (get_or (first_chunks 2 n line) i []) 0 0 ≡ get_or line (2 * i) 0 =
    of_pair n line i 0 h (omega arith) ∙ ap (λ (j : ℕ). get_or line j 0) (add-zero (2 * i)) in
    rw (high, of_pair n line i 1 h (omega arith)) refl

digits-at : (line : List ℕ) (i : ℕ) → 2 * i + 1 < length line
    → digit_bytes (drop (2 * i) line) ≡ pair_bytes (digit_value (get_or line (2 * i) 0)) (digit_value (get_or line (2 * i + 1) 0))
    (digit_bytes (drop (2 * (i + 1)) line))
unfolding digit_bytes
digits-at line i h = ap digit_bytes (two-more line i h)

leading_at : (line : List ℕ) (i : ℕ) → 2 * i + 1 < length line
    → leading_bytes (drop (2 * i) line) ≡ leading_pair (digit_value (get_or line (2 * i) 0)) (digit_value (get_or line (2 * i + 1) 0))
    (leading_bytes (drop (2 * (i + 1)) line))
unfolding leading_bytes
leading_at line i h = ap leading_bytes (two-more line i h)

pub decoded-more : {line before out : List ℕ} {i v : ℕ} → DecodedSoFar line before out i → 2 * i + 1 < length line → i < length out
    → some (v ∷ []) ≡ pair_at line i → DecodedSoFar line before (set out i v) (i + 1)
decoded-more {line} {before} {out} {i} {v} d h room e =
    let later : List ℕ = drop (2 * (i + 1)) line in
    let more : take i out ++ (v ∷ []) ≡ take (i + 1) (set out i v) = sym (rw add-one (take-suc-set out i v room)) in
    record {
      within = omega arith;
      bytes =
          d.bytes ∙ ap (ahead (take i out)) (digits-at line i h ∙ pair-ahead _ _ (digit_bytes later) e) ∙ ahead-ahead (take i out) (v ∷ [])
          (digit_bytes later)
          ∙ ap (λ (l : List ℕ). ahead l (digit_bytes later)) more;
      leading =
          d.leading ∙ ap (λ (l : List ℕ). take i out ++ l) (leading_at line i h ∙ lead-pair _ _ (leading_bytes later) e)
          ∙ sym (append_assoc (take i out) (v ∷ []) (leading_bytes later)) ∙ ap (λ (l : List ℕ). l ++ leading_bytes later) more;
      rest =
          drop-set-lt (i + 1) out i v (omega arith) ∙ sym (drop-drop 1 i out) ∙ ap (drop 1) d.rest ∙ drop-drop 1 i before;
      kept = length-set out i v ∙ d.kept;
    }

-- ---- the answers

refused-line : (line : List ℕ) → length line ≤ 32768 → digit_bytes line ≡ none → refused 14 ≡ line_bytes line
unfolding line_bytes or_refused
refused-line line h e = simp (le-leb (length line) 32768 h, e)

good-line : (line : List ℕ) {bytes : List ℕ} → length line ≤ 32768 → digit_bytes line ≡ some bytes → ok bytes ≡ line_bytes line
unfolding line_bytes or_refused
good-line line h e = simp (le-leb (length line) 32768 h, e)

pub long-line : (line : List ℕ) → 32768 < length line → refused 14 ≡ line_bytes line
unfolding line_bytes
long-line line h = simp (lt-leb (length line) 32768 h)

pub too_long : (line out : List ℕ) → 32768 < length line → DecodedIs line out out None
unfolding decoded_to
too_long line out h = record { bytes = long-line line h; size = tt; wrote = simp (lt-leb (length line) 32768 h) }

pub odd-count : (line out : List ℕ) → length line ≤ 32768 → length line % 2 ≡ 1 → DecodedIs line out out None
unfolding decoded_to
odd-count line out h odd = record {
  bytes = refused-line line h (odd-none line odd);
  size = tt;
  wrote = simp (le-leb (length line) 32768 h, odd);
}

module _ {line before out : List ℕ} {i : ℕ} (d : DecodedSoFar line before out i) (room : i ≤ length out) (short : length line ≤ 32768)
    (even : length line % 2 ≡ 1 → ⊥) where
  -- Where no pair follows, the bytes so far are what decoding writes.
  so_far : leading_bytes (drop (2 * i) line) ≡ [] → Wrote (decoded_to line) before out
  unfolding decoded_to
  so_far last =
      let zero : length line % 2 ≡ 0 = omega arith in
      let all : leading_bytes line ≡ take i out = d.leading ∙ ap (λ (l : List ℕ). take i out ++ l) last ∙ append-nil (take i out) in
      simp (le-leb (length line) 32768 short, zero, all, length-take-le i out room)
      (sym (take-append-drop i out) ∙ ap (λ (l : List ℕ). take i out ++ l) d.rest)

  pub bad-pair : 2 * i + 1 < length line → none ≡ pair_at line i → DecodedIs line before out None
  bad-pair k e = record {
    bytes = refused-line line short (d.bytes ∙ ap (ahead (take i out)) (digits-at line i k ∙ pair-none _ _ _ e));
    size = tt;
    wrote = so_far (leading_at line i k ∙ lead-none _ _ _ e);
  }

  pub all-decoded : i ≡ length line / 2 → DecodedIs line before out (Some (length line / 2))
  unfolding digit_bytes leading_bytes
  all-decoded e =
      let end : drop (2 * i) line ≡ [] = drop_of_length-le line {i = 2 * i} (omega arith) in
      let bytes : digit_bytes line ≡ some (take i out) =
      d.bytes ∙ ap (λ (l : List ℕ). ahead (take i out) (digit_bytes l)) end ∙ ap some (append-nil (take i out)) in
      record { bytes = good-line line short (rw (← e) bytes); size = refl; wrote = so_far (ap leading_bytes end) }
