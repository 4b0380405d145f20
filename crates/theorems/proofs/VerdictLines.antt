-- A verdict's byte is the line of the leaf's match, or above all lines: so the first lines among the bytes are the first matches.
use Rattle.std.specs.Prelude.{if◌then◌else◌}
use Prim.Native.Nat.{ℕ, ◌+◌, ◌*◌, ◌/◌, ◌%◌, ◌<◌}
use native.Mathlib.Omega.{arith}
use mathlib.Core.Path.{◌≡◌, refl, sym, ap, ap₂, ◌∙◌, subst}
use mathlib.Core.Bool.{Bool, true, false}
use mathlib.Core.List.{List, [], ◌∷◌, map}
use mathlib.Core.Option
use mathlib.Core.Option.{Option, none, some}
use lib.ListN.{length, take, length-map}
use lib.Dec.{leb, eqb}
use borrow.Author.Tests.{leb-false, ne_eqb}
use Rattle.definitions.specs.Words.Basics.{big_endian}
use Rattle.definitions.specs.Words.Expression.{Expr, Record, Frame, Predicate, relation, distance, knn, Extraction, held}
use Rattle.definitions.specs.Bytes.Encode.{predicate_kind, extraction_bytes}
use Rattle.definitions.specs.Words.Leaves.{leaves}
use Rattle.definitions.specs.Filter.Extract.{Pick, is_knn, later, first_match, first_of, pick, take_pick, matches_by, extraction_by}
use Rattle.definitions.specs.Bytes.Good.{GoodPlan}
use Rattle.definitions.specs.Claims.PriceLine.{price_line_by}
use Rattle.definitions.specs.Filter.Settings.{Settings, match_under, GoodSettings}
use Rattle.definitions.specs.Filter.Verdicts.{verdict_byte, verdict_under, verdicts_under, verdict_bytes, TakenLeaf, one_on, first_passing, named_by, bill_number, explained}
use Rattle.definitions.specs.Claims.Verdicts.{line_said, taken_leaf, VerdictsNameTheLine, AnswerIsTheBill}
use Rattle.theorems.proofs.Pick.{few-leaves, position-of-leaf}
use Rattle.theorems.proofs.VerdictMatches.{verdict-exactly-holds}

-- ---- one verdict

-- A pick's position and line.
abbrev pick_named : Pick → TakenLeaf
pick_named p = record { position = p.position; line = predicate_kind p.predicate }

-- What a verdict's byte is, if it says this.
abbrev ByteSays : (byte : ℕ) → Option Predicate → Type 0
ByteSays b none = leb b 0x13 ≡ false
ByteSays b (some p) = b ≡ predicate_kind p

byte-says : (b : ℕ) (t : Bool) → leb b 0x13 ≡ t → (m : Option Predicate) → (if t then some b else none) ≡ Option.map predicate_kind m
    → ByteSays b m
byte-says b true e none s = let z : ◌≡◌ {A = ℕ} 0 1 = cc in absurd (omega arith)
byte-says b true e (some p) s = cc
byte-says b false e none s = e
byte-says b false e (some p) s = let z : ◌≡◌ {A = ℕ} 0 1 = cc in absurd (omega arith)

-- ---- all of them

on-later : (x : Option Pick) → Option.map one_on (Option.map pick_named x) ≡ Option.map pick_named (later x)
unfolding one_on later
on-later none = refl
on-later (some p) = refl

module _ (t : ℕ → Bool) (u : Predicate → Bool) (same : (p : Predicate) → t (predicate_kind p) ≡ u p)
    (reason : (b : ℕ) → leb b 0x13 ≡ false → t b ≡ false) where
  -- What is read off the bytes is the first match.
  abbrev Reads : List ℕ → List (Option Predicate) → Type 0
  Reads bs ms = first_passing t bs ≡ Option.map pick_named (first_match u ms)

  first-of : (b : ℕ) (m : Option Predicate) (bs : List ℕ) (ms : List (Option Predicate))
      → ByteSays b m → Reads bs ms → Reads (b ∷ bs) (m ∷ ms)
  unfolding first_passing first_match
  first-of b none bs ms h e = rw (reason b h) (ap (Option.map one_on) e ∙ on-later (first_match u ms))
  first-of b (some p) bs ms h e = rw (h, same p) (cases (u p))
    where
      cases : (c : Bool)
          → (if c then some (record { position = 0; line = predicate_kind p }) else Option.map one_on (first_passing t bs))
          ≡ Option.map pick_named (if c then some (record { position = 0; predicate = p }) else later (first_match u ms))
      cases true = refl
      cases false = ap (Option.map one_on) e ∙ on-later (first_match u ms)

  module _ (S : Settings) (good : GoodSettings S) (rs : List Record) where
    firsts : (es : List Expr) → Reads (map verdict_byte (map (verdict_under S rs) es)) (map (match_under S rs) es)
    firsts [] = unfold first_passing first_match in refl
    firsts (e ∷ es) =
        let b : ℕ = verdict_byte (verdict_under S rs e) in
        first-of b (match_under S rs e) _ (map (match_under S rs) es)
        (byte-says b _ refl (match_under S rs e) (unfold line_said in verdict-exactly-holds S good rs e)) (firsts es)

knn-byte : (p : Predicate) → eqb (predicate_kind p) 0x13 ≡ is_knn p
unfolding predicate_kind is_knn
knn-byte (relation t l r) = refl
knn-byte (distance form s l r d) = refl
knn-byte (knn k s p t l r) = refl

match-byte : (p : Predicate) → leb (predicate_kind p) 0x13 ≡ true
unfolding predicate_kind
match-byte (relation t l r) = refl
match-byte (distance form s l r d) = refl
match-byte (knn k s p t l r) = refl

or-first : (x y : Option Pick) → Option.or_else (Option.map pick_named x) (Option.map pick_named y) ≡ Option.map pick_named (first_of x y)
unfolding Option.or_else first_of
or-first none y = refl
or-first (some p) y = refl

taken-named : (F : Frame) (p : Option Pick) → Option.map pick_named p ≡ Option.map taken_leaf (take_pick F p)
unfolding take_pick
taken-named F none = refl
taken-named F (some p) = refl

names : (S : Settings) → GoodSettings S → (F : Frame)
    → named_by (verdict_bytes S F) ≡ Option.map taken_leaf (extraction_by (match_under S) F)
unfolding named_by verdict_bytes verdicts_under extraction_by pick matches_by
names S good F =
    ap₂ Option.or_else
    (firsts (λ b. eqb b 0x13) is_knn knn-byte (λ b e. ne_eqb b 0x13 (λ s. absurd (omega (arith, leb-false b 0x13 e, s)))) S good
    F.records (leaves F.expr))
    (firsts (λ b. leb b 0x13) (λ p. true) match-byte (λ b e. e) S good F.records (leaves F.expr))
    ∙ or-first _ _
    ∙ taken-named F _

line_meant : (x : Option Extraction)
    → Option.map (λ (t : TakenLeaf). t.line) (Option.map taken_leaf x) ≡ Option.map (λ X. predicate_kind X.predicate) x
line_meant none = refl
line_meant (some X) = refl

pub line-named : VerdictsNameTheLine
unfolding price_line_by
line-named S good F =
    (names S good F, ap (Option.map (λ (t : TakenLeaf). t.line)) (names S good F) ∙ line_meant (extraction_by (match_under S) F))

-- ---- the answer

pub as-many : (S : Settings) (F : Frame) → length (verdict_bytes S F) ≡ length (leaves F.expr)
unfolding verdict_bytes verdicts_under
as-many S F = length-map (map (verdict_under S F.records) (leaves F.expr)) verdict_byte ∙ length-map (leaves F.expr) _

kind-most : (p : Predicate) → predicate_kind p < 0x14
unfolding predicate_kind
kind-most (relation t l r) = omega arith
kind-most (distance form s l r d) = omega arith
kind-most (knn k s p t l r) = omega arith

-- Five bytes taken apart.
three-bytes : (kind p : ℕ) → kind < 256 → p < 65536
    → (kind * 65536 + p) / 65536 % 256 ∷ (kind * 65536 + p) / 256 % 256 ∷ (kind * 65536 + p) / 1 % 256 ∷ []
    ≡ kind ∷ p / 256 % 256 ∷ p / 1 % 256 ∷ []
three-bytes kind p h g =
    let a : (kind * 65536 + p) / 65536 % 256 ≡ kind = omega (arith, h, g) in
    let b : (kind * 65536 + p) / 256 % 256 ≡ p / 256 % 256 = omega (arith, h, g) in
    let c : (kind * 65536 + p) / 1 % 256 ≡ p / 1 % 256 = omega (arith, h, g) in
    rw (a, b, c) refl

last-two : (n k : ℕ) → k < 65536 → (n * 65536 + k) % 65536 ≡ k
last-two n k h = omega (arith, h)

before-two : (n k : ℕ) → k < 65536 → (n * 65536 + k) / 65536 ≡ n
before-two n k h = omega (arith, h)

bill-small : (kind p k : ℕ) → kind < 0x14 → p < 65536 → k < 65536 → (kind * 65536 + p) * 65536 + k < 1099511627776
bill-small kind p k h g l = omega (arith, h, g, l)

module _ (S : Settings) (good : GoodSettings S) (F : Frame) (g : GoodPlan (held F)) where
  abbrev number : ℕ
  number = length (leaves F.expr)

  number-small : number < 65536
  number-small = omega (arith, few-leaves F g)

  answer-is : explained (verdict_bytes S F) ≡ bill_number (Option.map taken_leaf (extraction_by (match_under S) F)) * 65536 + number
  unfolding explained
  answer-is = ap₂ (λ (t : Option TakenLeaf) (k : ℕ). bill_number t * 65536 + k) (names S good F) (as-many S F)

  answer-before : explained (verdict_bytes S F) / 65536 ≡ bill_number (Option.map taken_leaf (extraction_by (match_under S) F))
  answer-before = ap (λ (n : ℕ). n / 65536) answer-is ∙ before-two _ number number-small

  small : (x : Option Extraction) → extraction_by (match_under S) F ≡ x
      → bill_number (Option.map taken_leaf x) * 65536 + number < 1099511627776
  unfolding bill_number
  small none e = omega (arith, number-small)
  small (some X) e =
      bill-small (predicate_kind X.predicate) X.position number (kind-most X.predicate)
      (omega (arith, position-of-leaf (match_under S) F X e, number-small)) number-small

  bill-bytes : (X : Extraction) → extraction_by (match_under S) F ≡ some X
      → big_endian 3 (bill_number (some (taken_leaf X))) ≡ take 3 (extraction_bytes X)
  unfolding bill_number extraction_bytes big_endian
  bill-bytes X e =
      three-bytes (predicate_kind X.predicate) X.position (omega (arith, kind-most X.predicate))
      (omega (arith, position-of-leaf (match_under S) F X e, number-small))

  the-bill : (explained (verdict_bytes S F) % 65536 ≡ number)
      × (explained (verdict_bytes S F) < 1099511627776)
      × (extraction_by (match_under S) F ≡ none → explained (verdict_bytes S F) / 65536 ≡ 0)
      × ((X : Extraction) → extraction_by (match_under S) F ≡ some X
      → big_endian 3 (explained (verdict_bytes S F) / 65536) ≡ take 3 (extraction_bytes X))
  the-bill = (
    ap (λ (n : ℕ). n % 65536) answer-is ∙ last-two _ number number-small,
    subst (λ (n : ℕ). n < 1099511627776) (sym answer-is) (small (extraction_by (match_under S) F) refl),
    λ e. answer-before ∙ ap (λ (x : Option Extraction). bill_number (Option.map taken_leaf x)) e ∙ unfold bill_number in refl,
    λ X e. ap (big_endian 3) (answer-before ∙ ap (λ (x : Option Extraction). bill_number (Option.map taken_leaf x)) e) ∙ bill-bytes X e,
  )

pub bill-answered : AnswerIsTheBill
bill-answered = the-bill
