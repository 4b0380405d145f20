-- What the call print gives, and what its texts are made of.
use Rattle.std.specs.Prelude.{if◌then◌else◌}
use Prim.Native.Nat.{ℕ, zero, suc, ◌+◌, ◌/◌, ◌%◌, ◌^◌, ◌≤◌, ◌<◌}
use native.Mathlib.Nat.{mod-lt}
use native.Mathlib.Omega.{arith}
use mathlib.Core.Path.{◌≡◌, refl, sym, ap, ◌∙◌}
use mathlib.Core.Bool.{Bool, true, false, ◌&&◌, false≢true}
use mathlib.Core.List.{List, [], ◌∷◌, ◌++◌, append-nil}
use lib.ListN.{length, get_or, length-append, length-drop}
use lib.Seq.{take-append_seam, drop-append_seam}
use lib.Dec.{leb, ltb, lit<}
use borrow.Author.Tests.{leb-true}
use Rattle.definitions.specs.Words.Basics.{Result, ok, refused, ascii, big_endian, digit, digits}
use Rattle.definitions.specs.Words.Expression.{Expr, column, literal, and, binary, call, other, field, Exprs, nil, cons, Frame}
use Rattle.definitions.specs.Bytes.Plans.{frame_of}
use Rattle.definitions.specs.Bytes.Decode.{index_below}
use Rattle.definitions.specs.Calls.Base.{written_over}
use Rattle.definitions.specs.Bytes.Good.{All, AllBytes, InRange, InRangeAll, NameBytes}
use Rattle.definitions.specs.Bytes.Printed.{figures, decimal_width, decimal, digits16, printed, printed_all, printed_more}
use Rattle.definitions.specs.Calls.Print.{PrintOutcome, text_of, finish_print, print}
use Rattle.definitions.specs.Lists.Sessions.{accepted}
use Rattle.definitions.specs.Claims.Print.{PrintsNeverAlike, TextPrintable, NoLeadingZero, PrintAccepted, PrintWrote, PrintGiven, PrintRefused}
use Rattle.theorems.proofs.Columns.{all_append}
use Rattle.theorems.proofs.Tools.{by-test, and-both}
use Rattle.theorems.proofs.RoundTripPlan.{frame-reads}
use Rattle.theorems.proofs.Figures.{digit-same, width-cases}
use Rattle.theorems.proofs.PrintsApart.{told-apart}

-- ---- never alike

pub prints-once : PrintsNeverAlike
prints-once b b' e e' h h' p = (told-apart e e' b b' [] [] h h' tt tt (append-nil (printed e) ∙ p ∙ sym (append-nil (printed e')))).0

-- ---- characters

record Plain (s : List ℕ) : Type 0 where
  chars : All (λ c. (32 ≤ c) × (c ≤ 126)) s

plain-both : (s t : List ℕ) → Plain s → Plain t → Plain (s ++ t)
plain-both s t h k = record { chars = all_append (λ c. (32 ≤ c) × (c ≤ 126)) s t h.chars k.chars }

digit-plain : (d : ℕ) → d < 16 → (32 ≤ digit d) × (digit d ≤ 126)
unfolding digit
digit-plain d h =
    by-test (λ (c : ℕ). (32 ≤ c) × (c ≤ 126)) (ltb d 10) (d + 48) (d + 87) (λ _. (omega arith, omega arith))
    (λ _. (omega arith, omega arith))

figures-plain : (w v : ℕ) → Plain (figures w v)
unfolding figures
figures-plain zero v = record { chars = tt }
figures-plain (suc w) v =
    record { chars = (digit-plain (v / 10 ^ w % 10) (omega arith), (figures-plain w v).chars) }

decimal-plain : (v : ℕ) → Plain (decimal v)
unfolding decimal
decimal-plain v = figures-plain (decimal_width v) v

digits-plain : (s : List ℕ) → AllBytes s → Plain (digits s)
unfolding digits
digits-plain [] h = record { chars = tt }
digits-plain (b ∷ s) h =
    record { chars = (digit-plain (b / 16) (omega (arith, h.0)), (digit-plain (b % 16) (omega arith), (digits-plain s h.1).chars)) }

bytes_small : (w v : ℕ) → AllBytes (big_endian w v)
unfolding big_endian
bytes_small zero v = tt
bytes_small (suc w) v = (mod-lt (v / 256 ^ w) (lit< tt), bytes_small w v)

literal-plain : (v : ℕ) → Plain (digits16 v)
unfolding digits16
literal-plain v = digits-plain (big_endian 8 v) (bytes_small 8 v)

name-plain : (name : List ℕ) → NameBytes name → Plain name
name-plain [] h = record { chars = tt }
name-plain (b ∷ s) h =
    let both : (leb 33 b ≡ true) × (leb b 126 ≡ true) = and-both (leb 33 b) (leb b 126) h.0 in
    record { chars = ((omega (arith, leb-true 33 b both.0), leb-true b 126 both.1), (name-plain s h.1).chars) }

none : Plain []
none = record { chars = tt }

-- One of the marks between.
mark : (c : ℕ) (s : List ℕ) → (leb 32 c && leb c 126) ≡ true → Plain s → Plain (c ∷ s)
mark c s e h =
    let both : (leb 32 c ≡ true) × (leb c 126 ≡ true) = and-both (leb 32 c) (leb c 126) e in
    record { chars = ((leb-true 32 c both.0, leb-true c 126 both.1), h.chars) }

-- Two children and an operator.
pair-plain : (o : ℕ) (l r : List ℕ) → Plain l → Plain r → Plain (40 ∷ (l ++ (32 ∷ 111 ∷ (decimal o ++ (32 ∷ (r ++ (41 ∷ [])))))))
pair-plain o l r hl hr =
    mark 40 _ refl (plain-both l _ hl (mark 32 _ refl (mark 111 _ refl (plain-both (decimal o) _ (decimal-plain o)
    (mark 32 _ refl (plain-both r (41 ∷ []) hr (mark 41 [] refl none)))))))

mutual
  unfolding printed ascii

  text-plain : (b : ℕ) (e : Expr) → InRange (index_below b) e → Plain (printed e)
  text-plain b (column i t) = λ h. mark 99 _ refl (plain-both (decimal i) _ (decimal-plain i) (mark 58 _ refl (decimal-plain t)))
  text-plain b (literal t v) = λ h. mark 35 _ refl (plain-both (decimal t) _ (decimal-plain t) (mark 58 _ refl (literal-plain v)))
  text-plain b (and l r) = λ h. pair-plain 0 (printed l) (printed r) (text-plain b l h.0) (text-plain b r h.1)
  text-plain b (binary o l r) = λ h. pair-plain o (printed l) (printed r) (text-plain b l h.2) (text-plain b r h.3)
  text-plain b (call name es) = λ h.
      mark 102 _ refl (plain-both (decimal (length name)) _ (decimal-plain (length name))
      (mark 58 _ refl (plain-both name _ (name-plain name h.2)
      (mark 91 _ refl (plain-both (printed_all es) _ (all_plain b es h.4) (mark 93 [] refl none))))))
  text-plain b (other tag es) = λ h.
      mark 120 _ refl (plain-both (decimal tag) _ (decimal-plain tag)
      (mark 91 _ refl (plain-both (printed_all es) _ (all_plain b es h.2) (mark 93 [] refl none))))
  text-plain b (field x t) = λ h. none

  all_plain : (b : ℕ) (es : Exprs) → InRangeAll (index_below b) es → Plain (printed_all es)
  all_plain b nil = λ h. none
  all_plain b (cons e es) = λ h. plain-both (printed e) (printed_more es) (text-plain b e h.0) (more-plain b es h.1)

  more-plain : (b : ℕ) (es : Exprs) → InRangeAll (index_below b) es → Plain (printed_more es)
  more-plain b nil = λ h. none
  more-plain b (cons e es) = λ h. mark 44 _ refl (plain-both (printed e) (printed_more es) (text-plain b e h.0) (more-plain b es h.1))

pub text-printable-by : TextPrintable
text-printable-by b e h = (text-plain b e h).chars

-- ---- no leading zero

zero-digit : (d : ℕ) → digit d ≡ 48 → d ≡ 0
unfolding digit
zero-digit d e = digit-same d 0 e

-- So a first digit of 0 is that of a number with nothing in that place.
pub no-leading : NoLeadingZero
unfolding decimal figures
no-leading v h = width-cases (λ w. get_or (figures w v) 0 0 ≡ 48 → v ≡ 0) v
    (λ a e. omega (arith, zero-digit _ e)) (λ a b e. omega (arith, zero-digit (v / 10 % 10) e))
    (λ a b e. omega (arith, zero-digit (v / 100 % 10) e)) (λ a b e. omega (arith, zero-digit (v / 1000 % 10) e))
    (λ a e. omega (arith, zero-digit (v / 10000 % 10) e))

-- ---- the call

room-decides : (text buffer : List ℕ) (b : Bool) → accepted (finish_print buffer (if b then ok text else refused 15)).answer ≡ b
unfolding accepted finish_print
room-decides text buffer true = refl
room-decides text buffer false = refl

pub print-accepts : PrintAccepted
unfolding print text_of
print-accepts F buffer g =
    ap (λ (r : Result Frame). accepted (finish_print buffer (text_of (length buffer) r)).answer) (frame-reads F g)
    ∙ room-decides (printed F.expr) buffer (leb (length (printed F.expr)) (length buffer))

module _ (frame buffer : List ℕ) where
  -- What an accepted print found, and what it left.
  abbrev Took : Result Frame → Type 0
  Took r =
      (F : Frame) × (r ≡ ok F) × (length (printed F.expr) ≤ length buffer)
      × (finish_print buffer (text_of (length buffer) r) ≡ finish_print buffer (ok (printed F.expr)))

  took_by : (F : Frame) (b : Bool) → leb (length (printed F.expr)) (length buffer) ≡ b
      → accepted (finish_print buffer (if b then ok (printed F.expr) else refused 15)).answer ≡ true → Took (ok F)
  unfolding accepted finish_print text_of
  took_by F true e a = (F, refl, leb-true _ _ e, ap (λ (b : Bool). finish_print buffer (if b then ok (printed F.expr) else refused 15)) e)
  took_by F false e a = absurd (false≢true a)

  took : (r : Result Frame) → accepted (finish_print buffer (text_of (length buffer) r)).answer ≡ true → Took r
  unfolding accepted finish_print text_of
  took (ok F) a = took_by F (leb (length (printed F.expr)) (length buffer)) refl a
  took (refused number) a = absurd (false≢true a)

  prints : (F : Frame) → frame_of frame ≡ ok F → length (printed F.expr) ≤ length buffer
      → print frame buffer ≡ finish_print buffer (ok (printed F.expr)) → PrintWrote frame buffer F
  unfolding finish_print written_over
  prints F e fits p = record {
    given = e;
    answer = ap (λ (o : PrintOutcome). o.answer) p;
    text = rw p (take-append_seam (printed F.expr) _);
    others = record {
      as_many = rw (p, length-append, length-drop) (omega arith);
      rest = rw p (drop-append_seam (printed F.expr) _);
    };
  }

pub print-gives : PrintGiven
unfolding print
print-gives frame buffer a =
    let t : Took frame buffer (frame_of frame) = took frame buffer (frame_of frame) a in
    (t.0, prints frame buffer t.0 t.1 t.2 t.3)

refused-keeps : (buffer : List ℕ) (r : Result (List ℕ)) → accepted (finish_print buffer r).answer ≡ false
    → (finish_print buffer r).buffer ≡ buffer
unfolding accepted finish_print
refused-keeps buffer (ok text) a = absurd (false≢true (sym a))
refused-keeps buffer (refused number) a = refl

pub print-refuses : PrintRefused
unfolding print
print-refuses frame buffer a = refused-keeps buffer _ a
