-- Records whose sides are negated one after the other, where they stand.
use Prim.Native.Nat.{ℕ, zero, suc, ◌+◌, ◌*◌, ◌-◌, ◌<◌}
use native.Mathlib.Omega.{arith}
use native.Mathlib.Nat.{not-suc-le-zero}
use native.Mathlib.Numerals.{add-one}
use mathlib.Core.Path.{◌≡◌, refl, sym, ap, ◌∙◌}
use mathlib.Core.List.{List, [], ◌∷◌, ◌++◌, map, append-nil, append_assoc}
use lib.ListN.{length, take, drop, get_or, set}
use lib.Seq.{take-length, drop-length}
use Rattle.std.proofs.lemmas.List.{set-append_right, get_or-append_right}
use Rattle.definitions.specs.Words.Basics.{big_endian}
use Rattle.definitions.specs.Words.Expression.{Side, left, right, no_side, Record}
use Rattle.definitions.specs.Bytes.Encode.{side_number, record_bytes, records_bytes}
use Rattle.definitions.specs.Bytes.Decode.{side_numbered}
use Rattle.definitions.specs.Filter.Exchange.{negate, exchange_record}
use Rattle.call_exchange.specs.Turned.{TurnedAt}
use Rattle.call_exchange.specs.Exchanged.{SidesNegated}

-- The bytes of records of which the first i are exchanged.
abbrev pub begun : ℕ → List Record → List ℕ
begun i rs = records_bytes (map exchange_record (take i rs) ++ drop i rs)

-- The other side of a side's number.
side-again : (side : Side) → side_numbered (side_number side) ≡ side
unfolding side_numbered side_number
side-again left = refl
side-again right = refl
side-again no_side = refl

-- The next one's side is negated.
negate-next : (rs : List Record) (rest : List ℕ) (i b : ℕ) → i < length rs
    → b ≡ side_number (negate (side_numbered (get_or (begun i rs ++ rest) (5 * i) 0)))
    → set (begun i rs ++ rest) (5 * i) b ≡ begun (suc i) rs ++ rest
unfolding records_bytes record_bytes big_endian exchange_record
negate-next [] rest i b below other = absurd (not-suc-le-zero below)
negate-next (r ∷ rs) rest zero b below other = rw (other, side-again r.side)
negate-next (r ∷ rs) rest (suc i) b below other =
    let on : 5 * suc i ≡ suc (suc (suc (suc (suc (5 * i))))) = omega arith in
    rw on (ap (λ (l : List ℕ). record_bytes (exchange_record r) ++ l) (negate-next rs rest i b (omega arith) (rw on at other)))

-- What a turn of the loop keeps: wherever so many records stood at the place, the first i are exchanged.
abbrev pub Begun : (at count : ℕ) (before after : List ℕ) → ℕ → Type 0
Begun at count before after i =
    (records : List Record) → count ≡ length records → TurnedAt at (records_bytes records) (begun i records) before after

module _ {at count : ℕ} {before after : List ℕ} where
  pub begun-next : (i b : ℕ) → i < count → b ≡ side_number (negate (side_numbered (get_or after (at + 5 * i) 0)))
      → Begun at count before after i → Begun at count before (set after (at + 5 * i) b) (i + 1)
  begun-next i b below other so rs counted head there tail is =
      let rest : List ℕ = begun i rs ++ tail in
      let now : after ≡ head ++ rest = so rs counted head there tail is ∙ append_assoc head (begun i rs) tail in
      let on : at + 5 * i - at ≡ 5 * i = omega arith in
      let read : get_or after (at + 5 * i) 0 ≡ get_or rest (5 * i) 0 =
      ap (λ (l : List ℕ). get_or l (at + 5 * i) 0) now ∙ get_or-append_right head rest at (at + 5 * i) 0 (sym there) (omega arith)
      ∙ ap (λ (k : ℕ). get_or rest k 0) on in
      ap (λ (l : List ℕ). set l (at + 5 * i) b) now ∙ set-append_right head rest at (at + 5 * i) b (sym there) (omega arith)
      ∙ ap (λ (k : ℕ). head ++ set rest k b) on
      ∙ ap (λ (l : List ℕ). head ++ l)
      (negate-next rs tail i b (omega arith) (other ∙ ap (λ (k : ℕ). side_number (negate (side_numbered k))) read))
      ∙ rw add-one (sym (append_assoc head (begun (suc i) rs) tail))

  pub all-begun : (i : ℕ) → i ≡ count → Begun at count before after i → SidesNegated at count before after
  all-begun i end so rs counted =
      let all : map exchange_record (take i rs) ++ drop i rs ≡ map exchange_record rs =
      rw (end, counted, take-length rs, drop-length rs) (append-nil _) in
      rw all at (so rs counted)
