-- The laws of a matcher: under every one that obeys them hold the claims of extractions and of calls (Claims/AnyMatcher). (All of this is
-- ours.)
use Rattle.std.specs.Prelude.{ℕ, suc, ◌≤◌, ◌<◌, ◌≡◌, List, map, length}
use Rattle.std.proofs.Math.Option
use Rattle.std.proofs.Math.Option.{Option, none, some}
use Rattle.definitions.specs.Words.Expression.{Expr, Record, Predicate}
use Rattle.definitions.specs.Words.References.{record_at, map_columns}
use Rattle.definitions.specs.Bytes.Encode.{expr_bytes, predicate_fields}
use Rattle.definitions.specs.Bytes.Decode.{index_below}
use Rattle.definitions.specs.Bytes.Good.{nodes, InRange, Readable, RecordsInRange, ReadablePredicate, predicate_nodes}
use Rattle.definitions.specs.Filter.Extract.{Matcher}
use Rattle.definitions.specs.Filter.Exchange.{exchange_record, exchange_predicate}
use Rattle.definitions.specs.Meaning.Values.{Valuation, Meaning, value, frame_columns, predicate_value, exchanged_values}

-- A match in range, with its first byte of at most so many bytes, and of at most so many nodes.
abbrev pub Fits : (room size : ℕ) → Option Predicate → Type 0
Fits room size none = Unit {0}
Fits room size (some p) = ReadablePredicate p × (suc (length (predicate_fields p)) ≤ room) × (predicate_nodes p ≤ size)

-- A match whose value is this.
abbrev pub Valued : Meaning → Valuation → (truth : ℕ) → Option Predicate → Type 0
Valued M v truth none = Unit {0}
Valued M v truth (some p) = truth ≡ predicate_value M v p

-- The laws of a matcher; `Asks` is what its values ask of a meaning.
pub record Lawful (match : Matcher) (Asks : Meaning → Type 0) : Type 0 where
  -- Exchange respects it: over exchanged records the match of a leaf is the exchanged match.
  pub turns : (records : List Record) (leaf : Expr)
      → match (map exchange_record records) leaf ≡ Option.map exchange_predicate (match records leaf)
  -- It makes nothing larger: the match of a leaf that can be read fits in the leaf's place.
  pub fits : (records : List Record) (leaf : Expr) → RecordsInRange records → Readable (index_below (length records)) leaf
      → Fits (length (expr_bytes leaf)) (nodes leaf) (match records leaf)
  -- Meaning respects it: the match of a leaf in range has the leaf's value.
  pub means : (M : Meaning) (v : Valuation) (records : List Record) (leaf : Expr) → Asks M
      → InRange (index_below (length records)) leaf → Valued M v (value M (frame_columns v records) leaf) (match records leaf)
  -- Numbers do not matter to it: where the columns below a bound are renumbered over records that are the same there, a leaf matches as it
  -- did.
  pub moves : (records records' : List Record) (f : ℕ → ℕ) (bound : ℕ)
      → ((index : ℕ) → index < bound → record_at records' (f index) ≡ record_at records index)
      → (leaf : Expr) → InRange (index_below bound) leaf → match records' (map_columns f leaf) ≡ match records leaf

-- A meaning that exchange respects: an exchanged predicate has the predicate's value, those of left and right columns exchanged.
abbrev pub Symmetric : Meaning → Type 0
Symmetric M = (v : Valuation) (p : Predicate) → predicate_value M v (exchange_predicate p) ≡ predicate_value M (exchanged_values v) p
