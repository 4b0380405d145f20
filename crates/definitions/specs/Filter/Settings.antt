-- Request 13 of document 02: session settings, and matching under them.
use Rattle.std.specs.Prelude.{ℕ, ◌/◌, ◌%◌, ◌^◌, Bool, ◌&&◌, leb, eqb, if◌then◌else◌, ◌<◌, ◌≡◌, true}
use Rattle.std.proofs.Math.Option.{Option, none, some}
use Rattle.definitions.specs.Words.Limits.{four_bytes}
use Rattle.definitions.specs.Words.Expression.{Predicate, relation, distance, knn}
use Rattle.definitions.specs.Filter.Match.{match_leaf_by}
use Rattle.definitions.specs.Filter.Extract.{Matcher}

-- The kinds allowed (bit 0 relation, bit 1 distance, bit 2 KNN), the default k and the greatest k.
pub record Settings : Type 0 where
  pub kinds : ℕ
  pub default_k : ℕ
  pub greatest_k : ℕ

-- Kinds 0 or above 7, a default k of 0, or a default above the greatest are not good: they get 24.
unfoldable pub good_settings : Settings → Bool
good_settings S = leb 1 S.kinds && (leb S.kinds 7 && (leb 1 S.default_k && leb S.default_k S.greatest_k))

-- All kinds, 1 and 4,294,967,295: what the program gives.
unfoldable pub default_settings : Settings
default_settings = record { kinds = 7; default_k = 1; greatest_k = 4294967295 }

-- Settings that do not get 24, and whose numbers are of 32 bits.
pub record GoodSettings (S : Settings) : Type 0 where
  pub good : good_settings S ≡ true
  pub width : S.greatest_k < four_bytes

-- ---- matching

-- Whether the bit at a place is 1.
unfoldable pub has_bit : (place : ℕ) → ℕ → Bool
has_bit place n = eqb (n / 2 ^ place % 2) 1

-- Whether a predicate is of a kind allowed and its k, if it has one, is not above the greatest.
unfoldable pub allowed : Settings → Predicate → Bool
allowed S (relation type l r) = has_bit 0 S.kinds
allowed S (distance form side l r bound) = has_bit 1 S.kinds
allowed S (knn k spheroid probe ties l r) = has_bit 2 S.kinds && leb k S.greatest_k

-- A match, if it passes the test.
unfoldable pub passing : (Predicate → Bool) → Option Predicate → Option Predicate
passing test none = none
passing test (some p) = if test p then some p else none

-- The matcher with which only those matches are left.
unfoldable pub only_if : (Predicate → Bool) → Matcher → Matcher
only_if test match records leaf = passing test (match records leaf)

-- Matching under settings: a two-argument KNN call takes the default k; a leaf that is not allowed does not match.
unfoldable pub match_under : Settings → Matcher
match_under S = only_if (allowed S) (match_leaf_by S.default_k)
