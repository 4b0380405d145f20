-- What is claimed of requests 9 and 10 of document 02; crate `theorems` proves each claim.
use Rattle.std.specs.Prelude.{ℕ, ◌*◌, ◌-◌, ◌≤◌, ◌≡◌, true, false, not, List, ◌∷◌, ◌++◌, length, take, eqb}
use Rattle.std.proofs.Math.Option.{Option, none, some}
use Rattle.definitions.specs.Words.Basics.{refused, any, ok}
use Rattle.definitions.specs.Words.Limits.{most_nodes}
use Rattle.definitions.specs.Words.Expression.{Frame, Predicate, held}
use Rattle.definitions.specs.Words.Leaves.{leaves}
use Rattle.definitions.specs.Bytes.Good.{AllBytes}
use Rattle.definitions.specs.Bytes.NodeTable.{NodeRecord}
use Rattle.definitions.specs.Filter.Extract.{is_knn, is_knn_match, first_match, pick, Matcher, matches_by, extraction_by}
use Rattle.definitions.specs.Filter.OneWalk.{reading, stopped_at, one_walk, remembered, walk_length_by}
use Rattle.definitions.specs.Filter.Exchange.{exchange_frame}
use Rattle.definitions.specs.Calls.Base.{held_plan, extract_by, extract_walk_by}
use Rattle.definitions.specs.Lists.Sessions.{accepted}
use Rattle.definitions.specs.Meaning.Values.{Meaning}
use Rattle.definitions.specs.Meaning.Matchers.{Lawful}

-- ---- request 9

-- After any number of leaves without a KNN match the walk remembers the first other match among them, or nothing if there is none.
abbrev pub RemembersFirst : Type 0
RemembersFirst =
    (matches : List (Option Predicate)) (many : ℕ) → any is_knn_match (take many matches) ≡ false
    → one_walk (take many matches) ≡ reading (length (take many matches)) (first_match (λ p. not (is_knn p)) (take many matches))

-- It stops at the first KNN match, whatever comes after it.
abbrev pub StopsAtKnn : Type 0
StopsAtKnn =
    (before : List (Option Predicate)) (p : Predicate) (after : List (Option Predicate)) → any is_knn_match before ≡ false → is_knn p ≡ true
    → one_walk (before ++ (some p ∷ after)) ≡ stopped_at (record { position = length before; predicate = p })

-- Its pick is the two passes' pick.
abbrev pub OneWalkIsPick : Type 0
OneWalkIsPick = (matches : List (Option Predicate)) → remembered (one_walk matches) ≡ pick matches

-- ---- request 10

-- A walk is at most twice the number of AND-leaves, less one,
abbrev pub WalkBoundedBy : Matcher → Type 0
WalkBoundedBy match = (F : Frame) → walk_length_by match F ≤ 2 * length (leaves F.expr) - 1

-- and so many where no leaf is a KNN match,
abbrev pub WalkWholeBy : Matcher → Type 0
WalkWholeBy match = (F : Frame) → any is_knn_match (matches_by match F) ≡ false → walk_length_by match F ≡ 2 * length (leaves F.expr) - 1

-- so that a 13 carries so many.
abbrev pub WalkUnmatchedBy : Matcher → Type 0
WalkUnmatchedBy match = (F : Frame) → extraction_by match F ≡ none → walk_length_by match F ≡ 2 * length (leaves F.expr) - 1

-- An exchanged frame has the same walk: both machines bill the same effort.
abbrev pub WalkExchangedBy : Matcher → Type 0
WalkExchangedBy match = (F : Frame) → walk_length_by match (exchange_frame F) ≡ walk_length_by match F

-- An accepted extract, and one that is refused with 13, carries the walk of the frame that is held;
abbrev pub WalkCarriedBy : Matcher → Type 0
WalkCarriedBy match =
    (n : ℕ) (buffer scratch : List ℕ) (table : List NodeRecord)
    → ((accepted (extract_by match n buffer scratch table).answer ≡ true)
    → (F : Frame) × (held_plan n buffer ≡ ok (held F)) × (extract_walk_by match n buffer scratch table ≡ walk_length_by match F))
    × (((extract_by match n buffer scratch table).answer ≡ refused 13)
    → (F : Frame) × (held_plan n buffer ≡ ok (held F)) × (extract_walk_by match n buffer scratch table ≡ walk_length_by match F))
    × ((number : ℕ) → (extract_by match n buffer scratch table).answer ≡ refused number → eqb number 13 ≡ false
    → extract_walk_by match n buffer scratch table ≡ 0)

-- What a call carries is at most 2,047.
abbrev pub WalkShortBy : Matcher → Type 0
WalkShortBy match =
    (n : ℕ) (buffer scratch : List ℕ) (table : List NodeRecord) → AllBytes buffer
    → extract_walk_by match n buffer scratch table ≤ 2 * most_nodes - 1

-- With every matcher; exchanged, with every lawful one.
abbrev pub WalkBounded : Type 0
WalkBounded = (match : Matcher) → WalkBoundedBy match

abbrev pub WalkWhole : Type 0
WalkWhole = (match : Matcher) → WalkWholeBy match

abbrev pub WalkUnmatched : Type 0
WalkUnmatched = (match : Matcher) → WalkUnmatchedBy match

abbrev pub WalkExchanged : Type 1
WalkExchanged = (match : Matcher) (Asks : Meaning → Type 0) → Lawful match Asks → WalkExchangedBy match

abbrev pub WalkCarried : Type 0
WalkCarried = (match : Matcher) → WalkCarriedBy match

abbrev pub WalkShort : Type 0
WalkShort = (match : Matcher) → WalkShortBy match
