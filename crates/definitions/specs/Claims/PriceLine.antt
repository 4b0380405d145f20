-- What is claimed for the customer's question: which price line a frame is on, and that both machines agree.
use Rattle.std.specs.Prelude.{ℕ, ◌≤◌, ◌≡◌, true, false, List, [], ◌∷◌, ◌++◌, length, take}
use Rattle.std.proofs.Math.Option
use Rattle.std.proofs.Math.Option.{Option, none, some}
use Rattle.definitions.specs.Words.Basics.{Result, refused}
use Rattle.definitions.specs.Words.Expression.{Frame, Extraction}
use Rattle.definitions.specs.Bytes.Encode.{predicate_kind, plan_bytes}
use Rattle.definitions.specs.Filter.Match.{match_leaf}
use Rattle.definitions.specs.Filter.Extract.{Matcher, extraction_by}
use Rattle.definitions.specs.Filter.Exchange.{exchange_frame, extracted_plan}
use Rattle.definitions.specs.Lists.Sessions.{Made, extract_with, accepted, Session, length_after, plan_after, extracted_in, odd_in, answer_after}
use Rattle.definitions.specs.Claims.Pick.{Took}

-- ---- the price line

-- The price line of a frame: the first byte of its extraction; none for a join that stays filtered. (Ours.)
unfoldable pub price_line_by : Matcher → Frame → Option ℕ
price_line_by match F = Option.map (λ X. predicate_kind X.predicate) (extraction_by match F)

-- 01's, with `match_leaf`.
abbrev pub price_line : Frame → Option ℕ
price_line = price_line_by match_leaf

-- An extract is on a line: accepted, it leaves a plan with that first byte; where there is no line, it is refused with 13. (Ours.)
abbrev pub OnLine : Option ℕ → (answer : Result ℕ) → (plan : List ℕ) → Type 0
OnLine none answer plan = answer ≡ refused 13
OnLine (some line) answer plan = (accepted answer ≡ true) × (take 1 plan ≡ line ∷ [])

-- At any place of any list the first extract that has room is on the frame's line.
abbrev pub PriceLineOfCalls : Type 0
PriceLineOfCalls =
    (F : Frame) (s : Session F) (before : List Made) (scratch : List ℕ)
    → extracted_in s before ≡ false → length_after s before ≤ length scratch
    → OnLine (price_line F) (answer_after s before (extract_with scratch)) (plan_after s (before ++ (extract_with scratch ∷ [])))

-- The plan stays on that line: after any list in which an extract was accepted its first byte is the frame's line.
abbrev pub PriceLineStays : Type 0
PriceLineStays =
    (F : Frame) (s : Session F) (calls : List Made) → extracted_in s calls ≡ true
    → (line : ℕ) × (price_line F ≡ some line) × (take 1 (plan_after s calls) ≡ line ∷ [])

-- An exchanged frame is on the same line: a unit that exchanges before it loads pays the same.
abbrev pub PriceLineExchanged : Type 0
PriceLineExchanged = (F : Frame) → price_line (exchange_frame F) ≡ price_line F

-- ---- both machines

-- Whatever one machine exchanged and the other did not: where both extracted, both hold the extraction of one and the same
-- AND-leaf, exchanged or not, and with it the same first byte, which sets the rate, and the same position after it, which names the leaf.
abbrev pub SameLeaf : Type 0
SameLeaf =
    (F : Frame) (s t : Session F) (calls calls' : List Made) → extracted_in s calls ≡ true → extracted_in t calls' ≡ true
    → (X : Extraction) × Took F X
    × (plan_after s calls ≡ plan_bytes (extracted_plan X (odd_in s calls)))
    × (plan_after t calls' ≡ plan_bytes (extracted_plan X (odd_in t calls')))
    × (take 3 (plan_after s calls) ≡ take 3 (plan_after t calls'))

-- Where one machine refuses a filter with 13, so does the other, wherever its scratch is long enough,
abbrev pub SameRefusal : Type 0
SameRefusal =
    (F : Frame) (s t : Session F) (before before' : List Made) (scratch scratch' : List ℕ)
    → answer_after s before (extract_with scratch) ≡ refused 13 → length_after t before' ≤ length scratch'
    → answer_after t before' (extract_with scratch') ≡ refused 13

-- and the other never extracts it.
abbrev pub NeverMixed : Type 0
NeverMixed =
    (F : Frame) (s t : Session F) (before : List Made) (scratch : List ℕ) (calls : List Made)
    → answer_after s before (extract_with scratch) ≡ refused 13 → extracted_in t calls ≡ false

-- The machines agree: the same leaf, named alike, and the same rate, or the same refusal, and never one of each.
abbrev pub MachinesAgree : Type 0
MachinesAgree = SameLeaf × SameRefusal × NeverMixed
