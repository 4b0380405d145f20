-- The answer, and with extract the walk, that a host reads off the number of a call.
use Rattle.std.specs.Prelude.{ℕ, suc, ◌/◌, ◌%◌, ◌≤◌, ◌<◌, ◌≡◌, List, [], ◌∷◌, ℤ, pos, negsuc}
use Rattle.definitions.specs.Words.Limits.{most_bytes, four_bytes}
use Rattle.definitions.specs.Words.Basics.{Result, ok, refused}
use Rattle.definitions.specs.Calls.Base.{load}
use Rattle.definitions.specs.Lists.Machine.{Kind, extract_call, exchange_call}
use Rattle.definitions.specs.Bytes.Good.{AllBytes}
use Rattle.definitions.specs.Bytes.NodeTable.{NodeRecord}
use Rattle.definitions.specs.Filter.Settings.{Settings}
use Rattle.definitions.specs.Lists.Settings.{make_under}
use Rattle.definitions.specs.Calls.Merge.{merge}
use Rattle.definitions.specs.Calls.Project.{project}
use Rattle.definitions.specs.Lists.History.{Call, loading, making, merging, projecting}
use Rattle.host_calls.specs.Hosts.{hosted, hosted_walk}

-- ---- a number

-- A number that is not below 0 is a length, one below 0 is minus the number of the refusal.
abbrev pub answered : ℤ → Result ℕ
answered (pos length) = ok length
answered (negsuc less) = refused (suc less)

-- Extract's carries a walk besides (request 10): the length is what is left over from 65,536s, the refusal's number from 256s;
abbrev pub walk_answered : ℤ → Result ℕ
walk_answered (pos number) = ok (number % 65536)
walk_answered (negsuc less) = refused (suc less % 256)

-- the walk is how many of them there are.
abbrev pub walk_carried : ℤ → ℕ
walk_carried (pos number) = number / 65536
walk_carried (negsuc less) = suc less / 256

-- The host's n after a call: the length that was answered, else as it was.
abbrev pub next_n : (n : ℕ) → Result ℕ → ℕ
next_n n (ok length) = length
next_n n (refused number) = n

-- ---- by the call

-- The answer that is read off the number of an extract or exchange;
abbrev pub made_answered : Kind → ℤ → Result ℕ
made_answered extract_call z = walk_answered z
made_answered exchange_call z = answered z

-- the walk, of which an exchange has none;
abbrev pub made_carried : Kind → ℤ → ℕ
made_carried extract_call z = walk_carried z
made_carried exchange_call z = 0

-- and the number of a walk and an answer.
abbrev pub made_number : Kind → (walk : ℕ) → Result ℕ → ℤ
made_number extract_call walk a = hosted_walk walk a
made_number exchange_call walk a = hosted a

-- The same of every call: extract alone has a walk.
abbrev pub answered_by : Call → ℤ → Result ℕ
answered_by (loading frame) z = answered z
answered_by (making c) z = made_answered c.kind z
answered_by (merging frame scratch) z = answered z
answered_by (projecting scratch of_left of_right) z = answered z

abbrev pub carried_by : Call → ℤ → ℕ
carried_by (loading frame) z = 0
carried_by (making c) z = made_carried c.kind z
carried_by (merging frame scratch) z = 0
carried_by (projecting scratch of_left of_right) z = 0

abbrev pub number_by : Call → (walk : ℕ) → Result ℕ → ℤ
number_by (loading frame) walk a = hosted a
number_by (making c) walk a = made_number c.kind walk a
number_by (merging frame scratch) walk a = hosted a
number_by (projecting scratch of_left of_right) walk a = hosted a

-- And of a list of calls.
abbrev pub answers_by : List Call → List ℤ → List (Result ℕ)
answers_by [] numbers = []
answers_by (c ∷ calls) [] = []
answers_by (c ∷ calls) (z ∷ numbers) = answered_by c z ∷ answers_by calls numbers

abbrev pub walks_by : List Call → List ℤ → List ℕ
walks_by [] numbers = []
walks_by (c ∷ calls) [] = []
walks_by (c ∷ calls) (z ∷ numbers) = carried_by c z ∷ walks_by calls numbers

abbrev pub numbers_by : List Call → (walks : List ℕ) → (answers : List (Result ℕ)) → List ℤ
numbers_by [] walks answers = []
numbers_by (c ∷ calls) [] answers = []
numbers_by (c ∷ calls) (walk ∷ walks) [] = []
numbers_by (c ∷ calls) (walk ∷ walks) (a ∷ answers) = number_by c walk a ∷ numbers_by calls walks answers

-- ---- what is claimed of them

-- What a call on a plan may answer: a length of at most 16,384, or one of the refusals 1 to 24.
abbrev pub IsAnswer : Result ℕ → Type 0
IsAnswer (ok length) = length ≤ most_bytes
IsAnswer (refused number) = (1 ≤ number) × (number ≤ 24)

-- From the number of such an answer the answer is known: it is a length or a refusal, never both.
abbrev pub AnswerKnown : Type 0
AnswerKnown = (a : Result ℕ) → IsAnswer a → answered (hosted a) ≡ a

-- So two such answers with the same number are the same.
abbrev pub NumbersApart : Type 0
NumbersApart = (a b : Result ℕ) → IsAnswer a → IsAnswer b → hosted a ≡ hosted b → a ≡ b

-- From extract's number the answer and the walk are known, whatever the walk is.
abbrev pub WalkKnown : Type 0
WalkKnown =
    (walk : ℕ) (a : Result ℕ) → IsAnswer a → (walk_answered (hosted_walk walk a) ≡ a) × (walk_carried (hosted_walk walk a) ≡ walk)

-- So two such answers and their walks with the same number are the same.
abbrev pub WalkNumbersApart : Type 0
WalkNumbersApart =
    (walk walk' : ℕ) (a b : Result ℕ) → IsAnswer a → IsAnswer b → hosted_walk walk a ≡ hosted_walk walk' b → (walk ≡ walk') × (a ≡ b)

-- An extract that carries 0 has the number that its answer has alone.
abbrev pub WithoutWalk : Type 0
WithoutWalk = (a : Result ℕ) → hosted_walk 0 a ≡ hosted a

-- The numbers of settings are of 32 bits.
abbrev pub SettingsFit : Settings → Type 0
SettingsFit S = S.greatest_k < four_bytes

-- Every call's answer is such a one, whatever the settings.
abbrev pub AnswersOfCalls : Type 0
AnswersOfCalls =
    ((frame : List ℕ) (n : ℕ) (plan : List ℕ) (table : List NodeRecord) → AllBytes frame → IsAnswer (load frame n plan table).answer)
    × ((S : Settings) → SettingsFit S → (kind : Kind) (n : ℕ) (plan scratch : List ℕ) (table : List NodeRecord) → AllBytes plan
    → IsAnswer (make_under S kind n plan scratch table).answer)
    × ((frame : List ℕ) (n : ℕ) (plan scratch : List ℕ) (table : List NodeRecord) → IsAnswer (merge frame n plan scratch table).answer)
    × ((n : ℕ) (plan scratch of_left of_right : List ℕ) → AllBytes plan → IsAnswer (project n plan scratch of_left of_right).answer)
