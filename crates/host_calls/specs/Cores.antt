-- What a call leaves to be done with the table. (Ours.)
use Rattle.std.specs.Prelude.{ℕ, ◌≡◌, List, pos, neg_ℤ, Result, Ok, Err}
use Rattle.definitions.specs.Bytes.Good.{AllBytes}
use Rattle.call_load.specs.Loads.{LoadedIs}
use Rattle.call_merge.specs.Merges.{MergedIs}
use Rattle.terms.specs.Refusals.{number_of}
use Rattle.terms.specs.declared.refusals.Refusal.{Refusal}
use Rattle.call_answers.specs.declared.answers.Loaded as calls
use Rattle.host_calls.specs.declared.cores.HostLoaded.{HostLoaded}

-- ---- a call that leaves the table to be filled

-- What a load or a merge answers, as a host gets it, with what the table is to be filled with: nothing after a refusal. (Ours.)
abbrev pub LeftBy : Result calls.Loaded Refusal → HostLoaded → Type 0
LeftBy (Ok r) left = (left.answer ≡ pos r.length) × (left.root ≡ r.root) × (left.count ≡ r.count)
LeftBy (Err why) left = (left.answer ≡ neg_ℤ (pos (number_of why))) × (left.root ≡ 0) × (left.count ≡ 0)

-- The load is the definition's with every table of so many records, but that the table is left to be filled. (Ours.)
abbrev pub LoadLeft : (frame before after : List ℕ) → (held : ℕ) → HostLoaded → Type 0
LoadLeft frame before after held left =
    AllBytes frame × (r : Result calls.Loaded Refusal) × LoadedIs frame before after held r × LeftBy r left

-- The merge likewise. (Ours.)
abbrev pub MergeLeft : (frame : List ℕ) → (n : ℕ) → (before scratch after kept : List ℕ) → (held : ℕ) → HostLoaded → Type 0
MergeLeft frame n before scratch after kept held left =
    AllBytes frame × AllBytes before × (r : Result calls.Loaded Refusal) × MergedIs frame n before scratch after kept held r × LeftBy r left
