-- Fields that are cut off in one of them.
use Prim.Native.Nat.{ℕ, ◌+◌, ◌≤◌, ◌<◌}
use native.Mathlib.Omega.{arith}
use mathlib.Core.Path.{◌≡◌, refl, sym, ap, ◌∙◌}
use mathlib.Core.List.{List}
use mathlib.Core.Logic.{⊎_elim}
use lib.ListN.{length, drop, get_or}
use borrow.Author.Tests.{lt-ltb, le-ltb}
use Rattle.std.proofs.lemmas.Bool.{cases_lt}
use Rattle.definitions.specs.Bytes.Readers.{stopped, Reader, continue, ◌>>=◌, byte_up_to, number}
use Rattle.node_reader.specs.Heads.{CutFieldIs}
use Rattle.node_reader.proofs.FieldBytes.{up-ends, up-out, up-read, short-read}
use Rattle.node_reader.proofs.Numbers.{number-ends}
use Rattle.terms.specs.Refusals.{number_of}
use Rattle.terms.specs.declared.refusals.Refusal.{Refusal}
use Rattle.theorems.proofs.ReaderLaws.{after, halts}

-- Two numbers of two bytes.
pub cut-shorts : {A : Type 0} (s : List ℕ) (at n : ℕ) (next : ℕ → ℕ → Reader A) → length s < at + 4
    → continue (number 2 n (drop at s)) (λ a. number 2 >>= next a) ≡ stopped 3
cut-shorts s at n next short =
    ⊎_elim (λ h. halts _ (number-ends s at 2 n (omega arith)))
    (λ h. after _ (short-read s at (at + 2) n refl h) ∙ halts _ (number-ends s (at + 2) 2 n (omega arith))) (cases_lt (length s) (at + 2))

-- A byte of at most `most`, and fields after it that end there.
pub cut-field : {A : Type 0} (s : List ℕ) (at most n : ℕ) (next : ℕ → Reader A) (why : Refusal) → CutFieldIs s at most why
    → ((a : ℕ) → next a n (drop (at + 1) s) ≡ stopped 3) → continue (byte_up_to most n (drop at s)) next ≡ stopped (number_of why)
cut-field s at most n next why is ends =
    ⊎_elim there gone (cases_lt at (length s))
  where
    gone : length s ≤ at → continue (byte_up_to most n (drop at s)) next ≡ stopped (number_of why)
    gone h =
        let three : number_of why ≡ 3 = is ∙ rw (le-ltb at (length s) h) in
        halts _ (up-ends s at n most h) ∙ ap stopped (sym three)

    there : at < length s → continue (byte_up_to most n (drop at s)) next ≡ stopped (number_of why)
    there h =
        ⊎_elim
        (λ high.
        let four : number_of why ≡ 4 = is ∙ rw (lt-ltb at (length s) h, lt-ltb most (get_or s at 0) high) in
        halts _ (up-out s at n most h high) ∙ ap stopped (sym four))
        (λ low.
        let three : number_of why ≡ 3 = is ∙ rw (lt-ltb at (length s) h, le-ltb most (get_or s at 0) low) in
        after _ (up-read s at n most (at + 1) refl h low) ∙ ends (get_or s at 0) ∙ ap stopped (sym three))
        (cases_lt most (get_or s at 0))
