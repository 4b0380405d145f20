-- A function's name: its length between marks, the name, a bracket.
use Prim.Native.Nat.{ℕ, ◌+◌}
use native.Mathlib.Omega.{arith}
use mathlib.Core.Path.{◌≡◌, sym, ap, ◌∙◌}
use mathlib.Core.List.{List, [], ◌∷◌, ◌++◌, append-nil}
use lib.ListN.{length, set, drop_of_length-le}
use Rattle.expression.specs.Places.{Between}
use Rattle.byte_writer.specs.Written.{WroteAt}
use Rattle.byte_writer.specs.Writing.{PutsAt, same}
use Rattle.printing.specs.Marks.{TextFits, marked_number, name_text}
use Rattle.printing.proofs.Sequences.{second_fits, both-written, mark-written}

-- A name stands between its own ends.
whole : (name : List ℕ) → Between name 0 (length name) name
whole name = record {
  bytes = sym (append-nil name) ∙ ap (λ (l : List ℕ). name ++ l) (sym (drop_of_length-le name {i = length name} (omega arith)));
  ends = omega arith;
  within = omega arith;
}

module _ (name : List ℕ) {w : ℕ} {before : List ℕ} (fits : TextFits w (name_text name) before) where
  module _ {v : ℕ} {middle : List ℕ} (put : WroteAt w (marked_number 102 (length name) 58) before middle v)
      (kept : length middle ≡ length before) where
    rest-fits : TextFits v (name ++ (91 ∷ [])) middle
    rest-fits = second_fits (marked_number 102 (length name) 58) (name ++ (91 ∷ [])) fits put kept

    module _ {end : ℕ} {copied : List ℕ} (copy : PutsAt (Between name 0 (length name)) same v middle copied end)
        (long : length copied ≡ length middle) where
      bracket-fits : TextFits end (91 ∷ []) copied
      bracket-fits = second_fits name (91 ∷ []) rest-fits (copy.wrote name (whole name)) long

      pub name-put : WroteAt w (name_text name) before (set copied end 91) (end + 1)
      name-put =
          both-written (marked_number 102 (length name) 58) (name ++ (91 ∷ [])) fits put
          (both-written name (91 ∷ []) rest-fits (copy.wrote name (whole name)) (mark-written 91 bracket-fits))
