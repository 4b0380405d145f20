-- What was listed of some matches, and behind it of others.
use Prim.Native.Nat.{ℕ, ◌+◌, ◌≤◌}
use native.Mathlib.Omega.{arith}
use mathlib.Core.Path.{sym, ap, subst}
use mathlib.Core.List.{List, ◌++◌, map-append}
use mathlib.Core.Option.{Option}
use lib.ListN.{length, length-append}
use Rattle.definitions.specs.Words.Expression.{Predicate}
use Rattle.definitions.specs.Filter.Extract.{is_knn}
use Rattle.definitions.specs.Filter.Conjuncts.{is_other}
use Rattle.theorems.proofs.AllParts.{bytes-append, count-append}
use Rattle.byte_writer.specs.Written.{Wrote, WroteAt}
use Rattle.byte_writer.proofs.Written.{behind, together, then-wrote, chain}
use Rattle.call_extract_all.specs.Listings.{listed, match_flag, ListIs}
use Rattle.call_extract_all.specs.declared.listing.Tally.{Tally}

-- Both are listed.
pub both-listed : (position : ℕ) (ms ns : List (Option Predicate)) (knns middle part others turned piece gone flagged after : List ℕ)
    (a b : Tally)
    → position ≤ length gone
    → ListIs position ms knns middle others turned gone flagged a
    → ListIs a.position ns (behind a.knn middle) part (behind a.other turned) piece flagged after b
    → ListIs position (ms ++ ns) knns (together a.knn middle part) others (together a.other turned piece) gone after
    (record { position = b.position; knn = a.knn + b.knn; other = a.other + b.other; rounds = a.rounds + b.rounds })
both-listed position ms ns knns middle part others turned piece gone flagged after a b room one two =
    let knn = bytes-append is_knn position a.position ms ns one.counted in
    let other = bytes-append is_other position a.position ms ns one.counted in
    record {
      counted = omega (arith, one.counted, two.counted, length-append ms ns);
      rounds = omega (arith, one.rounds, two.rounds, count-append ms ns);
      knn = omega (arith, one.knn, two.knn, ap length knn, length-append (listed is_knn position ms) (listed is_knn a.position ns));
      other =
          omega (
            arith,
            one.other,
            two.other,
            ap length other,
            length-append (listed is_other position ms)
                (listed is_other a.position ns),
          );
      knn_wrote = subst (λ (x : List ℕ). Wrote x knns (together a.knn middle part)) (sym knn)
          (then-wrote (listed is_knn position ms) (listed is_knn a.position ns) knns middle part a.knn one.knn one.knn_wrote
          two.knn_wrote);
      other_wrote = subst (λ (x : List ℕ). Wrote x others (together a.other turned piece)) (sym other)
          (then-wrote (listed is_other position ms) (listed is_other a.position ns) others turned piece a.other one.other
          one.other_wrote two.other_wrote);
      flags = subst (λ (x : List ℕ). WroteAt position x gone after b.position) (sym (map-append match_flag ms ns))
          (chain room one.flags two.flags);
    }
