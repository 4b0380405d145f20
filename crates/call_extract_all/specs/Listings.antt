-- All matches of an expression's AND-leaves, and what is written of them.
use Rattle.std.specs.Prelude.{ℕ, ◌+◌, ◌≤◌, ◌≡◌, Bool, List, map, length}
use Rattle.definitions.specs.Words.Limits.{most_records}
use Rattle.std.proofs.Math.Option.{Option, none, some}
use Rattle.definitions.specs.Words.Expression.{Expr, Record, Predicate}
use Rattle.definitions.specs.Words.Leaves.{leaves}
use Rattle.definitions.specs.Bytes.Decode.{index_below}
use Rattle.definitions.specs.Filter.Extract.{is_knn, Matcher}
use Rattle.definitions.specs.Filter.Conjuncts.{positions_from, matching, is_other, match_count}
use Rattle.definitions.specs.Calls.ExtractAll.{picks_bytes}
use Rattle.expression.specs.Nodes.{Stands}
use Rattle.byte_writer.specs.Written.{Wrote, WroteAt}
use Rattle.plan_writer.specs.Tables.{Entries, ChildTable}
use Rattle.leaf_pick.specs.Picks.{matches}
use Rattle.call_extract_all.specs.declared.listing.Tally.{Tally}

-- The bytes of the matches that pass a test, the first leaf having this position.
abbrev pub listed : (Predicate → Bool) → (position : ℕ) → List (Option Predicate) → List ℕ
listed test position ms = picks_bytes (matching test (positions_from position (length ms)) ms)

-- The flag of a leaf: 1 if it matches.
abbrev pub match_flag : Option Predicate → ℕ
match_flag none = 0
match_flag (some p) = 1

-- Records stand in s, and an expression over them.
pub record Listable (s : List ℕ) (rec count at : ℕ) (records : List Record) (t : Expr) : Type 0 where
  pub entries : Entries s rec count records
  pub few : count ≤ most_records
  pub tree : Stands (index_below (length records)) s at t

-- There are such, a table of their child indexes, and room for what is written.
pub record ListFits (match : Matcher) (s : List ℕ) (rec count at position : ℕ) (to knns others gone : List ℕ) : Type 0 where
  pub records : List Record
  pub tree : Expr
  pub frame : Listable s rec count at records tree
  pub wide : most_records ≤ length to
  pub table : ChildTable s rec count to
  pub knn : length (listed is_knn position (matches match records tree)) ≤ length knns
  pub other : length (listed is_other position (matches match records tree)) ≤ length others
  pub flags : position + length (leaves tree) ≤ length gone

-- All matches were written, the KNN ones and the others each to their buffer's start, with a flag for each leaf.
pub record ListIs (position : ℕ) (ms : List (Option Predicate)) (knns knns' others others' gone gone' : List ℕ) (r : Tally) : Type 0 where
  pub counted : r.position ≡ position + length ms
  pub rounds : r.rounds ≡ match_count ms
  pub knn : r.knn ≡ length (listed is_knn position ms)
  pub other : r.other ≡ length (listed is_other position ms)
  pub knn_wrote : Wrote (listed is_knn position ms) knns knns'
  pub other_wrote : Wrote (listed is_other position ms) others others'
  pub flags : WroteAt position (map match_flag ms) gone gone' r.position

abbrev pub ListPut : Matcher → (s : List ℕ) (rec count at position : ℕ) (to knns knns' others others' gone gone' : List ℕ) → Tally → Type 0
ListPut match s rec count at position to knns knns' others others' gone gone' r =
    (records : List Record) (t : Expr) → Listable s rec count at records t
    → ListIs position (matches match records t) knns knns' others others' gone gone' r
