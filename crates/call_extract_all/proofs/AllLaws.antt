-- A good frame for the writers of its conjuncts, and their parts together.
use Rattle.std.specs.Prelude.{if◌then◌else◌}
use Prim.Native.Nat.{ℕ, ◌+◌, ◌*◌, ◌≤◌}
use native.Mathlib.Omega.{arith}
use mathlib.Core.Path.{◌≡◌, refl, sym, ap, ap₂, ◌∙◌, subst}
use mathlib.Core.Bool.{Bool, true, false}
use mathlib.Core.List.{List, [], ◌∷◌, ◌++◌, map, append_assoc, append-nil}
use mathlib.Core.Option
use mathlib.Core.Option.{Option, none, some}
use lib.ListN.{length, take, drop, length-append, length-map}
use lib.Seq.{take_all}
use Rattle.definitions.specs.Words.Basics.{any}
use Rattle.definitions.specs.Words.Expression as tree
use Rattle.definitions.specs.Words.Expression.{Expr, Predicate}
use Rattle.definitions.specs.Bytes.Encode.{expr_bytes, frame_bytes, remainder_bytes, plan_bytes}
use Rattle.definitions.specs.Words.Leaves.{leaves}
use Rattle.definitions.specs.Bytes.Decode.{index_below}
use Rattle.definitions.specs.Filter.Extract.{is_knn, prune, Matcher, matches_by, is_match}
use Rattle.definitions.specs.Meaning.Values.{Meaning}
use Rattle.definitions.specs.Bytes.Good.{plan_nodes}
use Rattle.definitions.specs.Claims.All.{TakesAll}
use Rattle.definitions.specs.Filter.Conjuncts.{positions_from, matching, is_other, match_count, without_all, last_remainder}
use Rattle.definitions.specs.Calls.ExtractAll.{picks_bytes}
use Rattle.theorems.proofs.ExchangeGood.{frame-length}
use Rattle.theorems.proofs.Pick.{leaves-nodes}
use Rattle.filter_tree.proofs.NodeBytes.{nodes-by-bytes}
use Rattle.expression.specs.Places.{Holds}
use Rattle.expression.specs.Nodes.{Stands}
use Rattle.byte_writer.specs.Written.{Wrote}
use Rattle.byte_writer.proofs.Written.{taken, behind, together, behind-length, together-length, then-wrote, from_start, copied-wrote, standing}
use Rattle.frame_reader.specs.declared.frame_bodies.Frame.{Frame}
use Rattle.frame_reader.proofs.Standing.{between-holds, expr-stands}
use Rattle.plan_writer.specs.Tables.{Entries, ChildTable}
use Rattle.leaf_pick.specs.Picks.{matches}
use Rattle.remainder.specs.Rests.{flag_of}
use Rattle.remainder.specs.Pruned.{Prunable}
use Rattle.remainder.specs.Last.{last_bytes, Left, LastFits, LastPut}
use Rattle.call_extract_all.specs.Listings.{listed, match_flag, Listable, ListFits, ListIs}
use Rattle.call_extract_all.specs.declared.listing.Tally.{Tally}
use Rattle.call_extract_all.specs.Conjuncts.{GoodAt, FlaggedLeaves, last_left_bytes, LeftFits, LeftPut, all_bytes, AllIs, Memory}

-- ---- flags and their number

abbrev goes_of : Matcher → tree.Frame → Expr → Bool
goes_of match F leaf = is_match (match F.records leaf)

flag_same : (m : Option Predicate) → match_flag m ≡ flag_of (is_match m)
unfolding is_match
flag_same none = refl
flag_same (some p) = refl

flags-same : (match : Expr → Option Predicate) (es : List Expr)
    → map match_flag (map match es) ≡ map (λ leaf. flag_of (is_match (match leaf))) es
flags-same match [] = refl
flags-same match (e ∷ es) = ap₂ ◌∷◌ (flag_same (match e)) (flags-same match es)

none-match : (ms : List (Option Predicate)) → match_count ms ≡ 0 → any is_match ms ≡ false
unfolding match_count any is_match
none-match [] e = refl
none-match (none ∷ ms) e = none-match ms e
none-match (some p ∷ ms) e = absurd (omega arith)

some-match : (ms : List (Option Predicate)) → (match_count ms ≡ 0 → ⊥) → any is_match ms ≡ true
unfolding match_count any is_match
some-match [] n = absurd (n refl)
some-match (none ∷ ms) n = some-match ms n
some-match (some p ∷ ms) n = refl

-- ---- a good frame

abbrev matched : Matcher → tree.Frame → List (Option Predicate)
matched match F = matches match F.records F.expr

abbrev without : Matcher → tree.Frame → Option tree.Frame
without match F = Option.map (prune F.records) (without_all (goes_of match F) F.expr)

by-count : (match : Matcher) (F : tree.Frame) (b : Bool) → any is_match (matched match F) ≡ b
    → last_left_bytes match F ≡ remainder_bytes (if b then without match F else some F)
unfolding last_remainder matches_by
by-count match F b e = ap (λ (x : Bool). remainder_bytes (if x then without match F else some F)) e

whole-bytes : (F : tree.Frame) → remainder_bytes (some F) ≡ frame_bytes F
unfolding remainder_bytes
whole-bytes F = refl

module _ {s : List ℕ} {f : Frame} {F : tree.Frame} (g : GoodAt s f F) where
  pub entries : Entries s f.records f.columns F.records
  entries = record {
    bytes = between-holds g.stands.records;
    in_range = g.good.readable.records_in_range;
    counted = sym g.stands.counted;
  }

  pub few : f.columns ≤ 256
  few = omega (arith, g.good.readable.few, g.stands.counted)

  pub listable : Listable s f.records f.columns f.root F.records F.expr
  listable = record { entries = entries; few = few; tree = expr-stands g.stands.expr }

  prunable : Prunable s f.records f.columns s f.root F.records F.expr
  prunable = record {
    entries = entries;
    few = few;
    tree = subst (λ (k : ℕ). Stands (index_below k) s f.root F.expr) (sym g.stands.counted) (expr-stands g.stands.expr);
  }

  -- It has at most 16,384 bytes and 1,024 AND-leaves.
  pub few-bytes : length (frame_bytes F) ≤ 16384
  unfolding plan_bytes
  few-bytes = g.good.few_bytes

  short : length (expr_bytes F.expr) ≤ length s
  short = omega (arith, ap length g.bytes, frame-length F)

  few-leaves : (length (leaves F.expr) ≤ 1024) × (3 * length (leaves F.expr) ≤ length s)
  unfolding plan_nodes
  few-leaves =
      let nodes = leaves-nodes F.expr in
      (omega (arith, nodes, g.good.few_nodes), omega (arith, nodes, nodes-by-bytes _ F.expr (expr-stands g.stands.expr).in_range, short))

  -- So the memory that it is given is enough.
  pub row-long : {row gone : List ℕ} → Memory s row gone → length s ≤ length row
  row-long memory = omega (arith, memory.long, ap length g.bytes, few-bytes)

  -- ---- the last remainder

  module _ {match : Matcher} {gone : List ℕ} {rounds : ℕ} (told : FlaggedLeaves match gone rounds F) where
    left : Left s f.records f.columns s f.root gone (goes_of match F) F.records F.expr
    left = record {
      frame = prunable;
      counted = told.counted;
      flags = subst (Holds gone 0) (flags-same (match F.records) (leaves F.expr)) told.flags;
    }

    -- Without a match it is the frame.
    pub whole-left : rounds ≡ 0 → last_left_bytes match F ≡ s
    whole-left e = by-count match F false (none-match (matched match F) (sym told.matching ∙ e)) ∙ whole-bytes F ∙ sym g.bytes

    pub some_left : (rounds ≡ 0 → ⊥) → last_left_bytes match F ≡ last_bytes (goes_of match F) F.records F.expr
    some_left n = by-count match F true (some-match (matched match F) (λ e. n (told.matching ∙ e)))

    pub whole-put : (before after : List ℕ) → rounds ≡ 0 → after ≡ take (length s) (drop 0 s) ++ drop (length s) before
        → (length s ≡ length (last_left_bytes match F)) × Wrote (last_left_bytes match F) before after
    whole-put before after e is =
        subst (λ (x : List ℕ). (length s ≡ length x) × Wrote x before after) (sym (whole-left e))
        (refl, is ∙ ap (λ (l : List ℕ). l ++ drop (length s) before) (take_all (length s) s (omega arith)))

    pub last_fits : {row out : List ℕ} → (rounds ≡ 0 → ⊥) → length s ≤ length row → length (last_left_bytes match F) ≤ length out
        → LastFits s f.records f.columns s f.root gone row out
    last_fits n long room = record {
      goes = goes_of match F;
      records = F.records;
      tree = F.expr;
      left = left;
      short = omega (arith, short);
      room = omega (arith, ap length (some_left n));
    }

    pub last-put : (before after : List ℕ) (r : ℕ) → (rounds ≡ 0 → ⊥)
        → LastPut s f.records f.columns s f.root gone before after r
        → (r ≡ length (last_left_bytes match F)) × Wrote (last_left_bytes match F) before after
    last-put before after r n put =
        subst (λ (x : List ℕ). (r ≡ length x) × Wrote x before after) (sym (some_left n)) (put (goes_of match F) F.records F.expr left)

  -- ---- the parts, with a matcher

  module _ {match : Matcher} {Asks : Meaning → Type 0} (all-taken : TakesAll match Asks) where
    as-many : length (matched match F) ≡ length (leaves F.expr)
    as-many = length-map (leaves F.expr) (match F.records)

    abbrev knns : List ℕ
    knns = listed is_knn 0 (matched match F)

    abbrev others : List ℕ
    others = listed is_other 0 (matched match F)

    parts : all_bytes match F ≡ knns ++ (others ++ last_left_bytes match F)
    unfolding matches_by
    parts =
        all-taken.written F g.good
        ∙ ap (λ (n : ℕ). picks_bytes (matching is_knn (positions_from 0 n) (matched match F))
        ++ (picks_bytes (matching is_other (positions_from 0 n) (matched match F)) ++ last_left_bytes match F)) (sym as-many)

    sizes : length (all_bytes match F) ≡ length knns + (length others + length (last_left_bytes match F))
    sizes = ap length parts ∙ length-append knns (others ++ last_left_bytes match F)
        ∙ ap (λ (n : ℕ). length knns + n) (length-append others (last_left_bytes match F))

    -- All conjuncts take no more bytes than the frame.
    pub never-longer : length (all_bytes match F) ≤ length s
    never-longer = omega (arith, all-taken.short F g.good, ap length g.bytes)

    -- The walk over the AND-leaves: the memory is enough for it.
    pub list-fits : {to out row flags : List ℕ} → 256 ≤ length to → ChildTable s f.records f.columns to
        → length (all_bytes match F) ≤ length out → Memory s row flags
        → ListFits match s f.records f.columns f.root 0 to out row flags
    list-fits wide table room memory = record {
      records = F.records;
      tree = F.expr;
      frame = listable;
      wide = wide;
      table = table;
      knn = omega (arith, sizes);
      other = omega (arith, sizes, never-longer, row-long memory);
      flags = omega (arith, few-leaves.0, few-leaves.1, memory.flags);
    }

    -- What it wrote, and the others copied behind the KNN matches.
    module _ {out middle row turned flags flagged : List ℕ} {r : Tally}
        (is : ListIs 0 (matched match F) out middle row turned flags flagged r)
        (same : length middle ≡ length out) (alike : length turned ≡ length row) (kept : length flagged ≡ length flags) where
      others-there : Holds turned 0 others
      others-there = standing (omega arith) (from_start others row is.other_wrote r.other is.other)

      abbrev leaf_flags : List ℕ
      leaf_flags = map match_flag (matched match F)

      -- The flags are those of the AND-leaves, and no others.
      flags-are : take r.position flagged ≡ leaf_flags
      flags-are =
          ap (λ (k : ℕ). take k flagged) (omega (arith, is.counted, length-map (matched match F) match_flag))
          ∙ taken (standing (omega arith) is.flags)

      abbrev leaves_gone : List ℕ
      leaves_gone = take r.position flagged

      pub told-after : FlaggedLeaves match leaves_gone r.rounds F
      told-after =
          let all : FlaggedLeaves match leaf_flags r.rounds F = record {
            counted = omega (arith, as-many, length-map (matched match F) match_flag);
            matching = is.rounds;
            flags = record { rest = []; bytes = sym (append-nil leaf_flags); within = omega arith };
          } in
          subst (λ (l : List ℕ). FlaggedLeaves match l r.rounds F) (sym flags-are) all

      module _ (room : length (all_bytes match F) ≤ length out) (big : length s ≤ length row) where
        pub copy-fits : (r.knn ≤ length middle) × (r.other ≤ length turned) × (r.other ≤ length (behind r.knn middle))
        copy-fits = (
          omega (arith, sizes, is.knn),
          omega (arith, sizes, is.other, never-longer),
          omega (arith, sizes, is.knn, is.other, behind-length r.knn middle),
        )

      module _ (part : List ℕ) (copied : part ≡ take r.other (drop 0 turned) ++ drop r.other (behind r.knn middle)) where
        abbrev w : ℕ
        w = r.knn + r.other

        abbrev listing : List ℕ
        listing = together r.knn middle part

        both-wrote : Wrote (knns ++ others) out listing
        both-wrote =
            then-wrote knns others out middle part r.knn is.knn is.knn_wrote
            (copied-wrote (behind r.knn middle) r.other others-there is.other copied)

        both-size : w ≡ length (knns ++ others)
        both-size = omega (arith, is.knn, is.other, length-append knns others)

        -- The last remainder behind both.
        module _ (room : length (all_bytes match F) ≤ length out) (big : length s ≤ length row)
            (long : length part ≡ length (behind r.knn middle))
          where
            listing-length : length listing ≡ length out
            listing-length = together-length r.knn middle part (copy-fits room big).0 long ∙ same

            pub rest-starts : w ≤ length listing
            rest-starts = omega (arith, sizes, is.knn, is.other, listing-length)

            pub left-fits : LeftFits s f leaves_gone r.rounds turned (behind w listing)
            left-fits = record {
              match = match;
              frame = F;
              at = g;
              told = told-after;
              long = omega (arith, alike);
              room = omega (arith, sizes, is.knn, is.other, listing-length, behind-length w listing);
            }

        module _ (end : List ℕ) (m : ℕ) (put : LeftPut s f leaves_gone r.rounds (behind w listing) end m) where
          pub ends : w + m ≡ length (all_bytes match F)
          ends = omega (arith, sizes, is.knn, is.other, (put match F g told-after).0)

          pub all-is : AllIs match F out (together w listing end) (record { rounds = r.rounds; length = w + m })
          unfolding matches_by
          all-is = record {
            rounds = is.rounds ∙ sym (all-taken.how_many F g.good).0;
            size = ends;
            wrote =
                subst (λ (x : List ℕ). Wrote x out (together w listing end))
                (append_assoc knns others (last_left_bytes match F) ∙ sym parts)
                (then-wrote (knns ++ others) (last_left_bytes match F) out listing end w both-size both-wrote (put match F g told-after).1);
          }
