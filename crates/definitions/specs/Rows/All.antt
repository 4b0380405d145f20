-- Request 14 of document 02 by computation: all indexable conjuncts of small frames.
use Rattle.std.specs.Prelude.{ℕ, ◌≡◌, List, [], ◌∷◌, replicate}
use Rattle.std.proofs.Math.Option.{some}
use Rattle.definitions.specs.Words.Basics.{ok, refused, ascii}
use Rattle.definitions.specs.Words.Expression.{left, right, within, intersects, Expr, column, and, call, nil, cons, Frame, relation, knn}
use Rattle.definitions.specs.Bytes.Encode.{frame_bytes}
use Rattle.definitions.specs.Filter.Match.{match_leaf}
use Rattle.definitions.specs.Filter.Exchange.{exchange_frame}
use Rattle.definitions.specs.Filter.Conjuncts.{Conjuncts, no_round, conjuncts_by, exchange_conjuncts}
use Rattle.definitions.specs.Calls.ExtractAll.{conjuncts_bytes, extract_all_by}

-- Three records, and a frame over them.
abbrev pub on_three : Expr → Frame
on_three e = record {
  records =
      record { side = left; child = 3; tag = 7 } ∷ record { side = left; child = 5; tag = 8 } ∷
      record { side = right; child = 4; tag = 9 } ∷ [];
  expr = e;
}

-- A function of the first and the third column.
abbrev pub calls : List ℕ → Expr
calls name = call name (cons (column 0 7) (cons (column 2 9) nil))

-- A relation, a column, KNN, another relation, KNN again.
abbrev pub five_leaves : Frame
five_leaves = on_three
    (and (and (calls (ascii "st_within")) (column 1 8))
    (and (calls (ascii "st_knn")) (and (calls (ascii "st_intersects")) (calls (ascii "st_knn")))))

-- What is taken of it, positions of the first frame; the column is left, over its own record.
abbrev pub five_taken : Conjuncts
five_taken = record {
  taken =
      record { position = 2; predicate = knn 1 0 left 2 (column 3 7) (column 4 9) } ∷
      record { position = 4; predicate = knn 1 0 left 2 (column 3 7) (column 4 9) } ∷
      record { position = 0; predicate = relation within (column 3 7) (column 4 9) } ∷
      record { position = 3; predicate = relation intersects (column 3 7) (column 4 9) } ∷ [];
  rest = some (record { records = record { side = left; child = 5; tag = 8 } ∷ []; expr = column 0 8 });
}

-- Two KNN, and nothing else.
abbrev pub two_knn : Frame
two_knn = on_three (and (calls (ascii "st_knn")) (calls (ascii "st_knn")))

-- No leaf of it matches, and it references one of its three records.
abbrev pub unmatched : Frame
unmatched = on_three (and (column 0 7) (column 0 7))

pub record AllRows : Type 0 where
  -- KNN first, then the others, with positions of the first frame; what is left is pruned
  pub knn-first : conjuncts_by match_leaf five_leaves ≡ five_taken
  -- exchanged
  pub exchanged : conjuncts_by match_leaf (exchange_frame five_leaves) ≡ exchange_conjuncts five_taken
  -- nothing left: two predicates, no `00` between them, then `00`
  pub nothing_left : conjuncts_bytes (conjuncts_by match_leaf two_knn)
      ≡ 0x13 ∷ 0 ∷ 0 ∷ 0 ∷ 0 ∷ 0 ∷ 1 ∷ 0 ∷ 0 ∷ 2 ∷ 0 ∷ 0 ∷ 3 ∷ 0 ∷ 7 ∷ 0 ∷ 0 ∷ 4 ∷ 0 ∷ 9 ∷
      0x13 ∷ 0 ∷ 1 ∷ 0 ∷ 0 ∷ 0 ∷ 1 ∷ 0 ∷ 0 ∷ 2 ∷ 0 ∷ 0 ∷ 3 ∷ 0 ∷ 7 ∷ 0 ∷ 0 ∷ 4 ∷ 0 ∷ 9 ∷ 0 ∷ []
  -- no match: no rounds, and the frame itself, unpruned
  pub no-match : conjuncts_by match_leaf unmatched ≡ no_round (some unmatched)
  -- the call: its rounds, its length, and the bytes after it kept
  pub rounds : (extract_all_by match_leaf (frame_bytes five_leaves) (replicate 128 0xff)).rounds ≡ 4
  pub answer : (extract_all_by match_leaf (frame_bytes five_leaves) (replicate 128 0xff)).answer ≡ ok 81
  pub just-room : (extract_all_by match_leaf (frame_bytes five_leaves) (replicate 81 0xff)).answer ≡ ok 81
  pub too_short : extract_all_by match_leaf (frame_bytes five_leaves) (replicate 80 0xff)
      ≡ record { answer = refused 9; rounds = 0; buffer = replicate 80 0xff }
  pub after_kept : (extract_all_by match_leaf (frame_bytes two_knn) (replicate 43 0xff)).buffer
      ≡ 0x13 ∷ 0 ∷ 0 ∷ 0 ∷ 0 ∷ 0 ∷ 1 ∷ 0 ∷ 0 ∷ 2 ∷ 0 ∷ 0 ∷ 3 ∷ 0 ∷ 7 ∷ 0 ∷ 0 ∷ 4 ∷ 0 ∷ 9 ∷
      0x13 ∷ 0 ∷ 1 ∷ 0 ∷ 0 ∷ 0 ∷ 1 ∷ 0 ∷ 0 ∷ 2 ∷ 0 ∷ 0 ∷ 3 ∷ 0 ∷ 7 ∷ 0 ∷ 0 ∷ 4 ∷ 0 ∷ 9 ∷ 0 ∷ 0xff ∷ 0xff ∷ []
  -- a bad frame, before 9
  pub empty-frame : extract_all_by match_leaf [] [] ≡ record { answer = refused 1; rounds = 0; buffer = [] }
