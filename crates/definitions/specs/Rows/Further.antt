-- Rows of ours beside 01's ten: which of two matches is taken, what stays, what a refusal keeps, held indexes, And.
use Rattle.std.specs.Prelude.{ℕ, ◌≡◌, true, false, List, [], ◌∷◌, map, length, replicate}
use Rattle.std.proofs.Math.Option.{none}
use Rattle.definitions.specs.Words.Basics.{refused, ascii}
use Rattle.definitions.specs.Words.Expression.{left, right, within, column, and, call, nil, cons, relation, knn}
use Rattle.definitions.specs.Bytes.Encode.{frame_bytes}
use Rattle.definitions.specs.Bytes.NodeTable.{node_table}
use Rattle.definitions.specs.Filter.Extract.{holds}
use Rattle.definitions.specs.Calls.Base.{exchange, extract_by}
use Rattle.definitions.specs.Meaning.Values.{and_value}
use Rattle.definitions.specs.Rows.Ten.{plan_or_refusal, extract_after, exchange_after, extract_of, worked_frame, L, R, on_both, child_l, child_r, pair, knn_of, int32, alone, with_rest}

-- The bytes of the worked run's frame.
abbrev pub worked : List ℕ
worked = frame_bytes worked_frame

pub record FurtherRows : Type 0 where
  -- the first of two matches; of two KNN matches the first, and the second stays
  pub first_taken : extract_of (on_both (and (call (ascii "st_within") (pair L R)) (call (ascii "st_intersects") (pair L R))))
      ≡ with_rest 0 (relation within child_l child_r) (on_both (call (ascii "st_intersects") (pair L R)))
  pub second-stays : extract_of (on_both (and (and (call (ascii "st_intersects") (pair L R)) (knn_of (int32 2))) (knn_of (int32 3))))
      ≡ with_rest 1 (knn 2 0 left 2 child_l child_r) (on_both (and (call (ascii "st_intersects") (pair L R)) (knn_of (int32 3))))
  -- exchange negates the probe side of KNN and swaps nothing
  pub knn-exchanged : plan_or_refusal (exchange_after (extract_after (frame_bytes (on_both (knn_of (int32 2))))))
      ≡ alone (knn 2 0 right 2 child_l child_r)
  -- a refused exchange keeps n and both buffers
  pub exchange-kept : exchange (length worked) worked (replicate 3 0xee)
      ≡ record { answer = refused 9; n = length worked; buffer = worked; scratch = replicate 3 0xee }
  -- extract goes by the matcher that it is given: none matches here
  pub own-matcher : (extract_by (λ records e. none) (length worked) worked (replicate 64 0) (node_table worked_frame)).answer ≡ refused 13
  -- indexes 3 and 5 are held, of a column at the top and of one inside a call; the tags 1 and 2 are not, nor is what lies between
  pub indexes-held : map (holds (and (column 3 1) (call (ascii "f") (cons (column 5 2) nil)))) (1 ∷ 2 ∷ 3 ∷ 4 ∷ 5 ∷ [])
      ≡ false ∷ false ∷ true ∷ false ∷ true ∷ []
  -- And of false, true and unknown with each
  pub and-false : map (and_value 0) (0 ∷ 1 ∷ 2 ∷ []) ≡ 0 ∷ 0 ∷ 0 ∷ []
  pub and-true : map (and_value 1) (0 ∷ 1 ∷ 2 ∷ []) ≡ 0 ∷ 1 ∷ 2 ∷ []
  pub and-unknown : map (and_value 2) (0 ∷ 1 ∷ 2 ∷ []) ≡ 0 ∷ 2 ∷ 2 ∷ []
