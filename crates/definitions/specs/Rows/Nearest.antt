-- Request 5 of document 02 by computation: a k of 0 is no k, in a filter and in a held extraction.
use Rattle.std.specs.Prelude.{ℕ, ◌≡◌, List, [], ◌∷◌, map, replicate}
use Rattle.std.proofs.Math.Option.{none}
use Rattle.definitions.specs.Words.Basics.{ok, refused, ascii}
use Rattle.definitions.specs.Words.Expression.{left, intersects, Expr, literal, and, call, cons, nil, relation, knn, Extraction, extracted}
use Rattle.definitions.specs.Bytes.Encode.{extraction_bytes, frame_bytes}
use Rattle.definitions.specs.Bytes.Plans.{plan_of}
use Rattle.definitions.specs.Bytes.Good.{GoodPlan}
use Rattle.definitions.specs.Calls.Base.{extract, exchange}
use Rattle.definitions.specs.Calls.Merge.{merge}
use Rattle.definitions.specs.Rows.Ten.{extract_of, worked_frame, L, R, on_both, child_l, child_r, pair, knn_of, int32, alone, with_rest}

-- `st_knn` of both columns, this k and both flags, which are true.
abbrev pub knn_flagged : Expr → Expr
knn_flagged k = call (ascii "st_knn") (cons L (cons R (cons k (cons (literal 1 1) (cons (literal 1 1) nil)))))

-- A KNN with this k, without remainder.
abbrev pub nearest : (k : ℕ) → Extraction
nearest k = record { position = 0; predicate = knn k 0 left 2 child_l child_r; remainder = none }

-- Its bytes: 21.
abbrev pub held_knn : (k : ℕ) → List ℕ
held_knn k = extraction_bytes (nearest k)

pub record NearestRows : Type 0 where
  -- 0 of each type of whole numbers does not match, with flags or without; nor does −1
  pub zero-of-each : map (λ type. extract_of (on_both (knn_of (literal type 0)))) (2 ∷ 3 ∷ 4 ∷ 5 ∷ []) ≡ replicate 4 (refused 13)
  pub zero-flagged : extract_of (on_both (knn_flagged (int32 0))) ≡ refused 13
  pub minus_one : extract_of (on_both (knn_of (int32 18446744073709551615))) ≡ refused 13
  pub one-flagged : extract_of (on_both (knn_flagged (int32 1))) ≡ alone (knn 1 1 left 1 child_l child_r)
  -- a k that is missing is 1
  pub missing : extract_of (on_both (call (ascii "st_knn") (pair L R))) ≡ alone (knn 1 0 left 2 child_l child_r)
  -- the call stays in the remainder: a relation is taken, or a later KNN
  pub relation-taken : extract_of (on_both (and (knn_of (int32 0)) (call (ascii "st_intersects") (pair L R))))
      ≡ with_rest 1 (relation intersects child_l child_r) (on_both (knn_of (int32 0)))
  pub later-taken : extract_of (on_both (and (knn_of (int32 0)) (knn_of (int32 2))))
      ≡ with_rest 1 (knn 2 0 left 2 child_l child_r) (on_both (knn_of (int32 0)))
  -- a held extraction with k 0 is no plan: 10 before 12
  pub held_one : (exchange 21 (held_knn 1) (replicate 21 0)).answer ≡ ok 21
  pub held-zero : (exchange 21 (held_knn 0) (replicate 21 0)).answer ≡ refused 10
  pub held-extract : (extract 21 (held_knn 0) (replicate 21 0) []).answer ≡ refused 10
  pub held-merge : (merge (frame_bytes worked_frame) 21 (held_knn 0) (replicate 21 0) []).answer ≡ refused 10
  -- and is not good
  pub zero-not-good : GoodPlan (extracted (nearest 0)) → ⊥
  -- the reader's refusal is 4, a field out of its range
  pub read-zero : plan_of (held_knn 0) ≡ refused 4
