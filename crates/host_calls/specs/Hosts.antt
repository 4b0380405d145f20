-- The calls' answers as C and Rust hosts get them: one whole number. (Ours: 01 and 02 leave open how a host gets an answer.)
use Rattle.std.specs.Prelude.{ℕ, ◌+◌, ◌*◌, ℤ, pos, neg_ℤ}
use Rattle.definitions.specs.Words.Basics.{Result, ok, refused}
use Rattle.definitions.specs.Bytes.Encode.{side_number}
use Rattle.definitions.specs.Calls.Logical.{LogicalAnswer}
use Rattle.definitions.specs.Calls.Queues.{queue_number}
use Rattle.definitions.specs.Calls.QueueBytes.{Served, frame_from, both_empty}

-- A length, or minus the refusal's number. (Ours.)
unfoldable pub hosted : Result ℕ → ℤ
hosted (ok length) = pos length
hosted (refused number) = neg_ℤ (pos number)

-- Extract's, with the walk that it carries (request 10): walk · 65,536 + length, or minus (walk · 256 + the refusal's number). (Ours.)
unfoldable pub hosted_walk : (walk : ℕ) → Result ℕ → ℤ
hosted_walk walk (ok length) = pos (walk * 65536 + length)
hosted_walk walk (refused number) = neg_ℤ (pos (walk * 256 + number))

-- That of the call that extracts all (request 14): rounds · 65,536 + length, or minus the refusal's number. (Ours.)
unfoldable pub hosted_all : (rounds : ℕ) → Result ℕ → ℤ
hosted_all rounds (ok length) = pos (rounds * 65536 + length)
hosted_all rounds (refused number) = neg_ℤ (pos number)

-- The logical call's: mask · 65,536 + names · 256 + side, or minus the refusal's number. (Ours.)
unfoldable pub hosted_names : Result LogicalAnswer → ℤ
hosted_names (ok a) = pos (a.mask * 65536 + a.names * 256 + side_number a.side)
hosted_names (refused number) = neg_ℤ (pos number)

-- A serve's (request 12): queue · 65,536 + length, 0 with both queues empty, or minus the refusal's number. (Ours.)
unfoldable pub hosted_serve : Result Served → ℤ
hosted_serve (ok (frame_from queue length)) = pos (queue_number queue * 65536 + length)
hosted_serve (ok both_empty) = pos 0
hosted_serve (refused number) = neg_ℤ (pos number)
