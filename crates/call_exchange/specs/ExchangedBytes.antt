-- The bytes of what is exchanged.
use Rattle.std.specs.Prelude.{ℕ, List, map}
use Rattle.std.proofs.Math.Option
use Rattle.std.proofs.Math.Option.{Option}
use Rattle.definitions.specs.Words.Expression.{Record, Frame, Extraction}
use Rattle.definitions.specs.Bytes.Encode.{records_bytes, frame_bytes, remainder_bytes, extraction_bytes}
use Rattle.definitions.specs.Filter.Exchange.{exchange_record, exchange_frame, exchange_extraction}

abbrev pub records_exchanged : List Record → List ℕ
records_exchanged records = records_bytes (map exchange_record records)

abbrev pub frame_exchanged : Frame → List ℕ
frame_exchanged F = frame_bytes (exchange_frame F)

abbrev pub remainder_exchanged : Option Frame → List ℕ
remainder_exchanged R = remainder_bytes (Option.map exchange_frame R)

abbrev pub extraction_exchanged : Extraction → List ℕ
extraction_exchanged X = extraction_bytes (exchange_extraction X)
