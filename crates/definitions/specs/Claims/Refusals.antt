-- What is claimed of every call, the requests' too, demand 1: its refusals are its own and no others, and its length is short.
use Rattle.std.specs.Prelude.{ℕ, ◌≤◌, ◌≡◌, List}
use Rattle.definitions.specs.Words.Basics.{ok}
use Rattle.definitions.specs.Words.Limits.{most_bytes}
use Rattle.definitions.specs.Bytes.Good.{AllBytes}
use Rattle.definitions.specs.Bytes.NodeTable.{NodeRecord}
use Rattle.definitions.specs.Calls.Base.{load, extract, exchange}
use Rattle.definitions.specs.Calls.Logical.{logical}
use Rattle.definitions.specs.Calls.Print.{print}
use Rattle.definitions.specs.Calls.Merge.{merge}
use Rattle.definitions.specs.Calls.Project.{project}
use Rattle.definitions.specs.Calls.QueueBytes.{put, serve}
use Rattle.definitions.specs.Lists.Machine.{Kind}
use Rattle.definitions.specs.Lists.Sessions.{make}
use Rattle.definitions.specs.Claims.Calls.{load_refusals, extract_refusals, exchange_refusals, logical_refusals, print_refusals, merge_refusals, project_refusals, put_refusals, serve_refusals, RefusedBy}

-- The length that a call gives is at most 16,384.
abbrev pub LengthsShort : Type 0
LengthsShort =
    ((frame : List ℕ) (n : ℕ) (buffer : List ℕ) (table : List NodeRecord) (m : ℕ) → AllBytes frame
    → (load frame n buffer table).answer ≡ ok m → m ≤ most_bytes)
    × ((kind : Kind) (n : ℕ) (buffer scratch : List ℕ) (table : List NodeRecord) (m : ℕ) → AllBytes buffer
    → (make kind n buffer scratch table).answer ≡ ok m → m ≤ most_bytes)
    × ((n : ℕ) (buffer scratch of_left of_right : List ℕ) (m : ℕ) → AllBytes buffer
    → (project n buffer scratch of_left of_right).answer ≡ ok m → m ≤ most_bytes)

-- Every answer is a value or one of the call's own refusals.
abbrev pub RefusalsOfCalls : Type 0
RefusalsOfCalls =
    ((frame : List ℕ) (n : ℕ) (buffer : List ℕ) (table : List NodeRecord) → RefusedBy load_refusals (load frame n buffer table).answer)
    × ((n : ℕ) (buffer scratch : List ℕ) (table : List NodeRecord) → RefusedBy extract_refusals (extract n buffer scratch table).answer)
    × ((n : ℕ) (buffer scratch : List ℕ) → RefusedBy exchange_refusals (exchange n buffer scratch).answer)
    × ((frame : List ℕ) → RefusedBy logical_refusals (logical frame))
    × ((frame buffer : List ℕ) → RefusedBy print_refusals (print frame buffer).answer)
    × ((frame : List ℕ) (n : ℕ) (buffer scratch : List ℕ) (table : List NodeRecord)
    → RefusedBy merge_refusals (merge frame n buffer scratch table).answer)
    × ((n : ℕ) (buffer scratch of_left of_right : List ℕ) → RefusedBy project_refusals (project n buffer scratch of_left of_right).answer)
    × ((queues : List ℕ) (number : ℕ) (frame : List ℕ) → RefusedBy put_refusals (put queues number frame).answer)
    × ((queues out : List ℕ) → RefusedBy serve_refusals (serve queues out).answer)
