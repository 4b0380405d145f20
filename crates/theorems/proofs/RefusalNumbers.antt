-- Each reader refuses with its own numbers only, and a sequence with those of its steps; so each call does.
use Rattle.std.specs.Prelude.{if◌then◌else◌}
use Prim.Native.Nat.{ℕ, zero, suc, ◌≤◌}
use mathlib.Core.Path.{◌≡◌, refl}
use mathlib.Core.Bool.{Bool, true, false, ◌&&◌}
use mathlib.Core.List.{List, [], ◌∷◌}
use mathlib.Core.Option.{Option, none, some}
use lib.ListN.{length}
use lib.Dec.{leb, ltb, eqb}
use borrow.Author.Tests.{le-leb}
use Rattle.definitions.specs.Words.Basics.{Result, ok, refused, map_result, any}
use Rattle.definitions.specs.Words.Expression.{Frame, Extraction, Plan, empty, held, extracted}
use Rattle.definitions.specs.Bytes.Encode.{frame_bytes}
use Rattle.definitions.specs.Words.Literals.{literal_in_range}
use Rattle.definitions.specs.Words.Leaves.{arity}
use Rattle.definitions.specs.Filter.Extract.{Matcher, extraction_by}
use Rattle.definitions.specs.Bytes.Readers.{Read, read, stopped, Reader, continue, require, first_byte, byte_up_to, byte_between, number_after, number, repeat, require_length, none_left, at_end, result_of}
use Rattle.definitions.specs.Bytes.Decode.{Columns, index_below, fields, allowed_kind, column_node, field_node, literal_node, binary_node, repeat_exprs, call_node, other_node, any_column, node_of_kind, count_node, node_kind, node, expression, side_up_to, one_record, record_count, frame_body}
use Rattle.definitions.specs.Bytes.Plans.{physical_frame, logical_frame, frame_of, logical_of}
use Rattle.definitions.specs.Calls.Base.{tabled, new_after_load, finish_load, load, Outcome, finish, held_plan, new_after_exchange, exchange, matched_bytes, new_after_extract_by, extract_by}
use Rattle.definitions.specs.Bytes.Good.{nodes}
use Rattle.definitions.specs.Bytes.NodeTable.{NodeRecord}
use Rattle.definitions.specs.Calls.Logical.{logical_answer, logical}
use Rattle.definitions.specs.Bytes.Printed.{printed}
use Rattle.definitions.specs.Calls.Print.{text_of, finish_print, print}
use Rattle.definitions.specs.Filter.Merge.{merge_frames, over_limits}
use Rattle.definitions.specs.Calls.Merge.{merged_frame, new_after_merge, with_table, merge}
use Rattle.definitions.specs.Filter.Project.{ChildLists, projection}
use Rattle.definitions.specs.Calls.Project.{short_lists, projected_bytes, new_after_project, project}
use Rattle.definitions.specs.Filter.Conjuncts.{Conjuncts, conjuncts_by}
use Rattle.definitions.specs.Calls.ExtractAll.{conjuncts_bytes, AllOutcome, new_conjuncts, finish_all, extract_all_by}
use Rattle.definitions.specs.Filter.Settings.{Settings, good_settings, match_under}
use Rattle.definitions.specs.Calls.Settings.{extract_under, extract_all_under}
use Rattle.definitions.specs.Claims.Calls.{settled_refusals, all_refusals, load_refusals, extract_refusals, exchange_refusals, logical_refusals, print_refusals, merge_refusals, project_refusals, RefusedBy}
use Rattle.theorems.proofs.Tools.{by-test}
use Rattle.theorems.proofs.Changes.{extract-writes}

-- ---- readers

module _ (P : ℕ → Type 0) where
  -- A reader that stops does so with a number that has the property.
  abbrev Stops : {A : Type 0} → Read A → Type 0
  Stops (read a n s) = Unit {0}
  Stops (stopped number) = P number

  abbrev Only : {A : Type 0} → Reader A → Type 0
  Only r = (n : ℕ) (s : List ℕ) → Stops (r n s)

  then-only : {A B : Type 0} (r : Read A) (next : A → Reader B) → Stops r → ((a : A) → Only (next a)) → Stops (continue r next)
  then-only (read a n s) next h k = k a n s
  then-only (stopped number) next h k = h

  require-only : (number : ℕ) (b : Bool) → P number → Only (require number b)
  require-only number true p n s = tt
  require-only number false p n s = p

  require-then : {B : Type 0} (number : ℕ) (b : Bool) (next : Reader B) → P number → Only next → (n : ℕ) (s : List ℕ)
      → Stops (continue (require number b n s) (λ _. next))
  require-then number true next p h n s = h n s
  require-then number false next p h n s = p

  module _ (p3 : P 3) (p4 : P 4) (p5 : P 5) where
    byte-only : Only first_byte
    byte-only n [] = p3
    byte-only n (b ∷ s) = tt

    -- A byte under a test.
    tested-only : (test : ℕ → Bool) (n : ℕ) (s : List ℕ)
        → Stops (continue (first_byte n s) (λ b n s. continue (require 4 (test b) n s) (λ _ n s. read b n s)))
    tested-only test n s = then-only (first_byte n s) _ (byte-only n s) (λ b n s. require-then 4 (test b) _ p4 (λ n s. tt) n s)

    up-to-only : (most : ℕ) → Only (byte_up_to most)
    unfolding byte_up_to
    up-to-only most = tested-only (λ b. leb b most)

    between-only : (least most : ℕ) → Only (byte_between least most)
    unfolding byte_between
    between-only least most = tested-only (λ b. leb least b && leb b most)

    digits-only : (width high : ℕ) → Only (number_after high width)
    unfolding number_after
    digits-only zero high n s = tt
    digits-only (suc w) high n s = then-only (first_byte n s) _ (byte-only n s) (λ b. digits-only w _)

    number-only : (width : ℕ) → Only (number width)
    unfolding number
    number-only width = digits-only width 0

    repeat-only : {A : Type 0} (one : Reader A) → Only one → (times : ℕ) → Only (repeat times one)
    unfolding repeat
    repeat-only one h zero n s = tt
    repeat-only one h (suc k) n s =
        then-only (one n s) _ (h n s) (λ a n s. then-only (repeat k one n s) _ (repeat-only one h k n s) (λ others n s. tt))

    -- ---- nodes

    -- 6 is a physical column's.
    abbrev ColumnsOnly : Columns → Type 0
    ColumnsOnly (index_below bound) = P 6
    ColumnsOnly fields = Unit {0}

    column-only : (c : Columns) → ColumnsOnly c → Only (any_column c)
    unfolding any_column column_node field_node
    column-only (index_below bound) p6 n s =
        then-only (number 2 n s) _ (number-only 2 n s) (λ index n s.
        then-only (number 2 n s) _ (number-only 2 n s) (λ tag n s.
        require-then 6 (ltb index bound) _ p6 (λ n s. tt) n s))
    column-only fields h n s =
        then-only (byte_up_to 3 n s) _ (up-to-only 3 n s) (λ bits n s. then-only (number 2 n s) _ (number-only 2 n s) (λ tag n s. tt))

    literal-only : Only literal_node
    unfolding literal_node
    literal-only n s =
        then-only (byte_up_to 6 n s) _ (up-to-only 6 n s) (λ type n s.
        then-only (number 8 n s) _ (number-only 8 n s) (λ bytes n s.
        require-then 4 (literal_in_range type bytes) _ p4 (λ n s. tt) n s))

    repeat-exprs-only : (child : Reader _) → Only child → (times : ℕ) → Only (repeat_exprs times child)
    unfolding repeat_exprs
    repeat-exprs-only child h zero n s = tt
    repeat-exprs-only child h (suc k) n s =
        then-only (child n s) _ (h n s) (λ e n s. then-only (repeat_exprs k child n s) _ (repeat-exprs-only child h k n s) (λ es n s. tt))

    binary-only : (child : Reader _) → Only child → Only (binary_node child)
    unfolding binary_node
    binary-only child h n s =
        then-only (byte_up_to 63 n s) _ (up-to-only 63 n s) (λ operator n s.
        then-only (child n s) _ (h n s) (λ l n s. then-only (child n s) _ (h n s) (λ r n s. tt)))

    call-only : (child : Reader _) → Only child → Only (call_node child)
    unfolding call_node
    call-only child h n s =
        then-only (byte_between 1 32 n s) _ (between-only 1 32 n s) (λ size n s.
        then-only (repeat size (byte_between 33 126) n s) _ (repeat-only (byte_between 33 126) (between-only 33 126) size n s) (λ name n s.
        then-only (byte_up_to 16 n s) _ (up-to-only 16 n s) (λ arguments n s.
        then-only (repeat_exprs arguments child n s) _ (repeat-exprs-only child h arguments n s) (λ es n s. tt))))

    other-only : (child : Reader _) → Only child → Only (other_node child)
    unfolding other_node
    other-only child h n s =
        then-only (number 2 n s) _ (number-only 2 n s) (λ tag n s.
        then-only (byte_up_to 16 n s) _ (up-to-only 16 n s) (λ children n s.
        then-only (repeat_exprs children child n s) _ (repeat-exprs-only child h children n s) (λ es n s. tt)))

    kind-only : (c : Columns) → ColumnsOnly c → (child : Reader _) → Only child → (kind : ℕ) → Only (node_of_kind c child kind)
    unfolding node_of_kind
    kind-only c q child h kind =
        by-test Only (eqb kind 1) literal_node _ (λ _. literal-only)
        (λ _. by-test Only (eqb kind 2) (binary_node child) _ (λ _. binary-only child h)
        (λ _. by-test Only (eqb kind 3) (call_node child) _ (λ _. call-only child h)
        (λ _. by-test Only (eqb kind 4) (other_node child) (any_column c) (λ _. other-only child h) (λ _. column-only c q))))

    count-only : Only count_node
    count-only n s = by-test Stops (ltb n 1024) (read true (suc n) s) (stopped 5) (λ _. tt) (λ _. p5)

    kind-byte-only : (c : Columns) → Only (node_kind c)
    unfolding node_kind
    kind-byte-only c = tested-only (allowed_kind c)

    node-only : (c : Columns) → ColumnsOnly c → (levels : ℕ) → Only (node c levels)
    unfolding node
    node-only c q zero n s = then-only (node_kind c n s) _ (kind-byte-only c n s) (λ kind n s. p5)
    node-only c q (suc d) n s =
        then-only (node_kind c n s) _ (kind-byte-only c n s) (λ kind n s.
        then-only (count_node n s) _ (count-only n s) (λ _. kind-only c q (node c d) (node-only c q d) kind))

    expression-only : (c : Columns) → ColumnsOnly c → Only (expression c)
    unfolding expression
    expression-only c q = node-only c q 64

    -- ---- frames

    record-only : Only one_record
    unfolding one_record side_up_to
    record-only n s =
        then-only (side_up_to 2 n s) _ (then-only (byte_up_to 2 n s) _ (up-to-only 2 n s) (λ side n s. tt)) (λ side n s.
        then-only (number 2 n s) _ (number-only 2 n s) (λ child n s. then-only (number 2 n s) _ (number-only 2 n s) (λ tag n s. tt)))

    count-of-records-only : Only record_count
    unfolding record_count
    count-of-records-only n s =
        then-only (number 2 n s) _ (number-only 2 n s) (λ columns n s. require-then 4 (leb columns 256) _ p4 (λ n s. tt) n s)

    body-only : P 6 → Only frame_body
    unfolding frame_body
    body-only p6 n s =
        then-only (record_count n s) _ (count-of-records-only n s) (λ columns n s.
        then-only (repeat columns one_record n s) _ (repeat-only one_record record-only columns n s) (λ records n s.
        then-only (expression (index_below columns) n s) _ (expression-only (index_below columns) p6 n s) (λ expr n s. tt)))

    module _ (p1 : P 1) (p2 : P 2) (p7 : P 7) where
      length-only : Only require_length
      unfolding require_length
      length-only n s = require-only 1 (leb 1 (length s) && leb (length s) 16384) p1 n s

      end-only : Only at_end
      unfolding at_end
      end-only n s = require-only 7 (none_left s) p7 n s

      pub physical-only : P 6 → P 8 → Only physical_frame
      unfolding physical_frame
      physical-only p6 p8 n s =
          then-only (require_length n s) _ (length-only n s) (λ _ n s.
          then-only (first_byte n s) _ (byte-only n s) (λ first.
          require-then 2 (eqb first 1) _ p2 (λ n s.
          then-only (frame_body n s) _ (body-only p6 n s) (λ F n s.
          then-only (at_end n s) _ (end-only n s) (λ _ n s.
          require-then 8 (arity F.expr) _ p8 (λ n s. tt) n s)))))

      pub logical-only : Only logical_frame
      unfolding logical_frame
      logical-only n s =
          then-only (require_length n s) _ (length-only n s) (λ _ n s.
          then-only (first_byte n s) _ (byte-only n s) (λ first.
          require-then 2 (eqb first 2) _ p2 (λ n s.
          then-only (expression fields n s) _ (expression-only fields tt n s) (λ e n s.
          then-only (at_end n s) _ (end-only n s) (λ _ n s. tt)))))

  -- ---- answers

  -- A value, or a refusal whose number has the property.
  abbrev pub Refuses : {A : Type 0} → Result A → Type 0
  Refuses (ok a) = Unit {0}
  Refuses (refused number) = P number

  pub result-only : {A : Type 0} (r : Read A) → Stops r → Refuses (result_of r)
  unfolding result_of
  result-only (read a n s) h = tt
  result-only (stopped number) h = h

  pub map-only : {A B : Type 0} (f : A → B) (r : Result A) → Refuses r → Refuses (map_result f r)
  map-only f (ok a) h = tt
  map-only f (refused number) h = h

  pub loaded-only : (frame : List ℕ) (n : ℕ) (buffer : List ℕ) (table : List NodeRecord) (x : Result Frame) → Refuses x
      → Refuses (finish_load frame n buffer table x).answer
  unfolding finish_load
  loaded-only frame n buffer table (ok F) h = tt
  loaded-only frame n buffer table (refused number) h = h

  pub finish-only : (n : ℕ) (buffer scratch : List ℕ) (x : Result (List ℕ)) → Refuses x → Refuses (finish n buffer scratch x).answer
  unfolding finish
  finish-only n buffer scratch (ok bytes) h = tt
  finish-only n buffer scratch (refused number) h = h

  if-only : {A : Type 0} (number : ℕ) (b : Bool) (x : Result A) → Refuses x → P number → Refuses (if b then x else refused number)
  if-only number true x h p = h
  if-only number false x h p = p

  tabled-only : (places : ℕ) (F : Frame) → P 17 → Refuses (tabled places F)
  unfolding tabled
  tabled-only places F p17 = if-only 17 (leb (nodes F.expr) places) (ok F) tt p17

  -- A table with room refuses nothing.
  pub tabled-enough : (places : ℕ) (F : Frame) → nodes F.expr ≤ places → Refuses (tabled places F)
  unfolding tabled
  tabled-enough places F h = rw (le-leb (nodes F.expr) places h) tt

  pub load-only : (frame : List ℕ) (room places : ℕ) (r : Result Frame) → Refuses r → P 9
      → ((F : Frame) → r ≡ ok F → Refuses (tabled places F)) → Refuses (new_after_load frame room places r)
  unfolding new_after_load
  load-only frame room places (ok F) h p9 t = if-only 9 (leb (length frame) room) (tabled places F) (t F refl) p9
  load-only frame room places (refused number) h p9 t = h

  printed-only : (buffer : List ℕ) (x : Result (List ℕ)) → Refuses x → Refuses (finish_print buffer x).answer
  unfolding finish_print
  printed-only buffer (ok text) h = tt
  printed-only buffer (refused number) h = h

  text-only : (room : ℕ) (r : Result Frame) → Refuses r → P 15 → Refuses (text_of room r)
  unfolding text_of
  text-only room (ok F) h p15 = if-only 15 (leb (length (printed F.expr)) room) (ok _) tt p15
  text-only room (refused number) h p15 = h

  listed-only : (buffer : List ℕ) (x : Result Conjuncts) → Refuses x → Refuses (finish_all buffer x).answer
  unfolding finish_all
  listed-only buffer (ok C) h = tt
  listed-only buffer (refused number) h = h

  all-only : (match : Matcher) (room : ℕ) (r : Result Frame) → Refuses r → P 9 → Refuses (new_conjuncts match room r)
  unfolding new_conjuncts
  all-only match room (ok F) h p9 = if-only 9 (leb (length (conjuncts_bytes (conjuncts_by match F))) room) (ok _) tt p9
  all-only match room (refused number) h p9 = h

  module _ (p9 : P 9) (p10 : P 10) (p11 : P 11) (n room : ℕ) where
    exchange-only : (r : Result Plan) → Refuses (new_after_exchange n room r)
    unfolding new_after_exchange
    exchange-only (refused number) = p10
    exchange-only (ok empty) = p11
    exchange-only (ok (held F)) = if-only 9 (leb n room) (ok _) tt p9
    exchange-only (ok (extracted X)) = if-only 9 (leb n room) (ok _) tt p9

    module _ (p12 : P 12) (p13 : P 13) where
      taken-only : (x : Option Extraction) → Refuses (matched_bytes x)
      unfolding matched_bytes
      taken-only none = p13
      taken-only (some X) = tt

      extract-only : (match : Matcher) (r : Result Plan) → Refuses (new_after_extract_by match n room r)
      unfolding new_after_extract_by
      extract-only match (refused number) = p10
      extract-only match (ok empty) = p11
      extract-only match (ok (extracted X)) = p12
      extract-only match (ok (held F)) =
          if-only 9 (leb n room) (matched_bytes (extraction_by match F)) (taken-only (extraction_by match F)) p9

    module _ (p12 : P 12) (p16 : P 16) (scratch places : ℕ) (t : (M : Frame) → over_limits M ≡ false → Refuses (tabled places M)) where
      merged-only : (M : Frame) → Refuses (merged_frame n scratch room places M)
      unfolding merged_frame
      merged-only M =
          by-test Refuses (over_limits M) (refused 16) _ (λ _. p16)
          (λ under. if-only 9 (leb n scratch && leb (length (frame_bytes M)) room) (tabled places M) (t M under) p9)

      pub merge-only : (new : Result Frame) → Refuses new → (old : Result Plan) → Refuses (new_after_merge n scratch room places new old)
      unfolding new_after_merge
      merge-only (refused number) h old = h
      merge-only (ok new) h (refused number) = p10
      merge-only (ok new) h (ok empty) = p11
      merge-only (ok new) h (ok (extracted X)) = p12
      merge-only (ok new) h (ok (held old)) = merged-only (merge_frames old new)

    module _ (p18 : P 18) (p19 : P 19) (p20 : P 20) (lists : ChildLists) where
      placed-only : (x : Option Extraction) → Refuses (projected_bytes x)
      unfolding projected_bytes
      placed-only none = p20
      placed-only (some X) = tt

      project-only : (r : Result Plan) → Refuses (new_after_project lists n room r)
      unfolding new_after_project
      project-only (refused number) = p10
      project-only (ok empty) = p11
      project-only (ok (held F)) = p18
      project-only (ok (extracted X)) =
          if-only 19 (short_lists lists) _
          (if-only 9 (leb n room) (projected_bytes (projection lists X)) (placed-only (projection lists X)) p9) p19

-- The numbers of a list.
abbrev pub In : List ℕ → ℕ → Type 0
In numbers number = any (eqb number) numbers ≡ true

pub refused-by : {A : Type 0} (numbers : List ℕ) (r : Result A) → Refuses (In numbers) r → RefusedBy numbers r
refused-by numbers (ok a) h = tt
refused-by numbers (refused number) h = h

pub load-refusals : (frame : List ℕ) (n : ℕ) (buffer : List ℕ) (table : List NodeRecord)
    → RefusedBy load_refusals (load frame n buffer table).answer
unfolding load frame_of load_refusals any
load-refusals frame n buffer table =
    let read = physical-only (In load_refusals) refl refl refl refl refl refl refl refl 0 frame in
    let given =
    load-only (In load_refusals) frame (length buffer) (length table) (frame_of frame)
    (result-only (In load_refusals) (physical_frame 0 frame) read) refl (λ F _. tabled-only (In load_refusals) (length table) F refl) in
    refused-by load_refusals (load frame n buffer table).answer
    (loaded-only (In load_refusals) frame n buffer table (new_after_load frame (length buffer) (length table) (frame_of frame)) given)

pub extract-refusals : (match : Matcher) (n : ℕ) (buffer scratch : List ℕ) (table : List NodeRecord)
    → RefusedBy extract_refusals (extract_by match n buffer scratch table).answer
unfolding extract_refusals any
extract-refusals match n buffer scratch table =
    refused-by extract_refusals (extract_by match n buffer scratch table).answer
    (extract-writes match n buffer scratch table (λ (o : Outcome). Refuses (In extract_refusals) o.answer)
    (finish-only (In extract_refusals) n buffer scratch (new_after_extract_by match n (length scratch) (held_plan n buffer))
    (extract-only (In extract_refusals) refl refl refl n (length scratch) refl refl match (held_plan n buffer)))
    (finish-only (In extract_refusals) n buffer scratch (refused 10) refl))

-- Under settings 24 joins them (request 13).
pub settled-refusals : (S : Settings) (n : ℕ) (buffer scratch : List ℕ) (table : List NodeRecord)
    → RefusedBy settled_refusals (extract_under S n buffer scratch table).answer
unfolding extract_under settled_refusals any
settled-refusals S n buffer scratch table =
    let under : Matcher = match_under S in
    refused-by settled_refusals (extract_under S n buffer scratch table).answer
    (by-test (λ (o : Outcome). Refuses (In settled_refusals) o.answer) (good_settings S) (extract_by under n buffer scratch table) _
    (λ _. extract-writes under n buffer scratch table (λ (o : Outcome). Refuses (In settled_refusals) o.answer)
    (finish-only (In settled_refusals) n buffer scratch (new_after_extract_by under n (length scratch) (held_plan n buffer))
    (extract-only (In settled_refusals) refl refl refl n (length scratch) refl refl under (held_plan n buffer)))
    (finish-only (In settled_refusals) n buffer scratch (refused 10) refl))
    (λ _. finish-only (In settled_refusals) n buffer scratch (refused 24) refl))

-- The call that extracts all (request 14).
pub all-refusals : (S : Settings) (frame buffer : List ℕ) → RefusedBy all_refusals (extract_all_under S frame buffer).answer
unfolding extract_all_under extract_all_by frame_of all_refusals any
all-refusals S frame buffer =
    let read = physical-only (In all_refusals) refl refl refl refl refl refl refl refl 0 frame in
    refused-by all_refusals (extract_all_under S frame buffer).answer
    (by-test (λ (o : AllOutcome). Refuses (In all_refusals) o.answer) (good_settings S) (extract_all_by (match_under S) frame buffer) _
    (λ _. listed-only (In all_refusals) buffer (new_conjuncts (match_under S) (length buffer) (frame_of frame))
    (all-only (In all_refusals) (match_under S) (length buffer) (frame_of frame)
    (result-only (In all_refusals) (physical_frame 0 frame) read) refl))
    (λ _. listed-only (In all_refusals) buffer (refused 24) refl))

pub exchange-refusals : (n : ℕ) (buffer scratch : List ℕ) → RefusedBy exchange_refusals (exchange n buffer scratch).answer
unfolding exchange exchange_refusals any
exchange-refusals n buffer scratch =
    refused-by exchange_refusals (exchange n buffer scratch).answer
    (finish-only (In exchange_refusals) n buffer scratch (new_after_exchange n (length scratch) (held_plan n buffer))
    (exchange-only (In exchange_refusals) refl refl refl n (length scratch) (held_plan n buffer)))

pub logical-refusals : (frame : List ℕ) → RefusedBy logical_refusals (logical frame)
unfolding logical logical_of logical_refusals any
logical-refusals frame =
    let read = logical-only (In logical_refusals) refl refl refl refl refl refl 0 frame in
    refused-by logical_refusals (logical frame)
    (map-only (In logical_refusals) logical_answer (logical_of frame) (result-only (In logical_refusals) (logical_frame 0 frame) read))

pub print-refusals : (frame buffer : List ℕ) → RefusedBy print_refusals (print frame buffer).answer
unfolding print frame_of print_refusals any
print-refusals frame buffer =
    let read = physical-only (In print_refusals) refl refl refl refl refl refl refl refl 0 frame in
    let given = text-only (In print_refusals) (length buffer) (frame_of frame)
    (result-only (In print_refusals) (physical_frame 0 frame) read) refl in
    refused-by print_refusals (print frame buffer).answer
    (printed-only (In print_refusals) buffer (text_of (length buffer) (frame_of frame)) given)

pub merge-refusals : (frame : List ℕ) (n : ℕ) (buffer scratch : List ℕ) (table : List NodeRecord)
    → RefusedBy merge_refusals (merge frame n buffer scratch table).answer
unfolding merge with_table frame_of merge_refusals any
merge-refusals frame n buffer scratch table =
    let read = physical-only (In merge_refusals) refl refl refl refl refl refl refl refl 0 frame in
    let given =
    merge-only (In merge_refusals) refl refl refl n (length buffer) refl refl (length scratch) (length table)
    (λ M _. tabled-only (In merge_refusals) (length table) M refl) (frame_of frame)
    (result-only (In merge_refusals) (physical_frame 0 frame) read) (held_plan n buffer) in
    refused-by merge_refusals (merge frame n buffer scratch table).answer
    (finish-only (In merge_refusals) n buffer scratch _ (map-only (In merge_refusals) frame_bytes
    (new_after_merge n (length scratch) (length buffer) (length table) (frame_of frame) (held_plan n buffer)) given))

pub project-refusals : (n : ℕ) (buffer scratch of_left of_right : List ℕ)
    → RefusedBy project_refusals (project n buffer scratch of_left of_right).answer
unfolding project project_refusals any
project-refusals n buffer scratch of_left of_right =
    let lists : ChildLists = record { of_left = of_left; of_right = of_right } in
    refused-by project_refusals (project n buffer scratch of_left of_right).answer
    (finish-only (In project_refusals) n buffer scratch (new_after_project lists n (length scratch) (held_plan n buffer))
    (project-only (In project_refusals) refl refl refl n (length scratch) refl refl refl lists (held_plan n buffer)))
