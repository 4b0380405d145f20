-- The limits of documents 01 and 02, each named once.
use Rattle.std.specs.Prelude.{ℕ}

-- A frame or plan has at most 16,384 bytes.
abbrev pub most_bytes : ℕ
most_bytes = 16384

-- At most 1,024 nodes, over the whole of an extraction.
abbrev pub most_nodes : ℕ
most_nodes = 1024

-- Depth at most 64; the root is depth 1.
abbrev pub most_levels : ℕ
most_levels = 64

-- At most 256 records.
abbrev pub most_records : ℕ
most_records = 256

-- Operators are 0 to 63.
abbrev pub most_operator : ℕ
most_operator = 63

-- A name has 1 to 32 bytes,
abbrev pub most_name_bytes : ℕ
most_name_bytes = 32

-- each from 33
abbrev pub first_name_byte : ℕ
first_name_byte = 33

-- to 126.
abbrev pub last_name_byte : ℕ
last_name_byte = 126

-- 0 to 16 arguments or children.
abbrev pub most_children : ℕ
most_children = 16

-- Two bytes hold the numbers below 65,536: indexes and tags,
abbrev pub two_bytes : ℕ
two_bytes = 65536

-- four bytes those below 4,294,967,296: k and UInt32,
abbrev pub four_bytes : ℕ
four_bytes = 4294967296

-- and eight bytes those below 18,446,744,073,709,551,616: literals.
abbrev pub eight_bytes : ℕ
eight_bytes = 18446744073709551616

-- A line of the program has at most 32,768 digits.
abbrev pub most_digits : ℕ
most_digits = 32768

-- A list of child indices has at most 4,096 items (request 7).
abbrev pub most_items : ℕ
most_items = 4096

-- Each of two queues has places for 16 frames (request 12),
abbrev pub queue_places : ℕ
queue_places = 16

-- of 1,024 bytes each;
abbrev pub place_bytes : ℕ
place_bytes = 1024

-- with a count byte and 16 lengths of 2 bytes before its places a queue has 16,417 bytes,
abbrev pub queue_bytes : ℕ
queue_bytes = 16417

-- and both, behind the mark, 32,835.
abbrev pub queues_bytes : ℕ
queues_bytes = 32835
