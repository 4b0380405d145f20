-- Literals: types 0 null, 1 Boolean, 2 Int32, 3 Int64, 4 UInt32, 5 UInt64, 6 other; the eight bytes are one unsigned number.
use Rattle.std.specs.Prelude.{ℕ, ◌-◌, Bool, true, ◌&&◌, ◌||◌, leb, ltb, eqb, ℤ, pos, negsuc, if◌then◌else◌}
use Rattle.std.proofs.Math.Option.{Option, none, some}
use Rattle.definitions.specs.Words.Limits.{four_bytes}

-- The whole number that eight bytes are in two's complement (`negsuc n` is −(n + 1)).
unfoldable pub signed : (bytes : ℕ) → ℤ
signed bytes = if ltb bytes 9223372036854775808 then pos bytes else negsuc (18446744073709551615 - bytes)

-- Whether a whole number is one of 32 bits: from −2,147,483,648 to 2,147,483,647.
unfoldable pub is_int32 : ℤ → Bool
is_int32 (pos n) = leb n 2147483647
is_int32 (negsuc n) = leb n 2147483647

-- Whether the eight bytes are in the range of their type; null, Int64, UInt64 and other take any.
unfoldable pub literal_in_range : (type bytes : ℕ) → Bool
literal_in_range type bytes =
    if eqb type 1 then leb bytes 1 else
    if eqb type 2 then is_int32 (signed bytes) else
    if eqb type 4 then ltb bytes four_bytes else
    true

-- A whole number from 0 to 4,294,967,295.
unfoldable pub u32 : ℤ → Option ℕ
u32 (pos n) = if leb n 4294967295 then some n else none
u32 (negsuc n) = none

-- The number of an Int32 or Int64 with its sign, or of a UInt32 or UInt64, if it is from 0 to 4,294,967,295.
unfoldable pub number_u32 : (type bytes : ℕ) → Option ℕ
number_u32 type bytes =
    if eqb type 2 || eqb type 3 then u32 (signed bytes) else
    if eqb type 4 || eqb type 5 then u32 (pos bytes) else
    none

-- Whether a number is a k: from 1 to 4,294,967,295 (request 5).
unfoldable pub is_k : ℕ → Bool
is_k k = leb 1 k && ltb k four_bytes

-- The number, if it is a k.
unfoldable pub only_k : ℕ → Option ℕ
only_k k = if is_k k then some k else none

-- The value, 0 or 1, of a Boolean.
unfoldable pub number_bool : (type bytes : ℕ) → Option ℕ
number_bool type bytes = if eqb type 1 then some bytes else none
