-- Request 1 of document 02: an expression as text for the console. A character is its number.
use Rattle.std.specs.Prelude.{ℕ, zero, suc, ◌/◌, ◌%◌, ◌^◌, List, [], ◌∷◌, ◌++◌, length, ltb, if◌then◌else◌}
use Rattle.definitions.specs.Words.Basics.{ascii, big_endian, digit, digits}
use Rattle.definitions.specs.Words.Expression.{Expr, column, literal, and, binary, call, other, field, Exprs, nil, cons}

-- ---- numbers

-- The last `width` decimal digits of a number, most significant first. (Ours.)
unfoldable pub figures : (width : ℕ) → ℕ → List ℕ
figures zero n = []
figures (suc w) n = digit (n / 10 ^ w % 10) ∷ figures w n

-- How many decimal digits a number below 100,000 has. (Ours: a number of a frame, but for a literal's value, is below 65,536.)
unfoldable pub decimal_width : ℕ → ℕ
decimal_width n =
    if ltb n 10 then 1 else
    if ltb n 100 then 2 else
    if ltb n 1000 then 3 else
    if ltb n 10000 then 4 else
    5

-- A number below 100,000 in decimal, without leading zeros.
unfoldable pub decimal : ℕ → List ℕ
decimal n = figures (decimal_width n) n

-- A literal's eight bytes in 16 hexadecimal digits, a to f small, two for each byte.
unfoldable pub digits16 : (bytes : ℕ) → List ℕ
digits16 bytes = digits (big_endian 8 bytes)

-- ---- expressions

-- A binary of these children: `(`, left, ` o` and the operator, a space, right, `)`.
abbrev pub binary_text : (operator : ℕ) → (l r : List ℕ) → List ℕ
binary_text operator l r = ascii "(" ++ (l ++ (ascii " o" ++ (decimal operator ++ (ascii " " ++ (r ++ ascii ")")))))

unfoldable mutual
  -- An expression as text, And being operator 0. (A logical column, which no physical frame has, is no text: ours.)
  pub printed : Expr → List ℕ
  printed (column index tag) = ascii "c" ++ (decimal index ++ (ascii ":" ++ decimal tag))
  printed (literal type bytes) = ascii "#" ++ (decimal type ++ (ascii ":" ++ digits16 bytes))
  printed (and l r) = binary_text 0 (printed l) (printed r)
  printed (binary operator l r) = binary_text operator (printed l) (printed r)
  printed (call name arguments) =
      ascii "f" ++ (decimal (length name) ++ (ascii ":" ++ (name ++ (ascii "[" ++ (printed_all arguments ++ ascii "]")))))
  printed (other tag children) = ascii "x" ++ (decimal tag ++ (ascii "[" ++ (printed_all children ++ ascii "]")))
  printed (field bits tag) = []

  -- Several expressions with commas between.
  pub printed_all : Exprs → List ℕ
  printed_all nil = []
  printed_all (cons e es) = printed e ++ printed_more es

  -- Several expressions, each after a comma.
  pub printed_more : Exprs → List ℕ
  printed_more nil = []
  printed_more (cons e es) = ascii "," ++ (printed e ++ printed_more es)
