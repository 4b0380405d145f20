-- Request 1 of document 02 by computation: printed lines of each kind, and the answers of print.
use Rattle.std.specs.Prelude.{◌+◌, ◌*◌, ◌≡◌, [], ◌∷◌, ◌++◌, length, replicate}
use Rattle.definitions.specs.Words.Basics.{ok, refused, ascii}
use Rattle.definitions.specs.Words.Expression.{Expr, column, literal, and, binary, call, other, nil, cons}
use Rattle.definitions.specs.Bytes.Encode.{expr_bytes}
use Rattle.definitions.specs.Bytes.Printed.{printed}
use Rattle.definitions.specs.Calls.Print.{print}
use Rattle.definitions.specs.Rows.Refusals.{frame}

-- The filter of the worked run.
abbrev pub worked_filter : Expr
worked_filter = and (call (ascii "st_within") (cons (column 0 7) (cons (column 1 8) nil))) (column 1 8)

-- Two of the kind with the longest text for its bytes, under an operator of two digits.
abbrev pub long_text : Expr
long_text = binary 63 (other 65535 nil) (other 65535 nil)

pub record PrintRows : Type 0 where
  -- each kind; numbers of one to five digits
  pub column-line : printed (column 3 17) ≡ ascii "c3:17"
  pub zero-line : printed (column 0 0) ≡ ascii "c0:0"
  pub wide-line : printed (column 255 65535) ≡ ascii "c255:65535"
  pub literal-line : printed (literal 3 81985529216486895) ≡ ascii "#3:0123456789abcdef"
  pub minus-line : printed (literal 2 18446744073709551594) ≡ ascii "#2:ffffffffffffffea"
  pub and-line : printed (and (column 0 10) (column 1 99)) ≡ ascii "(c0:10 o0 c1:99)"
  pub binary-line : printed (binary 63 (column 0 100) (column 1 999)) ≡ ascii "(c0:100 o63 c1:999)"
  pub call_line : printed (call (ascii "f2:a],[") (cons (column 0 1000) (cons (other 9999 nil) (cons (literal 0 0) nil))))
      ≡ ascii "f7:f2:a],[[c0:1000,x9999[],#0:0000000000000000]"
  pub no_arguments : printed (call (ascii "st_distance") nil) ≡ ascii "f11:st_distance[]"
  pub other-line : printed (other 10000 (cons (column 0 5) nil)) ≡ ascii "x10000[c0:5]"
  pub worked-line : printed worked_filter ≡ ascii "(f9:st_within[c0:7,c1:8] o0 c1:8)"
  -- five characters for two bytes, less two, is attained
  pub longest : 2 * length (printed long_text) + 4 ≡ 5 * length (expr_bytes long_text)
  -- 15 one byte short; room enough, and a byte kept; 2, 7 and 8 before 15
  pub too_short : print (frame (other 12 nil)) (1 ∷ 2 ∷ 3 ∷ 4 ∷ []) ≡ record { answer = refused 15; buffer = 1 ∷ 2 ∷ 3 ∷ 4 ∷ [] }
  pub just_enough : print (frame (other 12 nil)) (replicate 5 0) ≡ record { answer = ok 5; buffer = ascii "x12[]" }
  pub byte-kept : print (frame (other 12 nil)) (1 ∷ 2 ∷ 3 ∷ 4 ∷ 5 ∷ 6 ∷ []) ≡ record { answer = ok 5; buffer = ascii "x12[]" ++ (6 ∷ []) }
  pub bad-first : (print (2 ∷ []) []).answer ≡ refused 2
  pub bad-end : (print (frame (other 12 nil) ++ (0 ∷ [])) []).answer ≡ refused 7
  pub bad-arity : (print (frame (call (ascii "st_within") nil)) []).answer ≡ refused 8
