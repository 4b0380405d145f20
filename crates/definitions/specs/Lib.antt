-- The definitions, in the order to read them. The signs:
--   f : A → B → C           f takes an A and a B and gives a C; `f a b` is f of a and b, `λ x. e` the function that gives e for x
--   (x : A) → B             the same where B speaks of x; of a claim: for every x
--   {x : A} → B             the same, with x left to be found by the reader
--   A × B                   both; (x : A) × B: some x, and B of it
--   a ≡ b                   a and b are equal; A → ⊥: A does not hold; `Unit {0}` always holds
--   data, record            a type given by its cases, or by its fields; `r.field` is a field of r, `record { field = a; .. }` makes one
--   (a, b), p.0, p.1        a pair of A × B, its first and its second part
--   mutual                  the definitions below it, set in, speak of one another
--   ℕ, zero, suc n          the numbers from 0 on; 0, and n + 1; a - b is 0 where b is more than a
--   [], a ∷ s, s ++ t       the empty list; a, then the list s; s, then t
--   length, take n, drop n  how many; the first n; all but the first n; `get_or s n d`: the element at n from 0, d past the end
--   none, some a            no value, or a; `Option.map f` (`map f` where no list is meant) changes the value where there is one,
--                           `Option.or_else x y` is x where there is one, else y
--   leb, ltb, eqb           whether ≤, <, = holds of two numbers, as true or false; &&, || and `not` of such
--   if b then a else c      a where b is true, else c
--   let x : A = a in e      e, in which x is a
--   x', calls'              other names, read "x prime": one more x, one more list of calls
--   do, x ← r               read one thing after another, x being what r read; the first refusal ends it
--   pub, abbrev, unfoldable how other files may use a definition: no part of what it says
--   use F.M.{a, b}          a and b are defined in the file M of the folder F: here, in the prover's library, or (`Prim`) in the prover

-- What all the others speak of: tools, limits, what frames, filters and plans are, AND-leaves, and the columns of a filter.
pub mod Words
-- Frames, extractions and plans as bytes, how bytes are read, which plans are good, the table of nodes, and a filter as text.
pub mod Bytes
-- What is made of a filter: its matches, its pick and what is left of it, the exchange, and what the requests make of it.
pub mod Filter
-- The calls on lent buffers, each with its refusals in their order.
pub mod Calls
-- Lists of calls, and the machines that they are held to; the lines of the program.
pub mod Lists
-- Truth values of frames, extractions and plans, fair meanings, and the laws of a matcher.
pub mod Meaning
-- What is claimed of the definitions; crate `theorems` proves each claim.
pub mod Claims
-- Single inputs with their answers, which hold by computation; each file's proofs have its name.
pub mod Rows
