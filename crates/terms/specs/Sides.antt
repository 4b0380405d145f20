-- The definitions' side for each case of the code's.
use Rattle.definitions.specs.Words.Expression as tree
use Rattle.terms.specs.declared.sides.JoinSide.{JoinSide}
use Rattle.terms.specs.declared.sides.JoinSide.TheVariants.{Left, Right, None}

-- The definitions' side for each case: 0 left, 1 right, 2 none.
abbrev pub join_side : JoinSide → tree.Side
join_side Left = tree.left
join_side Right = tree.right
join_side None = tree.no_side
