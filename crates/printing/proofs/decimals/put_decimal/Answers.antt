-- `put_decimal`: the digits of the definition's width; one and two are put by themselves.
use native.Mathlib.Omega.{arith}
use mathlib.Core.Path.{refl}
use lib.ListN.{length-set}
use Rattle.printing.proofs.DecimalLaws.{one-fits, one-put, two-fit, two-put, figures-fit, figures-put}
use Rattle.printing.proofs.decimals.put_decimal.Goals as goal

pub bounds-out-w : goal.bounds-out-w
bounds-out-w c =
    one-fits c.args.n c.requires (omega (arith, c.in-0-to-9))

pub bounds-out-w-in-10-to-99 : goal.bounds-out-w-in-10-to-99
bounds-out-w-in-10-to-99 c =
    omega (arith, two-fit c.args.n c.requires (omega (arith, c.in-10-to-99)) (omega (arith, c.in-10-to-99)))

pub bounds-out-w-in-10-to-99-2 : goal.bounds-out-w-in-10-to-99-2
bounds-out-w-in-10-to-99-2 c =
    simp length-set (omega (arith, two-fit c.args.n c.requires (omega (arith, c.in-10-to-99)) (omega (arith, c.in-10-to-99))))

pub put_figures-requires : goal.put_figures-requires
put_figures-requires c =
    figures-fit c.args.n _ c.decimal_width-width.ensures c.requires

pub returns-in-0-to-9 : goal.returns-in-0-to-9
returns-in-0-to-9 c =
    one-put c.args.n c.requires (omega (arith, c.in-0-to-9))

pub returns-in-10-to-99 : goal.returns-in-10-to-99
returns-in-10-to-99 c =
    two-put c.args.n c.requires (omega (arith, c.in-10-to-99)) (omega (arith, c.in-10-to-99)) refl

pub returns-in_default : goal.returns-in_default
returns-in_default c =
    figures-put _ _ _ c.decimal_width-width.ensures c.put_figures.ensures
