-- `digit`: the table has the digits in order.
use Rattle.hexadecimal.proofs.DigitLaws.{table-digit}
use Rattle.hexadecimal.proofs.hex.digit.Goals as goal

pub returns : goal.returns
returns c =
    table-digit c.args.value c.from.result c.from.ensures c.requires
