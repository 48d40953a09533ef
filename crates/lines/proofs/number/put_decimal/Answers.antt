-- `lines::number::put_decimal` meets its contract.
use Rattle.lines.proofs.Laws.{decimal-on}
use Rattle.lines.proofs.number.put_decimal.Goals as goal

pub returns : goal.returns
returns c = decimal-on _ _ _ c.put_digits.ensures
