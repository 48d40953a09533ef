-- `lines::number::put_byte` meets its contract.
use mathlib.Core.Path.{refl}
use Rattle.base.specs.Stores.{laid}
use Rattle.lines.proofs.number.put_byte.Goals as goal

pub returns : goal.returns
unfolding laid
returns c = (refl, refl)
