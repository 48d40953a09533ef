-- `script::answers::Text::number` meets its contract.
use mathlib.Core.Path.{sym}
use Rattle.script.proofs.Putting.{number_on}
use Rattle.script.proofs.answers.Text.number.Goals as goal

pub returns-then-has_room-clause-laid : goal.returns-then-has_room-clause-laid
returns-then-has_room-clause-laid c =
    number_on _ _ c.args.n (sym c.if-has_room.ensures) c.put_word-spaced.ensures c.put_decimal-self.ensures
