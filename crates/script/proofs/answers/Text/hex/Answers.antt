-- `script::answers::Text::hex` meets its contract.
use mathlib.Core.Path.{sym}
use borrow.Author.Tests.{eqb-true, eqb-false}
use Rattle.script.proofs.Putting.{bytes_none, bytes_on, bytes_not}
use Rattle.script.proofs.answers.Text.hex.Goals as goal
use Rattle.script.proofs.answers.Text.hex.Goals.{else-not-is_empty-via-then-not-is_empty+else-has_room, else-not-is_empty-via-else-not-is_empty}

pub returns-then-has_room-clause-laid : goal.returns-then-has_room-clause-laid
returns-then-has_room-clause-laid c =
    bytes_on _ _ c.args.bytes.now (eqb-false _ _ (sym c.if-not-is_empty.ensures)) (sym c.if-has_room.ensures) c.put_word-begun.ensures c.put_hex-self.ensures

pub returns-else-not-is_empty-clause-laid : goal.returns-else-not-is_empty-clause-laid
returns-else-not-is_empty-clause-laid c =
    elim c.else-not-is_empty.branch [
      | else-not-is_empty-via-then-not-is_empty+else-has_room w ↦ bytes_not _ _ _ (eqb-false _ _ (sym w.if-not-is_empty.ensures)) (sym w.if-has_room.ensures)
      | else-not-is_empty-via-else-not-is_empty w ↦ bytes_none _ _ _ (eqb-true _ _ (sym w.if-not-is_empty.ensures))
    ]
