-- `message::finish::utf_holds` meets its contract: a close is no text.
use mathlib.Core.Path.{◌≡◌, refl, ap, ◌∙◌}
use mathlib.Core.Bool.{Bool, true, false, not}
use Rattle.base.specs.Tests.{either}
use Rattle.coding.specs.declared.opcode.Control.TheVariants.{Close}
use Rattle.session.specs.Frames.{is_close, is_close_kind}
use Rattle.message.proofs.Ends.{close_no_text}
use Rattle.message.proofs.finish.utf_holds.Goals as goal

alone : (b : Bool) → b ≡ not (either (not b) false)
alone true = refl
alone false = refl

pub returns-in-Control-Close : goal.returns-in-Control-Close
returns-in-Control-Close c =
    let kind : c.in-Control-Close.field-0 ≡ Close = rw c.in-Control-Close.is at c.in-Control-Close.field-0-is in
    let close : is_close c.args.header.opcode ≡ true = ap is_close c.in-Control-Close.is ∙ ap is_close_kind kind in
    rw (close_no_text c.args.header c.args.incoming.now close, close, c.reason_holds.ensures) (alone _)
