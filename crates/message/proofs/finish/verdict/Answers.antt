-- `message::finish::verdict` meets its contract: what the header doomed, and then the UTF-8 check.
use mathlib.Core.Path.{sym, ◌∙◌}
use native.Mathlib.Omega.{arith}
use Rattle.std.proofs.lemmas.Result.{err_from_is_err_and}
use Rattle.message.proofs.Dooms.{control_room}
use Rattle.message.proofs.Ends.{close_is_control, verdict-refused, verdict-utf}
use Rattle.message.proofs.finish.verdict.Goals as goal

pub returns-in_err-doom : goal.returns-in_err-doom
returns-in_err-doom c =
    let p = err_from_is_err_and c.from_residual.result c.from_residual.ensures.1 in
    rw (p.1, p.2) (verdict-refused c.args.session.now.settings c.args.session.now.state c.args.header c.args.session.now.incoming c.args.control.now _ c.in_err-doom.ensures)

pub utf_holds-requires : goal.utf_holds-requires
utf_holds-requires c = λ close.
    let room = control_room c.args.session.now.settings c.args.session.now.state c.args.header c.args.session.now.incoming (sym c.in_ok-doom.ensures)
    (close_is_control c.args.header.opcode close) in
    omega (arith, room)

pub returns-then-utf_holds : goal.returns-then-utf_holds
returns-then-utf_holds c =
    verdict-utf c.args.session.now.settings c.args.session.now.state c.args.header c.args.session.now.incoming c.args.control.now (sym c.in_ok-doom.ensures) (sym c.if-utf_holds.true ∙ c.utf_holds.ensures)

pub returns-else-utf_holds : goal.returns-else-utf_holds
returns-else-utf_holds c =
    verdict-utf c.args.session.now.settings c.args.session.now.state c.args.header c.args.session.now.incoming c.args.control.now (sym c.in_ok-doom.ensures) (sym c.if-utf_holds.false ∙ c.utf_holds.ensures)
