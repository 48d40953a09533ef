-- `message::doom::doom` meets its contract, by the frame's kind.
use mathlib.Core.Path.{sym, ◌∙◌}
use Rattle.std.proofs.lemmas.Result.{err_from_is_err_and}
use Rattle.message.proofs.Dooms.{doom-refused, doom-reserved, doom-control, doom-data}
use Rattle.message.proofs.doom.doom.Goals as goal

pub returns-in_err-doom_any : goal.returns-in_err-doom_any
returns-in_err-doom_any c =
    let p = err_from_is_err_and c.from_residual.result c.from_residual.ensures.1 in
    rw (p.1, p.2) (doom-refused c.args.session.now.settings c.args.session.now.state c.args.header c.args.session.now.incoming _ c.in_err-doom_any.ensures)

pub returns-in-Reserved : goal.returns-in-Reserved
returns-in-Reserved c =
    sym (doom-reserved c.args.session.now.settings c.args.session.now.state c.args.header c.args.session.now.incoming _ (sym c.in_ok-doom_any.ensures) c.in-Reserved.is)

pub returns-in-Control : goal.returns-in-Control
returns-in-Control c =
    c.doom_control.ensures
    ∙ sym (doom-control c.args.session.now.settings c.args.session.now.state c.args.header c.args.session.now.incoming _ (sym c.in_ok-doom_any.ensures) c.in-Control.is)

pub returns-in-Data : goal.returns-in-Data
returns-in-Data c =
    c.doom_data.ensures
    ∙ sym (doom-data c.args.session.now.settings c.args.session.now.state c.args.header c.args.session.now.incoming _ (sym c.in_ok-doom_any.ensures) c.in-Data.is)
