-- `message::finish::finish` meets its contract.
use mathlib.Core.Path.{sym}
use native.Mathlib.Omega.{arith}
use Rattle.message.proofs.Dooms.{data_room}
use Rattle.message.proofs.Ends.{doom-clear, finish-refusal, finish-ended}
use Rattle.message.proofs.finish.finish.Goals as goal

pub end_frame-requires : goal.end_frame-requires
end_frame-requires c =
    λ t u.
    let clear = doom-clear c.args.session.now.settings c.args.session.now.state c.args.header c.args.session.now.incoming c.args.control.now (sym c.in-Ok.ensures) in
    omega (arith, data_room c.args.session.now.settings c.args.session.now.state c.args.header c.args.session.now.incoming c.requires.header_legal clear t, c.requires.limit_fits)

pub returns-in-Ok-clause-finished : goal.returns-in-Ok-clause-finished
returns-in-Ok-clause-finished c = λ m.
    finish-ended c.args.session.now.settings c.args.session.now.state c.args.session.now.incoming m c.args.control.now c.args.header c.requires.header_kept (sym c.in-Ok.ensures) (c.end_frame.ensures m _)

pub returns-in-Err-clause-finished : goal.returns-in-Err-clause-finished
returns-in-Err-clause-finished c = λ m.
    finish-refusal c.args.session.now.settings c.args.session.now.state c.args.session.now.incoming m c.args.control.now c.args.header c.requires.header_kept _ c.in-Err.ensures c.number.ensures
