-- `message::pump::head_turn` meets its contract: the piece is used up, or a run of header bytes is kept.
use mathlib.Core.Path.{◌≡◌}
use Prim.Native.Nat.{◌+◌, ◌-◌, ◌≤◌, ◌<◌}
use lib.ListN.{length, drop, length-drop}
use lib.Seq.{length-take-le}
use native.Mathlib.Omega.{arith}
use borrow.Author.Rules.{rules}
use Rattle.frame.specs.Header.{missing}
use Rattle.session.specs.Frames.{kept}
use Rattle.message.proofs.Ends.{settle-lacking}
use Rattle.message.proofs.Steps.{missing-room, lacks_some, run-some, turned_dry, turned_head}
use Rattle.message.proofs.pump.head_turn.Goals as goal

pub returns-then-piece-at : goal.returns-then-piece-at
returns-then-piece-at c = λ g state m control.
    turned_dry g state c.args.piece.now c.args.at _ _ (omega arith) c.requires.at_within (settle-lacking g state c.args.incoming.now m control c.requires.header_lacks)

pub keep_run-requires : goal.keep_run-requires
keep_run-requires c =
    let fourteen : length c.args.incoming.now.header ≡ 14 = search rules in
    let room : c.args.incoming.now.kept + missing (kept c.args.incoming.now) ≤ 14 = missing-room c.args.incoming.now fourteen c.requires.few_kept in
    let z = length-take-le (c.run_end-end.result - c.args.at) (drop c.args.at c.args.piece.now) (simp length-drop (omega (arith, c.run_end-end.ensures))) in
    omega (arith, z, c.run_end-end.ensures, room, c.missing-lacked.ensures)

pub returns : goal.returns
returns c =
    let fourteen : length c.args.incoming.now.header ≡ 14 = search rules in
    let room : c.args.incoming.now.kept + missing (kept c.args.incoming.now) ≤ 14 = missing-room c.args.incoming.now fourteen c.requires.few_kept in
    let some : 0 < missing (kept c.args.incoming.now) = lacks_some c.args.incoming.now c.requires.header_lacks in
    λ g state m control.
    turned_head g state c.args.piece.now c.args.at c.run_end-end.result c.args.incoming.now c.keep_run.new.incoming m control
    (run-some _ _ _ _ (omega arith) (omega (arith, c.missing-lacked.ensures, some)) c.run_end-end.ensures.0 c.run_end-end.ensures.3)
    c.run_end-end.ensures.1 c.requires.header_lacks fourteen (omega (arith, c.run_end-end.ensures, c.missing-lacked.ensures, room)) (omega (arith, c.run_end-end.ensures, c.missing-lacked.ensures)) c.keep_run.ensures
