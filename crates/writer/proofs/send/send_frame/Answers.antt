-- `writer::send::send_frame` meets its contract: a number is owed, or there is no room, or the frame is put out and a waiting reply moves.
use mathlib.Core.Path.{◌≡◌, sym, ◌∙◌}
use native.Mathlib.Omega.{arith}
use borrow.Author.Rules.{rules}
use lib.ListN.{length}
use Rattle.base.specs.Tests.{first_of}
use Rattle.session.specs.Calls.{send_frame}
use Rattle.session.specs.Replies.{appended}
use Rattle.session.specs.Session.{with_state}
use Rattle.replies.proofs.Encoding.{fits-within, fits_parts}
use Rattle.writer.proofs.Calls.{moved_behind}
use Rattle.writer.proofs.Numbers.{Clear, clear}
use Rattle.writer.proofs.send.send_frame.Goals as goal

pub returns-then-not-fits_in : goal.returns-then-not-fits_in
unfolding send_frame first_of
returns-then-not-fits_in c =
    let four : length c.args.masks.first ≡ 4 = search rules in
    rw (
      sym c.in_ok-sendable.ensures,
      sym c.is_client-client.ensures,
      fits_parts _ c.args.output.now c.is_client-client.result c.args.opcode c.args.masks.first c.args.lead.now c.args.piece.now four
          ∙ sym c.fits_in.ensures
          ∙ c.if-not-fits_in.true,
    )

pub move_reply-requires-clause-reply_short : goal.move_reply-requires-clause-reply_short
move_reply-requires-clause-reply_short c = (clear c.args.session.now c.args.output.now c.args.bad c.in_ok-sendable.ensures).reply_short

pub move_reply-requires-clause-held_within : goal.move_reply-requires-clause-held_within
move_reply-requires-clause-held_within c =
    let four : length c.args.masks.first ≡ 4 = search rules in
    let clean : Clear c.args.session.now c.args.output.now c.args.bad = clear _ _ _ c.in_ok-sendable.ensures in
    let fitting =
    fits_parts c.args.session.now.held c.args.output.now c.is_client-client.result c.args.opcode c.args.masks.first
    c.args.lead.now c.args.piece.now four
    ∙ sym c.fits_in.ensures
    ∙ c.if-not-fits_in.false in
    omega (arith, fits-within _ _ _ fitting clean.held_within)

pub returns : goal.returns
unfolding send_frame first_of appended
returns c =
    let four : length c.args.masks.first ≡ 4 = search rules in
    rw (
      sym c.in_ok-sendable.ensures,
      sym c.is_client-client.ensures,
      fits_parts c.args.session.now.held c.args.output.now c.is_client-client.result c.args.opcode c.args.masks.first
          c.args.lead.now c.args.piece.now four
          ∙ sym c.fits_in.ensures
          ∙ c.if-not-fits_in.false,
      ← c.put_frame-behind.ensures.0,
      ← c.put_frame-behind.ensures.1,
    )
    (moved_behind (with_state c.args.session.now c.args.state) _ _ (omega arith) c.move_reply.ensures.whole)
