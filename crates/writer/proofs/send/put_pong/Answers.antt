-- `writer::send::put_pong` meets its contract: the pong is short, and so is what waited.
use borrow.Author.Tests.{ltb-false}
use lib.Dec.{ltb}
use lib.ListN.{length}
use Rattle.replies.proofs.Moving.{pong_short}
use Rattle.writer.proofs.Numbers.{Clear, clear}
use Rattle.writer.proofs.send.put_pong.Goals as goal

pub move_reply-requires-clause-reply_short : goal.move_reply-requires-clause-reply_short
move_reply-requires-clause-reply_short c =
    let clean : Clear c.args.session.now c.args.output.now (ltb 125 (length c.args.payload.now)) = clear _ _ _ c.in_ok-sendable.ensures in
    rw c.with_pong.ensures (pong_short _ _ (ltb-false _ _ clean.not_bad) clean.reply_short)
