-- `replies::frames::put_frame` meets its contract: a header and the two parts of a payload, laid one after the other.
use mathlib.Core.Path.{◌≡◌}
use borrow.Author.Rules.{rules}
use lib.ListN.{length}
use Rattle.replies.proofs.Encoding.{behind-frame, laid-frame}
use Rattle.replies.proofs.frames.put_frame.Goals as goal

pub returns : goal.returns
returns c =
    let four : length c.args.mask ≡ 4 = search rules in (
      behind-frame c.args.client c.args.opcode c.args.mask c.args.lead.now c.args.piece.now four c.frame_header.ensures c.args.at c.format-behind.ensures.0,
      laid-frame c.args.client c.args.opcode c.args.mask c.args.lead.now c.args.piece.now four c.frame_header.ensures c.args.at c.format-behind.ensures.0
          c.args.output.now c.then_some-key.ensures c.format-behind.ensures.1 c.put.ensures c.put-2.ensures,
    )
