-- `reader::read::read` meets its contract: the reply moves, and what it leaves is read on.
use mathlib.Core.Path.{◌≡◌, sym, ap, ◌∙◌}
use native.Mathlib.Omega.{arith}
use borrow.Author.Rules.{rules}
use lib.ListN.{length}
use Rattle.frame.specs.Header.{parsed}
use Rattle.session.specs.declared.Incoming.{Incoming}
use Rattle.session.specs.Frames.{kept}
use Rattle.steady.specs.Shape.{Shaped}
use Rattle.reader.proofs.Reading.{ready, moved_range, moved_shaped, moved_limit, moved_incoming}
use Rattle.reader.proofs.read.read.Goals as goal

pub move_reply-requires : goal.move_reply-requires
move_reply-requires c =
    let four : length c.args.masks.first ≡ 4 = search rules in
    let all = ready _ _ _ _ _ (c.in_default.ensures _ four) in
    record { reply_short = all.reply_short; held_within = all.room.for_held }

pub read_on-taken-requires : goal.read_on-taken-requires
read_on-taken-requires c =
    let four : length c.args.masks.first ≡ 4 = search rules in
    let all = ready _ _ _ _ _ (c.in_default.ensures _ four) in
    let shaped : Shaped c.by_fields-session.result = (search rules, search rules) in
    record {
      shaped = moved_shaped _ _ _ c.move_reply.ensures.whole shaped;
      ranged = moved_range _ _ _ c.move_reply.ensures.whole all.ranged;
      header_kept = c.kept_header-header.ensures ∙ ap (λ (i : Incoming). parsed (kept i)) (sym (moved_incoming _ _ _ c.move_reply.ensures.whole));
      message_room = omega (arith, all.room.for_message, moved_limit _ _ _ c.move_reply.ensures.whole);
      control_room = all.room.for_control;
    }
