-- `message::pump::advance` meets its contract: a turn in the header, a refusal by it, or a turn in the payload.
use mathlib.Core.Path.{refl, sym, ◌∙◌}
use Rattle.session.proofs.Holds.{whole_lacking, whole_there, frame-there}
use Rattle.message.proofs.Ends.{settle-refusal}
use Rattle.message.proofs.Steps.{turned_still}
use Rattle.message.proofs.pump.advance.Goals as goal

pub head_turn-requires-clause-header_lacks : goal.head_turn-requires-clause-header_lacks
head_turn-requires-clause-header_lacks c = whole_lacking _ (sym c.kept_header.ensures ∙ c.in_default.is)

pub returns-in_default-clause-turned : goal.returns-in_default-clause-turned
returns-in_default-clause-turned c = c.head_turn.ensures _ _ _ _

pub returns-in-Err-clause-turned : goal.returns-in-Err-clause-turned
returns-in-Err-clause-turned c =
    let s = c.args.session.now in
    let there = sym c.kept_header.ensures ∙ c.in-Some.is in
    turned_still s.settings s.state c.args.piece.now c.args.at _ _ c.requires.at_within
    (settle-refusal s.settings s.state s.incoming c.args.message.now c.args.control.now c.in-Some.header (whole_there s.incoming _ there) (sym (frame-there s.incoming _ there))
    c.in-Err.refusal c.in-Err.ensures c.number.ensures)
    refl

pub payload_turn-requires-clause-header_kept : goal.payload_turn-requires-clause-header_kept
payload_turn-requires-clause-header_kept c = sym (frame-there _ _ (sym c.kept_header.ensures ∙ c.in-Some.is))

pub payload_turn-requires-clause-header_is_whole : goal.payload_turn-requires-clause-header_is_whole
payload_turn-requires-clause-header_is_whole c = whole_there _ _ (sym c.kept_header.ensures ∙ c.in-Some.is)
