-- `message::pump::payload_turn` meets its contract: the frame is not whole yet, or it ends.
use mathlib.Core.Path.{◌≡◌, refl, sym, ◌∙◌}
use mathlib.Core.Bool.{true, false}
use Rattle.session.specs.declared.Answer.TheVariants.{More}
use Rattle.session.specs.Reading.{world, finish}
use Rattle.session.proofs.Fold.{is_more_lem}
use Rattle.message.proofs.Steps.{turned_open, turned_end, turned_header, same_settings}
use Rattle.message.proofs.pump.payload_turn.Goals as goal

pub returns-then-session-header-clause-turned : goal.returns-then-session-header-clause-turned
returns-then-session-header-clause-turned c =
    let s = c.args.session.now in
    turned_open s.settings s.state c.args.piece.now c.args.at c.run_end-end.result c.left_of.result s.incoming c.args.message.now c.args.control.now
    c.args.header c.requires.header_kept c.requires.header_is_whole c.requires.header_legal c.left_of.ensures c.run_end-end.ensures
    _ _ _ c.store_some.ensures.laid c.if-session-header.true

pub finish-answer-requires-clause-header_kept : goal.finish-answer-requires-clause-header_kept
finish-answer-requires-clause-header_kept c =
    let s = c.args.session.now in
    turned_header s.settings s.state c.args.piece.now c.args.at c.run_end-end.result c.left_of.result s.incoming c.args.message.now c.args.control.now
    c.args.header c.requires.header_kept c.requires.header_is_whole c.requires.header_legal c.left_of.ensures c.run_end-end.ensures
    _ _ _ c.store_some.ensures.laid

pub returns-then-is_more-clause-turned : goal.returns-then-is_more-clause-turned
returns-then-is_more-clause-turned c =
    let s = c.args.session.now in
    let w = world c.store_some.new.session.incoming c.store_some.new.message c.store_some.new.control More in
    let more : c.finish-answer.result ≡ More = is_more_lem c.finish-answer.result (sym c.is_more.ensures ∙ c.if-is_more.true) in
    turned_end s.settings s.state c.args.piece.now c.args.at c.run_end-end.result c.left_of.result s.incoming c.args.message.now c.args.control.now
    c.args.header c.requires.header_kept c.requires.header_is_whole c.requires.header_legal c.left_of.ensures c.run_end-end.ensures
    _ _ _ _ true c.store_some.ensures.laid c.if-session-header.false
    ((λ x. world c.finish-answer.new.session.incoming c.store_some.new.message c.store_some.new.control (sym more x))
    ∙ c.finish-answer.ensures.finished c.store_some.new.message
    ∙ same_settings (λ g state. finish g state w) s c.store_some.new.session c.store_some.ensures.rest)
    refl

pub returns-else-is_more-clause-turned : goal.returns-else-is_more-clause-turned
returns-else-is_more-clause-turned c =
    let s = c.args.session.now in
    let w = world c.store_some.new.session.incoming c.store_some.new.message c.store_some.new.control More in
    turned_end s.settings s.state c.args.piece.now c.args.at c.run_end-end.result c.left_of.result s.incoming c.args.message.now c.args.control.now
    c.args.header c.requires.header_kept c.requires.header_is_whole c.requires.header_legal c.left_of.ensures c.run_end-end.ensures
    _ _ _ _ false c.store_some.ensures.laid c.if-session-header.false
    (c.finish-answer.ensures.finished c.store_some.new.message ∙ same_settings (λ g state. finish g state w) s c.store_some.new.session c.store_some.ensures.rest)
    (sym c.if-is_more.false ∙ c.is_more.ensures)
