-- `message::pump::take_within` meets its contract: the run of a piece that stays in its frame is laid.
use mathlib.Core.Path.{sym, ap, ◌∙◌}
use native.Mathlib.Omega.{arith}
use Rattle.base.specs.Tests.{first_of}
use Rattle.frame.specs.declared.header.FrameHeader.{FrameHeader}
use Rattle.session.specs.Frames.{header_tests}
use Rattle.session.proofs.Holds.{whole_there, frame-there}
use Rattle.message.proofs.Steps.{fed-within}
use Rattle.message.proofs.pump.take_within.Goals as goal

pub store-requires-clause-header_kept : goal.store-requires-clause-header_kept
store-requires-clause-header_kept c = sym (frame-there _ _ (sym c.requires.header_kept ∙ c.in-Some.is))

pub store-requires-clause-header_is_whole : goal.store-requires-clause-header_is_whole
store-requires-clause-header_is_whole c = whole_there _ _ (sym c.requires.header_kept ∙ c.in-Some.is)

pub returns-in-Some-clause-taken : goal.returns-in-Some-clause-taken
returns-in-Some-clause-taken c = λ t.
    let s = c.args.session.now in
    let there = sym c.requires.header_kept ∙ c.in-Some.is in
    let kept-one = frame-there s.incoming _ there in
    let stays = c.stays_within.ensures c.if-stays_within.true in (
      c.if-not-end.true,
      fed-within s.settings s.state s.incoming c.args.message.now c.args.control.now c.args.piece.now (whole_there s.incoming _ there)
          (ap (λ (h : FrameHeader). first_of (header_tests s.settings h)) kept-one ∙ stays.2) stays.0
          (omega (arith, stays.1, ap (λ (h : FrameHeader). h.length) kept-one)) c.store.ensures.laid,
    )
