-- `message::pump::take_bytes` meets its contract. Between turns: a look at what has come is the fold over the bytes taken so far.
use mathlib.Core.Path.{refl, ap, ◌∙◌}
use native.Mathlib.Omega.{arith}
use Rattle.session.specs.declared.Session.{Session}
use Rattle.session.specs.Reading.{feed}
use Rattle.session.specs.Session.{with_incoming}
use Rattle.message.proofs.Steps.{feed-goes, feed-stops}
use Rattle.message.proofs.pump.take_bytes.Goals as goal

pub loop-next-init : goal.loop-next-init
unfolding feed
loop-next-init c =
    record { within = omega arith; message_length = refl; control_length = refl; rest = refl; few = c.requires.few_kept; fed = refl }

pub loop-next-preserved : goal.loop-next-preserved
loop-next-preserved c =
    let l = c.loop-next.invariant in
    let turned = c.in-Continue.ensures.turned in
    let goes = turned.goes refl in
    record {
      within = turned.within;
      message_length = c.advance.auto.message ∙ l.message_length;
      control_length = c.advance.auto.control ∙ l.control_length;
      rest = c.in-Continue.ensures.rest ∙ ap (λ (s : Session). with_incoming s c.advance.new.session.incoming) l.rest;
      few = goes.few;
      fed = feed-goes _ _ _ _ _ _ _ _ l.fed (rw (ap (λ (s : Session). s.settings) l.rest, ap (λ (s : Session). s.state) l.rest) at goes);
    }

pub returns-in-Break-clause-fed : goal.returns-in-Break-clause-fed
returns-in-Break-clause-fed c =
    let l = c.loop-next.invariant in
    let stops = c.in-Break.ensures.turned.stops refl in
    feed-stops _ _ _ _ _ _ _ l.fed (rw (ap (λ (s : Session). s.settings) l.rest, ap (λ (s : Session). s.state) l.rest) at stops)
