-- `reader::read::read_on` meets its contract: the peer has closed, or the piece lies inside a frame, or bytes are taken.
use mathlib.Core.Path.{sym, ap, ◌∙◌}
use native.Mathlib.Omega.{arith}
use Rattle.session.specs.declared.Session.{Session}
use Rattle.session.specs.Session.{with_incoming}
use Rattle.steady.proofs.Parts.{in_range_lem}
use Rattle.reader.proofs.Reading.{undone, shows, take_left, within_left, on_open}
use Rattle.reader.proofs.read.read_on.Goals as goal

pub take_within-requires-clause-few_kept : goal.take_within-requires-clause-few_kept
take_within-requires-clause-few_kept c = (in_range_lem _ c.requires.ranged).kept-most

pub returns-then-take_within : goal.returns-then-take_within
returns-then-take_within c output =
    within_left _ _ c.args.end _ _ (c.take_within.ensures.taken c.if-take_within.true) c.take_within.ensures.rest output
    ∙ on_open _ _ _ _ _ output (sym c.is_over.ensures ∙ c.if-is_over.false)

pub take_bytes-taken-requires-clause-few_kept : goal.take_bytes-taken-requires-clause-few_kept
take_bytes-taken-requires-clause-few_kept c =
    omega (arith, (in_range_lem _ c.requires.ranged).kept-most, ap (λ (s : Session). s.incoming.kept) (c.take_within.ensures.declined c.if-take_within.false).0)

pub conclude-answer-requires-clause-shows : goal.conclude-answer-requires-clause-shows
conclude-answer-requires-clause-shows c =
    shows _ c.args.piece.now _ _ (undone c.args.piece.now (c.take_within.ensures.declined c.if-take_within.false) c.take_bytes-taken.ensures.fed) c.requires.shaped c.requires.ranged

pub returns : goal.returns
returns c output =
    let same = c.take_within.ensures.declined c.if-take_within.false in
    take_left _ c.args.piece.now _ _ (undone c.args.piece.now same c.take_bytes-taken.ensures.fed)
    (c.take_bytes-taken.ensures.rest ∙ ap (λ (s : Session). with_incoming s c.take_bytes-taken.new.session.incoming) same.0)
    c.args.end c.conclude-answer.ensures c.flag.ensures.whole output
    ∙ on_open _ _ _ _ _ output (sym c.is_over.ensures ∙ c.if-is_over.false)
