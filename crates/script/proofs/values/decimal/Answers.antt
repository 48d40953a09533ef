-- `script::values::decimal` meets its contract. The loop's invariant: the number that is read, with what is left of the word behind it.
use mathlib.Core.Path.{sym, ◌∙◌}
use native.Mathlib.Omega.{arith}
use borrow.Author.Tests.{eqb-false}
use Rattle.script.proofs.Reading.{read_more, read_none, read-ended, decimal-read}
use Rattle.script.proofs.values.decimal.Goals as goal

pub returns-in_err-n : goal.returns-in_err-n
returns-in_err-n c =
    let next = read_more _ c.loop-digit.digit-index _ (omega arith) c.loop-digit.invariant c.in_err-n.ensures in
    c.from_residual.ensures ∙ decimal-read _ (eqb-false _ _ (sym c.if-is_empty.ensures)) c.if-word-gt20.false (next ∙ read_none _)

pub loop-digit-preserved : goal.loop-digit-preserved
loop-digit-preserved c = read_more _ c.loop-digit.digit-index _ (omega arith) c.loop-digit.invariant c.in_ok-n.ensures

pub returns : goal.returns
returns c =
    decimal-read _ (eqb-false _ _ (sym c.if-is_empty.ensures)) c.if-word-gt20.false
    (c.loop-digit.invariant ∙ read-ended _ c.loop-digit.digit-index _ (omega arith))
