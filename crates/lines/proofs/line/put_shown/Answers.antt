-- `lines::line::put_shown` meets its contract.
use mathlib.Core.Path.{sym}
use borrow.Author.Tests.{eqb-true, eqb-false}
use Rattle.lines.proofs.Laws.{shown-none, shown-on}
use Rattle.lines.proofs.line.put_shown.Goals as goal

pub returns-then-is_empty : goal.returns-then-is_empty
returns-then-is_empty c = shown-none _ _ c.args.bytes.now (eqb-true _ _ (sym c.if-is_empty.ensures))

pub returns : goal.returns
returns c =
    shown-on _ _ _ (eqb-false _ _ (sym c.if-is_empty.ensures)) c.put_byte-spaced.ensures c.put_hex.ensures
