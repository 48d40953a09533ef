-- `lines::number::digit` meets its contract.
use borrow.Author.Tests.{lt-ltb, le-ltb}
use native.Mathlib.Omega.{arith}
use Rattle.lines.specs.Text.{digit_of}
use Rattle.lines.proofs.number.digit.Goals as goal

pub returns-then-low-lt10 : goal.returns-then-low-lt10
unfolding digit_of
returns-then-low-lt10 c = rw (lt-ltb _ 10 c.if-low-lt10.true) (omega arith)

pub returns-else-low-lt10 : goal.returns-else-low-lt10
unfolding digit_of
returns-else-low-lt10 c = rw (le-ltb _ 10 c.if-low-lt10.false) (omega arith)
