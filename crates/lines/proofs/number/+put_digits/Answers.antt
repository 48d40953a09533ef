-- `lines::number::put_digits` meets its contract: at each call one digit fewer is due.
use native.Mathlib.Omega.{arith}
use Rattle.lines.proofs.Laws.{digits_none, digits_few, digits_many, length-decimal_in}
use Rattle.lines.proofs.number.+put_digits.Goals as goal
use Rattle.lines.proofs.number.+put_digits.Goals.{then-n-lt10, else-n-lt10}

pub returns-then-k-eq0 : goal.returns-then-k-eq0
returns-then-k-eq0 t c = digits_none _ _ _ c.args.n c.if-k-eq0.true

pub put_byte-requires : goal.put_byte-requires
put_byte-requires t c = grind (arith, length-decimal_in)

pub returns : goal.returns
returns t c =
    elim c.if-n-lt10.branch [
      | then-n-lt10 w ↦ digits_few _ _ c.args.k c.args.n (omega arith) w.if-n-lt10.true c.digit.ensures (rw (w.out-is, w.front-is) at c.put_byte.ensures)
      | else-n-lt10 w ↦ digits_many _ _ c.args.k c.args.n (omega arith) w.if-n-lt10.false c.digit.ensures w.put_digits-front.ensures
          (rw (w.out-is, w.front-is) at c.put_byte.ensures)
    ]
