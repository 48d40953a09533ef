-- `lines::line::put_counted` meets its contract.
use native.Mathlib.Omega.{arith}
use lib.ListN.{length}
use Rattle.lines.proofs.Laws.{length-decimal, length-shown, counted-on}
use Rattle.lines.proofs.line.put_counted.Goals as goal

pub put_shown-shown-requires : goal.put_shown-shown-requires
put_shown-shown-requires c =
    omega (arith, length-decimal (length c.args.bytes.now))

pub put_byte-requires : goal.put_byte-requires
put_byte-requires c =
    omega (arith, length-decimal (length c.args.bytes.now), length-shown c.args.bytes.now)

pub returns : goal.returns
returns c =
    counted-on _ _ _ _ c.put_word-named.ensures c.put_byte-spaced.ensures c.put_decimal-numbered.ensures c.put_shown-shown.ensures c.put_byte.ensures
