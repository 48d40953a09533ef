-- `lines::line::put_at_place` meets its contract.
use native.Mathlib.Omega.{arith}
use Rattle.lines.proofs.Laws.{length-decimal, at_place_on}
use Rattle.lines.proofs.line.put_at_place.Goals as goal

pub put_byte-requires : goal.put_byte-requires
put_byte-requires c = omega (arith, length-decimal c.args.place)

pub returns : goal.returns
returns c =
    at_place_on _ _ _ _ c.put_word-named.ensures c.put_word-joined.ensures c.put_decimal-placed.ensures c.put_byte.ensures
