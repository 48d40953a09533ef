-- `capture::step::put_refused` meets its contract.
use native.Mathlib.Omega.{arith}
use Rattle.lines.proofs.Laws.{length-decimal}
use Rattle.capture.proofs.Stepping.{refused_on}
use Rattle.capture.proofs.step.put_refused.Goals as goal

pub put_at_place-requires : goal.put_at_place-requires
put_at_place-requires c =
    omega (arith, length-decimal c.from.result)

pub returns : goal.returns
returns c =
    refused_on _ _ _ _ c.put_word-named.ensures (rw c.from.ensures at c.put_decimal-numbered.ensures) c.put_at_place.ensures
