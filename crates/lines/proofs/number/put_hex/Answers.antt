-- `lines::number::put_hex` meets its contract. The loop's invariant: the digits of the bytes so far are laid over the store.
use native.Mathlib.Omega.{arith}
use Rattle.lines.proofs.Laws.{hex-none, hex-more, length-hex_take}
use Rattle.lines.proofs.number.put_hex.Goals as goal

pub loop-byte-init : goal.loop-byte-init
loop-byte-init c = hex-none _ _

pub put_byte-behind-requires : goal.put_byte-behind-requires
put_byte-behind-requires c = omega (arith, length-hex_take c.args.bytes.now c.loop-byte.byte-index)

pub put_byte-behind-requires-in-loop-byte : goal.put_byte-behind-requires-in-loop-byte
put_byte-behind-requires-in-loop-byte c = omega (arith, length-hex_take c.args.bytes.now c.loop-byte.byte-index)

pub loop-byte-preserved : goal.loop-byte-preserved
loop-byte-preserved c =
    hex-more _ _ _ c.loop-byte.byte-index (omega arith) c.digit.ensures c.digit-in-loop-byte.ensures c.loop-byte.invariant
    c.put_byte-behind.ensures c.put_byte-behind-in-loop-byte.ensures
