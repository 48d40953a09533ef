-- `lines::number::put_hex` meets its contract. The loop's invariant: the digits of the bytes so far are laid over the store.

use lib.ListN.{take}
use Rattle.lines.specs.Text.{Wrote, hex}
use Rattle.lines.proofs.number.put_hex.Given as goal

abbrev pub invariant-loop-byte : goal.invariant-loop-byte
invariant-loop-byte l = Wrote l.initial.out l.at (hex (take l.byte-index l.bytes)) l.out l.behind
