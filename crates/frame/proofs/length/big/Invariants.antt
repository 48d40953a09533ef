-- `frame::length::big` meets its contract. The loop's invariant: n is the number of the bytes so far.
use mathlib.Core.Path.{◌≡◌}
use Prim.Native.Nat.{◌^◌, ◌<◌}
use lib.ListN.{take}
use Rattle.base.specs.Bytes.{from_big}
use Rattle.frame.proofs.length.big.Given as goal

abbrev pub invariant-loop-byte : goal.invariant-loop-byte
invariant-loop-byte l = (l.n ≡ from_big (take l.byte-index l.bytes)) × (l.n < 256 ^ l.byte-index)
