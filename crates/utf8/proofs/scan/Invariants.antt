-- `utf8::scan` meets its contract. The loop keeps `Left`: what it has still to find. The measure is what is left of the piece.
use Prim.Native.Nat.{◌-◌}
use lib.ListN.{length}
use Rattle.utf8.proofs.Loop.{Left}
use Rattle.utf8.proofs.scan.Given as goal

abbrev pub invariant-loop-byte : goal.invariant-loop-byte
invariant-loop-byte l = Left l.progress l.piece l.reached l.i

abbrev pub decreases-loop-byte : goal.decreases-loop-byte
decreases-loop-byte l = length l.piece - l.i
