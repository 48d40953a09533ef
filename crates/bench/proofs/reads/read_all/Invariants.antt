-- `bench::reads::read_all` is safe and ends: the measure is what is left of the piece.
use Rattle.std.proofs.Common.{length}
use Rattle.bench.proofs.reads.read_all.Given as goal

abbrev pub decreases-loop-left : goal.decreases-loop-left
decreases-loop-left l = length l.left
