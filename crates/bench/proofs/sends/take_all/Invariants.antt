-- `bench::sends::take_all` is safe and ends: the measure is what is left to take.
use Rattle.bench.proofs.sends.take_all.Given as goal

abbrev pub decreases-loop-left : goal.decreases-loop-left
decreases-loop-left l = l.left
