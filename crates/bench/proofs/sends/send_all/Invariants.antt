-- `bench::sends::send_all` is safe and ends: the measure is what is left to send.
use Rattle.std.proofs.Common.{length}
use Rattle.bench.proofs.sends.send_all.Given as goal

abbrev pub decreases-loop-rest : goal.decreases-loop-rest
decreases-loop-rest g l = length l.rest
