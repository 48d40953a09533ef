-- `capture::step::at_call` meets its contract: a call takes no more than it is given.
use native.Mathlib.Omega.{arith}
use Rattle.capture.proofs.Stepping.{call_within}
use Rattle.capture.proofs.step.at_call.Goals as goal

pub overflow_sub-result : goal.overflow_sub-result
overflow_sub-result c =
    omega (arith, c.in-Some.ensures.lookup.0, call_within _ _ _ _ _ _ _ c.read-turn.ensures)
