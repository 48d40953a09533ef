-- `capture::step::at_told` meets its contract: the bytes shown are no more than a store has.
use native.Mathlib.Omega.{arith}
use Rattle.capture.proofs.Stepping.{part-most}
use Rattle.capture.proofs.step.at_told.Goals as goal

pub put_answer-behind-requires : goal.put_answer-behind-requires
put_answer-behind-requires c =
    (part-most _ _ _ 32768 (omega arith) (omega arith) c.part-bytes.ensures.0, omega arith)
