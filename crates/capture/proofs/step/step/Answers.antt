-- `capture::step::step` meets its contract, by what is due.
use native.Mathlib.Omega.{arith}
use Rattle.capture.specs.declared.step.Due.TheVariants.{Call, Put, Told}
use Rattle.capture.proofs.Stepping.{step_by}
use Rattle.capture.proofs.step.step.Goals as goal

pub returns-in-Call : goal.returns-in-Call
returns-in-Call c =
    step_by _ _ _ _ _ _ _ _ Call (omega arith) c.in-Call.is (c.at_call.ensures _ c.args.at c.args.ended)

pub returns-in-Put : goal.returns-in-Put
returns-in-Put c =
    step_by _ _ _ _ _ _ _ _ (Put c.in-Put.answer) (omega arith) c.in-Put.is (c.at_put.ensures _ _ c.args.window.now c.args.ended)

pub returns-in-Told : goal.returns-in-Told
returns-in-Told c =
    step_by _ _ _ _ _ _ _ _ (Told c.in-Told.answer) (omega arith) c.in-Told.is (c.at_told.ensures _ c.args.window.now c.args.ended)
