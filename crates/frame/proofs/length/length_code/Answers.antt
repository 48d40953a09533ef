-- `frame::length::length_code` meets its contract, form by form.
use mathlib.Core.Path.{sym}
use native.Mathlib.Omega.{arith}
use Rattle.frame.proofs.Lengths.{code_short, code_middle, code_long}
use Rattle.frame.proofs.length.length_code.Goals as goal

pub returns-in-0-to-125 : goal.returns-in-0-to-125
returns-in-0-to-125 c = sym (code_short _ (omega arith))

pub returns-in-126-to-65535 : goal.returns-in-126-to-65535
returns-in-126-to-65535 c = sym (code_middle _ (omega arith) (omega arith))

pub returns-in_default : goal.returns-in_default
returns-in_default c = sym (code_long _ (omega arith))
