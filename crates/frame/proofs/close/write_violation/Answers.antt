-- `frame::close::write_violation` meets its contract: a code and then a reason.
use mathlib.Core.Path.{◌∙◌}
use Rattle.frame.specs.Close.{violation}
use Rattle.frame.proofs.Closes.{laid-close}
use Rattle.frame.proofs.close.write_violation.Goals as goal

pub returns : goal.returns
unfolding violation
returns c =
    c.copy-2.ensures ∙ rw (c.copy.ensures, c.code_bytes.ensures) (laid-close _ 1002 violation)
