-- `frame::length::extra_bytes` meets its contract, arm by arm.
use mathlib.Core.Path.{sym}
use Rattle.frame.proofs.Lengths.{extra_other}
use Rattle.frame.proofs.length.extra_bytes.Goals as goal

pub returns-in_default-clause-value : goal.returns-in_default-clause-value
returns-in_default-clause-value c = sym (extra_other _ (assumption) (assumption))
