-- `frame::close::into_close` meets its contract, by the payload's length.
use mathlib.Core.Path.{sym}
use native.Mathlib.Omega.{arith}
use Rattle.frame.proofs.Closes.{close_empty, close_one, close_code}
use Rattle.frame.proofs.close.into_close.Goals as goal

pub returns-in-empty : goal.returns-in-empty
returns-in-empty c = sym (close_empty _ (omega arith))

pub returns-in-len1 : goal.returns-in-len1
returns-in-len1 c = sym (close_one _ (omega arith))

pub returns-in-len2-up : goal.returns-in-len2-up
returns-in-len2-up c = rw c.from_be_bytes.ensures (sym (close_code c.args.payload.now c.in-len2-up.len_at_least))
