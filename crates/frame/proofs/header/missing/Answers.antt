-- `frame::header::missing` meets its contract.
use mathlib.Core.Path.{sym}
use native.Mathlib.Omega.{arith}
use Rattle.frame.proofs.Headers.{missing-early, missing-later}
use Rattle.frame.proofs.header.missing.Goals as goal

pub returns-in-len2-up : goal.returns-in-len2-up
returns-in-len2-up c = omega (arith, missing-later c.args.bytes.now c.in-len2-up.len_at_least)

pub returns-in_default : goal.returns-in_default
returns-in_default c = sym (missing-early _ c.in_default.len_below)
