-- `frame::header::size_by` meets its contract, with a mask and without.
use mathlib.Core.Path.{ap, ◌∙◌}
use native.Mathlib.Omega.{arith}
use Rattle.frame.specs.Header.{extra_bytes}
use Rattle.frame.proofs.Headers.{masked_set, masked_clear, code_low, size_masked, size_plain}
use Rattle.frame.proofs.header.size_by.Goals as goal

pub returns-then-second-ne0 : goal.returns-then-second-ne0
returns-then-second-ne0 c =
    let e = size_masked c.args.second (masked_set c.args.second c.if-second-ne0.true) in
    (omega (arith, e, c.extra_bytes-size.ensures.value ∙ ap extra_bytes (code_low c.args.second)), omega arith)

pub returns-else-second-ne0 : goal.returns-else-second-ne0
returns-else-second-ne0 c =
    let e = size_plain c.args.second (masked_clear c.args.second c.if-second-ne0.false) in
    (omega (arith, e, c.extra_bytes-size.ensures.value ∙ ap extra_bytes (code_low c.args.second)), omega arith)
