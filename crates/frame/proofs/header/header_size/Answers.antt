-- `frame::header::header_size` meets its contract: four bytes more with a mask.
use mathlib.Core.Path.{ap, ◌∙◌}
use native.Mathlib.Omega.{arith}
use Rattle.frame.specs.Header.{extra_bytes}
use Rattle.frame.proofs.Headers.{size_coded}
use Rattle.frame.proofs.header.header_size.Goals as goal

pub returns-then-masked : goal.returns-then-masked
returns-then-masked c =
    omega (arith, c.extra_bytes-plain.ensures.value ∙ ap extra_bytes c.length_code.ensures, size_coded c.args.masked c.args.length c.if-masked.true)

pub returns-else-masked : goal.returns-else-masked
returns-else-masked c =
    omega (arith, c.extra_bytes-plain.ensures.value ∙ ap extra_bytes c.length_code.ensures, size_coded c.args.masked c.args.length c.if-masked.false)
