-- `frame::header::mask_of` meets its contract.
use mathlib.Core.Path.{sym, ap, ◌∙◌}
use native.Mathlib.Omega.{arith}
use Rattle.std.specs.Prelude.{Some, ◌-◌}
use Rattle.base.proofs.Bytes.{part-four}
use Rattle.frame.proofs.Headers.{masked_set, mask_place, given-there}
use Rattle.frame.proofs.header.mask_of.Goals as goal

pub returns : goal.returns
returns c =
    let four = mask_place c.args.bytes.now c.missing.ensures c.if-missing-ne0.false c.size_by-at.ensures.0 c.if-bytes-eq0.false in
    ap Some (part-four (c.size_by-at.result - 4) c.args.bytes.now (omega (arith, four)))
    ∙ rw c.size_by-at.ensures.0 (sym (given-there c.args.bytes.now (sym c.missing.ensures ∙ c.if-missing-ne0.false) (masked_set _ c.if-bytes-eq0.false)))
