-- `frame::length::length_of` meets its contract, arm by arm.
use mathlib.Core.Path.{sym, ◌∙◌}
use native.Mathlib.Omega.{arith}
use Rattle.base.specs.Bytes.{part}
use Rattle.base.specs.Table.{value_at}
use Rattle.frame.specs.Header.{extra_bytes, length_of}
use Rattle.frame.proofs.Lengths.{length-other}
use Rattle.frame.proofs.length.length_of.Goals as goal

pub slice_bounds-big-end : goal.slice_bounds-big-end
unfolding extra_bytes value_at
slice_bounds-big-end c = omega (arith, rw c.in-126.is at c.requires)

pub slice_bounds-big-end-in-127 : goal.slice_bounds-big-end-in-127
unfolding extra_bytes value_at
slice_bounds-big-end-in-127 c = omega (arith, rw c.in-127.is at c.requires)

pub returns-in-126 : goal.returns-in-126
unfolding length_of value_at part
returns-in-126 c = c.big.ensures ∙ rw c.in-126.is

pub returns-in-127 : goal.returns-in-127
unfolding length_of value_at part
returns-in-127 c = c.big-in-127.ensures ∙ rw c.in-127.is

pub returns-in_default : goal.returns-in_default
returns-in_default c = c.from.ensures ∙ sym (length-other _ _ (assumption) (assumption))
