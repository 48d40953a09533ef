-- `frame::close::code_bytes` meets its contract.
use mathlib.Core.Path.{refl, ◌∙◌}
use Rattle.base.specs.Bytes.{to_big}
use Rattle.frame.proofs.Lengths.{be_two}
use Rattle.frame.proofs.close.code_bytes.Goals as goal

pub returns : goal.returns
unfolding to_big
returns c = rw (c.to_be_bytes.ensures ∙ be_two c.args.code) refl
