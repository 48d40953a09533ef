-- `mask::blocks::xor` meets its contract.
use Rattle.std.proofs.Common.{arith}
use Rattle.std.proofs.lemmas.Grind.{common_steps}
use Rattle.mask.proofs.blocks.xor.Goals as goal

pub returns : goal.returns
returns c = grind (arith, common_steps)
