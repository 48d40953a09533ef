-- `mask::blocks::block_at` meets its contract.
use Rattle.std.proofs.Common.{◌≡◌, ◌∙◌, arith}
use Rattle.std.proofs.lemmas.Grind.{common_steps}
use Rattle.mask.proofs.BlockLaws.{eight_at, part_eight}
use Rattle.mask.proofs.blocks.block_at.Goals as goal

pub returns : goal.returns
returns c =
    let bytes : c.from_fn.result ≡ eight_at c.args.piece.now c.args.from = grind (arith, common_steps) in
    bytes ∙ part_eight _ _ (omega arith)
