-- `mask::apply_mask` meets its contract: the blocks, and behind them the bytes that are left.
use Rattle.std.proofs.Common.{◌≡◌, ◌+◌, ◌*◌, rules, arith}
use Rattle.base.proofs.Stores.{laid_none}
use Rattle.mask.specs.Mask.{masked}
use Rattle.mask.proofs.BlockLaws.{laid-block, laid-left}
use Rattle.mask.proofs.apply_mask.Goals as goal

pub loop-i-init : goal.loop-i-init
unfolding masked
loop-i-init c = laid_none _ _

pub loop-i-preserved : goal.loop-i-preserved
loop-i-preserved c =
    let more : 8 * (c.loop-i.i + 1) ≡ 8 * c.loop-i.i + 8 = omega arith in
    rw more
    (laid-block _ c.args.mask c.args.piece.now _ c.args.position (8 * c.loop-i.i) c.key_at-key.ensures (omega arith) (omega arith)
    c.loop-i.invariant c.block_at-block.ensures c.xor.ensures c.lay_block.ensures)

pub returns : goal.returns
returns c =
    laid-left _ _ _ _ _ c.key_at-key.ensures (search rules) (omega arith) (omega arith) c.loop-i.invariant c.lay_bytes.ensures
